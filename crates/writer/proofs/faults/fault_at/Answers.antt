-- By what the line is of; its tests are those that the function of its kind makes.
use Rattle.std.specs.Prelude.{Ok}
use Rattle.writer.specs.Laws.Passed.{no_tests}
use Rattle.writer.specs.Laws.Tests.{fault_of}
use Rattle.writer.specs.declared.entries.Entry.{Entry}
use Rattle.writer.proofs.faults.fault_at.Goals as goal

pub returns-in-Head : goal.returns-in-Head
returns-in-Head c = fault_of c.args.words.now c.args.k Entry.Head c.in-Head.ensures _ c.head_fault.ensures

pub returns-in-Gate : goal.returns-in-Gate
returns-in-Gate c = fault_of c.args.words.now c.args.k (Entry.Gate c.in-Gate.i) c.in-Gate.ensures _ c.gate_fault.ensures

pub returns-in-Rule : goal.returns-in-Rule
returns-in-Rule c = fault_of c.args.words.now c.args.k (Entry.Rule c.in-Rule.i) c.in-Rule.ensures _ c.rule_fault.ensures

pub returns-in-Wish : goal.returns-in-Wish
returns-in-Wish c = fault_of c.args.words.now c.args.k (Entry.Wish c.in-Wish.i) c.in-Wish.ensures _ c.wish_fault.ensures

pub returns-in-End : goal.returns-in-End
returns-in-End c = fault_of c.args.words.now c.args.k Entry.End c.in-End.ensures (Ok tt) no_tests

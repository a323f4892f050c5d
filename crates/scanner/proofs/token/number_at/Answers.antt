-- A zero is a number or not, and where no digit stands none begins. After a first digit as many more are looked for as may come.
use Rattle.std.proofs.Common.{arith, sym}
use Rattle.scanner.specs.Laws.Tokens.{digit_is, number_none, number_zero, number_no_zero, digits_first, digits_longer, digits_all}
use Rattle.scanner.specs.declared.token.Digits.TheVariants.{Two, Four}
use Rattle.scanner.proofs.token.number_at.Goals as goal

pub returns-in_default : goal.returns-in_default
returns-in_default c = number_none _ c.args.most c.requires (sym c.in_default.ensures)

pub returns-then-zero : goal.returns-then-zero
returns-then-zero c = number_zero _ c.args.most (sym c.in-Some.ensures) c.if-first-eq0.true c.if-zero.true

pub returns-else-zero : goal.returns-else-zero
returns-else-zero c = number_no_zero _ c.args.most c.requires (sym c.in-Some.ensures) c.if-first-eq0.true c.if-zero.false

pub longer-two-requires : goal.longer-two-requires
longer-two-requires c = omega (arith, (digit_is _ _ _ (sym c.in-Some.ensures)).2)

pub longer-requires : goal.longer-requires
longer-requires c =
    let one = digits_first (sym c.in-Some.ensures) c.if-first-eq0.false Four in
    omega (arith, (digits_longer one (omega arith) c.longer-two.ensures).few)

pub longer-requires-in-Four : goal.longer-requires-in-Four
longer-requires-in-Four c =
    let one = digits_first (sym c.in-Some.ensures) c.if-first-eq0.false Four in
    let two = digits_longer one (omega arith) c.longer-two.ensures in
    omega (arith, (digits_longer two (omega arith) c.longer.ensures).few)

pub returns-in-Two : goal.returns-in-Two
returns-in-Two c =
    let one = digits_first (sym c.in-Some.ensures) c.if-first-eq0.false Two in
    let two = digits_longer one (omega arith) c.longer-two.ensures in
    rw c.in-Two.is (digits_all two _ (omega arith))

pub returns-in-Four : goal.returns-in-Four
returns-in-Four c =
    let one = digits_first (sym c.in-Some.ensures) c.if-first-eq0.false Four in
    let two = digits_longer one (omega arith) c.longer-two.ensures in
    let three = digits_longer two (omega arith) c.longer.ensures in
    let four = digits_longer three (omega arith) c.longer-in-Four.ensures in
    rw c.in-Four.is (digits_all four _ (omega arith))

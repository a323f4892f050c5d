-- What the head, the rules and the wishes of a text say is what is read from it. Assumes nothing.
use Rattle.std.proofs.Common.{ℕ, ◌+◌, ◌-◌, ◌≤◌, ◌<◌, None, Some, Err, List, [], ◌≢◌, ◌≡◌, refl, length, add-one, arith, ◌∙◌, drop_of_length-le, le-leb, ne_eqb}
use Rattle.scope.specs.Sheet.{Valid}
use Rattle.scope.specs.Causes.{accepted, refused, started}
use Rattle.scope.specs.Source.{Form}
use Rattle.scope.proofs.Claims.{text_read, form_source, words_hold}
use Rattle.scope.specs.Typed.{Typed, typed, most_text, all_gates, all_points, sheet_of}
use Rattle.scope.specs.Texts.{TextRead, at_fault, too_long}
use Rattle.scope.specs.Texts as texts
use Rattle.scope.specs.Parsing.{rule_line, wish_line, start, move, step, at_end, walk, read_text}
use Rattle.scope.specs.Words.{held, words_of}
use Rattle.scope.proofs.Laws.Completed.{walk_legal}
use Rattle.words.specs.Entries.{HeadPut}
use Rattle.words.specs.Refusals.{number_of}
use Rattle.words.specs.Told.{Fills}
use Rattle.words.specs.Laws.Sheets.{valid_within}
use Rattle.words.specs.Laws.Told.{fills_refused}
use Rattle.words.specs.declared.refusal.Refusal.TheVariants.{Illegal}
use Rattle.scanner.specs.Look.{look}
use Rattle.scanner.specs.Tokens.{StuckAt, Came}
use Rattle.scanner.specs.Laws.Walks.{stuck_within, came_stuck, alike}
use Rattle.formula.specs.declared.points.Points.{Points}
use Rattle.text.specs.Lines.{HeadLines, rule_letter, wish_letter, RulesTold}
use Rattle.text.specs.Wishes.{WishesTold}
use Rattle.text.specs.Texts.{TextTold}
use Rattle.text.specs.declared.head.Head.{Head}
use Rattle.text.specs.declared.lines.Fault.{Fault}
use Rattle.text.specs.declared.lines.Lines.{Lines}

-- ---- before the first rule

-- with no rule read the sheet is that of the head
pub rules_begin : {s : List ℕ} (h : Head) {l : Lines} {u v : List ℕ} → length s ≤ most_text → Came s start 0 (rule_line (typed h.points.switches h.points.faults [] [])) h.at → HeadLines h l → u ≡ words_of (started 0 0) → HeadPut h.points.switches h.points.faults u v → RulesTold s h.points l v
unfolding all_gates all_points sheet_of
rules_begin h short came k e put = record {
  rules = [];
  told = record {
    short = short;
    few = omega (arith, k.gates, k.rules, k.wishes);
    came = rw k.at came;
    gates = k.gates;
    rules = k.rules;
    wishes = k.wishes;
    kept = put (started 0 0) (λ w. e);
    fault = k.fault;
  };
}

-- ---- after the last rule

-- where no rule comes, a wish may
pub wishes_begin : {s : List ℕ} {c : Points} {l : Lines} {u : List ℕ} → RulesTold s c l u → look s l.at ≢ rule_letter → WishesTold s c l u
unfolding step move at_end
wishes_begin {s} {c} {l} h no-rule =
    let v : Typed = typed c.switches c.faults h.rules [] in
    record {
      rules = h.rules;
      wishes = [];
      told = record {
        short = h.told.short;
        few = h.told.few;
        came = record {
          ahead = h.told.came.ahead;
          within = h.told.came.within;
          walk = h.told.came.walk ∙ alike s (rule_line v) (wish_line v) l.at (rw (ne_eqb (look s l.at) rule_letter no-rule)) refl;
        };
        gates = h.told.gates;
        rules = h.told.rules;
        wishes = h.told.wishes;
        kept = h.told.kept;
        fault = h.told.fault;
      };
    }

-- ---- after the last wish

-- no wish comes, so a text goes on here only by ending
module _ {s : List ℕ} {c : Points} {l : Lines} {u : List ℕ} (h : WishesTold s c l u) (no-wish : look s l.at ≢ wish_letter) where
  abbrev told : Typed
  told = typed c.switches c.faults h.rules h.wishes

  pub text_goes_on : l.at < length s → StuckAt s start 0 l.at
  unfolding step move
  text_goes_on n = came_stuck h.told.came (stuck_within s (wish_line told) l.at n (rw (ne_eqb (look s l.at) wish_letter no-wish)))

  pub text_ends : length s ≤ l.at → TextTold s l u
  unfolding walk at_end
  text_ends n = record { value = told; legal = walk_legal s told (h.told.came.walk ∙ rw (drop_of_length-le s {i = l.at} n)); kept = h.told.kept; fault = h.told.fault }

-- ---- what is told

read_stuck : (s : List ℕ) (at : ℕ) → length s ≤ most_text → StuckAt s start 0 at → read_text s ≡ refused 12 (at + 1) 0
unfolding read_text
read_stuck s at l h =
    let n : length s - (length s - at) ≡ at = omega (arith, h.within) in
    rw (le-leb (length s) most_text l, h.walk, n, add-one)

pub too_long_lem : {s u : List ℕ} → most_text < length s → Fills (TextRead s) (Err (record { refusal = Illegal; place = 0; column = 0 })) u
too_long_lem {s} {u} h = fills_refused (TextRead s) _ u (too_long h)

pub illegal : {s : List ℕ} {at : ℕ} → length s ≤ most_text → StuckAt s start 0 at → TextRead s (refused 12 (at + 1) 0)
illegal {s} {at} l h = (text_read s (refused 12 (at + 1) 0)).0 (read_stuck s at l h)

module _ {s : List ℕ} {l : Lines} {u : List ℕ} (short : length s ≤ most_text) (k : TextTold s l u) where
  pub text_at_fault : {f : Fault} → l.fault ≡ Some f → TextRead s (refused (number_of f.refusal) f.line 0)
  text_at_fault e = at_fault short k.legal (rw e at k.fault)

  module _ (e : l.fault ≡ None) where
    accepts : TextRead s (accepted (sheet_of k.value))
    accepts = texts.accepted short k.legal (rw e at k.fault)

    valid : Valid (sheet_of k.value)
    valid = (form_source (Form.text s) (accepted (sheet_of k.value)) accepts).valid (sheet_of k.value) refl

    -- all counts are within the limits, so the words are those of the whole sheet
    words_are : u ≡ words_of (sheet_of k.value)
    words_are = k.kept (valid_within (sheet_of k.value) valid)

    held_is : held u ≡ sheet_of k.value
    held_is = rw words_are (words_hold (sheet_of k.value) valid)

    pub text_accepted : TextRead s (accepted (held u))
    text_accepted = rw held_is accepts

    pub text_valid : Valid (held u)
    text_valid = rw held_is valid

    pub text_words : u ≡ words_of (held u)
    text_words = rw held_is words_are

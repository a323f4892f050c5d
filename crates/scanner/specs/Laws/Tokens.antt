-- How a walk goes on over words and numbers. Assumes nothing.
-- A theorem that was given stays, though nothing cites it: `named_good`.
use Rattle.std.proofs.Common.{le-ltb, ℕ, suc, ◌+◌, ◌-◌, ◌*◌, ◌⊎◌, inl, inr, ⊎_elim, ◌≤◌, ◌<◌, arith, IsErrAnd, Option, Some, None, Result, Ok, Err, Bool, true, false, cond, List, [], ◌∷◌, ◌≢◌, ◌≡◌, eqb, drop, refl, ap, ◌∙◌, ne_eqb, length, length-drop, drop-drop}
use Rattle.std.proofs.Math.Decide.{dec_le}
use Prim.Native.Char.{code}
use Rattle.std.proofs.Math.Option.{none, some}
use Rattle.scope.specs.Parsing.{Slot, State, stuck, word, digits, further, room, grown, number_done, zero_ok, is_digit, move, step, at_end, walk}
use Rattle.scope.proofs.Laws.Tests.{clash}
use Rattle.scope.proofs.Laws.Reached.{room_between, digit_byte}
use Rattle.scope.proofs.Laws.Walked.{number_plain, grown_further}
use Rattle.scanner.specs.Look.{end, look, digit, shared, standing, past}
use Rattle.scanner.specs.Tokens.{StuckAt, Came, rest, room_of, with_digit, longer, SlotGood, WordRead, NumberRead, NamedRead}
use Rattle.scanner.specs.declared.token.Digits.{Digits}
use Rattle.scanner.specs.declared.token.Digits.TheVariants.{Two, Four}
use Rattle.scanner.specs.declared.token.Stuck.{Stuck}
use Rattle.scanner.specs.declared.token.Token.{Token}
use Rattle.scanner.specs.Laws.Walks.{stands, past_within, came, stops, came_came, came_stuck, alike}

-- ---- the bytes of a word

-- the byte that is asked for
word_step : (c : ℕ) (w : List ℕ) (st : State) (b : ℕ) → eqb b c ≡ true → step (word (c ∷ w) st) b ≡ some (rest w st)
unfolding step move
word_step c [] st b e = rw e
word_step c (d ∷ w) st b e = rw e

-- another byte
word_stops : (c : ℕ) (w : List ℕ) (st : State) (b : ℕ) → eqb b c ≡ false → step (word (c ∷ w) st) b ≡ none
unfolding step move
word_stops c [] st b e = rw e
word_stops c (d ∷ w) st b e = rw e

-- where the whole word stands, each of its bytes is the one asked for
word_passes : (st : State) (t w : List ℕ) → length w ≤ shared t w → walk (rest w st) t ≡ walk st (drop (shared t w) t)
unfolding walk shared
word_passes st t [] h = refl
word_passes st [] (c ∷ w) h = absurd (omega arith)
word_passes st (b ∷ t) (c ∷ w) h = go (eqb b c) refl h (word_passes st t w)
  where
    go : (x : Bool) → eqb b c ≡ x → suc (length w) ≤ cond x (suc (shared t w)) 0 → (length w ≤ shared t w → walk (rest w st) t ≡ walk st (drop (shared t w) t)) → walk (word (c ∷ w) st) (b ∷ t) ≡ walk st (drop (cond x (suc (shared t w)) 0) (b ∷ t))
    go true e l more = rw (word_step c w st b e) (more (omega arith))
    go false e l more = absurd (omega arith)

-- where only a part of it stands, the byte after that part is another, or none
word_halts : (st : State) (t w : List ℕ) → shared t w < length w → walk (rest w st) t ≡ stuck (length t - shared t w)
unfolding walk shared at_end
word_halts st t [] h = absurd (omega arith)
word_halts st [] (c ∷ w) h = refl
word_halts st (b ∷ t) (c ∷ w) h = go (eqb b c) refl h (word_halts st t w)
  where
    go : (x : Bool) → eqb b c ≡ x → cond x (suc (shared t w)) 0 < suc (length w) → (shared t w < length w → walk (rest w st) t ≡ stuck (length t - shared t w)) → walk (word (c ∷ w) st) (b ∷ t) ≡ stuck (suc (length t) - cond x (suc (shared t w)) 0)
    go true e l more = let n : suc (length t) - suc (shared t w) ≡ length t - shared t w = omega arith in rw (word_step c w st b e, n) (more (omega arith))
    go false e l more = let n : suc (length t) - 0 ≡ suc (length t) = omega arith in rw (word_stops c w st b e, n)

-- what is left of a word that has a byte is the word
rest_whole : (w : List ℕ) (st : State) → 0 < length w → rest w st ≡ word w st
rest_whole [] st h = absurd (omega arith)
rest_whole (c ∷ w) st h = refl

module _ (s w : List ℕ) (at : ℕ) (within : at ≤ length s) (long : 0 < length w) (st : State) where
  -- the whole word stands, and the walk comes past it
  pub word_good : length w ≤ standing s at w → Came s (word w st) at st (past s at w)
  unfolding standing
  word_good all = record { ahead = omega arith; within = past_within s at w within; walk = rw (← rest_whole w st long, ← drop-drop (standing s at w) at s) (word_passes st (drop at s) w all) }

  -- only a part of it stands, and the walk is stuck after that
  pub word_bad : standing s at w < length w → StuckAt s (word w st) at (past s at w)
  unfolding standing
  word_bad part = record {
    within = past_within s at w within;
    walk =
        let n : length s - past s at w ≡ length (drop at s) - standing s at w = omega (arith, length-drop at s) in
        rw (← rest_whole w st long, n) (word_halts st (drop at s) w part);
  }

-- ---- digits

-- a byte, or none, as it stands in the text
pub digit_of_byte : (s : List ℕ) (i b : ℕ) → b ≡ look s i → digit s i ≡ cond (is_digit b) (Some (b - code "0")) None
unfolding digit
digit_of_byte s i b e = rw e refl

pub no_digit : (s : List ℕ) (i : ℕ) → end ≡ look s i → digit s i ≡ None
unfolding digit
no_digit s i e = rw (← e) refl

pub digit_is : (s : List ℕ) (i n : ℕ) → digit s i ≡ Some n → (is_digit (look s i) ≡ true) × (look s i ≡ code "0" + n) × (n ≤ 9)
unfolding digit
digit_is s i n e = go (is_digit (look s i)) refl e
  where
    go : (t : Bool) → is_digit (look s i) ≡ t → cond t (Some (look s i - code "0")) None ≡ Some n → (is_digit (look s i) ≡ true) × (look s i ≡ code "0" + n) × (n ≤ 9)
    go true f e = let m : look s i - code "0" ≡ n = cc in (f, omega (arith, digit_byte (look s i) f), omega (arith, digit_byte (look s i) f))
    go false f e = cc

pub digit_stands : (s : List ℕ) (i n : ℕ) → digit s i ≡ Some n → i < length s
digit_stands s i n e = stands s i (omega (arith, digit_is s i n e))

pub digit_isnt : (s : List ℕ) (i : ℕ) → digit s i ≡ None → is_digit (look s i) ≡ false
unfolding digit
digit_isnt s i e = go (is_digit (look s i)) refl e
  where
    go : (t : Bool) → is_digit (look s i) ≡ t → cond t (Some (look s i - code "0")) None ≡ None → is_digit (look s i) ≡ false
    go true f e = cc
    go false f e = f

-- a zero is a digit
no_zero_digit : (b : ℕ) → b ≡ code "0" → is_digit b ≡ false → ⊥
no_zero_digit b e f = clash (ap is_digit e) f

-- ---- numbers

-- so many digits have been looked for from `at` on that what they make is below `bound`, and t is made of those that stand there
pub record DigitsRead (s : List ℕ) (most : Digits) (at bound : ℕ) (t : Token) : Type 0 where
  pub some : 0 < t.value
  pub few : t.value < bound
  pub came : (slot : Slot) → room slot ≡ room_of most → Came s (digits slot) at (grown slot t.value) t.at
  pub all : (bound ≤ t.value * 10) ⊎ (digit s t.at ≡ None)

-- a first digit, after which one more may come in any slot
pub digits_first : {s : List ℕ} {at n : ℕ} → digit s at ≡ Some n → n ≢ 0 → (most : Digits) → DigitsRead s most at 10 record { at = at + 1; value = n }
unfolding step move
digits_first {s} {at} {n} e first most =
    let (d, l, m) = digit_is s at n e in
    let k : look s at - code "0" ≡ n = omega arith in
    let z : look s at ≢ code "0" = omega arith in
    record {
      some = omega arith;
      few = omega arith;
      came = λ slot h. came s (digits slot) (grown slot n) at (omega arith) (rw (ne_eqb (look s at) (code "0") z, d, k, grown_further slot n (omega (arith, room_between slot))) refl);
      all = inl (omega arith);
    }

module _ {s : List ℕ} {most : Digits} {at bound : ℕ} {t : Token} (h : DigitsRead s most at bound t) where
  -- one more, where it may come
  digits_more : {m : ℕ} → bound ≤ room_of most → digit s t.at ≡ Some m → DigitsRead s most at (bound * 10) record { at = t.at + 1; value = t.value * 10 + m }
  unfolding step
  digits_more {m} l e =
      let (d, k, n) = digit_is s t.at m e in
      let j : look s t.at - code "0" ≡ m = omega arith in
      let more : t.value < room_of most = omega (arith, h.few) in
      record {
        some = omega (arith, h.some);
        few = omega (arith, h.few);
        came = λ slot r. came_came (h.came slot r) (came s (grown slot t.value) (grown slot (t.value * 10 + m)) t.at (omega arith) (rw (grown_further slot t.value (omega arith), d, j) refl));
        all = inl (⊎_elim (λ w. omega arith) (λ w. cc) h.all);
      }

  -- where none stands, there are no more
  digits_none : digit s t.at ≡ None → DigitsRead s most at (bound * 10) t
  digits_none e = record { some = h.some; few = omega (arith, h.few); came = h.came; all = inr e }

  pub digits_longer : {r : Token} → bound ≤ room_of most → r ≡ longer s t → DigitsRead s most at (bound * 10) r
  unfolding longer
  digits_longer l q = rw q (go (digit s t.at) refl)
    where
      go : (o : Option ℕ) → digit s t.at ≡ o → DigitsRead s most at (bound * 10) (with_digit t o)
      go (Some m) e = digits_more l e
      go None e = digits_none e

  -- a byte that is no digit moves on from the digits as from a number that is complete
  digits_ended : t.value < room_of most → digit s t.at ≡ None → (slot : Slot) → room slot ≡ room_of most → Came s (digits slot) at (number_done slot t.value) t.at
  unfolding step at_end
  digits_ended l e slot r =
      let c = h.came slot r in
      let (m, f) = number_plain slot t.value in
      let g : grown slot t.value ≡ further slot t.value = grown_further slot t.value (omega arith) in
      record { ahead = c.ahead; within = c.within; walk = c.walk ∙ rw g (alike s (further slot t.value) (number_done slot t.value) t.at (rw (digit_isnt s t.at e, m (look s t.at))) (rw f)) }

  -- and where no more may come it is complete
  digits_full : room_of most ≤ t.value → (slot : Slot) → room slot ≡ room_of most → Came s (digits slot) at (number_done slot t.value) t.at
  unfolding grown
  digits_full l slot r = rw (le-ltb t.value (room slot) (omega arith)) at (h.came slot r)

  -- all digits have been looked for
  pub digits_all : (zero : Bool) → bound ≡ room_of most * 10 → SlotGood digits s zero most at t
  digits_all zero q = record { came = λ slot z. go h.all (dec_le (room_of most) t.value) slot; few = omega (arith, h.few) }
    where
      go : ((bound ≤ t.value * 10) ⊎ (digit s t.at ≡ None)) → Dec (room_of most ≤ t.value) → (slot : Slot) → room slot ≡ room_of most → Came s (digits slot) at (number_done slot t.value) t.at
      go w (yes l) = digits_full l
      go (inl w) (no l) = absurd (omega arith)
      go (inr w) (no l) = digits_ended (omega arith) w

room_some : (most : Digits) → 0 < room_of most
room_some Two = omega arith
room_some Four = omega arith

module _ {s : List ℕ} (zero : Bool) (most : Digits) {at : ℕ} where
  -- no number begins here
  number_bad : at ≤ length s → ((slot : Slot) → zero_ok slot ≡ zero → step (digits slot) (look s at) ≡ none) → (slot : Slot) → zero_ok slot ≡ zero → StuckAt s (digits slot) at at
  unfolding at_end
  number_bad within e slot h = stops s (digits slot) at within (e slot h) refl

  pub number_none : at ≤ length s → digit s at ≡ None → NumberRead s zero most at (Err record { 0 = at })
  unfolding step move
  number_none within e = number_bad within (λ slot h. let d : is_digit (look s at) ≡ false = digit_isnt s at e in rw (ne_eqb (look s at) (code "0") (λ f. no_zero_digit (look s at) f d), d))

  -- a zero ends the number, where it may stand
  pub number_zero : {n : ℕ} → digit s at ≡ Some n → n ≡ 0 → zero ≡ true → SlotGood digits s zero most at record { at = at + 1; value = n }
  unfolding step move
  number_zero {n} e f z =
      let (d, l, m) = digit_is s at n e in
      let b : look s at ≡ code "0" = omega arith in
      rw f record {
        came = λ slot h r. came s (digits slot) (number_done slot 0) at (omega arith) (rw (b, h, z));
        few = omega (arith, room_some most);
      }

  pub number_no_zero : at ≤ length s → {n : ℕ} → digit s at ≡ Some n → n ≡ 0 → zero ≡ false → NumberRead s zero most at (Err record { 0 = at })
  unfolding step move
  number_no_zero within {n} e f z =
      let (d, l, m) = digit_is s at n e in
      let b : look s at ≡ code "0" = omega arith in
      number_bad within (λ slot h. rw (b, h, z))

-- ---- a word and a number

module _ {s : List ℕ} (w : List ℕ) (zero : Bool) (most : Digits) {at : ℕ} where
  pub named_bad : {e : Stuck} → WordRead s w at (Err e) → NamedRead s w zero most at (Err e)
  named_bad h slot z = h (digits slot)

  pub named_good : {n : ℕ} → WordRead s w at (Ok n) → (r : Result Token Stuck) → NumberRead s zero most n r → NamedRead s w zero most at r
  named_good h (Ok t) n = record { came = λ slot z r. came_came (h (digits slot)) (n.came slot z r); few = n.few }
  named_good h (Err e) n = λ slot z. came_stuck (h (digits slot)) (n slot z)

-- ---- the exit of a `?`

-- the failure is handed on as it is
pub handed_on : {T E : Type 0} {e : E} (r : Result T E) → IsErrAnd r (λ y. y ≡ e) → r ≡ Err e
handed_on (Ok x) h = absurd h
handed_on (Err y) h = rw h refl

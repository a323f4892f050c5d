-- How much of a word stands from a place of a text on, and how a walk goes on from a place. Assumes nothing.
-- A theorem that was given stays, though nothing cites it: `past_fits`.
use Rattle.std.proofs.Common.{ℕ, suc, ◌+◌, ◌-◌, ◌≤◌, ◌<◌, Option, Some, None, Bool, ◌≢◌, ◌≡◌, get_or, drop, add-one, arith, true, false, cond, List, [], ◌∷◌, refl, sym, ap, ◌∙◌, length-drop, drop_of_length-le, drop-cons, length, eqb, lt-ltb, le-ltb, eq-eqb, ne_eqb, eqb-true, ltb-true, ltb-false, Bor}
use Rattle.std.proofs.lemmas.Bool.{eqb-false}
use Rattle.std.proofs.Math.Decide.{dec_le}
use Rattle.std.proofs.Math.Option.{none, some}
use Rattle.scope.specs.Parsing.{State, stuck, step, at_end, go_on, walk}
use Rattle.std.specs.Slice.{IsItemAt}
use Rattle.std.specs.Option.{option_eq, option_copied}
use Rattle.std.proofs.lemmas.Option.{slice_get-get_or, same_Some}
use Rattle.scanner.specs.Look.{end, byte_of, look, shared, standing, past}
use Rattle.scanner.specs.Tokens.{StuckAt, Came}

-- ---- what stands at a place

look_byte : (s : List ℕ) (i : ℕ) → i < length s → look s i ≡ get_or s i 0
unfolding look
look_byte s i h = rw (lt-ltb i (length s) h)

look_end : (s : List ℕ) (i : ℕ) → length s ≤ i → look s i ≡ end
unfolding look
look_end s i h = rw (le-ltb i (length s) h)

-- the byte at a place, as the code gets it
pub byte_of_item : (s : List ℕ) (i : ℕ) (o : Option (Bor ℕ)) → IsItemAt s i o → byte_of (option_copied o) ≡ look s i
byte_of_item s i None h = sym (look_end s i (ltb-false i (length s) (sym h.0)))
byte_of_item s i (Some b) h =
    let l : i < length s = ltb-true i (length s) (sym h.0) in
    let e : Some (get_or s i b.now) ≡ Some (get_or s i 0) = sym (slice_get-get_or s i b.now l) ∙ slice_get-get_or s i 0 l in
    h.1 ∙ same_Some _ _ e ∙ sym (look_byte s i l)

-- none is no byte
pub byte_of_eq : (o : Option ℕ) (b : ℕ) → b < end → option_eq eqb o (Some b) ≡ eqb (byte_of o) b
byte_of_eq None b h = sym (ne_eqb end b (λ e. omega arith))
byte_of_eq (Some c) b h = refl

-- what is no end stands in the text
pub stands : (s : List ℕ) (i : ℕ) → look s i < end → i < length s
stands s i h = go (dec_le (length s) i)
  where
    go : Dec (length s ≤ i) → i < length s
    go (yes p) = absurd (omega (arith, look_end s i p))
    go (no p) = omega arith

-- ---- how much of a word stands from a place on

-- where the two lists go on alike one more byte of each is passed, so no more are counted than the first has
pub shared_within : (s w : List ℕ) → shared s w ≤ length s
unfolding shared
shared_within s [] = omega arith
shared_within [] (c ∷ w) = omega arith
shared_within (b ∷ s) (c ∷ w) = go (eqb b c) (shared_within s w)
  where
    go : (t : Bool) → shared s w ≤ length s → cond t (suc (shared s w)) 0 ≤ suc (length s)
    go true h = omega arith
    go false h = omega arith

standing_within : (s : List ℕ) (i : ℕ) (w : List ℕ) → standing s i w ≤ length s - i
unfolding standing
standing_within s i w = omega (arith, shared_within (drop i s) w, length-drop i s)

pub past_within : (s : List ℕ) (i : ℕ) (w : List ℕ) → i ≤ length s → past s i w ≤ length s
past_within s i w h = omega (arith, standing_within s i w)

-- the place past a word is a number where the place before it and the length are
pub past_fits : (n : ℕ) (s : List ℕ) (i : ℕ) (w : List ℕ) → i < n → length s < n → past s i w < n
past_fits n s i w h l = omega (arith, standing_within s i w)

module _ (s : List ℕ) (i c : ℕ) where
  pub standing_more : (w : List ℕ) → c < end → look s i ≡ c → standing s i (c ∷ w) ≡ suc (standing s (i + 1) w)
  unfolding standing shared
  standing_more w b e =
      let h : i < length s = stands s i (omega arith) in
      rw (drop-cons s i 0 h, eq-eqb (get_or s i 0) c (sym (look_byte s i h) ∙ e), add-one i)

  -- another byte stands there, or none
  pub standing_none : (w : List ℕ) → look s i ≢ c → standing s i (c ∷ w) ≡ 0
  unfolding standing shared
  standing_none w e = go (dec_le (length s) i)
    where
      go : Dec (length s ≤ i) → shared (drop i s) (c ∷ w) ≡ 0
      go (yes p) = rw (drop_of_length-le s {i = i} p)
      go (no p) = let h : i < length s = omega arith in rw (drop-cons s i 0 h, ne_eqb (get_or s i 0) c (λ f. e (look_byte s i h ∙ f)))

  -- past one byte
  pub past_byte : c < end → past s i (c ∷ []) ≡ cond (eqb (look s i) c) (i + 1) i
  unfolding standing shared
  past_byte b = go (eqb (look s i) c) refl
    where
      go : (t : Bool) → eqb (look s i) c ≡ t → i + standing s i (c ∷ []) ≡ cond t (i + 1) i
      go true e = omega (arith, standing_more [] b (eqb-true (look s i) c e))
      go false e = omega (arith, standing_none [] (eqb-false (look s i) c e))

  -- where the place has moved, the byte was there
  pub past_moved : c < end → i < past s i (c ∷ []) → (look s i ≡ c) × (past s i (c ∷ []) ≡ i + 1)
  past_moved b h = go (eqb (look s i) c) refl (past_byte b)
    where
      go : (t : Bool) → eqb (look s i) c ≡ t → past s i (c ∷ []) ≡ cond t (i + 1) i → (look s i ≡ c) × (past s i (c ∷ []) ≡ i + 1)
      go true e p = (eqb-true (look s i) c e, p)
      go false e p = absurd (omega arith)

  -- and where it has not, it was not
  pub past_stayed : c < end → past s i (c ∷ []) ≤ i → look s i ≢ c
  past_stayed b h e = omega (arith, standing_more [] b e)

-- how a count goes on over the rest of a word
module _ (s w : List ℕ) (at i : ℕ) where
  pub standing_on : i < length w → get_or w i 0 < end → look s (at + i) ≡ get_or w i 0 → standing s (at + i) (drop i w) ≡ suc (standing s (at + (i + 1)) (drop (i + 1) w))
  standing_on h b e =
      let n : at + (i + 1) ≡ at + i + 1 = omega arith in
      rw (drop-cons w i 0 h, n, add-one i) (standing_more s (at + i) (get_or w i 0) (drop (suc i) w) b e)

  pub standing_off : i < length w → look s (at + i) ≢ get_or w i 0 → standing s (at + i) (drop i w) ≡ 0
  standing_off h e = rw (drop-cons w i 0 h) (standing_none s (at + i) (get_or w i 0) (drop (suc i) w) e)

  pub standing_end : length w ≤ i → standing s (at + i) (drop i w) ≡ 0
  unfolding standing shared
  standing_end h = rw (drop_of_length-le w {i = i} h)

-- ---- one byte

walk_byte : (s : List ℕ) (st : State) (at : ℕ) → at < length s → walk st (drop at s) ≡ go_on (step st (look s at)) (length s - at) (λ to. walk to (drop (at + 1) s))
unfolding walk
walk_byte s st at h =
    let n : suc (length (drop (suc at) s)) ≡ length s - at = omega (arith, length-drop (suc at) s) in
    rw (drop-cons s at 0 h, look_byte s at h, add-one at, n)

-- one byte more
pub came : (s : List ℕ) (st to : State) (at : ℕ) → look s at < end → step st (look s at) ≡ some to → Came s st at to (at + 1)
came s st to at b e =
    let h : at < length s = stands s at b in
    record {
      ahead = omega arith;
      within = omega arith;
      walk = walk_byte s st at h ∙ ap (λ o. go_on o (length s - at) (λ to. walk to (drop (at + 1) s))) e;
    }

-- no byte fits
pub stuck_within : (s : List ℕ) (st : State) (at : ℕ) → at < length s → step st (look s at) ≡ none → StuckAt s st at at
stuck_within s st at h e = record { within = omega arith; walk = walk_byte s st at h ∙ ap (λ o. go_on o (length s - at) (λ to. walk to (drop (at + 1) s))) e }

-- and the text may not end here
pub stops : (s : List ℕ) (st : State) (at : ℕ) → at ≤ length s → step st (look s at) ≡ none → at_end st ≡ stuck 0 → StuckAt s st at at
unfolding walk
stops s st at h e f = record { within = h; walk = go (dec_le (length s) at) }
  where
    go : Dec (length s ≤ at) → walk st (drop at s) ≡ stuck (length s - at)
    go (yes p) = let n : length s - at ≡ 0 = omega arith in rw (drop_of_length-le s {i = at} p, n) f
    go (no p) = (stuck_within s st at (omega arith) e).walk

-- ---- one after the other

pub came_came : {s : List ℕ} {st to more : State} {at n m : ℕ} → Came s st at to n → Came s to n more m → Came s st at more m
came_came {s} {st} {to} {more} {at} {n} {m} c d =
    let p : at < n = c.ahead in
    let q : n < m = d.ahead in
    record { ahead = omega arith; within = d.within; walk = c.walk ∙ d.walk }

pub came_stuck : {s : List ℕ} {st to : State} {at n m : ℕ} → Came s st at to n → StuckAt s to n m → StuckAt s st at m
came_stuck c d = record { within = d.within; walk = c.walk ∙ d.walk }

-- ---- two states that go on alike from a place

pub alike_came : {s : List ℕ} {st to more : State} {at n : ℕ} → walk st (drop at s) ≡ walk to (drop at s) → Came s to at more n → Came s st at more n
alike_came e c = record { ahead = c.ahead; within = c.within; walk = e ∙ c.walk }

pub alike_stuck : {s : List ℕ} {st to : State} {at n : ℕ} → walk st (drop at s) ≡ walk to (drop at s) → StuckAt s to at n → StuckAt s st at n
alike_stuck e h = record { within = h.within; walk = e ∙ h.walk }

-- a byte stands there, so the end of the text does not count
pub alike_within : (s : List ℕ) (st to : State) (at : ℕ) → at < length s → step st (look s at) ≡ step to (look s at) → walk st (drop at s) ≡ walk to (drop at s)
alike_within s st to at h e = walk_byte s st at h ∙ ap (λ o. go_on o (length s - at) (λ st. walk st (drop (at + 1) s))) e ∙ sym (walk_byte s to at h)

-- also where the text ends
pub alike : (s : List ℕ) (st to : State) (at : ℕ) → step st (look s at) ≡ step to (look s at) → at_end st ≡ at_end to → walk st (drop at s) ≡ walk to (drop at s)
unfolding walk
alike s st to at e f = go (dec_le (length s) at)
  where
    go : Dec (length s ≤ at) → walk st (drop at s) ≡ walk to (drop at s)
    go (yes p) = rw (drop_of_length-le s {i = at} p) f
    go (no p) = alike_within s st to at (omega arith) e

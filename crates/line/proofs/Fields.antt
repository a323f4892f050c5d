-- Fields read one after another: those read so far, and what is left of them. Assumes nothing.
use Rattle.std.specs.Prelude.{ℕ, suc, ◌+◌, ◌-◌, ◌*◌, ◌≤◌, ◌<◌, Bool, true, false, List, [], ◌∷◌, ◌++◌, ◌≢◌, ◌≡◌, refl, eqb, length, get_or, take, drop, set, Ok, Err}
use Prim.Native.Char.{code}
use Rattle.std.proofs.Common.{add-one, arith, append_assoc, append-nil, sym, ap, ap₂, subst, subst₂, ◌∙◌, drop_of_length-le, length-drop, length-set, take-suc-set, take_all, drop-drop, drop-cons, eq-eqb, ne_eqb}
use Rattle.std.proofs.Math.Nat.{sub-zero}
use Rattle.std.proofs.Math.Bool.{and-true}
use Rattle.std.proofs.Math.Option.{Option, none, some}
use Rattle.std.proofs.lemmas.List.{map-append}
use Rattle.scope.specs.Sheet.{field_size}
use Rattle.scope.specs.Sheet as scope
use Rattle.scope.specs.Reading.{when, also, field_of, fields_of, fields_begin, Stop}
use Rattle.scope.proofs.Laws.Beginnings.{some_formed, field_stop, rest_stop, end_stop}
use Rattle.field.specs.Columns.{number_from, FieldRead}
use Rattle.field.specs.declared.Number.{Number}
use Rattle.field.specs.declared.Malformed.{Malformed}
use Rattle.line.specs.Lines.{numbers_from, FieldsRead}

-- those read, and then those left
abbrev after : List scope.Number → Option (List scope.Number) → Option (List scope.Number)
after xs none = none
after xs (some ys) = some (xs ++ ys)

after-also : (xs : List scope.Number) (x : scope.Number) (o : Option (List scope.Number)) → after (xs ++ x ∷ []) o ≡ after xs (also (some x) o)
after-also xs x none = refl
after-also xs x (some ys) = ap some (append_assoc xs (x ∷ []) ys)

after_none : (o : Option (List scope.Number)) → after [] o ≡ o
after_none none = refl
after_none (some ys) = refl

after-when : (xs : List scope.Number) (t : Bool) → when t xs ≡ after xs (when t [])
after-when xs true = ap some (sym (append-nil xs))
after-when xs false = refl

numbers-set : (i : ℕ) (xs : List Number) (x : Number) → i < length xs → numbers_from (take (i + 1) (set xs i x)) ≡ numbers_from (take i xs) ++ number_from x ∷ []
numbers-set i xs x h = ap numbers_from (ap (λ k. take k (set xs i x)) (add-one i) ∙ take-suc-set xs i x h) ∙ map-append number_from (take i xs) (x ∷ [])

-- the bytes t are those of n fields and a line feed
module _ (n : ℕ) (t : List ℕ) where
  -- those of the fields from i on
  abbrev bytes : ℕ → List ℕ
  bytes i = drop (i * field_size) t

  abbrev left : ℕ → Option (List scope.Number)
  left i = fields_of (n - i) (bytes i)

  -- the first i fields are read: all of them are these and those left, and stop where those left do
  pub record Reached (i : ℕ) (xs : List Number) : Type 0 where
    pub room : length xs ≡ n
    pub numbers : after (numbers_from (take i xs)) (left i) ≡ fields_of n t
    pub stops : (c : ℕ) → Stop (fields_begin (n - i)) (bytes i) c → Stop (fields_begin n) t (i * field_size + c)

  pub begun : (xs : List Number) → length xs ≡ n → Reached 0 xs
  begun xs l =
      let z : 0 * field_size ≡ 0 = omega arith in
      record { room = l; numbers = rw (z, sub-zero) (after_none (fields_of n t)); stops = λ c h. let e : 0 * field_size + c ≡ c = omega arith in rw e (rw (z, sub-zero) at h) }

  module _ (whole : length t ≡ n * field_size + 1) (i : ℕ) (xs : List Number) (h : Reached i xs) where
    -- one field more
    module _ (b : i < n) where
      abbrev m : ℕ
      m = n - (i + 1)

      more : n - i ≡ suc m
      more = omega arith

      tail : drop field_size (bytes i) ≡ bytes (i + 1)
      tail = let e : i * field_size + field_size ≡ (i + 1) * field_size = omega arith in drop-drop field_size (i * field_size) t ∙ ap (λ k. drop k t) e

      long : field_size ≤ length (bytes i)
      long = omega (arith, whole, length-drop (i * field_size) t)

      left-field : left i ≡ also (field_of (take field_size (bytes i))) (left (i + 1))
      unfolding fields_of
      left-field = ap (λ k. fields_of k (bytes i)) more ∙ ap (λ q. also (field_of (take field_size (bytes i))) (fields_of m q)) tail

      abbrev here : ℕ → List ℕ
      here e = take (e - i * field_size) (bytes i)

      module _ (e : ℕ) (w : e ≡ i * field_size + field_size) where
        five : here e ≡ take field_size (bytes i)
        five = let k : e - i * field_size ≡ field_size = omega arith in ap (λ k. take k (bytes i)) k

        pub field-taken : (x : Number) → FieldRead (here e) (Ok x) → Reached (i + 1) (set xs i x)
        field-taken x r =
            let f : some (number_from x) ≡ field_of (take field_size (bytes i)) = sym (rw five at r) in
            record {
              room = length-set xs i x ∙ h.room;
              numbers = rw (numbers-set i xs x (omega (arith, h.room))) (after-also (numbers_from (take i xs)) (number_from x) (left (i + 1)) ∙ ap (λ o. after (numbers_from (take i xs)) (also o (left (i + 1)))) f ∙ ap (after (numbers_from (take i xs))) (sym left-field) ∙ h.numbers);
              stops = λ c g.
                  let k : i * field_size + (field_size + c) ≡ (i + 1) * field_size + c = omega arith in
                  let d : Stop (fields_begin (suc m)) (bytes i) (field_size + c) = rest_stop m (bytes i) c long (some_formed (sym f)) (subst (λ q. Stop (fields_begin m) q c) (sym tail) g) in
                  rw k at (h.stops (field_size + c) (subst (λ k. Stop (fields_begin k) (bytes i) (field_size + c)) (sym more) d));
            }

        pub field-lost : (s : Malformed) → FieldRead (here e) (Err s) → FieldsRead n t (Err (record { column = i * field_size + s.column }))
        field-lost s r =
            let (o, l, g) = rw five at r in
            let d : Stop (fields_begin (suc m)) (bytes i) s.column = field_stop m (bytes i) s.column l g in (
              sym h.numbers ∙ ap (after (numbers_from (take i xs))) (left-field ∙ ap (λ o. also o (left (i + 1))) o),
              omega (arith, l),
              h.stops s.column (subst (λ k. Stop (fields_begin k) (bytes i) s.column) (sym more) d),
            )

    -- the line feed
    module _ (b : i ≡ n) where
      abbrev end : ℕ
      end = get_or t (n * field_size) 0

      last : bytes n ≡ end ∷ []
      last = drop-cons t (n * field_size) 0 (omega (arith, whole)) ∙ ap (λ r. end ∷ r) (drop_of_length-le t {i = suc (n * field_size)} (omega (arith, whole)))

      ends : (q : Bool) → eqb end (code "\n") ≡ q → when q (numbers_from (take n xs)) ≡ fields_of n t
      unfolding fields_of
      ends q e =
          let z : n - n ≡ 0 = omega arith in
          let k : left n ≡ when q [] = ap₂ fields_of z last ∙ ap (λ x. when x []) (and-true (eqb end (code "\n")) ∙ e) in
          after-when (numbers_from (take n xs)) q ∙ ap (after (numbers_from (take n xs))) (sym k) ∙ rw b at h.numbers

      pub line-fed : end ≡ code "\n" → FieldsRead n t (Ok xs)
      line-fed e = sym (ap (λ ys. some (numbers_from ys)) (sym (take_all n xs (omega (arith, h.room)))) ∙ ends true (eq-eqb end (code "\n") e))

      pub not-fed : end ≢ code "\n" → FieldsRead n t (Err (record { column = n * field_size + 1 }))
      not-fed e =
          let z : 0 ≡ n - n = omega arith in
          let d : Stop (fields_begin (n - n)) (bytes n) 1 = subst₂ (λ k q. Stop (fields_begin k) q 1) z (sym last) (end_stop end [] e) in
          (sym (ends false (ne_eqb end (code "\n") e)), omega arith, rw b at h.stops 1 d)

-- What a program makes of its input, where the bytes of the input and of the output are known. Assumes nothing.
use Rattle.std.specs.Prelude.{◌≡◌, ℕ, ◌≤◌, List, length, take, ⊤, Result, Ok, Err, Option, IfSome}
use Rattle.std.specs.Io.KnownBytes.{Appends, Keeps}
use Rattle.stream.specs.declared.Failure.{Failure}
use Rattle.stream.specs.declared.Failure.TheVariants.{Unread, Unwritten}
use denote.Ref.{Bor, MutBor}

-- the first n bytes of a buffer are the input, or as much of it as there is room for
abbrev pub IsInput : Option (List ℕ) → List ℕ → ℕ → Type 0
IsInput known buffer n = IfSome known (λ s. take n buffer ≡ take (length buffer) s)

-- a function that prints for some bytes may be called with every lent buffer of this length
abbrev pub MayPrint : (Bor (List ℕ) → MutBor (List ℕ) → Type 0) → ℕ → Type 0
MayPrint may n = (s : Bor (List ℕ)) (lent : MutBor (List ℕ)) → length lent.now ≡ n → may s lent

-- a function that prints for some bytes, into a lent buffer: how many bytes it may count there, and how it may leave the buffer
module _ (prints : Bor (List ℕ) → MutBor (List ℕ) → ℕ → MutBor (List ℕ) → Type 0) where
  -- no more bytes than the buffer has
  abbrev pub StaysWithin : Type 0
  StaysWithin = (s : Bor (List ℕ)) (lent : MutBor (List ℕ)) (m : ℕ) (left : MutBor (List ℕ)) → prints s lent m left
      → length left.now ≡ length lent.now → m ≤ length left.now

  -- for the bytes s and this buffer it may print the bytes p
  pub record Printed (s buffer p : List ℕ) : Type 0 where
    pub input : Bor (List ℕ)
    pub lent : MutBor (List ℕ)
    pub count : ℕ
    pub left : MutBor (List ℕ)
    pub met : prints input lent count left
    pub shows : (input.now ≡ s) × (lent.now ≡ buffer)
    pub is_front : p ≡ take count left.now

  -- what is written is what it prints for the input, or for as much of it as there is room for; after a failed read nothing is written
  abbrev pub Transformed : Option (List ℕ) → ℕ → List ℕ → Option (List ℕ) → Option (List ℕ) → Result (Unit {0}) Failure → Type 0
  Transformed known room buffer before after (Ok _) = IfSome known (λ s. (p : List ℕ) × Printed (take room s) buffer p × Appends before after p)
  Transformed known room buffer before after (Err Unread) = Keeps before after
  Transformed known room buffer before after (Err Unwritten) = ⊤

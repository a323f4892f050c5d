-- A number's columns as the code fills them: in no promise of an exported call. Assumes nothing.
use Rattle.std.specs.Prelude.{ℕ, ◌%◌, Bool, true, false, cond, eqb}
use Prim.Native.Char.{code}
use Rattle.scope.specs.Sheet.{digit}

-- what stands directly before the first digit
abbrev pub sign_of : Bool → ℕ
sign_of true = code "-"
sign_of false = code " "

-- the column of a digit, where n is what stands up to it, and `right` what stands up to the next one
abbrev pub column : (n right sign : ℕ) → ℕ
column n right s = cond (eqb n 0) (cond (eqb right 0) (code " ") s) (digit (n % 10))

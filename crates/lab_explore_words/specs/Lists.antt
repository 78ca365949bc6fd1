-- The words of numbers and of lists.
use Rattle.std.specs.Prelude.{ℕ, ◌/◌, ◌%◌, ℤ, pos, Bool, true, false, cond, nat_lt, int_lt, unsigned_abs}
use Rattle.std.specs.Prelude.{Option, None, Some, List, [], ◌∷◌, ◌++◌, length}

-- a number: one word where it is below 2 ^ 32 - 1, else that word with the two halves of the number behind it
unfoldable pub number_words : ℕ → List ℕ
number_words n = cond (nat_lt n 4294967295) (n ∷ []) (4294967295 ∷ n / 4294967296 ∷ n % 4294967296 ∷ [])

-- whether a number is below 0, and its absolute value
unfoldable pub int_words : ℤ → List ℕ
int_words z = cond (int_lt z (pos 0)) 1 0 ∷ number_words (unsigned_abs z)

-- the same of a number of 128 bits, whose absolute value is in two halves
unfoldable pub long_words : ℤ → List ℕ
long_words z = cond (int_lt z (pos 0)) 1 0 ∷ (number_words (unsigned_abs z / 18446744073709551616)
    ++ number_words (unsigned_abs z % 18446744073709551616))

abbrev pub flag_words : Bool → List ℕ
flag_words false = 0 ∷ []
flag_words true = 1 ∷ []

-- the words of each item, in their order
abbrev pub each : {A : Type 0} → (A → List ℕ) → List A → List ℕ
each words [] = []
each words (x ∷ xs) = words x ++ each words xs

-- how many items there are, and the words of each
abbrev pub list_words : {A : Type 0} → (A → List ℕ) → List A → List ℕ
list_words words xs = number_words (length xs) ++ each words xs

abbrev pub option_words : {A : Type 0} → (A → List ℕ) → Option A → List ℕ
option_words words None = 0 ∷ []
option_words words (Some x) = 1 ∷ words x

-- a name: its numbers
abbrev pub name_words : List ℕ → List ℕ
name_words name = list_words number_words name

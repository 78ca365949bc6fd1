-- Lists of words, and their numbers.
use Rattle.std.specs.Prelude.{◌≡◌, ℕ, suc, cond, nat_eq, Option, None, Some, option_map, List, [], ◌∷◌, map, Vec}
use Rattle.std.specs.Cmp.Lexicographic.{pointwise}
use Rattle.std.specs.declared.alloc.Global.{Global}

-- the lists that vectors hold
abbrev pub lists_of : List (Vec ℕ Global) → List (List ℕ)
lists_of vectors = map (λ (v : Vec ℕ Global). v.items) vectors

-- the number of a list of words among others: how many stand before it
abbrev pub number_of : List (List ℕ) → List ℕ → Option ℕ
number_of [] words = None
number_of (list ∷ lists) words =
    cond (pointwise nat_eq words list) (Some 0) (option_map suc (number_of lists words))

-- each list that has a number keeps it
abbrev pub Keeps : List (List ℕ) → List (List ℕ) → Type 0
Keeps old new = (words : List ℕ) (n : ℕ) → number_of old words ≡ Some n → number_of new words ≡ Some n

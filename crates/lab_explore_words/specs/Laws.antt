-- What is true of words.
use Rattle.std.specs.Prelude.{◌≡◌, ℕ, List, ◌++◌}
use Rattle.lab_explore_words.specs.Objects.{object_words}
use Rattle.lab_explore_words.specs.Values.{value_words}

-- words that tell values apart: no two have the same, and the words of one begin the words of no other
abbrev pub TellApart : {A : Type 0} → (A → List ℕ) → Type 0
TellApart {A} words = (a b : A) (x y : List ℕ) → words a ++ x ≡ words b ++ y → (a ≡ b) × (x ≡ y)

abbrev pub DistinctValues : Type 0
DistinctValues = TellApart value_words

abbrev pub DistinctObjects : Type 0
DistinctObjects = TellApart object_words

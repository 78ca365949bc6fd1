-- Lists that have nothing twice.
use Rattle.std.specs.Prelude.{List, [], ◌∷◌, Contains}

-- no two items are the same
abbrev pub AllDifferent : {A : Type 0} → List A → Type 0
AllDifferent [] = Unit {0}
AllDifferent (x ∷ xs) = (¬ Contains xs x) × AllDifferent xs

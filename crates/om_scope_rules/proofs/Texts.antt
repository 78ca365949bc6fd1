-- The bytes of names.
use Rattle.std.proofs.Common.{◌≡◌, Bool, ◌||◌, ℕ, List, [], ◌∷◌, map, refl, ap, Vec}
use Rattle.std.specs.List.{list_any}
use Rattle.std.specs.declared.alloc.Global.{Global}

pub list_any-map : {X Y : Type 0} (p : Y → Bool) (f : X → Y) (xs : List X) → list_any p (map f xs)
    ≡ list_any (λ x. p (f x)) xs
list_any-map p f [] = refl
list_any-map p f (x ∷ xs) = ap (λ rest. p (f x) || rest) (list_any-map p f xs)

-- the bytes of names
abbrev pub texts_of : List (Vec ℕ Global) → List (List ℕ)
texts_of names = map (λ name. name.items) names

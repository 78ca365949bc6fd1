-- Lists that are mapped, one item after another.
use Rattle.std.proofs.Common.{◌≡◌, ℕ, ◌+◌, ◌<◌, List, [], ◌∷◌, ◌++◌, length, map, drop, get_or, add-one, sym, ◌∙◌, ap}
use Rattle.std.proofs.lemmas.List.{append_assoc}
use Rattle.std.proofs.Math.Seq.{drop-cons}

-- one more of a list that is mapped
pub mapped_next : {X : Type 0} (f : ℕ → X) (xs ys : List X) (items : List ℕ) (i : ℕ) (x : X) → i < length items
    → x ≡ f (get_or items i 0) → ys ≡ xs ++ x ∷ [] → xs ++ map f (drop i items) ≡ map f items
    → ys ++ map f (drop (i + 1) items) ≡ map f items
mapped_next f xs ys items i x lt is pushed so_far =
    ap (λ z. z ++ map f (drop (i + 1) items)) pushed
    ∙ append_assoc xs (x ∷ []) (map f (drop (i + 1) items))
    ∙ ap (λ z. xs ++ z ∷ map f (drop (i + 1) items)) is
    ∙ ap (λ n. xs ++ f (get_or items i 0) ∷ map f (drop n items)) (add-one i)
    ∙ ap (λ z. xs ++ map f z) (sym (drop-cons items i 0 lt))
    ∙ so_far

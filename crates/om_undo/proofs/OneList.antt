-- Lists that ascend and have the same members are the same list.
use Rattle.std.proofs.Common.{◌≡◌, refl, sym, ◌∙◌, ap, subst, List, [], ◌∷◌, ◌⊎◌, inl, inr, ⊎_elim, arith}
use Rattle.std.specs.Prelude.{Contains, ◌↔◌}
use Rattle.std.specs.Cmp.{IsTotalOrder}
use Rattle.std.specs.List.{AllByRecursion}
use Rattle.std.specs.List.Sorted.{IsStrictlySortedBy}
use Rattle.std.specs.Ordering.{ordering_reverse}
use Rattle.std.specs.declared.cmp.Ordering.{Ordering}
use Rattle.std.specs.declared.cmp.Ordering.TheVariants.{Less}
use Rattle.std.proofs.lemmas.List.Elements.{Contains-append_left, Contains-append_right, Contains-append_cases}
use Rattle.std.proofs.lemmas.List.Elements.{Contains-push, Contains-push_cases}

-- what a list contains, by its first element, and without one

Contains-cases : {X : Type 0} → (x : X) (xs : List X) (y : X) → Contains (x ∷ xs) y → (x ≡ y) ⊎ Contains xs y
Contains-cases x xs y h = ⊎_elim
    (λ one. ⊎_elim (λ none. absurd (omega (arith, none.1))) (λ is. inl is) (Contains-push_cases [] x y one))
    (λ rest. inr rest) (Contains-append_cases (x ∷ []) xs y h)

Contains-none : {X : Type 0} → (y : X) → Contains [] y → ⊥
Contains-none y h = omega (arith, h.1)

Contains-first : {X : Type 0} → (x : X) (xs : List X) → Contains (x ∷ xs) x
Contains-first x xs = Contains-append_left (x ∷ []) xs x (Contains-push [] x)

Contains-rest : {X : Type 0} → (x : X) (xs : List X) (y : X) → Contains xs y → Contains (x ∷ xs) y
Contains-rest x xs y h = Contains-append_right (x ∷ []) xs y h

module _ {K : Type 0} {R : K → K → Ordering} (order : IsTotalOrder R) where
  not_below_itself : (x : K) → R x x ≡ Less → ⊥
  not_below_itself x e = let both : Less ≡ ordering_reverse Less = sym e ∙ order.antisymm x x ∙ ap ordering_reverse
      e in cc

  not_both_below : (x y : K) → R x y ≡ Less → R y x ≡ Less → ⊥
  not_both_below x y e f = not_below_itself x (order.trans x y x e f)

  below_member : (x : K) (xs : List K) (y : K) → AllByRecursion (λ z. R x z ≡ Less) xs → Contains xs y → R x y ≡ Less
  below_member x [] y h at = absurd (Contains-none y at)
  below_member x (z ∷ zs) y h at =
      ⊎_elim (λ is. subst (λ w. R x w ≡ Less) is h.0) (λ rest. below_member x zs y h.1 rest) (Contains-cases z zs y at)

  same_heads : (x : K) (xs : List K) (y : K) (ys : List K) → AllByRecursion (λ z. R x z ≡ Less) xs
      → AllByRecursion (λ z. R y z ≡ Less) ys → Contains (y ∷ ys) x → Contains (x ∷ xs) y → x ≡ y
  same_heads x xs y ys s t at_x at_y =
      ⊎_elim (λ is. sym is)
      (λ x_later. ⊎_elim (λ is. is)
      (λ y_later. absurd (not_both_below x y (below_member x xs y s y_later) (below_member y ys x t x_later)))
      (Contains-cases x xs y at_y)) (Contains-cases y ys x at_x)

  -- a later member of one list is a later member of the other
  later_member : (x : K) (xs : List K) (y : K) (ys : List K) (k : K) → x ≡ y → AllByRecursion (λ z. R x z ≡ Less) xs
      → Contains xs k → Contains (y ∷ ys) k → Contains ys k
  later_member x xs y ys k same s at other =
      ⊎_elim (λ is. absurd (not_below_itself k
      (subst (λ w. R w k ≡ Less) (same ∙ is) (below_member x xs k s at)))) (λ rest. rest) (Contains-cases y ys k other)

  pub one_list : (xs ys : List K) → IsStrictlySortedBy R xs → IsStrictlySortedBy R ys
      → ((k : K) → Contains xs k ↔ Contains ys k) → xs ≡ ys
  unfolding IsStrictlySortedBy
  one_list [] [] s t same = refl
  one_list [] (y ∷ ys) s t same = absurd (Contains-none y ((same y).1 (Contains-first y ys)))
  one_list (x ∷ xs) [] s t same = absurd (Contains-none x ((same x).0 (Contains-first x xs)))
  one_list (x ∷ xs) (y ∷ ys) s t same =
      let heads : x ≡ y = same_heads x xs y ys s.0 t.0 ((same x).0 (Contains-first x xs))
      ((same y).1 (Contains-first y ys)) in
      let rest : xs ≡ ys = one_list xs ys s.1 t.1 (λ k. (
        λ at. later_member x xs y ys k heads s.0 at ((same k).0 (Contains-rest x xs k at)),
        λ at. later_member y ys x xs k (sym heads) t.0 at ((same k).1 (Contains-rest y ys k at)),
      )) in
      λ i. heads i ∷ rest i

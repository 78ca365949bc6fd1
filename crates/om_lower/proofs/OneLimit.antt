-- A tree keeps the limits on bodies or passes one, since each body has one code and one set of ways.
use Rattle.std.proofs.Common.{◌≡◌, List, [], ◌∷◌, ◌++◌, length, All, Any, sym, ap, subst, ◌∙◌, arith}
use Rattle.om_lexer.specs.declared.fault.FaultCode.TheVariants.{TooMany}
use Rattle.om_scope_tree.specs.ResolvedTree.{ResolvedFunctionTree, ResolvedTree}
use Rattle.om_scope_tree.specs.Uses.{is_main_function}
use Rattle.om_lower_rules.specs.Bodies.{BodySite, Numbers, behind_function, behind_functions, bodies_from, first_numbers}
use Rattle.om_lower_rules.specs.Bodies.{function_bodies, variables_of}
use Rattle.om_lower_rules.specs.Laws.{OneBodyCode}
use Rattle.om_lower_rules.specs.Numbered.{numbered_in}
use Rattle.om_lower.specs.Laws.{OneTooMany, WithinIsNotTooMany}
use Rattle.om_lower.specs.Limits.{IsWithin, IsOver, many_slots, many_cells, long, high}
use Rattle.om_lower.proofs.FunctionBodies.{all_behind, all_front}

-- equal lists have one first element, and one rest
first_same : {A : Type 0} (x y : A) (xs ys : List A) → x ∷ xs ≡ y ∷ ys → x ≡ y
first_same x y xs ys e = cc e

rest_same : {A : Type 0} (x y : A) (xs ys : List A) → x ∷ xs ≡ y ∷ ys → xs ≡ ys
rest_same x y xs ys e = cc e

module _ (one : OneBodyCode) (tree : ResolvedTree) where
  within_or_over : (b : BodySite) → IsWithin tree b → IsOver tree b → ⊥
  within_or_over b w (many_slots more) = omega (arith, w.room.slots, more)
  within_or_over b w (many_cells more) = omega (arith, w.room.cells, more)
  within_or_over b w (long picks code is_code more) =
      let names = numbered_in tree (variables_of b) (is_main_function b.function) in
      let same = (one names b.numbers b.function b.tree w.code code w.picks picks w.is_code is_code).0 in
      omega (arith, w.short, more, ap length same)
  within_or_over b w (high picks code is_code not_low) =
      let names = numbered_in tree (variables_of b) (is_main_function b.function) in
      let ways = (one names b.numbers b.function b.tree code w.code picks w.picks is_code w.is_code).1 in
      not_low (λ at height way. w.low at height (ways at height way))

  all_or_any : (bs : List BodySite) → All (λ b. IsWithin tree b) bs → Any (λ b. IsOver tree b) bs → ⊥
  all_or_any bs all any =
      within_or_over any.1 (subst (λ b. IsWithin tree b) any.3 (all any.0 any.1 any.2)) any.4

  -- the bodies of a function among others
  those_within : (n : Numbers) (before : List ResolvedFunctionTree) (f : ResolvedFunctionTree)
      (after : List ResolvedFunctionTree)
      → All (λ b. IsWithin tree b) (bodies_from n (before ++ f ∷ after))
      → All (λ b. IsWithin tree b) (function_bodies (behind_functions n before) f)
  those_within n [] f after all =
      all_front (λ b. IsWithin tree b) (function_bodies n f) (bodies_from (behind_function n f) after) all
  those_within n (g ∷ before) f after all =
      those_within (behind_function n g) before f after
      (all_behind (λ b. IsWithin tree b) (function_bodies n g) (bodies_from (behind_function n g) (before ++ f ∷ after))
      all)

  -- a list of functions is cut at the first that passes a limit
  abbrev CutsAt : Numbers → List ResolvedFunctionTree → ResolvedFunctionTree → Type 0
  CutsAt n before f = All (λ b. IsWithin tree b) (bodies_from n before)
      × Any (λ b. IsOver tree b) (function_bodies (behind_functions n before) f)

  one_cut : (n : Numbers) (before before' : List ResolvedFunctionTree) (f g : ResolvedFunctionTree)
      (after after' : List ResolvedFunctionTree)
      → before ++ f ∷ after ≡ before' ++ g ∷ after' → CutsAt n before f → CutsAt n before' g → f ≡ g
  one_cut n [] [] f g after after' e a b = first_same f g after after' e
  one_cut n [] (y ∷ ys) f g after after' e a b =
      let same = first_same f y after (ys ++ g ∷ after') e in
      absurd (all_or_any (function_bodies n y) (those_within n [] y ys b.0)
      (subst (λ h. Any (λ b. IsOver tree b) (function_bodies n h)) same a.1))
  one_cut n (x ∷ xs) [] f g after after' e a b =
      let same = first_same x g (xs ++ f ∷ after) after' e in
      absurd (all_or_any (function_bodies n x) (those_within n [] x xs a.0)
      (subst (λ h. Any (λ b. IsOver tree b) (function_bodies n h)) (sym same) b.1))
  one_cut n (x ∷ xs) (y ∷ ys) f g after after' e a b =
      let same = first_same x y (xs ++ f ∷ after) (ys ++ g ∷ after') e in
      let moved = subst (λ h. CutsAt n (h ∷ ys) g) (sym same) b in
      one_cut (behind_function n x) xs ys f g after after' (rest_same x y (xs ++ f ∷ after) (ys ++ g ∷ after') e)
      (all_behind (λ b. IsWithin tree b) (function_bodies n x) (bodies_from (behind_function n x) xs) a.0, a.1)
      (all_behind (λ b. IsWithin tree b) (function_bodies n x) (bodies_from (behind_function n x) ys) moved.0, moved.1)

pub within_is_not_too_many : OneBodyCode → WithinIsNotTooMany
within_is_not_too_many one tree fault all t =
    all_or_any one tree (function_bodies (behind_functions first_numbers t.before) t.function)
    (those_within one tree first_numbers t.before t.function t.after
    (subst (λ fs. All (λ b. IsWithin tree b) (bodies_from first_numbers fs)) t.functions all)) t.over

pub one_too_many : OneBodyCode → OneTooMany
one_too_many one tree a b t u =
    let same = one_cut one tree first_numbers t.before u.before t.function u.function t.after u.after
    (sym t.functions ∙ u.functions) (t.within, t.over) (u.within, u.over) in
    t.is ∙ ap (λ (f : ResolvedFunctionTree). record { code = TooMany; at = f.name_at }) same ∙ sym u.is

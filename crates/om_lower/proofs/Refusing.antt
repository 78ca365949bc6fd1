-- Which function is named where a limit is passed.
use Rattle.std.proofs.Common.{◌≡◌, ◌<◌, ◌≤◌, inl, inr, ℕ, zero, suc, Bool, true, false, List, [], ◌∷◌, ◌++◌, Some, All}
use Rattle.std.proofs.Common.{Any, length, take, drop, slice_get, refl, sym, ap, subst, ◌∙◌, arith}
use Rattle.om_code.specs.declared.raw.Body.{Body}
use Rattle.om_lower_emit.specs.declared.draft.PickList.{PickList}
use Rattle.om_lower_emit.specs.Settled.{ListsStand}
use Rattle.om_lower.specs.Heights.{AreLow, IsFirst}
use Rattle.om_lower.specs.Limits.{IsOver, IsTooMany, IsWithin}
use Rattle.om_lower.specs.Made.{AreFunctions, IsLowered, IsOverAt, StopsUnless}
use Rattle.om_lower.specs.Refusals.{too_many}
use Rattle.om_lower.proofs.FunctionBodies.{first_functions, made_at, over_high, within_functions}
use Rattle.om_scope_tree.specs.ResolvedTree.{ResolvedFunctionTree, ResolvedTree}
use Rattle.om_lower_rules.specs.Bodies.{Numbers, behind_function, behind_functions, bodies_from, first_numbers}
use Rattle.om_lower_rules.specs.Bodies.{function_bodies}

parted : {A : Type 0} (xs : List A) (k : ℕ) (x : A) → slice_get xs k ≡ Some x
    → xs ≡ take k xs ++ x ∷ drop (suc k) xs
parted [] k x at = cc
parted (y ∷ xs) zero x at = let same : y ≡ x = cc in ap (λ z. z ∷ xs) same
parted (y ∷ xs) (suc k) x at = ap (λ all. y ∷ all) (parted xs k x at)

taken_long : {A : Type 0} (xs : List A) (k : ℕ) → k < length xs → length (take k xs) ≡ k
taken_long [] zero lt = refl
taken_long [] (suc k) lt = let none : ⊥ = omega (arith, lt) in absurd none
taken_long (x ∷ xs) zero lt = refl
taken_long (x ∷ xs) (suc k) lt =
    ap suc (taken_long xs k (let below : k < length xs = omega (arith, lt) in below))

pub functions_long : (tree : ResolvedTree) (picked : List PickList) (n : Numbers) (fs : List ResolvedFunctionTree)
    (lists : List (List Body)) → AreFunctions tree picked n fs lists → length lists ≤ length fs
functions_long tree picked n fs [] made = omega arith
functions_long tree picked n [] (bodies ∷ lists) made = absurd made
functions_long tree picked n (f ∷ fs) (bodies ∷ lists) made = let rest =
    functions_long tree picked (behind_function n f) fs lists made.1 in omega (arith, rest)

named : (tree : ResolvedTree) (k : ℕ) (function : ResolvedFunctionTree)
    → slice_get tree.functions k ≡ Some function
    → All (λ b. IsWithin tree b) (bodies_from first_numbers (take k tree.functions))
    → Any (λ b. IsOver tree b)
    (function_bodies (behind_functions first_numbers (take k tree.functions)) function)
    → IsTooMany tree (too_many function)
named tree k function at within over = record {
  before = take k tree.functions;
  function = function;
  after = drop (suc k) tree.functions;
  functions = parted tree.functions k function at;
  within = within;
  over = over;
  is = refl;
}

by_height : (tree : ResolvedTree) (picked : List PickList) (picks : List (List ℕ)) (lists : List (List Body))
    (index : ℕ) (function : ResolvedFunctionTree)
    → ListsStand picked picks → AreFunctions tree picked first_numbers tree.functions lists → IsFirst picks lists index
    → slice_get tree.functions index ≡ Some function
    → IsTooMany tree (too_many function)
by_height tree picked picks lists index function stand made first at =
    let within = within_functions tree picked picks first_numbers tree.functions (take index lists) stand
    (first_functions tree picked first_numbers tree.functions lists index made) first.before in
    named tree index function at
    (subst (λ k. All (λ b. IsWithin tree b) (bodies_from first_numbers (take k tree.functions)))
    (taken_long lists index first.within) within)
    (over_high tree picked picks (function_bodies (behind_functions first_numbers (take index tree.functions)) function)
    first.bodies stand (made_at tree picked first_numbers tree.functions lists index function first.bodies made
    first.there at) first.high)

by_stop : (tree : ResolvedTree) (picked : List PickList) (picks : List (List ℕ)) (lists : List (List Body))
    (is_whole : Bool) (index : ℕ)
    (function : ResolvedFunctionTree)
    → ListsStand picked picks → AreFunctions tree picked first_numbers tree.functions lists → StopsUnless is_whole
    tree lists
    → is_whole ≡ false → index ≡ length lists
    → All (λ bodies. AreLow picks bodies) lists → slice_get tree.functions index ≡ Some function
    → IsTooMany tree (too_many function)
by_stop tree picked picks lists true index function stand made stops unwhole behind low at = cc
by_stop tree picked picks lists false index function stand made stops unwhole behind low at =
    let there : slice_get tree.functions (length lists) ≡ Some function =
    subst (λ k. slice_get tree.functions k ≡ Some function) behind at in
    let same : stops.function ≡ function = some_same stops.function function (sym stops.there ∙ there) in
    named tree (length lists) function there
    (within_functions tree picked picks first_numbers tree.functions lists stand made low)
    (subst (λ f. Any (λ b. IsOver tree b)
    (function_bodies (behind_functions first_numbers (take (length lists) tree.functions)) f)) same
    stops.over)
  where
    some_same : {A : Type 0} (x y : A) → Some x ≡ Some y → x ≡ y
    some_same x y e = cc

pub refused : (tree : ResolvedTree) (picks : List (List ℕ)) (lists : List (List Body)) (is_whole : Bool) (index : ℕ)
    (function : ResolvedFunctionTree)
    → IsLowered tree picks lists is_whole → IsOverAt picks lists is_whole (Some index)
    → slice_get tree.functions index ≡ Some function → IsTooMany tree (too_many function)
refused tree picks lists is_whole index function lowered (inl first) at =
    by_height tree lowered.lists picks lists index function lowered.stand lowered.made first at
refused tree picks lists is_whole index function lowered (inr stop) at =
    by_stop tree lowered.lists picks lists is_whole index function lowered.stand lowered.made lowered.stops stop.0
    stop.1 stop.2 at

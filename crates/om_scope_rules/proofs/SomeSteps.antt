-- Steps that all give something give something together.
use Rattle.std.proofs.Common.{◌≡◌, List, [], ◌∷◌, Option, None, Some, refl}
use Rattle.std.specs.Prelude.{IsSome}
use Rattle.std.specs.List.{flat_map}
use Rattle.om_lexer.specs.declared.fault.SourceFault.{SourceFault}
use Rattle.om_scope_rules.specs.Faults.{breaches_along}
use Rattle.om_scope_rules.specs.Perhaps.{◌>>=◌, each, each_along, all_of}
use Rattle.om_scope_rules.proofs.Unbroken.{front, back}

pub some_then : {A B : Type 0} (o : Option A) (f : A → Option B) → IsSome o → ((x : A) → IsSome (f x))
    → IsSome (o >>= f)
some_then None f h next = cc
some_then (Some x) f h next = next x

-- where the step behind it asks what was given
pub some_given : {A B : Type 0} (o : Option A) (f : A → Option B) → IsSome o
    → ((x : A) → o ≡ Some x → IsSome (f x)) → IsSome (o >>= f)
some_given None f h next = cc
some_given (Some x) f h next = next x refl

-- of parts without a breach
module _ {S X Y : Type 0} (breaches : S → X → List SourceFault) (after : S → X → S) where
  pub some_each : (f : X → Option Y) → ((state : S) (x : X) → breaches state x ≡ [] → IsSome (f x))
      → (xs : List X) (state : S) → breaches_along breaches after state xs ≡ [] → IsSome (each f xs)
  some_each f one [] state whole = refl
  some_each f one (x ∷ xs) state whole =
      let own = one state x (front (breaches state x) (breaches_along breaches after (after state x) xs) whole) in
      let rest = some_each f one xs (after state x)
      (back (breaches state x) (breaches_along breaches after (after state x) xs) whole) in
      some_then (f x) _ own (λ y. some_then (each f xs) _ rest (λ ys. refl))

  pub some_all_of : (f : X → Option (List Y)) → ((state : S) (x : X) → breaches state x ≡ [] → IsSome (f x))
      → (xs : List X) (state : S) → breaches_along breaches after state xs ≡ [] → IsSome (all_of f xs)
  some_all_of f one [] state whole = refl
  some_all_of f one (x ∷ xs) state whole =
      let own = one state x (front (breaches state x) (breaches_along breaches after (after state x) xs) whole) in
      let rest = some_all_of f one xs (after state x)
      (back (breaches state x) (breaches_along breaches after (after state x) xs) whole) in
      some_then (f x) _ own (λ y. some_then (all_of f xs) _ rest (λ ys. refl))

  pub some_each_along : (f : S → X → Option Y) → ((state : S) (x : X) → breaches state x ≡ [] → IsSome (f state x))
      → (xs : List X) (state : S) → breaches_along breaches after state xs ≡ [] → IsSome (each_along f after state xs)
  some_each_along f one [] state whole = refl
  some_each_along f one (x ∷ xs) state whole =
      let own = one state x (front (breaches state x) (breaches_along breaches after (after state x) xs) whole) in
      let rest = some_each_along f one xs (after state x)
      (back (breaches state x) (breaches_along breaches after (after state x) xs) whole) in
      some_then (f state x) _ own (λ y. some_then (each_along f after (after state x) xs) _ rest (λ ys. refl))

pub some_each_flat : {X Y : Type 0} (breaches : X → List SourceFault) (f : X → Option Y)
    → ((x : X) → breaches x ≡ [] → IsSome (f x)) → (xs : List X) → flat_map breaches xs ≡ [] → IsSome (each f xs)
some_each_flat breaches f one [] whole = refl
some_each_flat breaches f one (x ∷ xs) whole =
    let own = one x (front (breaches x) (flat_map breaches xs) whole) in
    let rest = some_each_flat breaches f one xs (back (breaches x) (flat_map breaches xs) whole) in
    some_then (f x) _ own (λ y. some_then (each f xs) _ rest (λ ys. refl))

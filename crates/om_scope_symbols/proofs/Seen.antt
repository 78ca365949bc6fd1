-- The declarations of names, as scopes get further ones and end.
use Rattle.std.proofs.Common.{◌≡◌, ℕ, Bool, true, false, cond, List, [], ◌∷◌, ◌++◌, Option, None, Some}
use Rattle.std.proofs.Common.{if◌then◌else◌, length, refl, sym, ap, ◌∙◌}
use Rattle.std.specs.Map.{lookup}
use Rattle.std.specs.Option.{option_or}
use Rattle.std.specs.Str.{bytes_eq}
use Rattle.om_scope_symbols.specs.declared.symbols.Sighting.{Sighting}
use Rattle.om_scope_rules.specs.declared.names.Meaning.{Meaning}
use Rattle.om_scope_rules.specs.Scopes.{Scope}
use Rattle.om_scope_symbols.specs.Sightings.{Shows, sightings, with_sighting}
use Rattle.om_scope_symbols.specs.Stacks.{seen_in, without_innermost}
use Rattle.om_scope_symbols.proofs.Stacked.{same_names, without-last}

-- ---- scopes

lookup-push : (scope : Scope) (name : List ℕ) (meaning : Meaning) (other : List ℕ)
    → lookup (bytes_eq other) (scope ++ (name, meaning) ∷ []) ≡ option_or (lookup (bytes_eq other) scope)
    (cond (bytes_eq other name) (Some meaning) None)
lookup-push [] name meaning other = refl
lookup-push (binding ∷ scope) name meaning other = by (bytes_eq other binding.0) (lookup-push scope name meaning other)
  where
    by : (b : Bool) → lookup (bytes_eq other) (scope ++ (name, meaning) ∷ [])
        ≡ option_or (lookup (bytes_eq other) scope) (cond (bytes_eq other name) (Some meaning) None)
        → cond b (Some binding.1) (lookup (bytes_eq other) (scope ++ (name, meaning) ∷ []))
        ≡ option_or (cond b (Some binding.1) (lookup (bytes_eq other) scope))
        (cond (bytes_eq other name) (Some meaning) None)
    by true rest = refl
    by false rest = rest

-- a new name in the innermost
pub sightings-push : (scope : Scope) (outer : List Scope) (name : List ℕ) (meaning : Meaning)
    → lookup (bytes_eq name) scope ≡ None → (other : List ℕ)
    → sightings ((scope ++ (name, meaning) ∷ []) ∷ outer) other
    ≡ (if bytes_eq other name then sightings (scope ∷ outer) other
    ++ record { depth = length outer; meaning = meaning } ∷ [] else sightings (scope ∷ outer) other)
sightings-push scope outer name meaning new other =
    ap (with_sighting (length outer) (sightings outer other)) (lookup-push scope name meaning other)
    ∙ by (bytes_eq other name) refl
  where
    to_none : (found : Option Meaning) → option_or found None ≡ found
    to_none None = refl
    to_none (Some m) = refl

    by : (b : Bool) → bytes_eq other name ≡ b
        → with_sighting (length outer) (sightings outer other) (option_or (lookup (bytes_eq other) scope)
        (cond b (Some meaning) None))
        ≡ (if b then with_sighting (length outer) (sightings outer other) (lookup (bytes_eq other) scope)
        ++ record { depth = length outer; meaning = meaning } ∷ [] else with_sighting (length outer)
        (sightings outer other) (lookup (bytes_eq other) scope))
    by true e =
        let none : lookup (bytes_eq other) scope ≡ None = ap (λ n. lookup (bytes_eq n) scope)
        (same_names other name e) ∙ new in
        rw none refl
    by false e = ap (with_sighting (length outer) (sightings outer other)) (to_none (lookup (bytes_eq other) scope))

-- a table that notes it
pub shows-push : (table now : List (List ℕ × List Sighting)) (scope : Scope) (outer : List Scope) (name : List ℕ)
    (meaning : Meaning) (depth : ℕ) → lookup (bytes_eq name) scope ≡ None → depth ≡ length outer
    → ((other : List ℕ) → seen_in now other ≡ (if bytes_eq other name then seen_in table other
    ++ record { depth = depth; meaning = meaning } ∷ [] else seen_in table other))
    → Shows table (scope ∷ outer) → Shows now ((scope ++ (name, meaning) ∷ []) ∷ outer)
shows-push table now scope outer name meaning depth new at noted shows other =
    noted other
    ∙ ap (λ seen. if bytes_eq other name then seen ++ record { depth = depth; meaning = meaning } ∷ [] else seen)
    (shows other)
    ∙ ap (λ d. if bytes_eq other name then sightings (scope ∷ outer) other
    ++ record { depth = d; meaning = meaning } ∷ [] else sightings (scope ∷ outer) other) at
    ∙ sym (sightings-push scope outer name meaning new other)

-- and one that forgets it again
pub shows-pop : (table now : List (List ℕ × List Sighting)) (scope : Scope) (outer : List Scope) (name : List ℕ)
    (meaning : Meaning) → lookup (bytes_eq name) scope ≡ None
    → ((other : List ℕ) → seen_in now other ≡ (if bytes_eq other name then without_innermost (seen_in table other)
    else seen_in table other))
    → Shows table ((scope ++ (name, meaning) ∷ []) ∷ outer) → Shows now (scope ∷ outer)
shows-pop table now scope outer name meaning new forgotten shows other =
    forgotten other
    ∙ ap (λ seen. if bytes_eq other name then without_innermost seen else seen) (shows other ∙ sightings-push scope
    outer name meaning new other)
    ∙ by (bytes_eq other name)
  where
    by : (b : Bool) → (if b then without_innermost (if b then sightings (scope ∷ outer) other
        ++ record { depth = length outer; meaning = meaning } ∷ [] else sightings (scope ∷ outer) other) else
        (if b then sightings (scope ∷ outer) other ++ record { depth = length outer; meaning = meaning }
        ∷ [] else sightings (scope ∷ outer) other)) ≡ sightings (scope ∷ outer) other
    by true = without-last (sightings (scope ∷ outer) other) (record { depth = length outer; meaning = meaning })
    by false = refl

-- a scope in which nothing is declared yet
pub shows-empty : (table : List (List ℕ × List Sighting)) (scopes : List Scope) → Shows table scopes
    → Shows table ([] ∷ scopes)
shows-empty table scopes shows name = shows name

-- what is noted and then forgotten changes nothing
pub shows-undone : (table noted now : List (List ℕ × List Sighting)) (scopes : List Scope) (name : List ℕ)
    (sighting : Sighting)
    → ((other : List ℕ) → seen_in noted other ≡ (if bytes_eq other name then seen_in table other ++ sighting ∷ [] else
    seen_in table other))
    → ((other : List ℕ) → seen_in now other ≡ (if bytes_eq other name then without_innermost (seen_in noted other)
    else seen_in noted other))
    → Shows table scopes → Shows now scopes
shows-undone table noted now scopes name sighting note forget shows other =
    forget other
    ∙ ap (λ seen. if bytes_eq other name then without_innermost seen else seen) (note other)
    ∙ by (bytes_eq other name) ∙ shows other
  where
    by : (b : Bool) → (if b then without_innermost (if b then seen_in table other ++ sighting ∷ [] else seen_in table
        other) else (if b then seen_in table other ++ sighting ∷ [] else seen_in table other)) ≡ seen_in table other
    by true = without-last (seen_in table other) sighting
    by false = refl

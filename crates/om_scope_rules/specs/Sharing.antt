-- Which variables a construct shares (OpenMP API 5.2, section 5.1).
use Rattle.std.specs.Prelude.{ℕ, List, [], ◌∷◌, Option, None, Some, Bool, true, false, length, nat_lt, is_some, not}
use Rattle.std.specs.Prelude.{◌&&◌, ◌||◌}
use Rattle.std.specs.List.{list_any}
use Rattle.std.specs.Map.{lookup}
use Rattle.std.specs.Str.{bytes_eq}
use Rattle.om_pragma.specs.declared.clause.Sharing.{Sharing}
use Rattle.om_pragma.specs.declared.clause.Sharing.TheVariants as sharings
use Rattle.om_scope_rules.specs.declared.region.Region.{Region}
use Rattle.om_scope_rules.specs.declared.region.SharingKind.{SharingKind}
use Rattle.om_scope_rules.specs.declared.region.SharingKind.TheVariants as regions
use Rattle.om_scope_rules.specs.Scopes.{Scope, Scopes, Enclosing, is_declared}

abbrev pub declares : Scope → List ℕ → Bool
declares scope name = is_some (lookup (bytes_eq name) scope)

-- `default(none)` (OpenMP API 5.2, section 5.4.1)
abbrev pub asks_for_clauses : Option Sharing → Bool
asks_for_clauses None = false
asks_for_clauses (Some sharings.Shared) = false
asks_for_clauses (Some sharings.None) = true

-- a clause has to list the variable, and none lists it as shared
abbrev pub lacks_clause : Region → List ℕ → Bool
lacks_clause region name = asks_for_clauses region.default && not (list_any (bytes_eq name) region.shared)

-- Going out of a place up to the declaration of a name: a construct round it lacks a clause for it. A clause other
-- than `shared` declares the name as a copy, in the construct.
abbrev pub unlisted_outside : List Enclosing → List ℕ → Bool
unlisted_outside [] name = false
unlisted_outside (e ∷ outer) name = lacks_clause e.region name || (not (declares e.scope name) && unlisted_outside
    outer name)

abbrev pub is_unlisted : Scopes → List ℕ → Bool
is_unlisted scopes name = not (is_declared scopes name) && unlisted_outside scopes.outer name

abbrev pub is_parallel : SharingKind → Bool
is_parallel regions.Parallel = true
is_parallel regions.Task = false
is_parallel regions.Plain = false

abbrev pub is_task : SharingKind → Bool
is_task regions.Task = true
is_task regions.Parallel = false
is_task regions.Plain = false

-- a `task` without `default` that does not list the variable as shared
abbrev pub is_task_without : Region → List ℕ → Bool
is_task_without region name = is_task region.kind && not (is_some region.default)
    && not (list_any (bytes_eq name) region.shared)

-- further scopes stand round it: it is not the file scope
abbrev pub is_in_function : List Enclosing → Bool
is_in_function outer = nat_lt 0 (length outer)

-- a function's variable that is declared, or copied, in the innermost `parallel` round the place, or where
-- there is none
abbrev pub is_own : List Enclosing → List ℕ → Bool
is_own [] name = false
is_own (e ∷ outer) name = is_in_function outer && not (is_parallel e.region.kind)
    && (declares e.scope name || is_own outer name)

-- Going out of a place up to the declaration of a name: a `task` round it makes a copy, since the variable is not
-- shared by all implicit tasks of the `parallel` round that task.
abbrev pub copied_outside : List Enclosing → List ℕ → Bool
copied_outside [] name = false
copied_outside (e ∷ outer) name = (is_task_without e.region name && is_own (e ∷ outer) name)
    || (not (declares e.scope name) && copied_outside outer name)

abbrev pub is_copied : Scopes → List ℕ → Bool
is_copied scopes name = not (is_declared scopes name) && copied_outside scopes.outer name

-- Looking a name up in all scopes at once is looking it up in one after the other.
use Rattle.std.specs.Prelude.{nat_eq, nat_lt}
use Rattle.std.proofs.Common.{◌≡◌, ℕ, ◌<◌, ◌≤◌, suc, Bool, true, false, not, ◌&&◌, ◌||◌, List, [], ◌∷◌, ◌++◌, Option}
use Rattle.std.proofs.Common.{None, Some, is_some, if◌then◌else◌, length, refl, sym, ap, subst, ◌∙◌}
use Rattle.std.proofs.Common.{true≢false, arith}
use Rattle.std.proofs.lemmas.List.{length-reverse, reverse-append}
use Rattle.std.proofs.lemmas.Bool.{eq-eqb, eqb-true, eqb-false, ne_eqb, lt-ltb, le-ltb, ltb-true}
use Rattle.std.specs.Map.{lookup}
use Rattle.std.specs.Option.{option_or}
use Rattle.std.specs.Str.{bytes_eq}
use Rattle.om_scope_symbols.specs.declared.nesting.Construct.{Construct}
use Rattle.om_scope_symbols.specs.declared.symbols.Sighting.{Sighting}
use Rattle.om_scope_rules.specs.declared.names.Meaning.{Meaning}
use Rattle.om_scope_symbols.specs.Nesting.{AreNested, alone_since, copied_since, enclosing_of, outside_of, region_in}
use Rattle.om_scope_symbols.specs.Nesting.{unlisted_since}
use Rattle.om_scope_rules.specs.Scopes.{Scope, meaning_outside, plain}
use Rattle.om_scope_rules.specs.Sharing.{copied_outside, declares, is_own, is_parallel, is_task_without, lacks_clause}
use Rattle.om_scope_rules.specs.Sharing.{unlisted_outside}
use Rattle.om_scope_symbols.specs.Sightings.{depth_of, meaning_at, meaning_of_sighting, scopes_of, sightings}
use Rattle.om_scope_symbols.specs.Sightings.{with_sighting}
use Rattle.om_scope_symbols.specs.Stacks.{innermost_of}
use Rattle.om_scope_symbols.proofs.Stacked.{innermost-last}

-- ---- constructs

pub nested-deeper : (constructs : List Construct) (depth deeper : ℕ) → depth ≤ deeper → AreNested constructs depth
    → AreNested constructs deeper
nested-deeper [] depth deeper le nested = tt
nested-deeper (construct ∷ outer) depth deeper le nested = (omega (arith, nested.0, le), nested.1)

pub nested-outside : (constructs : List Construct) (depth : ℕ) → AreNested constructs (suc depth)
    → AreNested (outside_of constructs depth) depth
nested-outside [] depth nested = tt
nested-outside (construct ∷ outer) depth nested = by (nat_eq construct.depth depth) refl
  where
    by : (b : Bool) → nat_eq construct.depth depth ≡ b → AreNested (if b then outer else construct ∷ outer) depth
    by true e = subst (AreNested outer) (eqb-true construct.depth depth e) nested.1
    by false e = (let apart = eqb-false construct.depth depth e in omega (arith, nested.0, apart), nested.1)

-- none stands in the scope itself, so in one that is entered now nothing changes round it
pub none-inside : (constructs : List Construct) (depth : ℕ) → AreNested constructs depth
    → (region_in constructs depth ≡ plain) × (outside_of constructs depth ≡ constructs)
none-inside [] depth nested = (refl, refl)
none-inside (construct ∷ outer) depth nested = by (nat_eq construct.depth depth) refl
  where
    by : (b : Bool) → nat_eq construct.depth depth ≡ b → ((if b then construct.region else plain) ≡ plain)
        × ((if b then outer else construct ∷ outer) ≡ construct ∷ outer)
    by true e = absurd (let same = eqb-true construct.depth depth e in omega (arith, nested.0, same))
    by false e = (refl, refl)

-- ---- the innermost declaration

-- once what the innermost scope declares a name as is known
meaning-with : (outer : List Scope) (constructs : List Construct) (name : List ℕ) (found : Option Meaning)
    → meaning_outside (enclosing_of outer constructs) name ≡ meaning_of_sighting (innermost_of (sightings outer name))
    → option_or found (meaning_outside (enclosing_of outer constructs) name) ≡ meaning_of_sighting
    (innermost_of (with_sighting (length outer) (sightings outer name) found))
meaning-with outer constructs name None rest = rest
meaning-with outer constructs name (Some meaning) rest =
    sym (ap meaning_of_sighting (innermost-last (sightings outer name)
    (record { depth = length outer; meaning = meaning })))

meaning-innermost : (scopes : List Scope) (constructs : List Construct) (name : List ℕ)
    → meaning_outside (enclosing_of scopes constructs) name ≡ meaning_of_sighting (innermost_of (sightings scopes name))
meaning-innermost [] constructs name = refl
meaning-innermost (scope ∷ outer) constructs name =
    meaning-with outer (outside_of constructs (length outer)) name (lookup (bytes_eq name) scope)
    (meaning-innermost outer (outside_of constructs (length outer)) name)

pub meaning-here : (inner : Scope) (outer : List Scope) (constructs : List Construct) (name : List ℕ)
    → option_or (lookup (bytes_eq name) inner) (meaning_outside (enclosing_of outer constructs) name)
    ≡ meaning_of_sighting (innermost_of (sightings (inner ∷ outer) name))
meaning-here inner outer constructs name = meaning-with outer constructs name (lookup (bytes_eq name) inner)
    (meaning-innermost outer constructs name)

-- it stands in one of these scopes
depth-innermost : (scopes : List Scope) (name : List ℕ) → depth_of (innermost_of (sightings scopes name)) ≤ length
    scopes
depth-innermost [] name = omega arith
depth-innermost (scope ∷ outer) name = by (lookup (bytes_eq name) scope) (depth-innermost outer name)
  where
    by : (found : Option Meaning) → depth_of (innermost_of (sightings outer name)) ≤ length outer
        → depth_of (innermost_of (with_sighting (length outer) (sightings outer name) found)) ≤ length (scope ∷ outer)
    by None below = omega (arith, below)
    by (Some meaning) below = rw innermost-last (omega arith)

-- round it stand fewer scopes
below-innermost : (scopes : List Scope) (name : List ℕ) (seen : Sighting) → innermost_of (sightings scopes name) ≡ Some seen
    → seen.depth < length scopes
below-innermost [] name seen e = cc
below-innermost (scope ∷ outer) name seen e = by (lookup (bytes_eq name) scope) e (below-innermost outer name seen)
  where
    by : (found : Option Meaning) → innermost_of (with_sighting (length outer) (sightings outer name) found) ≡ Some seen
        → (innermost_of (sightings outer name) ≡ Some seen → seen.depth < length outer)
        → seen.depth < length (scope ∷ outer)
    by None is below = let deep = below is in omega (arith, deep)
    by (Some meaning) is below =
        let same : length outer ≡ seen.depth = ap depth_of (sym (innermost-last (sightings outer name)
        (record { depth = length outer; meaning = meaning })) ∙ is) in
        omega (arith, same)

-- the innermost scope declares what the innermost declaration says, if that stands so deep
pub meaning-innermost_scope : (inner : Scope) (outer : List Scope) (name : List ℕ)
    → meaning_at (innermost_of (sightings (inner ∷ outer) name)) (length outer) ≡ lookup (bytes_eq name) inner
meaning-innermost_scope inner outer name = by (lookup (bytes_eq name) inner)
  where
    further : (found : Option Sighting) → innermost_of (sightings outer name) ≡ found → meaning_at found (length outer)
        ≡ None
    further None e = refl
    further (Some seen) e =
        let below = below-innermost outer name seen e in
        ap (λ b. if b then Some seen.meaning else None) (ne_eqb seen.depth (length outer) (λ same. omega (arith, below, same)))

    by : (found : Option Meaning) → meaning_at (innermost_of (with_sighting (length outer) (sightings outer name) found))
        (length outer) ≡ found
    by None = further (innermost_of (sightings outer name)) refl
    by (Some meaning) =
        ap (λ seen. meaning_at seen (length outer)) (innermost-last (sightings outer name)
        (record { depth = length outer; meaning = meaning }))
        ∙ ap (λ b. if b then Some meaning else None) (eq-eqb (length outer) (length outer) refl)

-- ---- constructs that lack a clause

-- none is round its own place
unlisted-here : (constructs : List Construct) (depth : ℕ) (name : List ℕ) → AreNested constructs depth
    → unlisted_since constructs depth name ≡ false
unlisted-here [] depth name nested = refl
unlisted-here (construct ∷ outer) depth name nested = ap (λ b. if b then false else lacks_clause construct.region
    name || unlisted_since outer depth name) (lt-ltb construct.depth depth nested.0)

-- from the innermost outwards
unlisted-step : (constructs : List Construct) (here depth : ℕ) (name : List ℕ) → AreNested constructs (suc here)
    → depth ≤ here
    → unlisted_since constructs depth name ≡ (lacks_clause (region_in constructs here) name || unlisted_since
    (outside_of constructs here) depth name)
unlisted-step [] here depth name nested le = refl
unlisted-step (construct ∷ outer) here depth name nested le = by (nat_eq construct.depth here) refl
  where
    by : (b : Bool) → nat_eq construct.depth here ≡ b
        → unlisted_since (construct ∷ outer) depth name ≡ (lacks_clause (if b then construct.region else plain) name
        || unlisted_since (if b then outer else construct ∷ outer) depth name)
    by true e =
        let same = eqb-true construct.depth here e in
        let deep : depth ≤ construct.depth = omega (arith, same, le) in
        ap (λ b. if b then false else lacks_clause construct.region name || unlisted_since outer depth name)
        (le-ltb construct.depth depth deep)
    by false e = refl

unlisted-innermost : (scopes : List Scope) (constructs : List Construct) (name : List ℕ) → AreNested constructs
    (length scopes)
    → unlisted_outside (enclosing_of scopes constructs) name ≡ unlisted_since constructs
    (depth_of (innermost_of (sightings scopes name))) name
unlisted-innermost [] constructs name nested = sym (unlisted-here constructs 0 name nested)
unlisted-innermost (scope ∷ outer) constructs name nested =
    by (lookup (bytes_eq name) scope) (unlisted-innermost outer (outside_of constructs (length outer)) name
    (nested-outside constructs (length outer) nested))
  where
    or_nothing : (b : Bool) → (b || false) ≡ b
    or_nothing true = refl
    or_nothing false = refl

    by : (found : Option Meaning) → unlisted_outside (enclosing_of outer (outside_of constructs (length outer)))
        name ≡ unlisted_since (outside_of constructs (length outer))
        (depth_of (innermost_of (sightings outer name))) name
        → (lacks_clause (region_in constructs (length outer)) name
        || (not (is_some found) && unlisted_outside (enclosing_of outer (outside_of constructs (length outer)))
        name))
        ≡ unlisted_since constructs
        (depth_of (innermost_of (with_sighting (length outer) (sightings outer name) found))) name
    by None rest =
        ap (λ u. lacks_clause (region_in constructs (length outer)) name || u) rest
        ∙ sym (unlisted-step constructs (length outer) (depth_of (innermost_of (sightings outer name))) name nested
        (depth-innermost outer name))
    by (Some meaning) rest =
        sym (ap (λ found. unlisted_since constructs (depth_of found) name) (innermost-last (sightings outer name)
        (record { depth = length outer; meaning = meaning }))
        ∙ unlisted-step constructs (length outer) (length outer) name nested (omega arith)
        ∙ ap (λ u. lacks_clause (region_in constructs (length outer)) name || u)
        (unlisted-here (outside_of constructs (length outer)) (length outer) name
        (nested-outside constructs (length outer) nested)))

-- ---- copies

-- where none stands so deep, none is a `parallel`
pub alone-here : (constructs : List Construct) (depth : ℕ) → AreNested constructs depth → alone_since constructs depth
    ≡ true
alone-here [] depth nested = refl
alone-here (construct ∷ outer) depth nested = ap (λ b. if b then true else not (is_parallel construct.region.kind)
    && alone_since outer depth) (lt-ltb construct.depth depth nested.0)

alone-step : (constructs : List Construct) (here depth : ℕ) → AreNested constructs (suc here) → depth ≤ here
    → alone_since constructs depth ≡ (not (is_parallel (region_in constructs here).kind)
    && alone_since (outside_of constructs here) depth)
alone-step [] here depth nested le = refl
alone-step (construct ∷ outer) here depth nested le = by (nat_eq construct.depth here) refl
  where
    by : (b : Bool) → nat_eq construct.depth here ≡ b
        → alone_since (construct ∷ outer) depth ≡ (not (is_parallel (if b then construct.region else plain).kind)
        && alone_since (if b then outer else construct ∷ outer) depth)
    by true e =
        let same = eqb-true construct.depth here e in
        let deep : depth ≤ construct.depth = omega (arith, same, le) in
        ap (λ b. if b then true else not (is_parallel construct.region.kind) && alone_since outer depth)
        (le-ltb construct.depth depth deep)
    by false e = refl

length-enclosing : (scopes : List Scope) (constructs : List Construct) → length (enclosing_of scopes constructs)
    ≡ length scopes
length-enclosing [] constructs = refl
length-enclosing (scope ∷ outer) constructs = ap suc (length-enclosing outer (outside_of constructs (length outer)))

-- a name's depth in scopes, once the innermost of them is known
abbrev depth_with : List Scope → List ℕ → Option Meaning → ℕ
depth_with outer name found = depth_of (innermost_of (with_sighting (length outer) (sightings outer name) found))

depth-own : (outer : List Scope) (name : List ℕ) (meaning : Meaning) → depth_with outer name (Some meaning)
    ≡ length outer
depth-own outer name meaning = ap depth_of (innermost-last (sightings outer name)
    (record { depth = length outer; meaning = meaning }))

own-innermost : (scopes : List Scope) (constructs : List Construct) (name : List ℕ) → AreNested constructs
    (length scopes)
    → is_own (enclosing_of scopes constructs) name
    ≡ (nat_lt 0 (depth_of (innermost_of (sightings scopes name))) && alone_since constructs
    (depth_of (innermost_of (sightings scopes name))))
own-innermost [] constructs name nested = refl
own-innermost (scope ∷ outer) constructs name nested =
    ap (λ n. nat_lt 0 n && not (is_parallel (region_in constructs (length outer)).kind)
    && (declares scope name || is_own (enclosing_of outer (outside_of constructs (length outer))) name))
    (length-enclosing outer (outside_of constructs (length outer)))
    ∙ by (lookup (bytes_eq name) scope) (own-innermost outer (outside_of constructs (length outer)) name
    (nested-outside constructs (length outer) nested))
  where
    declared : (z p : Bool) → ((z && p) && true) ≡ (z && (p && true))
    declared true true = refl
    declared true false = refl
    declared false p = refl

    further : (z y p a : Bool) → (y ≡ true → z ≡ true) → ((z && p) && (y && a)) ≡ (y && (p && a))
    further true true true a le = refl
    further true true false a le = refl
    further true false true a le = refl
    further true false false a le = refl
    further false true p a le = absurd (true≢false (sym (le refl)))
    further false false p a le = refl

    by : (found : Option Meaning)
        → is_own (enclosing_of outer (outside_of constructs (length outer))) name
        ≡ (nat_lt 0 (depth_of (innermost_of (sightings outer name)))
        && alone_since (outside_of constructs (length outer)) (depth_of (innermost_of (sightings outer name))))
        → (nat_lt 0 (length outer) && not (is_parallel (region_in constructs (length outer)).kind)
        && (is_some found || is_own (enclosing_of outer (outside_of constructs (length outer))) name))
        ≡ (nat_lt 0 (depth_with outer name found) && alone_since constructs (depth_with outer name found))
    by None rest =
        ap (λ own. nat_lt 0 (length outer) && not (is_parallel (region_in constructs (length outer)).kind) && own) rest
        ∙ further (nat_lt 0 (length outer)) (nat_lt 0 (depth_of (innermost_of (sightings outer name))))
        (not (is_parallel (region_in constructs (length outer)).kind))
        (alone_since (outside_of constructs (length outer)) (depth_of (innermost_of (sightings outer name))))
        (λ e. lt-ltb 0 (length outer) (omega (
          arith,
          ltb-true 0 (depth_of (innermost_of (sightings outer name))) e,
          depth-innermost outer name,
        )))
        ∙ ap (λ alone. nat_lt 0 (depth_of (innermost_of (sightings outer name))) && alone)
        (sym (alone-step constructs (length outer) (depth_of (innermost_of (sightings outer name))) nested
        (depth-innermost outer name)))
    by (Some meaning) rest =
        declared (nat_lt 0 (length outer)) (not (is_parallel (region_in constructs (length outer)).kind))
        ∙ ap (λ alone. nat_lt 0 (length outer) && (not (is_parallel (region_in constructs (length outer)).kind)
        && alone)) (sym (alone-here (outside_of constructs (length outer)) (length outer)
        (nested-outside constructs (length outer) nested)))
        ∙ ap (λ alone. nat_lt 0 (length outer) && alone)
        (sym (alone-step constructs (length outer) (length outer) nested (omega arith)))
        ∙ ap (λ depth. nat_lt 0 depth && alone_since constructs depth) (sym (depth-own outer name meaning))

copied-here : (constructs : List Construct) (depth : ℕ) (name : List ℕ) → AreNested constructs depth
    → copied_since constructs depth name ≡ false
copied-here [] depth name nested = refl
copied-here (construct ∷ outer) depth name nested = ap (λ b. if b then false else
    (is_task_without construct.region name && alone_since (construct ∷ outer) depth) || copied_since outer depth name)
    (lt-ltb construct.depth depth nested.0)

copied-step : (constructs : List Construct) (here depth : ℕ) (name : List ℕ) → AreNested constructs (suc here)
    → depth ≤ here
    → copied_since constructs depth name
    ≡ ((is_task_without (region_in constructs here) name && (not (is_parallel (region_in constructs here).kind)
    && alone_since (outside_of constructs here) depth)) || copied_since (outside_of constructs here) depth name)
copied-step [] here depth name nested le = refl
copied-step (construct ∷ outer) here depth name nested le = by (nat_eq construct.depth here) refl
  where
    by : (b : Bool) → nat_eq construct.depth here ≡ b
        → copied_since (construct ∷ outer) depth name
        ≡ ((is_task_without (if b then construct.region else plain) name
        && (not (is_parallel (if b then construct.region else plain).kind)
        && alone_since (if b then outer else construct ∷ outer) depth))
        || copied_since (if b then outer else construct ∷ outer) depth name)
    by true e =
        let same = eqb-true construct.depth here e in
        let deep : depth ≤ construct.depth = omega (arith, same, le) in
        ap (λ b. if b then false else (is_task_without construct.region name
        && (if b then true else not (is_parallel construct.region.kind) && alone_since outer depth))
        || copied_since outer depth name) (le-ltb construct.depth depth deep)
    by false e = refl

copied-innermost : (scopes : List Scope) (constructs : List Construct) (name : List ℕ) → AreNested constructs
    (length scopes)
    → copied_outside (enclosing_of scopes constructs) name
    ≡ (nat_lt 0 (depth_of (innermost_of (sightings scopes name)))
    && copied_since constructs (depth_of (innermost_of (sightings scopes name))) name)
copied-innermost [] constructs name nested = refl
copied-innermost (scope ∷ outer) constructs name nested =
    ap (λ own. (task && own) || (not (declares scope name) && copied_outside (enclosing_of outer further) name))
    (own-innermost (scope ∷ outer) constructs name nested)
    ∙ by (lookup (bytes_eq name) scope)
    (copied-innermost outer further name (nested-outside constructs (length outer) nested))
  where
    further : List Construct
    further = outside_of constructs (length outer)

    task : Bool
    task = is_task_without (region_in constructs (length outer)) name

    both : (deep task own copied : Bool) → ((task && (deep && own)) || (deep && copied)) ≡ (deep && ((task && own)
        || copied))
    both true task own copied = refl
    both false true own copied = refl
    both false false own copied = refl

    never : (deep : Bool) → (deep && false) ≡ false
    never true = refl
    never false = refl

    -- what the constructs of this scope and of those round it make of a variable that is declared at a depth
    step : (depth : ℕ) → depth ≤ length outer
        → ((task && (nat_lt 0 depth && alone_since constructs depth)) || (nat_lt 0 depth && copied_since further
        depth name)) ≡ (nat_lt 0 depth && copied_since constructs depth name)
    step depth le =
        both (nat_lt 0 depth) task (alone_since constructs depth) (copied_since further depth name)
        ∙ ap (λ alone. nat_lt 0 depth && ((task && alone) || copied_since further depth name))
        (alone-step constructs (length outer) depth nested le)
        ∙ sym (ap (λ copied. nat_lt 0 depth && copied) (copied-step constructs (length outer) depth name nested le))

    by : (found : Option Meaning)
        → copied_outside (enclosing_of outer further) name
        ≡ (nat_lt 0 (depth_of (innermost_of (sightings outer name)))
        && copied_since further (depth_of (innermost_of (sightings outer name))) name)
        → ((task && (nat_lt 0 (depth_with outer name found) && alone_since constructs (depth_with outer name found)))
        || (not (is_some found) && copied_outside (enclosing_of outer further) name))
        ≡ (nat_lt 0 (depth_with outer name found) && copied_since constructs (depth_with outer name found) name)
    by None rest =
        ap (λ copied. (task && (nat_lt 0 (depth_with outer name None)
        && alone_since constructs (depth_with outer name None))) || copied) rest
        ∙ step (depth_with outer name None) (depth-innermost outer name)
    by (Some meaning) rest =
        ap (λ depth. (task && (nat_lt 0 depth && alone_since constructs depth)) || false)
        (depth-own outer name meaning)
        ∙ ap (λ copied. (task && (nat_lt 0 (length outer) && alone_since constructs (length outer))) || copied)
        (sym (ap (λ copied. nat_lt 0 (length outer) && copied) (copied-here further (length outer) name
        (nested-outside constructs (length outer) nested)) ∙ never (nat_lt 0 (length outer))))
        ∙ step (length outer) (omega arith)
        ∙ ap (λ depth. nat_lt 0 depth && copied_since constructs depth name) (sym (depth-own outer name meaning))

-- ---- at a place

pub unlisted-at : (inner : Scope) (outer : List Scope) (constructs : List Construct) (name : List ℕ)
    → AreNested constructs (length outer)
    → (not (declares inner name) && unlisted_outside (enclosing_of outer constructs) name)
    ≡ unlisted_since constructs (depth_of (innermost_of (sightings (inner ∷ outer) name))) name
unlisted-at inner outer constructs name nested = by (lookup (bytes_eq name) inner)
  where
    by : (found : Option Meaning) → (not (is_some found) && unlisted_outside (enclosing_of outer constructs) name)
        ≡ unlisted_since constructs (depth_with outer name found) name
    by None = unlisted-innermost outer constructs name nested
    by (Some meaning) = sym (ap (λ depth. unlisted_since constructs depth name) (depth-own outer name meaning)
        ∙ unlisted-here constructs (length outer) name nested)

pub copied-at : (inner : Scope) (outer : List Scope) (constructs : List Construct) (name : List ℕ)
    → AreNested constructs (length outer)
    → (not (declares inner name) && copied_outside (enclosing_of outer constructs) name)
    ≡ (nat_lt 0 (depth_of (innermost_of (sightings (inner ∷ outer) name)))
    && copied_since constructs (depth_of (innermost_of (sightings (inner ∷ outer) name))) name)
copied-at inner outer constructs name nested = by (lookup (bytes_eq name) inner)
  where
    never : (z : Bool) → (z && false) ≡ false
    never true = refl
    never false = refl

    by : (found : Option Meaning) → (not (is_some found) && copied_outside (enclosing_of outer constructs) name)
        ≡ (nat_lt 0 (depth_with outer name found) && copied_since constructs (depth_with outer name found)
        name)
    by None = copied-innermost outer constructs name nested
    by (Some meaning) =
        sym (ap (λ depth. nat_lt 0 depth && copied_since constructs depth name) (depth-own outer name meaning)
        ∙ ap (λ copied. nat_lt 0 (length outer) && copied) (copied-here constructs (length outer) name nested)
        ∙ never (nat_lt 0 (length outer)))

-- the scopes that tables hold
pub length-scopes : (tables : List Scope) → length (scopes_of tables) ≡ length tables
length-scopes tables = length-reverse tables

pub scopes-push : (tables : List Scope) (table : Scope) → scopes_of (tables ++ table ∷ []) ≡ table ∷ scopes_of tables
scopes-push tables table = reverse-append tables (table ∷ [])

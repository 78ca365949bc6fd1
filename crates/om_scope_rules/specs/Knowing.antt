-- Scopes at a place of a source, and what stands round the place in its resolved tree.
use Rattle.std.specs.Prelude.{◌≡◌, ◌≤◌, ℕ, ◌-◌, List, IfSome, IsSomeAnd, length, position, slice_get}
use Rattle.std.specs.Map.{lookup}
use Rattle.std.specs.Str.{bytes_eq}
use Rattle.om_scope_tree.specs.declared.resolved.GlobalVariable.{GlobalVariable}
use Rattle.om_scope_tree.specs.ResolvedTree.{ResolvedFunctionTree}
use Rattle.om_scope_tree.specs.Whole.{Around, Local, IsAmong}
use Rattle.om_scope_rules.specs.declared.region.Flow.{Flow}
use Rattle.om_scope_rules.specs.declared.names.Meaning.{Meaning}
use Rattle.om_scope_rules.specs.declared.names.Meaning.TheVariants as meanings
use Rattle.om_scope_rules.specs.declared.names.Signature.{Signature}
use Rattle.om_scope_rules.specs.Scopes.{Scopes, meaning_outside}

-- the function of a name that has this signature
pub record IsDefinition (name : List ℕ) (signature : Signature) (function : ResolvedFunctionTree) : Type 0 where
  pub named : function.name ≡ name
  pub parameters : length function.parameters ≡ signature.parameters
  pub returns : function.returns ≡ signature.returns

-- A place among the definitions of a source: `printf` is the first of them, and two functions of OpenMP come next.
pub record IsCallee (functions : List ResolvedFunctionTree) (name : List ℕ) (signature : Signature)
    (place : ℕ) : Type 0 where
  pub behind_printf : 1 ≤ place
  pub own : 3 ≤ place → IsSomeAnd (slice_get functions (place - 3)) (IsDefinition name signature)

-- what a name means is there, and is such
abbrev pub IsThere : List GlobalVariable → List ResolvedFunctionTree → List Local → (definitions : List (List ℕ))
    → (name : List ℕ) → Meaning → Type 0
IsThere globals functions locals definitions name (meanings.Variable v shape) = IsAmong globals locals shape v
IsThere globals functions locals definitions name (meanings.Function signature) = IfSome
    (position (bytes_eq name) definitions) (IsCallee functions name signature)
IsThere globals functions locals definitions name meanings.Printf = Unit {0}

-- so is whatever a name means in scopes
pub record Known (globals : List GlobalVariable) (functions : List ResolvedFunctionTree) (locals : List Local)
    (scopes : Scopes) : Type 0 where
  pub inner : (name : List ℕ) → IfSome (lookup (bytes_eq name) scopes.inner)
      (IsThere globals functions locals scopes.definitions name)
  pub outer : (name : List ℕ) → IfSome (meaning_outside scopes.outer name)
      (IsThere globals functions locals scopes.definitions name)

abbrev pub Knows : Around → Scopes → Type 0
Knows around scopes = Known around.globals around.functions around.locals scopes

-- what the statements at the place may do is what stands round it
pub record Agrees (around : Around) (flow : Flow) : Type 0 where
  pub breaks : around.breaks ≡ flow.may_break
  pub continues : around.continues ≡ flow.may_continue
  pub returns : around.returns ≡ flow.returns
  pub in_construct : around.in_construct ≡ flow.in_construct

-- Scopes in which a name means a variable as it does among these, and what declares a further one.
use Rattle.std.proofs.Common.{◌≡◌, ℕ, Bool, true, false, List, [], ◌∷◌, ◌++◌, Option, None, Some, refl, sym, ap, ◌∙◌}
use Rattle.std.proofs.Common.{bytes_eq, subst}
use Rattle.std.specs.Prelude.{IfSome, cond, is_some, if◌then◌else◌}
use Rattle.std.specs.Map.{lookup}
use Rattle.std.specs.Option.{option_or}
use Rattle.std.proofs.lemmas.Slice.Eq.{bytes_eq-Decides}
use Rattle.om_pragma.specs.declared.clause.Name as names
use Rattle.om_scope_tree.specs.declared.resolved.GlobalVariable.{GlobalVariable}
use Rattle.om_scope_tree.specs.declared.resolved.Shape.{Shape}
use Rattle.om_scope_tree.specs.declared.resolved.Variable.{Variable}
use Rattle.om_scope_tree.specs.declared.resolved.Variable.TheVariants as named
use Rattle.om_scope_rules.specs.declared.names.Meaning.{Meaning}
use Rattle.om_scope_rules.specs.declared.names.Meaning.TheVariants as meanings
use Rattle.om_scope_rules.specs.Resolution.{variable_of}
use Rattle.om_scope_rules.specs.Scopes.{Binding, Scope, Scopes, is_declared, meaning_of, meaning_outside, with_local}
use Rattle.om_name_laws.specs.Sees.{Known, IsSeen, IsSeenAs, known_as}
use Rattle.om_name_laws.proofs.Meanings.{or_none}
use Rattle.om_name_laws.proofs.Steps.{if_more}

pub lookup_last : (name : List ℕ) (inner : Scope) (b : Binding) → lookup (bytes_eq name) (inner ++ b ∷ [])
    ≡ option_or (lookup (bytes_eq name) inner) (if bytes_eq name b.0 then Some b.1 else None)
lookup_last name [] b = refl
lookup_last name (x ∷ inner) b = first (bytes_eq name x.0) (lookup_last name inner b)
  where
    first : (t : Bool) → lookup (bytes_eq name) (inner ++ b ∷ [])
        ≡ option_or (lookup (bytes_eq name) inner) (if bytes_eq name b.0 then Some b.1 else None)
        → cond t (Some x.1) (lookup (bytes_eq name) (inner ++ b ∷ []))
        ≡ option_or (cond t (Some x.1) (lookup (bytes_eq name) inner)) (if bytes_eq name b.0 then Some b.1 else None)
    first true e = refl
    first false e = e

module _ (globals : List GlobalVariable) where
  -- in these scopes a name that means a variable means it among those too
  abbrev pub Knows : List Known → Scopes → Type 0
  Knows ks scopes = (name : List ℕ) → IfSome (variable_of (meaning_of scopes name)) (IsSeenAs globals ks name)

  pub seen_named : (ks : List Known) (scopes : Scopes) → Knows ks scopes → (name : List ℕ)
      → IfSome (variable_of (meaning_of scopes name)) (IsSeen globals ks)
  seen_named ks scopes h name =
      if_more (IsSeenAs globals ks name) (IsSeen globals ks) (variable_of (meaning_of scopes name))
      (λ v seen. (name, seen)) (h name)

  -- another name means what it meant
  seen_further : (ks : List Known) (k : Known) (name : List ℕ) → bytes_eq name k.name ≡ false → (v : Variable)
      → IsSeenAs globals ks name v → IsSeenAs globals (k ∷ ks) name v
  seen_further ks k name other (named.Global n) h =
      (h.0, ap (λ b. if b then Some k else known_as name ks) other ∙ h.1)
  seen_further ks k name other (named.Local at) h =
      (h.0, h.1, h.2, ap (λ b. if b then Some k else known_as name ks) other ∙ h.3)

  not_there : (o : Option Meaning) → is_some o ≡ false → o ≡ None
  not_there None e = refl
  not_there (Some x) e = absurd cc

  -- a variable that the innermost scope does not declare yet
  pub knows_local : (ks : List Known) (scopes : Scopes) (name : names.Name) (shape : Shape) (length : Option ℕ)
      → is_declared scopes name.text ≡ false → Knows ks scopes
      → Knows (record { name = name.text; at = name.span.start; length = length } ∷ ks) (with_local scopes name shape)
  knows_local ks scopes name shape length fresh h other =
      let b : Binding = (name.text, meanings.Variable (named.Local name.span.start) shape) in
      let k : Known = record { name = name.text; at = name.span.start; length = length } in
      subst (λ (o : Option Meaning). IfSome (variable_of (option_or o (meaning_outside scopes.outer other)))
      (IsSeenAs globals (k ∷ ks) other)) (sym (lookup_last other scopes.inner b))
      (by (bytes_eq other name.text) refl)
    where
      by : (t : Bool) → bytes_eq other name.text ≡ t
          → IfSome (variable_of (option_or (option_or (lookup (bytes_eq other) scopes.inner)
          (if t then Some (meanings.Variable (named.Local name.span.start) shape) else None))
          (meaning_outside scopes.outer other)))
          (IsSeenAs globals (record { name = name.text; at = name.span.start; length = length } ∷ ks) other)
      by true same =
          let k : Known = record { name = name.text; at = name.span.start; length = length } in
          let is : other ≡ name.text = (bytes_eq-Decides other name.text).0 same in
          let none = ap (λ z. lookup (bytes_eq z) scopes.inner) is
          ∙ not_there (lookup (bytes_eq name.text) scopes.inner) fresh in
          subst (λ (o : Option Meaning). IfSome (variable_of (option_or (option_or o
          (Some (meanings.Variable (named.Local name.span.start) shape))) (meaning_outside scopes.outer other)))
          (IsSeenAs globals (k ∷ ks) other)) (sym none)
          (k, refl, sym is, ap (λ t. if t then Some k else known_as other ks) same)
      by false same =
          let k : Known = record { name = name.text; at = name.span.start; length = length } in
          subst (λ (o : Option Meaning). IfSome (variable_of (option_or o (meaning_outside scopes.outer other)))
          (IsSeenAs globals (k ∷ ks) other)) (sym (or_none (lookup (bytes_eq other) scopes.inner)))
          (if_more (IsSeenAs globals ks other) (IsSeenAs globals (k ∷ ks) other)
          (variable_of (meaning_of scopes other)) (seen_further ks k other same) (h other))

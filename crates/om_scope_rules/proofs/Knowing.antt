-- What is known of the names in scope stays so.
use Rattle.std.proofs.Common.{ℕ, Bool, true, false, cond, List, [], ◌∷◌, ◌++◌, Option, None, Some, refl, arith}
use Rattle.std.specs.Prelude.{IfSome, Contains}
use Rattle.std.specs.Map.{lookup}
use Rattle.std.specs.Str.{bytes_eq}
use Rattle.std.proofs.lemmas.List.Elements.{Contains-append_left, Contains-append_right}
use Rattle.om_pragma.specs.declared.clause.Name as names
use Rattle.om_scope_tree.specs.declared.resolved.GlobalVariable.{GlobalVariable}
use Rattle.om_scope_tree.specs.declared.resolved.Shape.{Shape}
use Rattle.om_scope_tree.specs.declared.resolved.Variable as variables
use Rattle.om_scope_tree.specs.declared.resolved.Variable.TheVariants as named
use Rattle.om_scope_tree.specs.ResolvedTree.{ResolvedFunctionTree}
use Rattle.om_scope_tree.specs.Whole.{Local, IsAmong}
use Rattle.om_scope_rules.specs.declared.names.Meaning.{Meaning}
use Rattle.om_scope_rules.specs.declared.names.Meaning.TheVariants as meanings
use Rattle.om_scope_rules.specs.declared.region.Region.{Region}
use Rattle.om_scope_rules.specs.Knowing.{IsThere, Known}
use Rattle.om_scope_rules.specs.Scopes.{Binding, Scope, Scopes, meaning_outside, meaning_of, with_local, within, plain}
use Rattle.om_scope_rules.specs.Scopes.{inside}
use Rattle.om_scope_rules.proofs.Steps.{if_either, if_first}

pub if_more : {A : Type 0} (P Q : A → Type 0) (o : Option A) → ((x : A) → P x → Q x) → IfSome o P → IfSome o Q
if_more P Q None more h = tt
if_more P Q (Some x) more h = more x h

pub contains_last : (locals : List Local) (local : Local) → Contains (locals ++ local ∷ []) local
contains_last locals local = Contains-append_right locals (local ∷ []) local (0, omega arith, refl)

among_more : (globals : List GlobalVariable) (locals more : List Local) (shape : Shape) (v : variables.Variable)
    → IsAmong globals locals shape v → IsAmong globals (locals ++ more) shape v
among_more globals locals more shape (named.Global number) h = h
among_more globals locals more shape (named.Local at) h = Contains-append_left locals more (at, shape) h

module _ (globals : List GlobalVariable) (functions : List ResolvedFunctionTree) where
  pub there_more : (locals more : List Local) (definitions : List (List ℕ)) (name : List ℕ) (meaning : Meaning)
      → IsThere globals functions locals definitions name meaning → IsThere globals functions (locals ++ more)
      definitions name meaning
  there_more locals more definitions name (meanings.Variable v shape) h = among_more globals locals more shape v h
  there_more locals more definitions name (meanings.Function signature) h = h
  there_more locals more definitions name meanings.Printf h = h

  pub known_more : (locals more : List Local) (scopes : Scopes) → Known globals functions locals scopes
      → Known globals functions (locals ++ more) scopes
  known_more locals more scopes h = record {
    inner = λ name. if_more (IsThere globals functions locals scopes.definitions name)
        (IsThere globals functions (locals ++ more) scopes.definitions name) (lookup (bytes_eq name) scopes.inner)
        (λ meaning there. there_more locals more scopes.definitions name meaning there) (h.inner name);
    outer = λ name. if_more (IsThere globals functions locals scopes.definitions name)
        (IsThere globals functions (locals ++ more) scopes.definitions name) (meaning_outside scopes.outer name)
        (λ meaning there. there_more locals more scopes.definitions name meaning there) (h.outer name);
  }

  -- what a name means
  pub known_meaning : (locals : List Local) (scopes : Scopes) (name : List ℕ) → Known globals functions locals
      scopes → IfSome (meaning_of scopes name) (IsThere globals functions locals scopes.definitions name)
  known_meaning locals scopes name h = if_first (IsThere globals functions locals scopes.definitions name)
      (lookup (bytes_eq name) scopes.inner) (meaning_outside scopes.outer name) (h.inner name) (h.outer name)

  -- ---- further scopes

  pub known_within : (locals : List Local) (inner : Scope) (region : Region) (scopes : Scopes)
      → ((name : List ℕ) → IfSome (lookup (bytes_eq name) inner)
      (IsThere globals functions locals scopes.definitions name))
      → Known globals functions locals scopes → Known globals functions locals (within inner region scopes)
  known_within locals inner region scopes own h = record {
    inner = own;
    outer = λ name. known_meaning locals scopes name h;
  }

  pub known_inside : (locals : List Local) (scopes : Scopes) → Known globals functions locals scopes
      → Known globals functions locals (inside scopes)
  known_inside locals scopes h = known_within locals [] plain scopes (λ name. tt) h

  -- ---- further declarations

  pub lookup_push : (P : Meaning → Type 0) (test : List ℕ → Bool) (scope : Scope) (b : Binding)
      → IfSome (lookup test scope) P → P b.1 → IfSome (lookup test (scope ++ b ∷ [])) P
  lookup_push P test [] b h hb = if_either (λ o. IfSome o P) (test b.0) (Some b.1) None hb tt
  lookup_push P test (c ∷ cs) b h hb = by (test c.0) (λ g. lookup_push P test cs b g hb) h
    where
      by : (passes : Bool) → (IfSome (lookup test cs) P → IfSome (lookup test (cs ++ b ∷ [])) P)
          → IfSome (cond passes (Some c.1) (lookup test cs)) P
          → IfSome (cond passes (Some c.1) (lookup test (cs ++ b ∷ []))) P
      by true rest g = g
      by false rest g = rest g

  pub known_local : (locals : List Local) (scopes : Scopes) (name : names.Name) (shape : Shape)
      → Known globals functions locals scopes → Known globals functions (locals ++ (name.span.start, shape) ∷ [])
      (with_local scopes name shape)
  known_local locals scopes name shape h =
      let more = known_more locals ((name.span.start, shape) ∷ []) scopes h in
      record {
        inner = λ other. lookup_push (IsThere globals functions (locals ++ (name.span.start, shape) ∷ [])
            scopes.definitions other) (bytes_eq other) scopes.inner
            (name.text, meanings.Variable (named.Local name.span.start) shape) (more.inner other)
            (contains_last locals (name.span.start, shape));
        outer = more.outer;
      }

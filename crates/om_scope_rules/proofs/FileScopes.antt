-- What a name means at file scope stays so, and a function's name means its signature.
use Rattle.std.proofs.Common.{◌≡◌, ℕ, Bool, true, false, cond, not, ◌&&◌, if◌then◌else◌, List, [], ◌∷◌, ◌++◌, All}
use Rattle.std.proofs.Common.{Option, None, Some, is_some, fold, refl, sym, ap, ◌∙◌, arith}
use Rattle.std.specs.Prelude.{IfSome, nat_eq}
use Rattle.std.specs.Map.{lookup}
use Rattle.std.specs.Str.{bytes_eq}
use Rattle.std.proofs.lemmas.Bool.Decides.{nat_tests}
use Rattle.std.proofs.lemmas.List.Elements.{All-nil, All-cons, All-append, All-head, All-tail}
use Rattle.std.proofs.lemmas.Slice.Eq.{bytes_eq-Decides}
use Rattle.om_lexer.specs.declared.fault.FaultCode.TheVariants as faults
use Rattle.om_parser_tree.specs.Formed.{IsFunction, IsItem}
use Rattle.om_pragma.specs.declared.clause.Name as names
use Rattle.om_parser_tree.specs.declared.tree.SignedNumber.{SignedNumber}
use Rattle.om_parser_tree.specs.Tree.{DeclaratorTree, HeadTree, FunctionTree, ItemTree, Declaration, Prototype, Function}
use Rattle.om_scope_tree.specs.ResolvedTree.{ResolvedFunctionTree}
use Rattle.om_scope_rules.specs.declared.names.Meaning.{Meaning}
use Rattle.om_scope_rules.specs.declared.names.Meaning.TheVariants as meanings
use Rattle.om_scope_rules.specs.declared.names.Signature.{Signature}
use Rattle.om_scope_rules.specs.Faults.{breach_if}
use Rattle.om_scope_rules.specs.Perhaps.{all_along}
use Rattle.om_scope_rules.specs.Scopes.{Binding, Scope, Scopes, is_declared, signature_of, signature_eq, with_function}
use Rattle.om_scope_rules.specs.Scopes.{after_global, after_globals, after_prototype, after_function, after_item}
use Rattle.om_scope_rules.specs.Scopes.{declarators_of}
use Rattle.om_scope_rules.specs.UnitResolution.{item_functions, resolved_function}
use Rattle.om_scope_rules.specs.UnitRules.{function_breaches, head_breaches, is_redeclared, is_other_main, item_breaches}
use Rattle.om_scope_rules.specs.UnitRules.{items_breaches}
use Rattle.om_scope_rules.proofs.Steps.{if_either, if_then}
use Rattle.om_scope_rules.proofs.Unbroken.{front, back, not_broken, not_false}

pub same_bytes : (name : List ℕ) → bytes_eq name name ≡ true
same_bytes name = (bytes_eq-Decides name name).1 refl

-- ---- look-ups in a scope that grows

pub lookup_front : (name : List ℕ) (b : Binding) (m : Meaning) (scope : Scope) → lookup (bytes_eq name) scope
    ≡ Some m → lookup (bytes_eq name) (scope ++ b ∷ []) ≡ Some m
lookup_front name b m [] e = cc
lookup_front name b m ((other, own) ∷ scope) e = by (bytes_eq name other) (lookup_front name b m scope) e
  where
    by : (test : Bool) → (lookup (bytes_eq name) scope ≡ Some m → lookup (bytes_eq name) (scope ++ b ∷ []) ≡ Some m)
        → cond test (Some own) (lookup (bytes_eq name) scope) ≡ Some m → cond test (Some own)
        (lookup (bytes_eq name) (scope ++ b ∷ [])) ≡ Some m
    by true rest e = e
    by false rest e = rest e

lookup_last : (name : List ℕ) (m : Meaning) (scope : Scope) → lookup (bytes_eq name) scope ≡ None
    → lookup (bytes_eq name) (scope ++ (name, m) ∷ []) ≡ Some m
lookup_last name m [] e = ap (λ test. cond test (Some m) None) (same_bytes name)
lookup_last name m ((other, own) ∷ scope) e = by (bytes_eq name other) (lookup_last name m scope) e
  where
    by : (test : Bool) → (lookup (bytes_eq name) scope ≡ None → lookup (bytes_eq name) (scope ++ (name, m) ∷ [])
        ≡ Some m)
        → cond test (Some own) (lookup (bytes_eq name) scope) ≡ None → cond test (Some own)
        (lookup (bytes_eq name) (scope ++ (name, m) ∷ [])) ≡ Some m
    by true rest e = cc
    by false rest e = rest e

-- what a name means in the innermost of these scopes
abbrev pub Means : Scopes → List ℕ → Meaning → Type 0
Means scopes name m = lookup (bytes_eq name) scopes.inner ≡ Some m

globals_keep : (ds : List (DeclaratorTree SignedNumber)) (scopes : Scopes) (name : List ℕ) (m : Meaning)
    → Means scopes name m
    → Means (after_globals scopes ds) name m
globals_keep [] scopes name m e = e
globals_keep (d ∷ ds) scopes name m e = globals_keep ds (after_global scopes d) name m
    (lookup_front name _ m scopes.inner e)

prototype_keeps : {N : Type 0} (scopes : Scopes) (head : HeadTree N) (name : List ℕ) (m : Meaning) → Means scopes name m
    → Means (after_prototype scopes head) name m
prototype_keeps scopes head name m e =
    if_either (λ behind. Means behind name m) (is_declared scopes head.name.text) scopes
    (with_function scopes head.name.text (signature_of head)) e (lookup_front name _ m scopes.inner e)

item_keeps : (scopes : Scopes) (item : ItemTree) (name : List ℕ) (m : Meaning) → Means scopes name m
    → Means (after_item scopes item) name m
item_keeps scopes (Declaration d) name m e = globals_keep (declarators_of d) scopes name m e
item_keeps scopes (Prototype head semicolon) name m e = prototype_keeps scopes head name m e
item_keeps scopes (Function f) name m e = prototype_keeps scopes f.head name m e

pub items_keep : (items : List ItemTree) (scopes : Scopes) (name : List ℕ) (m : Meaning) → Means scopes name m
    → Means (fold after_item scopes items) name m
items_keep [] scopes name m e = e
items_keep (item ∷ items) scopes name m e = items_keep items (after_item scopes item) name m
    (item_keeps scopes item name m e)

-- ---- what is the same at each place of the file

pub record AtFile (definitions : List (List ℕ)) (scopes : Scopes) : Type 0 where
  pub outer : scopes.outer ≡ []
  pub definitions_are : scopes.definitions ≡ definitions

at_globals : (definitions : List (List ℕ)) (ds : List (DeclaratorTree SignedNumber)) (scopes : Scopes)
    → AtFile definitions scopes
    → AtFile definitions (after_globals scopes ds)
at_globals definitions [] scopes h = h
at_globals definitions (d ∷ ds) scopes h = at_globals definitions ds (after_global scopes d)
    (record { outer = h.outer; definitions_are = h.definitions_are })

at_prototype : {N : Type 0} (definitions : List (List ℕ)) (scopes : Scopes) (head : HeadTree N)
    → AtFile definitions scopes
    → AtFile definitions (after_prototype scopes head)
at_prototype definitions scopes head h =
    if_either (AtFile definitions) (is_declared scopes head.name.text) scopes (with_function scopes head.name.text
    (signature_of head)) h (record { outer = h.outer; definitions_are = h.definitions_are })

pub at_function : (definitions : List (List ℕ)) (scopes : Scopes) (head : HeadTree names.Name)
    → AtFile definitions scopes
    → AtFile definitions (after_function scopes head)
at_function definitions scopes head h = let p = at_prototype definitions scopes head h in record
    { outer = p.outer; definitions_are = p.definitions_are }

at_item : (definitions : List (List ℕ)) (scopes : Scopes) (item : ItemTree) → AtFile definitions scopes
    → AtFile definitions (after_item scopes item)
at_item definitions scopes (Declaration d) h = at_globals definitions (declarators_of d) scopes h
at_item definitions scopes (Prototype head semicolon) h = at_prototype definitions scopes head h
at_item definitions scopes (Function f) h = at_function definitions scopes f.head h

-- ---- signatures

same_number : (a b : ℕ) → nat_eq a b ≡ true → a ≡ b
same_number a b e = grind (arith, nat_tests)

pub same_signature : (a b : Signature) → signature_eq a b ≡ true → a ≡ b
same_signature a b e = by a.returns b.returns a.parameters b.parameters e
  where
    by : (r s : Bool) (m n : ℕ) → ((if r then s else not s) && nat_eq m n) ≡ true → ◌≡◌ {A = Signature}
        (record { returns = r; parameters = m }) (record { returns = s; parameters = n })
    by true true m n e = ap {B = Signature} (λ k. record { returns = true; parameters = k }) (same_number m n e)
    by true false m n e = cc
    by false true m n e = cc
    by false false m n e = ap {B = Signature} (λ k. record { returns = false; parameters = k }) (same_number m n e)

-- behind its declaration a function's name means its signature
prototype_means : {N : Type 0} (scopes : Scopes) (head : HeadTree N) → head_breaches scopes head ≡ []
    → Means (after_prototype scopes head) head.name.text (meanings.Function (signature_of head))
prototype_means scopes head w =
    by (lookup (bytes_eq head.name.text) scopes.inner) refl
    (not_broken (is_redeclared (signature_of head) (lookup (bytes_eq head.name.text) scopes.inner))
    faults.Redeclared head.name.span.start
    (front _ (breach_if (is_other_main head.name.text (signature_of head)) faults.Misuse head.name.span.start) w))
  where
    by : (o : Option Meaning) → lookup (bytes_eq head.name.text) scopes.inner ≡ o
        → is_redeclared (signature_of head) o ≡ false
        → Means (cond (is_some o) scopes (with_function scopes head.name.text (signature_of head))) head.name.text
        (meanings.Function (signature_of head))
    by None e same = lookup_last head.name.text (meanings.Function (signature_of head)) scopes.inner e
    by (Some (meanings.Function earlier)) e same = e ∙ ap (λ s. Some (meanings.Function s))
        (same_signature earlier (signature_of head) (not_false (signature_eq earlier (signature_of head)) same))
    by (Some (meanings.Variable v shape)) e same = cc
    by (Some meanings.Printf) e same = cc

-- ---- what is true of each function

-- the functions of items, each in the scopes behind those before it, and those at the end of the file
module _ (P : ResolvedFunctionTree → Type 0) (definitions : List (List ℕ)) (final : Scopes)
    (one : (scopes : Scopes) (f : FunctionTree) (rest : List ItemTree) → AtFile definitions scopes → fold after_item
    (after_function scopes f.head) rest ≡ final
    → IsFunction f → function_breaches scopes f ≡ [] → IfSome (resolved_function scopes f) P) where
  of_item : (scopes : Scopes) (item : ItemTree) (rest : List ItemTree) → AtFile definitions scopes → fold after_item
      (after_item scopes item) rest ≡ final
      → IsItem item → item_breaches scopes item ≡ [] → IfSome (item_functions scopes item) (All P)
  unfolding item_functions IsItem
  of_item scopes (Declaration d) rest h e formed w = All-nil P
  of_item scopes (Prototype head semicolon) rest h e formed w = All-nil P
  of_item scopes (Function f) rest h e formed w =
      if_then P (All P) (resolved_function scopes f) _ (one scopes f rest h e formed w)
      (λ x hx. All-cons P x [] hx (All-nil P))

  pub of_items : (items : List ItemTree) (scopes : Scopes) → AtFile definitions scopes → fold after_item scopes
      items ≡ final
      → All IsItem items → items_breaches scopes items ≡ [] → IfSome (all_along item_functions after_item scopes
      items) (All P)
  of_items [] scopes h e formed w = All-nil P
  of_items (item ∷ items) scopes h e formed w =
      let own = item_breaches scopes item in
      let others = items_breaches (after_item scopes item) items in
      if_then (All P) (All P) (item_functions scopes item) _
      (of_item scopes item items h e (All-head IsItem item items formed) (front own others w)) (λ xs hxs.
      if_then (All P) (All P) (all_along item_functions after_item (after_item scopes item) items) _
      (of_items items (after_item scopes item) (at_item definitions scopes item h) e
      (All-tail IsItem item items formed) (back own others w)) (λ ys hys. All-append P xs ys hxs hys))

-- a function's name means its signature at the end of the file
pub function_means : (scopes : Scopes) (f : FunctionTree) (rest : List ItemTree) (final : Scopes) → fold after_item
    (after_function scopes f.head) rest ≡ final
    → head_breaches scopes f.head ≡ [] → Means final f.head.name.text (meanings.Function (signature_of f.head))
function_means scopes f rest final e w =
    ap (λ scopes. lookup (bytes_eq f.head.name.text) scopes.inner) (sym e)
    ∙ items_keep rest (after_function scopes f.head) f.head.name.text (meanings.Function (signature_of f.head))
    (prototype_means scopes f.head w)

-- The numbers of globals are the places of their names among those that are declared.
use Rattle.std.proofs.Common.{◌≡◌, ℕ, zero, suc, Bool, true, false, cond, List, [], ◌∷◌, ◌++◌, append_assoc, append-nil}
use Rattle.std.proofs.Common.{Some, fold, map, length, slice_get, refl, sym, ap, subst, ◌∙◌, arith, length-append}
use Rattle.std.specs.Prelude.{IfSome}
use Rattle.std.specs.List.{flat_map}
use Rattle.std.specs.Map.{lookup}
use Rattle.std.specs.Str.{bytes_eq}
use Rattle.std.proofs.lemmas.List.{map-append}
use Rattle.std.proofs.lemmas.Option.{slice_get-map}
use Rattle.std.proofs.lemmas.Slice.Eq.{bytes_eq-Decides}
use Rattle.om_parser_tree.specs.declared.tree.SignedNumber.{SignedNumber}
use Rattle.om_parser_tree.specs.Tree.{DeclaratorTree, HeadTree, ItemTree, Declaration, Prototype, Function}
use Rattle.om_scope_tree.specs.declared.resolved.GlobalVariable.{GlobalVariable}
use Rattle.om_scope_tree.specs.declared.resolved.Variable.TheVariants as variables
use Rattle.om_scope_rules.specs.declared.names.Meaning.{Meaning}
use Rattle.om_scope_rules.specs.declared.names.Meaning.TheVariants as meanings
use Rattle.om_scope_rules.specs.WholeLaws.{NumbersNameGlobals}
use Rattle.om_scope_rules.specs.Scopes.{Binding, Scope, Scopes, file_scope, definitions_of, meaning_of, meaning_outside}
use Rattle.om_scope_rules.specs.Scopes.{is_declared, shape_of, signature_of, with_function, after_global, after_globals}
use Rattle.om_scope_rules.specs.Scopes.{after_prototype, after_function, after_item, declarators_of}
use Rattle.om_scope_rules.specs.UnitResolution.{global_of, globals_of}
use Rattle.om_scope_rules.proofs.Steps.{if_either, if_first, if_given}

-- ---- places in a list that grows

pub slice_get-append : {X : Type 0} (xs ys : List X) (i : ℕ) (x : X) → slice_get xs i ≡ Some x
    → slice_get (xs ++ ys) i ≡ Some x
slice_get-append [] ys i x e = cc
slice_get-append (y ∷ xs) ys zero x e = e
slice_get-append (y ∷ xs) ys (suc i) x e = slice_get-append xs ys i x e

pub slice_get-last : {X : Type 0} (xs : List X) (x : X) → slice_get (xs ++ x ∷ []) (length xs) ≡ Some x
slice_get-last [] x = refl
slice_get-last (y ∷ xs) x = slice_get-last xs x

-- ---- scopes whose globals are numbered by the places of their names among these

abbrev Names : Type 0
Names = List (List ℕ)

abbrev MeansOne : Names → List ℕ → Meaning → Type 0
MeansOne globals name (meanings.Variable (variables.Global number) shape) = slice_get globals number ≡ Some name
MeansOne globals name (meanings.Variable (variables.Local at) shape) = Unit {0}
MeansOne globals name (meanings.Function signature) = Unit {0}
MeansOne globals name meanings.Printf = Unit {0}

abbrev AllMeanOne : Names → Scope → Type 0
AllMeanOne globals [] = Unit {0}
AllMeanOne globals (b ∷ bs) = MeansOne globals b.0 b.1 × AllMeanOne globals bs

record Numbered (globals : Names) (scopes : Scopes) : Type 0 where
  count : scopes.globals ≡ length globals
  inner : AllMeanOne globals scopes.inner
  outer : scopes.outer ≡ []

means_more : (globals further : Names) (name : List ℕ) (meaning : Meaning) → MeansOne globals name meaning
    → MeansOne (globals ++ further) name meaning
means_more globals further name (meanings.Variable (variables.Global number) shape) h = slice_get-append globals
    further number name h
means_more globals further name (meanings.Variable (variables.Local at) shape) h = tt
means_more globals further name (meanings.Function signature) h = tt
means_more globals further name meanings.Printf h = tt

mean_more : (globals further : Names) (scope : Scope) → AllMeanOne globals scope → AllMeanOne (globals ++ further) scope
mean_more globals further [] h = tt
mean_more globals further (b ∷ bs) h = (means_more globals further b.0 b.1 h.0, mean_more globals further bs h.1)

mean_push : (globals : Names) (scope : Scope) (b : Binding) → AllMeanOne globals scope → MeansOne globals b.0 b.1
    → AllMeanOne globals (scope ++ b ∷ [])
mean_push globals [] b h hb = (hb, tt)
mean_push globals (c ∷ cs) b h hb = (h.0, mean_push globals cs b h.1 hb)

-- ---- what a name means

lookup_means : (globals : Names) (name : List ℕ) (scope : Scope) → AllMeanOne globals scope
    → IfSome (lookup (bytes_eq name) scope) (MeansOne globals name)
lookup_means globals name [] h = tt
lookup_means globals name ((other, meaning) ∷ bs) h = by (bytes_eq name other) refl (lookup_means globals name bs h.1)
  where
    by : (test : Bool) → bytes_eq name other ≡ test → IfSome (lookup (bytes_eq name) bs) (MeansOne globals name)
        → IfSome (cond test (Some meaning) (lookup (bytes_eq name) bs)) (MeansOne globals name)
    by true same rest = subst (λ own. MeansOne globals own meaning) (sym ((bytes_eq-Decides name other).0 same)) h.0
    by false same rest = rest

means_one : (globals : Names) (scopes : Scopes) (name : List ℕ) → Numbered globals scopes
    → IfSome (meaning_of scopes name) (MeansOne globals name)
means_one globals scopes name h =
    if_first (MeansOne globals name) (lookup (bytes_eq name) scopes.inner) (meaning_outside scopes.outer name)
    (lookup_means globals name scopes.inner h.inner)
    (subst (λ outer. IfSome (meaning_outside outer name) (MeansOne globals name)) (sym h.outer) tt)

-- ---- declarations

numbered_function : {N : Type 0} (globals : Names) (scopes : Scopes) (head : HeadTree N) → Numbered globals scopes
    → Numbered globals (after_prototype scopes head)
numbered_function globals scopes head h =
    if_either (Numbered globals) (is_declared scopes head.name.text) scopes (with_function scopes head.name.text
    (signature_of head)) h
    (record {
      count = h.count;
      inner = mean_push globals scopes.inner (
        head.name.text,
        meanings.Function
            (signature_of head),
      ) h.inner tt;
      outer = h.outer;
    })

numbered_global : (globals : Names) (scopes : Scopes) (d : DeclaratorTree SignedNumber) → Numbered globals scopes
    → Numbered (globals ++ d.name.text ∷ []) (after_global scopes d)
numbered_global globals scopes d h = record {
  count = omega (arith, h.count, length-append globals (d.name.text ∷ []));
  inner = mean_push (globals ++ d.name.text ∷ []) scopes.inner
      (d.name.text, meanings.Variable (variables.Global scopes.globals) (shape_of d.array))
      (mean_more globals (d.name.text ∷ []) scopes.inner h.inner)
      (subst (λ number. slice_get (globals ++ d.name.text ∷ []) number ≡ Some d.name.text) (sym h.count)
      (slice_get-last globals d.name.text));
  outer = h.outer;
}

abbrev name_of : GlobalVariable → List ℕ
name_of variable = variable.name

numbered_globals : (ds : List (DeclaratorTree SignedNumber)) (globals : Names) (scopes : Scopes)
    → Numbered globals scopes
    → Numbered (globals ++ map name_of (map global_of ds)) (after_globals scopes ds)
numbered_globals [] globals scopes h = rw append-nil h
numbered_globals (d ∷ ds) globals scopes h =
    subst (λ all. Numbered all (after_globals scopes (d ∷ ds))) (append_assoc globals (d.name.text ∷ [])
    (map name_of (map global_of ds)))
    (numbered_globals ds (globals ++ d.name.text ∷ []) (after_global scopes d) (numbered_global globals scopes d h))

numbered_item : (globals : Names) (scopes : Scopes) (item : ItemTree) → Numbered globals scopes
    → Numbered (globals ++ map name_of (globals_of item)) (after_item scopes item)
numbered_item globals scopes (Declaration d) h = numbered_globals (declarators_of d) globals scopes h
numbered_item globals scopes (Prototype head semicolon) h = rw append-nil (numbered_function globals scopes head h)
numbered_item globals scopes (Function f) h =
    let p = numbered_function globals scopes f.head h in
    let behind : Numbered globals (after_function scopes f.head) = record {
      count = p.count;
      inner = p.inner;
      outer = p.outer;
    } in
    rw append-nil behind

numbered_items : (items : List ItemTree) (globals : Names) (scopes : Scopes) → Numbered globals scopes
    → Numbered (globals ++ map name_of (flat_map globals_of items)) (fold after_item scopes items)
numbered_items [] globals scopes h = rw append-nil h
numbered_items (item ∷ items) globals scopes h =
    subst (λ all. Numbered all (fold after_item scopes (item ∷ items)))
    (append_assoc globals (map name_of (globals_of item)) (map name_of (flat_map globals_of items))
    ∙ ap (λ own. globals ++ own) (sym (map-append name_of (globals_of item) (flat_map globals_of items))))
    (numbered_items items (globals ++ map name_of (globals_of item)) (after_item scopes item)
    (numbered_item globals scopes item h))

pub numbers_name_globals : NumbersNameGlobals
numbers_name_globals items name number shape e =
    let start : Numbered [] (file_scope (definitions_of items)) = record
    { count = refl; inner = (tt, (tt, (tt, tt))); outer = refl } in
    let all = numbered_items items [] (file_scope (definitions_of items)) start in
    let own = if_given (MeansOne (map name_of (flat_map globals_of items)) name)
    (meaning_of (fold after_item (file_scope (definitions_of items)) items) name)
    (meanings.Variable (variables.Global number) shape)
    (means_one (map name_of (flat_map globals_of items)) (fold after_item (file_scope (definitions_of items)) items)
    name all) e in
    sym (slice_get-map name_of (flat_map globals_of items) number) ∙ own

-- A source without a breach sees its names, but for what its regions take.
use Rattle.std.proofs.Common.{◌≡◌, ℕ, Bool, true, false, List, [], ◌∷◌, ◌++◌, ◌+◌, Option, None, Some, refl, sym}
use Rattle.std.proofs.Common.{append_assoc, append-nil, ap, arith, bytes_eq, flat_map, length, length-append, map}
use Rattle.std.proofs.Common.{subst, ◌∙◌}
use Rattle.std.specs.Prelude.{All, IfSome, codes, option_map, if◌then◌else◌}
use Rattle.std.specs.Map.{lookup}
use Rattle.std.specs.Option.{option_or}
use Rattle.std.proofs.lemmas.List.Elements.{All-nil, All-cons, All-append, All-head, All-tail}
use Rattle.om_lexer.specs.declared.fault.FaultCode.TheVariants as faults
use Rattle.om_parser_tree.specs.declared.tree.Parameter.{Parameter}
use Rattle.om_parser_tree.specs.declared.tree.SignedNumber.{SignedNumber}
use Rattle.om_parser_tree.specs.Formed.{IsFunction, IsItem, IsUnit}
use Rattle.om_parser_tree.specs.Tree.{DeclaratorTree, FunctionTree, HeadTree, ItemTree, Declaration, Prototype}
use Rattle.om_parser_tree.specs.Tree.{Function}
use Rattle.om_parser_tree.specs.Tree.{statements}
use Rattle.om_pragma.specs.declared.clause.Name as names
use Rattle.om_scope_tree.specs.declared.resolved.GlobalVariable.{GlobalVariable}
use Rattle.om_scope_tree.specs.declared.resolved.Shape.TheVariants as shapes
use Rattle.om_scope_tree.specs.declared.resolved.Variable.TheVariants as named
use Rattle.om_scope_tree.specs.ResolvedTree.{ResolvedFunctionTree}
use Rattle.om_scope_rules.specs.declared.names.Meaning.{Meaning}
use Rattle.om_scope_rules.specs.declared.names.Meaning.TheVariants as meanings
use Rattle.om_scope_rules.specs.declared.names.Signature.{Signature}
use Rattle.om_scope_rules.specs.Breaches.{breaches_of, main_breaches, rule_breaches}
use Rattle.om_scope_rules.specs.Faults.{breaches_along}
use Rattle.om_scope_rules.specs.Perhaps.{◌>>=◌, all_along}
use Rattle.om_scope_rules.specs.Resolution.{variable_of}
use Rattle.om_scope_rules.specs.Scopes.{Binding, Scopes, after_function, after_global, after_globals, after_item, asks}
use Rattle.om_scope_rules.specs.Scopes.{after_parameter, after_parameters, after_prototype, declarators_of}
use Rattle.om_scope_rules.specs.Scopes.{definitions_of}
use Rattle.om_scope_rules.specs.Scopes.{file_scope, inside, is_declared, meaning_outside, parameters_of}
use Rattle.om_scope_rules.specs.Scopes.{shape_of, signature_of, with_function}
use Rattle.om_scope_rules.specs.StatementRules.{redeclared_breaches, statements_breaches}
use Rattle.om_scope_rules.specs.UnitResolution.{global_of, globals_of, item_functions}
use Rattle.om_scope_rules.specs.UnitResolution.{parameter_variable, resolution_of, resolved_function, resolved_inside}
use Rattle.om_scope_rules.specs.UnitRules.{body_breaches, definition_breaches, flow_of, function_breaches}
use Rattle.om_scope_rules.specs.UnitRules.{item_breaches}
use Rattle.om_scope_rules.specs.UnitRules.{items_breaches, next_parameter, parameter_breaches, parameters_breaches}
use Rattle.om_name_laws.specs.Sees.{FunctionSees, IsSeenAs, ItemsSee, Known, global_as, known_scalar}
use Rattle.om_name_laws.specs.Sees.{with_parameters}
use Rattle.om_parser_tree.specs.Tree.{UnitTree}
use Rattle.om_scope_tree.specs.ResolvedTree.{ResolvedTree}
use Rattle.om_name_laws.proofs.Known.{Anything}
use Rattle.om_name_laws.proofs.Naming.{Knows, knows_local, lookup_last}
use Rattle.om_name_laws.proofs.SourcesSee.{items_see}
use Rattle.om_name_laws.proofs.Steps.{back, front, if_either, if_then, not_broken}

-- ---- the first global of a name

global_kept : (name : List ℕ) (gs hs : List GlobalVariable) (n : ℕ) → global_as name gs ≡ Some n
    → global_as name (gs ++ hs) ≡ Some n
global_kept name [] hs n e = absurd cc
global_kept name (g ∷ gs) hs n e = first (bytes_eq name g.name) e (global_kept name gs hs)
  where
    next : (o p : Option ℕ) → ((n : ℕ) → o ≡ Some n → p ≡ Some n) → (n : ℕ)
        → option_map (λ k. k + 1) o ≡ Some n → option_map (λ k. k + 1) p ≡ Some n
    next None p keep n e = absurd cc
    next (Some k) p keep n e = ap (λ z. option_map (λ k. k + 1) z) (keep k refl) ∙ e

    first : (b : Bool) → (if b then Some 0 else option_map (λ k. k + 1) (global_as name gs)) ≡ Some n
        → ((n : ℕ) → global_as name gs ≡ Some n → global_as name (gs ++ hs) ≡ Some n)
        → (if b then Some 0 else option_map (λ k. k + 1) (global_as name (gs ++ hs))) ≡ Some n
    first true e keep = e
    first false e keep = next (global_as name gs) (global_as name (gs ++ hs)) keep n e

none_before : (o : Option ℕ) → option_map (λ k. k + 1) o ≡ None → o ≡ None
none_before None e = refl
none_before (Some k) e = absurd cc

-- a further one
global_last : (name : List ℕ) (gs : List GlobalVariable) (g : GlobalVariable) → global_as name gs ≡ None
    → global_as name (gs ++ g ∷ []) ≡ (if bytes_eq name g.name then Some (length gs) else None)
global_last name [] g e = same (bytes_eq name g.name)
  where
    same : (b : Bool) → ◌≡◌ {A = Option ℕ} (if b then Some 0 else None) (if b then Some 0 else None)
    same true = refl
    same false = refl
global_last name (h ∷ gs) g e = first (bytes_eq name h.name) e (global_last name gs g)
  where
    next : (b : Bool) → option_map (λ k. k + 1) (if b then Some (length gs) else None)
        ≡ (if b then Some (length (h ∷ gs)) else None)
    next true = let long : length gs + 1 ≡ length (h ∷ gs) = omega arith in ap (λ k. Some k) long
    next false = refl

    first : (b : Bool) → (if b then Some 0 else option_map (λ k. k + 1) (global_as name gs)) ≡ None
        → (global_as name gs ≡ None
        → global_as name (gs ++ g ∷ []) ≡ (if bytes_eq name g.name then Some (length gs) else None))
        → (if b then Some 0 else option_map (λ k. k + 1) (global_as name (gs ++ g ∷ [])))
        ≡ (if bytes_eq name g.name then Some (length (h ∷ gs)) else None)
    first true e rest = absurd cc
    first false e rest =
        ap (λ z. option_map (λ k. k + 1) z) (rest (none_before (global_as name gs) e)) ∙ next (bytes_eq name g.name)

-- ---- at file scope

-- what a name means where these globals are declared
abbrev FileMeaning : List GlobalVariable → List ℕ → Meaning → Type 0
FileMeaning gs name (meanings.Variable (named.Global n) shape) = global_as name gs ≡ Some n
FileMeaning gs name (meanings.Variable (named.Local at) shape) = ⊥
FileMeaning gs name (meanings.Function signature) = Unit {0}
FileMeaning gs name meanings.Printf = Unit {0}

record FileKnows (gs : List GlobalVariable) (scopes : Scopes) : Type 0 where
  pub outer : scopes.outer ≡ []
  pub count : scopes.globals ≡ length gs
  pub means : (name : List ℕ) → IfSome (lookup (bytes_eq name) scopes.inner) (FileMeaning gs name)
  pub declared : (name : List ℕ) → lookup (bytes_eq name) scopes.inner ≡ None → global_as name gs ≡ None

meaning_kept : (gs hs : List GlobalVariable) (name : List ℕ) (m : Meaning) → FileMeaning gs name m
    → FileMeaning (gs ++ hs) name m
meaning_kept gs hs name (meanings.Variable (named.Global n) shape) h = global_kept name gs hs n h
meaning_kept gs hs name (meanings.Variable (named.Local at) shape) h = h
meaning_kept gs hs name (meanings.Function signature) h = tt
meaning_kept gs hs name meanings.Printf h = tt

file_global : (gs : List GlobalVariable) (scopes : Scopes) (d : DeclaratorTree SignedNumber) → FileKnows gs scopes
    → FileKnows (gs ++ global_of d ∷ []) (after_global scopes d)
file_global gs scopes d h =
    let all = gs ++ global_of d ∷ [] in
    let b : Binding = (d.name.text, meanings.Variable (named.Global scopes.globals) (shape_of d.array)) in
    let count = h.count in
    let long = length-append gs (global_of d ∷ []) in
    record {
      outer = h.outer;
      count = omega (arith, count, long);
      means = λ name.
          subst (λ (o : Option Meaning). IfSome o (FileMeaning all name)) (sym (lookup_last name scopes.inner b))
          (means name (lookup (bytes_eq name) scopes.inner) refl (h.means name) (bytes_eq name d.name.text) refl);
      declared = λ name e.
          declared name (lookup (bytes_eq name) scopes.inner) refl (bytes_eq name d.name.text) refl
          (sym (lookup_last name scopes.inner b) ∙ e);
    }
  where
    own : (name : List ℕ) → lookup (bytes_eq name) scopes.inner ≡ None
        → global_as name (gs ++ global_of d ∷ []) ≡ (if bytes_eq name d.name.text then Some (length gs) else None)
    own name e = global_last name gs (global_of d) (h.declared name e)

    means : (name : List ℕ) (o : Option Meaning) → lookup (bytes_eq name) scopes.inner ≡ o
        → IfSome o (FileMeaning gs name) → (t : Bool) → bytes_eq name d.name.text ≡ t
        → IfSome (option_or o (if t then Some (meanings.Variable (named.Global scopes.globals) (shape_of d.array))
        else None)) (FileMeaning (gs ++ global_of d ∷ []) name)
    means name (Some m) e f t same = meaning_kept gs (global_of d ∷ []) name m f
    means name None e f true same =
        own name e ∙ ap (λ (b : Bool). if b then Some (length gs) else None) same ∙ ap (λ n. Some n) (sym h.count)
    means name None e f false same = tt

    declared : (name : List ℕ) (o : Option Meaning) → lookup (bytes_eq name) scopes.inner ≡ o → (t : Bool)
        → bytes_eq name d.name.text ≡ t
        → option_or o (if t then Some (meanings.Variable (named.Global scopes.globals) (shape_of d.array)) else None)
        ≡ None → global_as name (gs ++ global_of d ∷ []) ≡ None
    declared name (Some m) e t same none = absurd cc
    declared name None e true same none = absurd cc
    declared name None e false same none =
        own name e ∙ ap (λ (b : Bool). if b then Some (length gs) else None) same

file_globals : (ds : List (DeclaratorTree SignedNumber)) (gs : List GlobalVariable) (scopes : Scopes)
    → FileKnows gs scopes → FileKnows (gs ++ map global_of ds) (after_globals scopes ds)
file_globals [] gs scopes h = subst (λ z. FileKnows z scopes) (sym (append-nil gs)) h
file_globals (d ∷ ds) gs scopes h =
    subst (λ z. FileKnows z (after_globals scopes (d ∷ ds))) (append_assoc gs (global_of d ∷ []) (map global_of ds))
    (file_globals ds (gs ++ global_of d ∷ []) (after_global scopes d) (file_global gs scopes d h))

file_named : (gs : List GlobalVariable) (scopes : Scopes) (text : List ℕ) (signature : Signature) → FileKnows gs scopes
    → FileKnows gs (with_function scopes text signature)
file_named gs scopes text signature h =
    let b : Binding = (text, meanings.Function signature) in
    record {
      outer = h.outer;
      count = h.count;
      means = λ name.
          subst (λ (o : Option Meaning). IfSome o (FileMeaning gs name)) (sym (lookup_last name scopes.inner b))
          (means name (lookup (bytes_eq name) scopes.inner) (h.means name) (bytes_eq name text));
      declared = λ name e. h.declared name (none (lookup (bytes_eq name) scopes.inner)
          (if bytes_eq name text then Some (meanings.Function signature) else None)
          (sym (lookup_last name scopes.inner b) ∙ e));
    }
  where
    means : (name : List ℕ) (o : Option Meaning) → IfSome o (FileMeaning gs name) → (t : Bool)
        → IfSome (option_or o (if t then Some (meanings.Function signature) else None)) (FileMeaning gs name)
    means name (Some m) f t = f
    means name None f true = tt
    means name None f false = tt

    none : (o p : Option Meaning) → option_or o p ≡ None → o ≡ None
    none None p e = refl
    none (Some m) p e = absurd cc

file_prototype : {N : Type 0} (gs : List GlobalVariable) (scopes : Scopes) (head : HeadTree N) → FileKnows gs scopes
    → FileKnows gs (after_prototype scopes head)
file_prototype gs scopes head h =
    if_either (FileKnows gs) (is_declared scopes head.name.text) scopes
    (with_function scopes head.name.text (signature_of head)) h
    (file_named gs scopes head.name.text (signature_of head) h)

file_function : (gs : List GlobalVariable) (scopes : Scopes) (head : HeadTree names.Name) → FileKnows gs scopes
    → FileKnows gs (after_function scopes head)
file_function gs scopes head h =
    let p = file_prototype gs scopes head h in
    record { outer = p.outer; count = p.count; means = p.means; declared = p.declared }

file_item : (gs : List GlobalVariable) (scopes : Scopes) (item : ItemTree) → FileKnows gs scopes
    → FileKnows (gs ++ globals_of item) (after_item scopes item)
file_item gs scopes (Declaration d) h = file_globals (declarators_of d) gs scopes h
file_item gs scopes (Prototype head semicolon) h =
    subst (λ z. FileKnows z (after_prototype scopes head)) (sym (append-nil gs)) (file_prototype gs scopes head h)
file_item gs scopes (Function f) h =
    subst (λ z. FileKnows z (after_function scopes f.head)) (sym (append-nil gs)) (file_function gs scopes f.head h)

-- ---- functions

knows_file : (gs hs : List GlobalVariable) (scopes : Scopes) → FileKnows gs scopes → Knows (gs ++ hs) [] scopes
knows_file gs hs scopes h name =
    subst (λ outer. IfSome (variable_of (option_or (lookup (bytes_eq name) scopes.inner) (meaning_outside outer name)))
    (IsSeenAs (gs ++ hs) [] name)) (sym h.outer) (by (lookup (bytes_eq name) scopes.inner) (h.means name))
  where
    by : (o : Option Meaning) → IfSome o (FileMeaning gs name)
        → IfSome (variable_of (option_or o None)) (IsSeenAs (gs ++ hs) [] name)
    by None f = tt
    by (Some (meanings.Variable (named.Global n) shape)) f = (global_kept name gs hs n f, refl)
    by (Some (meanings.Variable (named.Local at) shape)) f = absurd f
    by (Some (meanings.Function signature)) f = tt
    by (Some meanings.Printf) f = tt

knows_parameters : (globals : List GlobalVariable) (ps : List (Parameter names.Name)) (before : ℕ) (ks : List Known)
    (scopes : Scopes) → Knows globals ks scopes
    → breaches_along parameter_breaches next_parameter (before, scopes) ps ≡ []
    → Knows globals (with_parameters ks (map parameter_variable ps)) (after_parameters scopes ps)
knows_parameters globals [] before ks scopes h w = h
knows_parameters globals (p ∷ ps) before ks scopes h w =
    let own = front (parameter_breaches (before, scopes) p) (breaches_along parameter_breaches next_parameter
    (next_parameter (before, scopes) p) ps) w in
    let fresh = not_broken (is_declared scopes p.name.text) faults.Redeclared p.name.span.start
    (back _ (redeclared_breaches scopes p.name) own) in
    knows_parameters globals ps (before + 1) (known_scalar (parameter_variable p) ∷ ks) (after_parameter scopes p)
    (knows_local globals ks scopes p.name shapes.Scalar None fresh h)
    (back (parameter_breaches (before, scopes) p) (breaches_along parameter_breaches next_parameter
    (next_parameter (before, scopes) p) ps) w)

function_sees : (gs hs : List GlobalVariable) (scopes : Scopes) (f : FunctionTree) → FileKnows gs scopes → IsFunction f
    → function_breaches scopes f ≡ [] → IfSome (resolved_function scopes f) (FunctionSees Anything (gs ++ hs))
unfolding resolved_function IsFunction
function_sees gs hs scopes f h formed w =
    let behind = after_function scopes f.head in
    let ps = parameters_of f.head.parameters in
    let body = back (definition_breaches scopes f.head) (body_breaches behind f) w in
    let listed = parameters_breaches (inside behind) ps in
    let items = statements_breaches (after_parameters (inside behind) ps) (flow_of f.head) (statements f.body.items) in
    let all = gs ++ hs in
    let known = knows_parameters all ps 0 [] (inside behind)
    (knows_file gs hs behind (file_function gs scopes f.head h)) (front listed items body) in
    if_then (ItemsSee Anything all (with_parameters [] (map parameter_variable ps))) (FunctionSees Anything all)
    (resolved_inside behind f) _
    (items_see all (with_parameters [] (map parameter_variable ps)) (after_parameters (inside behind) ps)
    (flow_of f.head) None (statements f.body.items) known formed (back listed items body)) (λ b hb. hb)

item_sees : (gs hs : List GlobalVariable) (scopes : Scopes) (item : ItemTree) → FileKnows gs scopes → IsItem item
    → item_breaches scopes item ≡ [] → IfSome (item_functions scopes item) (All (FunctionSees Anything (gs ++ hs)))
unfolding item_functions IsItem
item_sees gs hs scopes (Declaration d) h formed w = All-nil (FunctionSees Anything (gs ++ hs))
item_sees gs hs scopes (Prototype head semicolon) h formed w = All-nil (FunctionSees Anything (gs ++ hs))
item_sees gs hs scopes (Function f) h formed w =
    if_then (FunctionSees Anything (gs ++ hs)) (All (FunctionSees Anything (gs ++ hs))) (resolved_function scopes f) _
    (function_sees gs hs scopes f h formed w)
    (λ x hx. All-cons (FunctionSees Anything (gs ++ hs)) x [] hx (All-nil (FunctionSees Anything (gs ++ hs))))

items_of_file : (items : List ItemTree) (gs : List GlobalVariable) (scopes : Scopes) → FileKnows gs scopes
    → All IsItem items → items_breaches scopes items ≡ []
    → IfSome (all_along item_functions after_item scopes items)
    (All (FunctionSees Anything (gs ++ flat_map globals_of items)))
items_of_file [] gs scopes h formed w = All-nil (FunctionSees Anything (gs ++ []))
items_of_file (item ∷ items) gs scopes h formed w =
    let all = gs ++ (globals_of item ++ flat_map globals_of items) in
    let own = item_breaches scopes item in
    let others = items_breaches (after_item scopes item) items in
    if_then (All (FunctionSees Anything all)) (All (FunctionSees Anything all)) (item_functions scopes item) _
    (item_sees gs (globals_of item ++ flat_map globals_of items) scopes item h (All-head IsItem item items formed)
    (front own others w)) (λ xs hxs.
    if_then (All (FunctionSees Anything all)) (All (FunctionSees Anything all)) (all_along item_functions after_item
    (after_item scopes item) items) _
    (subst (λ z. IfSome (all_along item_functions after_item (after_item scopes item) items)
    (All (FunctionSees Anything z)))
    (append_assoc gs (globals_of item) (flat_map globals_of items))
    (items_of_file items (gs ++ globals_of item) (after_item scopes item) (file_item gs scopes item h)
    (All-tail IsItem item items formed) (back own others w)))
    (λ ys hys. All-append (FunctionSees Anything all) xs ys hxs hys))

-- ---- a whole source

file_begins : (definitions : List (List ℕ)) → FileKnows [] (file_scope definitions)
file_begins definitions = record {
  outer = refl;
  count = refl;
  means = λ name. means name;
  declared = λ name e. refl;
}
  where
    means : (name : List ℕ) → IfSome (lookup (bytes_eq name) (file_scope definitions).inner) (FileMeaning [] name)
    means name =
        if_either (λ o. IfSome o (FileMeaning [] name)) (bytes_eq name (codes "printf")) (Some meanings.Printf) _ tt
        (if_either (λ o. IfSome o (FileMeaning [] name)) (bytes_eq name (codes "omp_get_thread_num"))
        (Some (meanings.Function asks)) _ tt
        (if_either (λ o. IfSome o (FileMeaning [] name)) (bytes_eq name (codes "omp_get_num_threads"))
        (Some (meanings.Function asks)) None tt tt))

-- nothing is asked yet of what its regions take
abbrev pub SeesMost : ResolvedTree → Type 0
SeesMost tree = All (FunctionSees Anything tree.globals) tree.functions

pub sources_see_most : (unit : UnitTree) (tree : ResolvedTree) → IsUnit unit → breaches_of unit ≡ []
    → resolution_of unit ≡ Some tree → SeesMost tree
unfolding breaches_of resolution_of IsUnit
sources_see_most unit tree formed none e =
    let scopes = file_scope (definitions_of unit.items) in
    let rules = front (rule_breaches unit) (main_breaches unit) none in
    by (all_along item_functions after_item scopes unit.items)
    (items_of_file unit.items [] scopes (file_begins (definitions_of unit.items)) formed rules) e
  where
    by : (o : Option (List ResolvedFunctionTree)) → IfSome o
        (All (FunctionSees Anything (flat_map globals_of unit.items)))
        → (o >>= λ functions. Some (record { globals = flat_map globals_of unit.items; functions = functions }))
        ≡ Some tree → SeesMost tree
    by None h e = absurd cc
    by (Some functions) h e =
        let same : record { globals = flat_map globals_of unit.items; functions = functions } ≡ tree = cc e in
        subst SeesMost same h

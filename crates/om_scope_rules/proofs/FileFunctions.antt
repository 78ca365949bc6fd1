-- The functions of a source: their names are those that it defines, each means the function's signature, and
-- `main` is alone.
use Rattle.std.proofs.Common.{◌≡◌, ℕ, zero, suc, ◌-◌, ◌<◌, ◌≤◌, Bool, true, false, cond, not, ◌&&◌, List, [], ◌∷◌, ◌++◌}
use Rattle.std.proofs.Common.{append_assoc, append-nil, All, Option, None, Some, option_map, codes, fold, get_or, map}
use Rattle.std.proofs.Common.{length, slice_get, refl, sym, ap, subst, ◌∙◌, arith}
use Rattle.std.specs.Prelude.{IfSome, IsSomeAnd, position}
use Rattle.std.specs.Bool.{one_answer}
use Rattle.std.specs.Cmp.{IsEquivalence}
use Rattle.std.specs.List.{AllByRecursion, IsDistinct, list_any}
use Rattle.std.specs.Map.{lookup}
use Rattle.std.specs.Str.{bytes_eq}
use Rattle.std.proofs.lemmas.List.{length-map, map-append}
use Rattle.std.proofs.lemmas.List.Elements.{All-get_or}
use Rattle.std.proofs.lemmas.List.Quantifiers.{position-Some}
use Rattle.std.proofs.lemmas.Map.Keys.{IsDistinct-push, IsDistinct-tail}
use Rattle.std.proofs.lemmas.Option.{slice_get-map, slice_get-get_or, slice_get_within, get_or_from_slice_get}
use Rattle.std.proofs.lemmas.Slice.Eq.{bytes_eq-Decides}
use Rattle.om_lexer.specs.declared.fault.FaultCode.TheVariants as faults
use Rattle.om_parser_tree.specs.Formed.{IsFunction}
use Rattle.om_parser_tree.specs.Tree.{FunctionTree, ItemTree, Declaration, Prototype, Function}
use Rattle.om_scope_tree.specs.ResolvedTree.{ResolvedFunctionTree}
use Rattle.om_scope_tree.specs.Whole.{IsMain, is_main, same_name}
use Rattle.om_scope_rules.specs.declared.names.Meaning.TheVariants as meanings
use Rattle.om_scope_rules.specs.declared.names.Signature.{Signature}
use Rattle.om_scope_rules.specs.Faults.{breach_if}
use Rattle.om_scope_rules.specs.Knowing.{IsCallee, IsDefinition}
use Rattle.om_scope_rules.specs.Perhaps.{all_along}
use Rattle.om_scope_rules.specs.Scopes.{Scopes, asks, after_definition, after_function, after_item, declarators_of}
use Rattle.om_scope_rules.specs.Scopes.{definitions_of, file_scope, parameters_of, predeclared, returns_value, signature_eq}
use Rattle.om_scope_rules.specs.Scopes.{signature_of, with_name}
use Rattle.om_scope_rules.specs.UnitResolution.{item_functions, parameter_variable, resolved_function}
use Rattle.om_scope_rules.specs.UnitResolution.{resolved_inside}
use Rattle.om_scope_rules.specs.UnitRules.{body_breaches, definition_breaches, function_breaches, head_breaches}
use Rattle.om_scope_rules.specs.UnitRules.{is_other_main, is_redeclared, item_breaches, items_breaches}
use Rattle.om_scope_rules.proofs.FileScopes.{AtFile, Means, function_means, same_bytes, same_signature}
use Rattle.om_scope_rules.proofs.KeptLimits.{globals_defined, prototype_defined}
use Rattle.om_scope_rules.proofs.Steps.{if_any, if_then}
use Rattle.om_scope_rules.proofs.Unbroken.{back, front, not_broken, not_false}
use Rattle.om_scope_rules.proofs.Uses.{function_name as resolved_name}

-- ---- signatures

abbrev pub own_signature : ResolvedFunctionTree → Signature
own_signature x = record { returns = x.returns; parameters = length x.parameters }

-- its name means its signature at the end of the file
abbrev pub IsSigned : Scopes → ResolvedFunctionTree → Type 0
IsSigned final x = Means final x.name (meanings.Function (own_signature x))

head_unbroken : (scopes : Scopes) (f : FunctionTree) → function_breaches scopes f ≡ [] → head_breaches scopes f.head
    ≡ []
head_unbroken scopes f w =
    back _ (head_breaches scopes f.head) (front (definition_breaches scopes f.head)
    (body_breaches (after_function scopes f.head) f) w)

pub signed : (definitions : List (List ℕ)) (final scopes : Scopes) (f : FunctionTree) (rest : List ItemTree)
    → AtFile definitions scopes
    → fold after_item (after_function scopes f.head) rest ≡ final → IsFunction f → function_breaches scopes f ≡ []
    → IfSome (resolved_function scopes f) (IsSigned final)
unfolding resolved_function IsFunction
signed definitions final scopes f rest h e formed w =
    let own = resolved_inside (after_function scopes f.head) f in
    if_then (λ body. Unit {0}) (IsSigned final) own _ (if_any own) (λ body u.
    function_means scopes f rest final e (head_unbroken scopes f w)
    ∙ ap (λ n. Some (meanings.Function (record { returns = returns_value f.head.result; parameters = n })))
    (sym (length-map (parameters_of f.head.parameters) parameter_variable)))

-- ---- `main`

-- `main` has no parameters and returns an `int`
abbrev pub IsOwnMain : ResolvedFunctionTree → Type 0
IsOwnMain x = is_main x ≡ true → IsMain x

none_there : {X : Type 0} (xs : List X) → length xs ≡ 0 → xs ≡ []
none_there [] e = refl
none_there (x ∷ xs) e = absurd (omega (arith, e))

pub own_main : (definitions : List (List ℕ)) (final scopes : Scopes) (f : FunctionTree) (rest : List ItemTree)
    → AtFile definitions scopes
    → fold after_item (after_function scopes f.head) rest ≡ final → IsFunction f → function_breaches scopes f ≡ []
    → IfSome (resolved_function scopes f) IsOwnMain
unfolding resolved_function IsFunction
own_main definitions final scopes f rest h e formed w =
    let own = resolved_inside (after_function scopes f.head) f in
    let many = breach_if (is_redeclared (signature_of f.head) (lookup (bytes_eq f.head.name.text) scopes.inner))
    faults.Redeclared f.head.name.span.start in
    let other = not_broken (is_other_main f.head.name.text (signature_of f.head)) faults.Misuse
    f.head.name.span.start (back many _ (head_unbroken scopes f w)) in
    if_then (λ body. Unit {0}) IsOwnMain own _ (if_any own) (λ body u is.
    let same : signature_of f.head ≡ asks = same_signature (signature_of f.head) asks
    (by (bytes_eq f.head.name.text (codes "main")) (signature_eq (signature_of f.head) asks) is other) in
    let few : length (parameters_of f.head.parameters) ≡ 0 = ap (λ s. s.parameters) same in
    record {
      named = is;
      parameters = none_there (map parameter_variable (parameters_of f.head.parameters))
          (length-map (parameters_of f.head.parameters) parameter_variable ∙ few);
      returns = ap (λ s. s.returns) same;
    })
  where
    by : (named plain : Bool) → named ≡ true → (named && not plain) ≡ false → plain ≡ true
    by true plain is other = not_false plain other
    by false plain is other = cc

-- ---- names

abbrev pub function_name : ResolvedFunctionTree → List ℕ
function_name x = x.name

one_further : (names : List (List ℕ)) (name : List ℕ) → list_any (bytes_eq name) names ≡ false → with_name names
    name ≡ names ++ name ∷ []
one_further names name new = by (list_any (bytes_eq name) names) new
  where
    by : (test : Bool) → test ≡ false → cond test names (names ++ name ∷ []) ≡ names ++ name ∷ []
    by true e = cc
    by false e = refl

-- what an item defines stands behind what was defined before
abbrev Defines : Scopes → ItemTree → List ResolvedFunctionTree → Type 0
Defines scopes item xs = (after_item scopes item).defined ≡ scopes.defined ++ map function_name xs

item_defines : (scopes : Scopes) (item : ItemTree) → item_breaches scopes item ≡ []
    → IfSome (item_functions scopes item) (Defines scopes item)
unfolding item_functions
item_defines scopes (Declaration d) w = globals_defined (declarators_of d) scopes ∙ sym (append-nil scopes.defined)
item_defines scopes (Prototype head semicolon) w = prototype_defined scopes head ∙ sym (append-nil scopes.defined)
item_defines scopes (Function f) w =
    let again = breach_if (list_any (bytes_eq f.head.name.text) scopes.defined) faults.Redeclared
    f.head.name.span.start in
    let both = front _ (head_breaches scopes f.head) (front (definition_breaches scopes f.head)
    (body_breaches (after_function scopes f.head) f) w) in
    let new = not_broken (list_any (bytes_eq f.head.name.text) scopes.defined) faults.Redeclared
    f.head.name.span.start (back _ again both) in
    let whole : (after_function scopes f.head).defined ≡ scopes.defined ++ f.head.name.text ∷ [] =
    ap (λ names. with_name names f.head.name.text) (prototype_defined scopes f.head) ∙ one_further scopes.defined
    f.head.name.text new in
    if_then (λ x. x.name ≡ f.head.name.text) (Defines scopes (Function f)) (resolved_function scopes f) _
    (resolved_name scopes f) (λ x same.
    whole ∙ ap (λ name. scopes.defined ++ name ∷ []) (sym same))

behind_item : (scopes : Scopes) (item : ItemTree) → (after_item scopes item).defined ≡ after_definition
    scopes.defined item
behind_item scopes (Declaration d) = globals_defined (declarators_of d) scopes
behind_item scopes (Prototype head semicolon) = prototype_defined scopes head
behind_item scopes (Function f) = ap (λ names. with_name names f.head.name.text) (prototype_defined scopes f.head)

-- all that items define
abbrev DefineAll : Scopes → List ItemTree → List ResolvedFunctionTree → Type 0
DefineAll scopes items xs = fold after_definition scopes.defined items ≡ scopes.defined ++ map function_name xs

items_define : (items : List ItemTree) (scopes : Scopes) → items_breaches scopes items ≡ []
    → IfSome (all_along item_functions after_item scopes items) (DefineAll scopes items)
items_define [] scopes w = sym (append-nil scopes.defined)
items_define (item ∷ items) scopes w =
    let own = item_breaches scopes item in
    let others = items_breaches (after_item scopes item) items in
    if_then (Defines scopes item) (DefineAll scopes (item ∷ items)) (item_functions scopes item) _
    (item_defines scopes item (front own others w)) (λ xs hxs.
    if_then (DefineAll (after_item scopes item) items) (DefineAll scopes (item ∷ items))
    (all_along item_functions after_item (after_item scopes item) items) _
    (items_define items (after_item scopes item) (back own others w)) (λ ys hys.
    ap (λ names. fold after_definition names items) (sym (behind_item scopes item)) ∙ hys
    ∙ ap (λ names. names ++ map function_name ys) hxs
    ∙ append_assoc scopes.defined (map function_name xs) (map function_name ys)
    ∙ ap (λ names. scopes.defined ++ names) (sym (map-append function_name xs ys))))

-- the functions that a source defines, and those that are there before it
abbrev pub AreDefined : List ItemTree → List ResolvedFunctionTree → Type 0
AreDefined items xs = definitions_of items ≡ predeclared ++ map function_name xs

pub file_names : (items : List ItemTree) → items_breaches (file_scope (definitions_of items)) items ≡ []
    → IfSome (all_along item_functions after_item (file_scope (definitions_of items)) items) (AreDefined items)
file_names items w = items_define items (file_scope (definitions_of items)) w

-- ---- no name twice

bytes_equivalence : IsEquivalence bytes_eq
bytes_equivalence = record {
  refl = same_bytes;
  symm = λ x y. one_answer (bytes_eq x y) (bytes_eq y x) (bytes_eq-Decides x y)
      ((λ e. sym ((bytes_eq-Decides y x).0 e)), (λ e. (bytes_eq-Decides y x).1 (sym e)));
  congr = λ x y z e. ap (λ w. bytes_eq w z) ((bytes_eq-Decides x y).0 e);
}

name_distinct : (names : List (List ℕ)) (name : List ℕ) → IsDistinct bytes_eq names → IsDistinct bytes_eq
    (with_name names name)
name_distinct names name h = by (list_any (bytes_eq name) names) refl
  where
    by : (test : Bool) → list_any (bytes_eq name) names ≡ test → IsDistinct bytes_eq
        (cond test names (names ++ name ∷ []))
    by true e = h
    by false e = IsDistinct-push bytes_equivalence names name h e

definitions_distinct : (items : List ItemTree) (names : List (List ℕ)) → IsDistinct bytes_eq names
    → IsDistinct bytes_eq (fold after_definition names items)
definitions_distinct [] names h = h
definitions_distinct (Declaration d ∷ items) names h = definitions_distinct items names h
definitions_distinct (Prototype head semicolon ∷ items) names h = definitions_distinct items names h
definitions_distinct (Function f ∷ items) names h = definitions_distinct items (with_name names f.head.name.text)
    (name_distinct names f.head.name.text h)

predeclared_distinct : IsDistinct bytes_eq predeclared
unfolding IsDistinct
predeclared_distinct = ((refl, (refl, tt)), ((refl, tt), (tt, tt)))

others : (x : ResolvedFunctionTree) (xs : List ResolvedFunctionTree) → AllByRecursion (λ name. bytes_eq x.name name
    ≡ false) (map function_name xs)
    → AllByRecursion (λ y. same_name x y ≡ false) xs
others x [] h = tt
others x (y ∷ ys) h = (h.0, others x ys h.1)

functions_distinct : (xs : List ResolvedFunctionTree) → IsDistinct bytes_eq (map function_name xs)
    → IsDistinct same_name xs
unfolding IsDistinct
functions_distinct [] h = tt
functions_distinct (x ∷ xs) h = (others x xs h.0, functions_distinct xs h.1)

pub distinct_functions : (items : List ItemTree) (xs : List ResolvedFunctionTree) → AreDefined items xs
    → IsDistinct same_name xs
distinct_functions items xs is =
    let all : IsDistinct bytes_eq (predeclared ++ map function_name xs) = subst (λ names. IsDistinct bytes_eq names)
    is (definitions_distinct items predeclared predeclared_distinct) in
    functions_distinct xs
    (IsDistinct-tail bytes_eq _ _ (IsDistinct-tail bytes_eq _ _ (IsDistinct-tail bytes_eq _ _ all)))

-- ---- what is called

module _ (functions : List ResolvedFunctionTree) (final : Scopes) (all : All (IsSigned final) functions)
    (name : List ℕ) (signature : Signature)
    (means : Means final name (meanings.Function signature)) where
  defined_at : (k : ℕ) → name ≡ get_or (map function_name functions) k [] → k < length (map function_name functions)
      → IsSomeAnd (slice_get functions k) (IsDefinition name signature)
  defined_at k same lt =
      by (slice_get functions k) refl (sym (slice_get-map function_name functions k) ∙ slice_get-get_or
      (map function_name functions) k [] lt ∙ ap Some (sym same))
    where
      by : (o : Option ResolvedFunctionTree) → slice_get functions k ≡ o → option_map function_name o ≡ Some name
          → IsSomeAnd o (IsDefinition name signature)
      by None e h = cc
      by (Some x) e h =
          let named : x.name ≡ name = cc in
          let own : IsSigned final x = subst (IsSigned final) (get_or_from_slice_get functions k x x e)
          (All-get_or (IsSigned final) functions k x (slice_get_within functions k x e) all) in
          let one : Some (meanings.Function (own_signature x)) ≡ Some (meanings.Function signature) = sym own
          ∙ ap (λ name. lookup (bytes_eq name) final.inner) named ∙ means in
          let same : own_signature x ≡ signature = cc in
          record { named = named; parameters = ap (λ s. s.parameters) same; returns = ap (λ s. s.returns) same }

  behind_all : (p : ℕ) → name ≡ get_or (predeclared ++ map function_name functions) p []
      → p < length (predeclared ++ map function_name functions) → 3 ≤ p
      → IsSomeAnd (slice_get functions (p - 3)) (IsDefinition name signature)
  behind_all zero same lt le = absurd (omega (arith, le))
  behind_all (suc zero) same lt le = absurd (omega (arith, le))
  behind_all (suc (suc zero)) same lt le = absurd (omega (arith, le))
  behind_all (suc (suc (suc k))) same lt le =
      let place : k ≡ suc (suc (suc k)) - 3 = omega arith in
      subst (λ n. IsSomeAnd (slice_get functions n) (IsDefinition name signature)) place
      (defined_at k same (omega (arith, lt)))

  behind_printf : Means final (codes "printf") meanings.Printf → (p : ℕ) → name
      ≡ get_or (predeclared ++ map function_name functions) p [] → 1 ≤ p
  behind_printf printf zero same =
      let clash : Some (meanings.Function signature) ≡ Some meanings.Printf = sym means
      ∙ ap (λ name. lookup (bytes_eq name) final.inner) same ∙ printf in cc
  behind_printf printf (suc p) same = omega arith

  pub callee : Means final (codes "printf") meanings.Printf → (definitions : List (List ℕ)) → definitions
      ≡ predeclared ++ map function_name functions
      → IfSome (position (bytes_eq name) definitions) (IsCallee functions name signature)
  callee printf definitions is = subst (λ names. IfSome (position (bytes_eq name) names)
      (IsCallee functions name signature)) (sym is)
      (by (position (bytes_eq name) (predeclared ++ map function_name functions)) refl)
    where
      by : (o : Option ℕ) → position (bytes_eq name) (predeclared ++ map function_name functions) ≡ o
          → IfSome o (IsCallee functions name signature)
      by None e = tt
      by (Some p) e =
          let found = position-Some (bytes_eq name) (predeclared ++ map function_name functions) p [] e in
          let same : name ≡ get_or (predeclared ++ map function_name functions) p [] =
          (bytes_eq-Decides name (get_or (predeclared ++ map function_name functions) p [])).0 found.1 in
          record { behind_printf = behind_printf printf p same; own = λ le. behind_all p same found.0 le }

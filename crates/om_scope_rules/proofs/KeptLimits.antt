-- A source that breaks no rule keeps to the limits on globals and functions.
use Rattle.std.proofs.Common.{◌≡◌, ℕ, zero, suc, ◌+◌, ◌<◌, ◌≤◌, Bool, true, false, cond, List, [], ◌∷◌, ◌++◌, Option}
use Rattle.std.proofs.Common.{None, Some, map, length, refl, ap, ◌∙◌, arith, length-append}
use Rattle.std.specs.Prelude.{IfSome, nat_lt, nat_le, nat_eq}
use Rattle.std.specs.List.{flat_map, list_any}
use Rattle.std.specs.Str.{bytes_eq}
use Rattle.std.proofs.lemmas.Bool.Decides.{nat_tests}
use Rattle.om_lexer.specs.declared.fault.FaultCode.TheVariants as faults
use Rattle.om_parser_tree.specs.declared.tree.ArrayLength.{ArrayLength}
use Rattle.om_parser_tree.specs.declared.tree.SignedNumber.{SignedNumber}
use Rattle.om_parser_tree.specs.Tree.{DeclaratorTree, HeadTree, FunctionTree, ItemTree, Declaration, Prototype, Function}
use Rattle.om_scope_rules.specs.declared.limits.TheConstants.{GLOBAL_CELL_LIMIT}
use Rattle.om_scope_rules.specs.declared.limits.TheConstants.{FUNCTION_LIMIT}
use Rattle.om_scope_rules.specs.Faults.{breach_if}
use Rattle.om_scope_rules.specs.Perhaps.{◌>>=◌, all_along}
use Rattle.om_scope_rules.specs.Places.{head_start}
use Rattle.om_scope_tree.specs.ResolvedTree.{ResolvedFunctionTree}
use Rattle.om_scope_rules.specs.Scopes.{Scopes, is_declared, with_name, with_function, signature_of, after_global}
use Rattle.om_scope_rules.specs.Scopes.{after_globals, after_prototype, after_function, after_item, cells_of, declarators_of}
use Rattle.om_scope_rules.specs.Scopes.{predeclared}
use Rattle.om_scope_rules.specs.StatementRules.{array_size_breaches, is_empty_array}
use Rattle.om_scope_rules.specs.UnitResolution.{global_of, globals_of, item_functions, resolved_function}
use Rattle.om_scope_rules.specs.UnitRules.{global_name_breaches, global_breaches, globals_breaches, initial_breaches}
use Rattle.om_scope_rules.specs.UnitRules.{head_breaches, definition_breaches, body_breaches, function_breaches}
use Rattle.om_scope_rules.specs.UnitRules.{item_breaches, items_breaches}
use Rattle.om_scope_rules.proofs.Steps.{if_then}
use Rattle.om_scope_rules.proofs.Unbroken.{front, back, not_broken}

-- ---- globals

below_limit : (limit n : ℕ) → nat_lt limit n ≡ false → n ≤ limit
below_limit limit n h = grind (arith, nat_tests)

has_cells : (array : Option ArrayLength) → is_empty_array array ≡ false → 1 ≤ cells_of array
has_cells None h = omega arith
has_cells (Some array) h = by array.size.value h
  where
    by : (n : ℕ) → nat_eq n 0 ≡ false → 1 ≤ n
    by zero h = cc
    by (suc n) h = omega arith

-- what a global adds to the cells: one at least, and the limit holds behind it
pub global_fits : (scopes : Scopes) (d : DeclaratorTree SignedNumber) → global_breaches scopes d ≡ []
    → (1 ≤ cells_of d.array)
    × (scopes.cells + cells_of d.array ≤ 65536)
global_fits scopes d none =
    let named = front (global_name_breaches scopes d) (initial_breaches d.initializer) none in
    let too_many = breach_if (nat_lt GLOBAL_CELL_LIMIT (scopes.cells + cells_of d.array)) faults.TooMany
    d.name.span.start in
    let full = not_broken (is_empty_array d.array) faults.Misuse d.name.span.start
    (back _ (array_size_breaches d) (front _ too_many named)) in
    let room = not_broken (nat_lt GLOBAL_CELL_LIMIT (scopes.cells + cells_of d.array)) faults.TooMany
    d.name.span.start (back _ too_many named) in
    (has_cells d.array full, below_limit 65536 (scopes.cells + cells_of d.array) room)

globals_fit : (ds : List (DeclaratorTree SignedNumber)) (scopes : Scopes) → scopes.cells ≤ 65536
    → globals_breaches scopes ds ≡ []
    → ((after_globals scopes ds).cells ≤ 65536)
    × (scopes.cells + length (map global_of ds) ≤ (after_globals scopes ds).cells)
globals_fit [] scopes fits none = (fits, omega arith)
globals_fit (d ∷ ds) scopes fits none =
    let one = global_fits scopes d (front (global_breaches scopes d) _ none) in
    let rest = globals_fit ds (after_global scopes d) one.1 (back (global_breaches scopes d) _ none) in
    (rest.0, omega (arith, one.0, rest.1))

prototype_cells : {N : Type 0} (scopes : Scopes) (head : HeadTree N)
    → (after_prototype scopes head).cells ≡ scopes.cells
prototype_cells scopes head = by (is_declared scopes head.name.text)
  where
    by : (test : Bool) → (cond test scopes (with_function scopes head.name.text (signature_of head))).cells
        ≡ scopes.cells
    by true = refl
    by false = refl

item_fits : (scopes : Scopes) (item : ItemTree) → scopes.cells ≤ 65536 → item_breaches scopes item ≡ []
    → ((after_item scopes item).cells ≤ 65536)
    × (scopes.cells + length (globals_of item) ≤ (after_item scopes item).cells)
item_fits scopes (Declaration d) fits none = globals_fit (declarators_of d) scopes fits none
item_fits scopes (Prototype head semicolon) fits none = let same = prototype_cells scopes head in
    (omega (arith, same, fits), omega (arith, same))
item_fits scopes (Function f) fits none = let same = prototype_cells scopes f.head in
    (omega (arith, same, fits), omega (arith, same))

pub items_fit : (items : List ItemTree) (scopes : Scopes) → scopes.cells ≤ 65536 → items_breaches scopes items ≡ []
    → scopes.cells + length (flat_map globals_of items) ≤ 65536
items_fit [] scopes fits none = omega (arith, fits)
items_fit (item ∷ items) scopes fits none =
    let one = item_fits scopes item fits (front (item_breaches scopes item) _ none) in
    let rest = items_fit items (after_item scopes item) one.0 (back (item_breaches scopes item) _ none) in
    omega (arith, one.1, rest, length-append (globals_of item) (flat_map globals_of items))

-- ---- functions

-- how many functions are defined, those before the source among them
abbrev pub all_defined : Scopes → ℕ
all_defined scopes = length scopes.defined

pub prototype_defined : {N : Type 0} (scopes : Scopes) (head : HeadTree N)
    → (after_prototype scopes head).defined ≡ scopes.defined
prototype_defined scopes head = by (is_declared scopes head.name.text)
  where
    by : (test : Bool) → (cond test scopes (with_function scopes head.name.text (signature_of head))).defined
        ≡ scopes.defined
    by true = refl
    by false = refl

with_further : (names : List (List ℕ)) (name : List ℕ) → list_any (bytes_eq name) names ≡ false
    → length (with_name names name) ≡ length names + 1
with_further names name new = by (list_any (bytes_eq name) names) new
  where
    by : (test : Bool) → test ≡ false → length (cond test names (names ++ name ∷ [])) ≡ length names + 1
    by true e = cc
    by false e = length-append names (name ∷ [])

above : (limit n : ℕ) → nat_le limit n ≡ false → n < limit
above limit n h = grind (arith, nat_tests)

-- a function is one more, and not one too many
function_counts : (scopes : Scopes) (f : FunctionTree) → function_breaches scopes f ≡ []
    → (all_defined (after_function scopes f.head) ≡ all_defined scopes + 1) × (all_defined scopes < 259)
function_counts scopes f none =
    let own = front (definition_breaches scopes f.head) (body_breaches (after_function scopes f.head) f) none in
    let too_many = breach_if (nat_le (FUNCTION_LIMIT + length predeclared) (length scopes.defined)) faults.TooMany
    (head_start f.head) in
    let again = breach_if (list_any (bytes_eq f.head.name.text) scopes.defined) faults.Redeclared
    f.head.name.span.start in
    let both = front (too_many ++ again) (head_breaches scopes f.head) own in
    let room = not_broken (nat_le (FUNCTION_LIMIT + length predeclared) (length scopes.defined)) faults.TooMany
    (head_start f.head) (front too_many again both) in
    let new = not_broken (list_any (bytes_eq f.head.name.text) scopes.defined) faults.Redeclared
    f.head.name.span.start (back too_many again both) in
    let same = prototype_defined scopes f.head in (
      ap (λ names. length (with_name names f.head.name.text)) same ∙ with_further scopes.defined f.head.name.text new,
      above (FUNCTION_LIMIT + length predeclared) (length scopes.defined) room,
    )

pub globals_defined : (ds : List (DeclaratorTree SignedNumber)) (scopes : Scopes)
    → (after_globals scopes ds).defined ≡ scopes.defined
globals_defined [] scopes = refl
globals_defined (d ∷ ds) scopes = globals_defined ds (after_global scopes d)

-- of so many functions behind others there are not too many
abbrev pub Fits : ℕ → List ResolvedFunctionTree → Type 0
Fits before functions = before + length functions ≤ 259

pub functions_fit : (items : List ItemTree) (scopes : Scopes) → all_defined scopes ≤ 259 → items_breaches scopes
    items ≡ [] → IfSome (all_along item_functions after_item scopes items) (Fits (all_defined scopes))
unfolding item_functions
functions_fit [] scopes fits none = omega (arith, fits)
functions_fit (Declaration d ∷ items) scopes fits none =
    let same = ap length (globals_defined (declarators_of d) scopes) in
    let rest = functions_fit items (after_item scopes (Declaration d)) (omega (arith, same, fits))
    (back (item_breaches scopes (Declaration d)) _ none) in
    if_then (Fits (all_defined (after_item scopes (Declaration d)))) (Fits (all_defined scopes))
    (all_along item_functions after_item (after_item scopes (Declaration d)) items) _ rest
    (λ xs h. omega (arith, same, h))
functions_fit (Prototype head semicolon ∷ items) scopes fits none =
    let same = ap length (prototype_defined scopes head) in
    let rest = functions_fit items (after_item scopes (Prototype head semicolon)) (omega (arith, same, fits))
    (back (item_breaches scopes (Prototype head semicolon)) _ none) in
    if_then (Fits (all_defined (after_prototype scopes head))) (Fits (all_defined scopes))
    (all_along item_functions after_item (after_prototype scopes head) items) _ rest
    (λ xs h. omega (arith, same, h))
functions_fit (Function f ∷ items) scopes fits none =
    let one = function_counts scopes f (front (item_breaches scopes (Function f)) _ none) in
    let rest = functions_fit items (after_item scopes (Function f)) (omega (arith, one.0, one.1))
    (back (item_breaches scopes (Function f)) _ none) in
    of_function (resolved_function scopes f) (all_along item_functions after_item (after_function scopes f.head)
    items) (λ xs h. omega (arith, one.0, h)) rest
  where
    of_function : (own : Option ResolvedFunctionTree) (others : Option (List ResolvedFunctionTree))
        → ((xs : List ResolvedFunctionTree) → Fits (all_defined (after_function scopes f.head)) xs
        → all_defined scopes + suc (length xs) ≤ 259)
        → IfSome others (Fits (all_defined (after_function scopes f.head)))
        → IfSome ((own >>= λ function. Some (function ∷ [])) >>= λ front. others >>= λ rest. Some (front ++ rest))
        (Fits (all_defined scopes))
    of_function None others one rest = tt
    of_function (Some function) None one rest = tt
    of_function (Some function) (Some xs) one rest = one xs rest

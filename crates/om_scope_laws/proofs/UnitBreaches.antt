-- The breaches of a source stand at its tokens, in their order; so the first goes before all.
use Rattle.std.proofs.Common.{◌≡◌, ◌<◌, ℕ, zero, suc, ◌+◌, Bool, true, List, [], ◌∷◌, ◌++◌, Option, None, Some}
use Rattle.std.proofs.Common.{All, append_assoc, ap, get_or, length, map, refl, subst, sym, arith}
use Rattle.std.proofs.lemmas.List.Elements.{All-head, All-tail}
use Rattle.std.specs.List.{flat_map, list_any}
use Rattle.std.specs.Prelude.{Contains, codes, nat_le, nat_lt, not}
use Rattle.std.specs.Str.{bytes_eq}
use Rattle.om_lexer.specs.declared.fault.FaultCode.TheVariants as faults
use Rattle.om_lexer.specs.declared.fault.SourceFault.{SourceFault}
use Rattle.om_lexer.specs.declared.token.Keyword.TheVariants as keywords
use Rattle.om_lexer.specs.declared.token.Punctuator.TheVariants as punctuators
use Rattle.om_lexer.specs.declared.token.Span.{Span}
use Rattle.om_lexer.specs.declared.token.Token.{Token}
use Rattle.om_lexer.specs.declared.token.TokenKind.TheVariants as kinds
use Rattle.om_lexer.specs.Order.{AreInOrder}
use Rattle.om_lexer.specs.Sources.{IsTokens}
use Rattle.om_pragma.specs.declared.clause.Name as names
use Rattle.om_parser_tree.specs.declared.tree.Parameter.{Parameter}
use Rattle.om_parser_tree.specs.declared.tree.ResultType.{ResultType}
use Rattle.om_parser_tree.specs.declared.tree.ResultType.TheVariants as results
use Rattle.om_parser_tree.specs.declared.tree.SignedNumber.{SignedNumber}
use Rattle.om_parser_tree.specs.Formed.{IsFunction, IsItem, IsUnit}
use Rattle.om_parser_tree.specs.Spelling.{array_spelling, behind_comma, block_spelling, declaration_spelling}
use Rattle.om_parser_tree.specs.Spelling.{declarator_spelling, definition_spelling, further_spelling, given_name}
use Rattle.om_parser_tree.specs.Spelling.{global_spelling, head_spelling, initializer_spelling, item_spelling, mark}
use Rattle.om_parser_tree.specs.Spelling.{name}
use Rattle.om_parser_tree.specs.Spelling.{number, parameter_spelling, parameters_spelling, perhaps, prototype_spelling}
use Rattle.om_parser_tree.specs.Spelling.{result_spelling, signed_spelling, statement_spelling, statements_spelling}
use Rattle.om_parser_tree.specs.Spelling.{token}
use Rattle.om_parser_tree.specs.Spelling.{unit_spelling, word}
use Rattle.om_parser_tree.specs.Tree.{InitializerTree, DeclaratorTree, DeclarationTree, HeadTree, ParametersTree}
use Rattle.om_parser_tree.specs.Tree.{NoParameters}
use Rattle.om_parser_tree.specs.Tree.{Void, Listed, FunctionTree, ItemTree, Declaration, Prototype, Function, UnitTree}
use Rattle.om_parser_tree.specs.Tree.{StatementTree, statements}
use Rattle.om_scope_rules.specs.declared.limits.TheConstants.{FUNCTION_LIMIT, GLOBAL_CELL_LIMIT, PARAMETER_LIMIT}
use Rattle.om_scope_rules.specs.Breaches.{breaches_of, is_main}
use Rattle.om_scope_laws.specs.BreachLaws.{FirstBreachIsLeast}
use Rattle.om_scope_rules.specs.ExpressionRules.{constant_breaches}
use Rattle.om_scope_rules.specs.Faults.{breach_if, breaches_along, first_of, goes_first}
use Rattle.om_scope_rules.specs.Places.{head_start, result_first}
use Rattle.om_scope_rules.specs.Scopes.{Scopes, after_function, after_global, after_item, after_parameters}
use Rattle.om_scope_rules.specs.Scopes.{after_prototype}
use Rattle.om_scope_rules.specs.Scopes.{behind_commas, cells_of, declarators_of, definitions_of, file_scope, inside}
use Rattle.om_scope_rules.specs.Scopes.{is_declared, meaning_here, parameters_of, predeclared, signature_of}
use Rattle.om_scope_rules.specs.Scopes.{after_optional, after_parameter}
use Rattle.om_scope_rules.specs.StatementRules.{array_size_breaches, is_empty_array, redeclared_breaches}
use Rattle.om_scope_rules.specs.StatementRules.{statements_breaches}
use Rattle.om_scope_rules.specs.UnitRules.{flow_of, function_breaches, further_breaches, global_breaches}
use Rattle.om_scope_rules.specs.UnitRules.{global_name_breaches}
use Rattle.om_scope_rules.specs.UnitRules.{globals_breaches, head_breaches, initial_breaches, is_other_main}
use Rattle.om_scope_rules.specs.UnitRules.{is_redeclared}
use Rattle.om_scope_rules.specs.UnitRules.{item_breaches, items_breaches, next_optional, next_parameter}
use Rattle.om_scope_rules.specs.UnitRules.{optional_breaches}
use Rattle.om_scope_rules.specs.UnitRules.{optional_name_breaches, optionals_breaches, parameter_breaches}
use Rattle.om_scope_rules.specs.UnitRules.{parameters_breaches}
use Rattle.om_scope_laws.proofs.ExpressionBreaches.{alone, named, named_alone}
use Rattle.om_scope_laws.proofs.StatementBreaches.{statements_among}
use Rattle.om_scope_laws.proofs.TokenBreaches.{Among, GoesBefore, IsLed, Ordered, RiseAt, Rises, before, behind, first}
use Rattle.om_scope_laws.proofs.TokenBreaches.{first_alone, further, led_last, none, one, ordered_source, rise_at}
use Rattle.om_scope_laws.proofs.TokenBreaches.{rise_next, stands}
use Rattle.om_scope_laws.proofs.TokenBreaches.{together}

-- ---- globals

global_initial_among : (o : Option (InitializerTree SignedNumber))
    → Among (initial_breaches o) (perhaps (initializer_spelling signed_spelling) o)
unfolding initializer_spelling
global_initial_among None = none []
global_initial_among (Some i) =
    further _ _ _ (behind _ (perhaps (λ at. mark punctuators.Minus at ∷ []) i.value.minus) _
    (first_alone (constant_breaches i.value.number) (number i.value.number) []
    (stands (number i.value.number) (constant_breaches i.value.number) tt
    (alone (nat_lt 2147483647 i.value.number.value) faults.ConstantTooLarge i.value.number.span.start))))

global_name_rises : (scopes : Scopes) (d : DeclaratorTree SignedNumber)
    → RiseAt d.name.span.start 0 (global_name_breaches scopes d)
global_name_rises scopes d =
    let at = d.name.span.start in
    let again = redeclared_breaches scopes d.name in
    let main = breach_if (bytes_eq d.name.text (codes "main")) faults.Misuse at in
    let size = array_size_breaches d in
    let cells = nat_lt GLOBAL_CELL_LIMIT (scopes.cells + cells_of d.array) in
    rise_at at 0 11 _
    (rise_next at 0 9 11 (again ++ main ++ size) (breach_if cells faults.TooMany at)
    (rise_next at 0 9 9 (again ++ main) size
    (rise_next at 0 8 9 again main
    (one (is_declared scopes d.name.text) faults.Redeclared at 0 8 (omega arith) (omega arith))
    (one (bytes_eq d.name.text (codes "main")) faults.Misuse at 8 9 (omega arith) (omega arith)))
    (one (is_empty_array d.array) faults.Misuse at 9 9 (omega arith) (omega arith)))
    (one cells faults.TooMany at 9 11 (omega arith) (omega arith)))

global_among : (scopes : Scopes) (d : DeclaratorTree SignedNumber)
    → Among (global_breaches scopes d) (declarator_spelling signed_spelling d)
unfolding declarator_spelling
global_among scopes d =
    named d.name (global_name_breaches scopes d) (initial_breaches d.initializer) _ (global_name_rises scopes d)
    (behind _ (perhaps array_spelling d.array) _ (global_initial_among d.initializer))

further_globals : (rest : List (Span × DeclaratorTree SignedNumber)) (scopes : Scopes)
    → Among (globals_breaches scopes (behind_commas rest)) (flat_map (further_spelling signed_spelling) rest)
unfolding further_spelling
further_globals [] scopes = none []
further_globals (d ∷ rest) scopes =
    further _ _ _ (together (global_breaches scopes d.1) _ (declarator_spelling signed_spelling d.1) _
    (global_among scopes d.1) (further_globals rest (after_global scopes d.1)))

globals_among : (scopes : Scopes) (d : DeclarationTree SignedNumber)
    → Among (globals_breaches scopes (declarators_of d)) (global_spelling d)
unfolding declaration_spelling
globals_among scopes d =
    let own = declarator_spelling signed_spelling d.first in
    let tail = flat_map (further_spelling signed_spelling) d.rest in
    further _ _ _ (before _ (own ++ tail) _ (together (global_breaches scopes d.first) _ own tail
    (global_among scopes d.first) (further_globals d.rest (after_global scopes d.first))))

-- ---- parameters

-- S11 at its word
further_stands : (count : ℕ) (int : Span) (bs : List SourceFault) (ts : List Token) → Among bs ts
    → Among (further_breaches count int ++ bs) (word keywords.Int int ∷ ts)
further_stands count int bs ts h =
    first (further_breaches count int) bs (word keywords.Int int) ts
    (stands (word keywords.Int int) (further_breaches count int) tt
    (alone (nat_le PARAMETER_LIMIT count) faults.TooMany int.start)) h

parameter_among : (count : ℕ) (scopes : Scopes) (p : Parameter names.Name)
    → Among (parameter_breaches (count, scopes) p) (parameter_spelling given_name p)
parameter_among count scopes p =
    further_stands count p.int (redeclared_breaches scopes p.name) (name p.name ∷ [])
    (named_alone p.name (redeclared_breaches scopes p.name) []
    (alone (is_declared scopes p.name.text) faults.Redeclared p.name.span.start))

more_parameters : (rest : List (Span × Parameter names.Name)) (count : ℕ) (scopes : Scopes)
    → Among (breaches_along parameter_breaches next_parameter (count, scopes) (map (λ next. next.1) rest))
    (flat_map (behind_comma (parameter_spelling given_name)) rest)
more_parameters [] count scopes = none []
more_parameters (p ∷ rest) count scopes =
    further _ _ _ (together (parameter_breaches (count, scopes) p.1) _ (parameter_spelling given_name p.1) _
    (parameter_among count scopes p.1) (more_parameters rest (count + 1) (after_parameter scopes p.1)))

parameters_among : (scopes : Scopes) (parameters : ParametersTree names.Name)
    → Among (parameters_breaches scopes (parameters_of parameters)) (parameters_spelling given_name parameters)
unfolding parameters_spelling
parameters_among scopes NoParameters = none []
parameters_among scopes (Void at) = none _
parameters_among scopes (Listed p rest) =
    together (parameter_breaches (0, scopes) p) _ (parameter_spelling given_name p) _ (parameter_among 0 scopes p)
    (more_parameters rest (0 + 1) (after_parameter scopes p))

optional_name_among : (scopes : Scopes) (o : Option names.Name)
    → Among (optional_name_breaches scopes o) (perhaps given_name o)
optional_name_among scopes None = none []
optional_name_among scopes (Some n) =
    named_alone n (redeclared_breaches scopes n) []
    (alone (is_declared scopes n.text) faults.Redeclared n.span.start)

optional_among : (count : ℕ) (scopes : Scopes) (p : Parameter (Option names.Name))
    → Among (optional_breaches (count, scopes) p) (parameter_spelling (perhaps given_name) p)
optional_among count scopes p =
    further_stands count p.int (optional_name_breaches scopes p.name) (perhaps given_name p.name)
    (optional_name_among scopes p.name)

more_optionals : (rest : List (Span × Parameter (Option names.Name))) (count : ℕ) (scopes : Scopes)
    → Among (breaches_along optional_breaches next_optional (count, scopes) (map (λ next. next.1) rest))
    (flat_map (behind_comma (parameter_spelling (perhaps given_name))) rest)
more_optionals [] count scopes = none []
more_optionals (p ∷ rest) count scopes =
    further _ _ _ (together (optional_breaches (count, scopes) p.1) _ (parameter_spelling (perhaps given_name) p.1) _
    (optional_among count scopes p.1) (more_optionals rest (count + 1) (after_optional scopes p.1)))

optionals_among : (scopes : Scopes) (parameters : ParametersTree (Option names.Name))
    → Among (optionals_breaches scopes (parameters_of parameters)) (parameters_spelling (perhaps given_name) parameters)
unfolding parameters_spelling
optionals_among scopes NoParameters = none []
optionals_among scopes (Void at) = none _
optionals_among scopes (Listed p rest) =
    together (optional_breaches (0, scopes) p) _ (parameter_spelling (perhaps given_name) p) _
    (optional_among 0 scopes p) (more_optionals rest (0 + 1) (after_optional scopes p))

-- ---- functions

head_rises : {N : Type 0} (scopes : Scopes) (h : HeadTree N)
    → Rises h.name.span.start 8 9 (head_breaches scopes h)
head_rises scopes h =
    let at = h.name.span.start in
    rise_next at 8 8 9
    (breach_if (is_redeclared (signature_of h) (meaning_here scopes h.name.text)) faults.Redeclared at)
    (breach_if (is_other_main h.name.text (signature_of h)) faults.Misuse at)
    (one (is_redeclared (signature_of h) (meaning_here scopes h.name.text)) faults.Redeclared at 8 8 (omega arith)
    (omega arith))
    (one (is_other_main h.name.text (signature_of h)) faults.Misuse at 8 9 (omega arith) (omega arith))

from_zero : (start least most : ℕ) (bs : List SourceFault) → Rises start least most bs → RiseAt start 0 bs
from_zero start least most [] h = tt
from_zero start least most (b ∷ bs) h = (h.0, omega arith, rise_at start _ most bs h.2)

prototype_among : (scopes : Scopes) (h : HeadTree (Option names.Name))
    → Among (head_breaches scopes h
    ++ optionals_breaches (inside (after_prototype scopes h)) (parameters_of h.parameters)) (prototype_spelling h)
unfolding head_spelling
prototype_among scopes h =
    let inner = inside (after_prototype scopes h) in
    further _ _ _ (named h.name (head_breaches scopes h) (optionals_breaches inner (parameters_of h.parameters)) _
    (from_zero h.name.span.start 8 9 (head_breaches scopes h) (head_rises scopes h))
    (further _ _ _ (before _ (parameters_spelling (perhaps given_name) h.parameters) _
    (optionals_among inner h.parameters))))

-- a block is spelt item by item
spelled : (items : List StatementTree) → statements_spelling (statements items) ≡ flat_map statement_spelling items
unfolding statements_spelling
spelled [] = refl
spelled (s ∷ rest) = ap (λ ts. statement_spelling s ++ ts) (spelled rest)

regrouped : (a b c p s : List SourceFault) → (a ++ ((b ++ c) ++ p)) ++ s ≡ ((a ++ b) ++ c) ++ (p ++ s)
regrouped [] b c p s = append_assoc (b ++ c) p s
regrouped (x ∷ a) b c p s = ap (λ z. x ∷ z) (regrouped a b c p s)

-- S11 at the result of a definition
result_stands : (result : ResultType) (broken : Bool) (bs : List SourceFault) (ts : List Token) → Among bs ts
    → Among (breach_if broken faults.TooMany (result_first result).start ++ bs) (result_spelling result ∷ ts)
result_stands (results.Int at) broken bs ts more =
    first (breach_if broken faults.TooMany at.start) bs (word keywords.Int at) ts
    (stands (word keywords.Int at) (breach_if broken faults.TooMany at.start) tt (alone broken faults.TooMany at.start))
    more
result_stands (results.Void at) broken bs ts more =
    first (breach_if broken faults.TooMany at.start) bs (word keywords.Void at) ts
    (stands (word keywords.Void at) (breach_if broken faults.TooMany at.start) tt
    (alone broken faults.TooMany at.start)) more

function_among : (scopes : Scopes) (f : FunctionTree) → IsFunction f
    → Among (function_breaches scopes f) (definition_spelling f.head ++ block_spelling f.body)
unfolding head_spelling block_spelling IsFunction
function_among scopes f h =
    let head = f.head in
    let at = head.name.span.start in
    let inner = inside (after_function scopes head) in
    let within = after_parameters inner (parameters_of head.parameters) in
    let many = nat_le (FUNCTION_LIMIT + length predeclared) (length scopes.defined) in
    let again = list_any (bytes_eq head.name.text) scopes.defined in
    let a = breach_if many faults.TooMany (head_start head) in
    let b = breach_if again faults.Redeclared at in
    let c = head_breaches scopes head in
    let p = parameters_breaches inner (parameters_of head.parameters) in
    let s = statements_breaches within (flow_of head) (statements f.body.items) in
    let own = flat_map statement_spelling f.body.items in
    let body = subst (λ ts. Among s ts) (spelled f.body.items)
    (statements_among (statements f.body.items) within (flow_of head) h) in
    let name_rises = rise_at at 0 9 (b ++ c)
    (rise_next at 0 8 9 b c (one again faults.Redeclared at 0 8 (omega arith) (omega arith))
    (head_rises scopes head)) in
    let first_line = result_stands head.result many ((b ++ c) ++ p) _
    (named head.name (b ++ c) p _ name_rises
    (further _ _ _ (before _ (parameters_spelling given_name head.parameters) _
    (parameters_among inner head.parameters)))) in
    subst (λ z. Among z (definition_spelling head ++ block_spelling f.body)) (regrouped a b c p s)
    (together (a ++ ((b ++ c) ++ p)) s (definition_spelling head) (block_spelling f.body) first_line
    (further _ _ _ (before _ own _ body)))

-- ---- a source

item_among : (scopes : Scopes) (item : ItemTree) → IsItem item → Among (item_breaches scopes item) (item_spelling item)
unfolding item_spelling IsItem
item_among scopes (Declaration d) h = globals_among scopes d
item_among scopes (Prototype head semicolon) h = before _ (prototype_spelling head) _ (prototype_among scopes head)
item_among scopes (Function f) h = function_among scopes f h

items_among : (items : List ItemTree) (scopes : Scopes) → All IsItem items
    → Among (items_breaches scopes items) (flat_map item_spelling items)
items_among [] scopes h = none []
items_among (item ∷ items) scopes h =
    together (item_breaches scopes item) _ (item_spelling item) _
    (item_among scopes item (All-head IsItem item items h))
    (items_among items (after_item scopes item) (All-tail IsItem item items h))

unit_led : (unit : UnitTree) → Ordered 0 (unit_spelling unit) → IsUnit unit → IsLed (breaches_of unit)
unfolding breaches_of unit_spelling IsUnit
unit_led unit o h =
    led_last _ (flat_map item_spelling unit.items) (token kinds.End unit.end) (not (list_any is_main unit.items))
    faults.NoMain o (items_among unit.items (file_scope (definitions_of unit.items)) h)

-- what goes before all goes before each
goes_before : (b c : SourceFault) (bs : List SourceFault) (k : ℕ) → GoesBefore b bs → k < length bs → get_or bs k c ≡ c
    → goes_first b c ≡ true
goes_before b c [] k h lt e = absurd (omega (arith, lt))
goes_before b c (x ∷ xs) zero h lt e = subst (λ z. goes_first b z ≡ true) e h.0
goes_before b c (x ∷ xs) (suc k) h lt e = goes_before b c xs k h.1 (omega (arith, lt)) e

led_by : (b c : SourceFault) (bs : List SourceFault) → IsLed bs → first_of bs ≡ Some b → Contains bs c
    → goes_first b c ≡ true
led_by b c [] led is there = absurd cc
led_by b c (x ∷ xs) led is there =
    let same : x ≡ b = cc is in
    subst (λ z. goes_first z c ≡ true) same (goes_before x c (x ∷ xs) there.0 led there.1 there.2)

module _ (in_order : (source : List ℕ) (ts : List Token) → IsTokens source ts → AreInOrder source 0 ts) where
  pub first_breach_is_least : FirstBreachIsLeast
  first_breach_is_least source tokens unit b c lexed spelled formed is there =
      led_by b c (breaches_of unit)
      (unit_led unit (subst (λ ts. Ordered 0 ts) (sym spelled) (ordered_source source 0 tokens
      (in_order source tokens lexed))) formed)
      is there

-- What a statement means asks a layout for the variables that the statement names, and for no others.
use Rattle.std.proofs.Common.{◌≡◌, ℕ, ◌<◌, List, [], ◌∷◌, ◌++◌, Option, Some, None, Bool, true, false, length, refl, ap}
use Rattle.std.proofs.Common.{◌∙◌, sym, subst}
use Rattle.std.specs.Prelude.{nat_eq, option_map, slice_get, Contains, if◌then◌else◌}
use Rattle.std.specs.List.{flat_map, list_any}
use Rattle.std.proofs.lemmas.Bool.{eqb-true}
use Rattle.std.proofs.lemmas.Option.{get_or_from_slice_get, slice_get_within}
use Rattle.om_scope_tree.specs.declared.resolved.GlobalVariable.{GlobalVariable}
use Rattle.om_scope_tree.specs.declared.resolved.LocalVariable.{LocalVariable}
use Rattle.om_scope_tree.specs.declared.resolved.Shape.{Shape}
use Rattle.om_scope_tree.specs.declared.resolved.Variable as variables
use Rattle.om_scope_tree.specs.declared.resolved.Variable.TheVariants as named
use Rattle.om_scope_tree.specs.Captures.{variable_uses, expression_uses, values_uses, perhaps_uses}
use Rattle.om_scope_tree.specs.ResolvedTree.{ResolvedExpressionTree, Constant, Variable, Element, Call, ThreadNumber}
use Rattle.om_scope_tree.specs.ResolvedTree.{TeamSize, Print, Unary, Binary, Conditional, Assign, AssignElement, Postfix}
use Rattle.om_scope_tree.specs.ResolvedTree.{PostfixElement, ValuesTree, NoValues, Value, ResolvedDeclaratorTree}
use Rattle.om_scope_tree.specs.ResolvedTree.{ResolvedStartTree, StartNothing, StartExpression, StartDeclaration}
use Rattle.om_scope_tree.specs.ResolvedTree.{ResolvedStatementTree, Declaration, Block, Empty, Expression, If, IfElse}
use Rattle.om_scope_tree.specs.ResolvedTree.{While, Do, For, Return, Break, Continue, Region, Loop, Sections, Construct}
use Rattle.om_scope_tree.specs.ResolvedTree.{Update, StandAlone, ResolvedStatementsTree, NoStatements, Statement}
use Rattle.om_scope_tree.specs.ResolvedTree.{ResolvedTree}
use Rattle.om_scope_tree.specs.Whole as whole
use Rattle.om_scope_tree.specs.Whole.{Around, IsInScope, IsWhole, AreWhole, IsWholeIfAny, AreWholeDeclarators}
use Rattle.om_scope_tree.specs.Whole.{IsWholeStart, after_start, after_declarators, after_item, repeated, IsWholeReturn}
use Rattle.om_scope_tree.specs.Whole.{IsWholeStatement, AreWholeItems, shape_of}
use Rattle.om_lower_rules.specs.Bodies.{BodySite, variables_of}
use Rattle.om_lower_rules.specs.Layouts.{IsNamedIn, PlacesAlike}
use Rattle.om_lower_rules.specs.Meaning.{Flow, binary_value, unary_value, is_zero, assigned, load_element, element_assigned}
use Rattle.om_lower_rules.specs.Meaning.{stepped_back, one, value_of, values_of, printed, effect_of, flow_value, then_do}
use Rattle.om_lower_rules.specs.Meaning.{turns, turns_first, tested, tested_if_any, effect_flow, effect_if_any, slot_number}
use Rattle.om_lower_rules.specs.Meaning.{declared, all_declared, begun, returned, meaning, meanings}
use Rattle.om_lower_rules.specs.Meaning as flows
use Rattle.om_lower_rules.specs.SourceOperators.{binary_meaning, compound_meaning, step_meaning, inverse_step_meaning}
use Rattle.om_lower_rules.specs.Slots.{declarator_sights, start_sights, statement_sights, statements_sights}
use Rattle.om_lower_rules.specs.Tables.{number_in}
use Rattle.om_lower_rules.specs.Worlds.{World, Layout, with_value, after_value, with_first, load, store, clear}
use Rattle.om_lower_rules.proofs.Named.{Has, has_front, has_back, number_found}

-- what is found in a list is in it
pub contains_found : (xs : List ℕ) (x : ℕ) → list_any (nat_eq x) xs ≡ true → Contains xs x
contains_found xs x e =
    let found = number_found (nat_eq x) xs e in
    let k = number_in (nat_eq x) xs in
    let there : slice_get xs k ≡ Some x = found.1 ∙ ap (λ y. Some y) (sym (eqb-true x found.0 found.2)) in
    (k, slice_get_within xs k x there, get_or_from_slice_get xs k x x there)

module _ (tree : ResolvedTree) (b : BodySite) (at other : Layout)
    (alike : (x : variables.Variable) → IsNamedIn tree b x → PlacesAlike at other x) where
  abbrev Sees : List ℕ → Type 0
  Sees xs = Has nat_eq (variables_of b) xs

  -- what stands round a part is of this program
  abbrev IsHere : Around → Type 0
  IsHere around = around.globals ≡ tree.globals

  front : (xs ys : List ℕ) → Sees (xs ++ ys) → Sees xs
  front xs ys s = has_front nat_eq (variables_of b) xs ys s

  back : (xs ys : List ℕ) → Sees (xs ++ ys) → Sees ys
  back xs ys s = has_back nat_eq (variables_of b) xs ys s

  global_within : (globals : List GlobalVariable) (n : ℕ) (shape : Shape)
      → option_map (λ (global : GlobalVariable). shape_of global.length) (slice_get globals n) ≡ Some shape
      → n < length globals
  global_within globals n shape is = found (slice_get globals n) refl is
    where
      found : (g : Option GlobalVariable) → slice_get globals n ≡ g
          → option_map (λ (global : GlobalVariable). shape_of global.length) g ≡ Some shape → n < length globals
      found None e is = absurd cc
      found (Some g) e is = slice_get_within globals n g e

  -- a variable in scope that the body has
  same_place : (around : Around) (shape : Shape) (x : variables.Variable) → IsHere around
      → IsInScope around shape x → Sees (variable_uses x) → PlacesAlike at other x
  same_place around shape (named.Global n) g w s =
      alike (named.Global n) (subst (λ z. n < length z) g (global_within around.globals n shape w))
  same_place around shape (named.Local x) g w s = alike (named.Local x) (contains_found (variables_of b) x s.0)

  -- ---- expressions

  mutual
    unfolding expression_uses

    value_same : (e : ResolvedExpressionTree) (around : Around) (used : Bool) → IsHere around
        → IsWhole around used e → Sees (expression_uses e) → (w : World) → value_of at e w ≡ value_of other e w
    value_same (Constant n) around used g h s w = refl
    value_same (Variable x) around used g h s w =
        let a = (same_place around _ x g h s).0 in λ i. load (a i) 0 w
    value_same (Element x j) around used g h s w =
        let a = same_place around _ x g h.0 (front (variable_uses x) (expression_uses j) s) in
        let place = a.0 in let cells = a.1 in
        let index = value_same j around true g h.1 (back (variable_uses x) (expression_uses j) s) w in
        λ i. with_value (index i) (λ n u. load_element (place i) (cells i) n u)
    value_same (Call f es) around used g h s w = refl
    value_same ThreadNumber around used g h s w = refl
    value_same TeamSize around used g h s w = refl
    value_same (Print format es) around used g h s w = refl
    value_same (Unary o e) around used g h s w =
        let v = value_same e around true g h s w in λ i. with_value (v i) (λ x u. unary_value o x u)
    value_same (Binary a o c) around used g h s w =
        let first = value_same a around true g h.0 (front (expression_uses a) (expression_uses c) s) w in
        let second = value_same c around true g h.1 (back (expression_uses a) (expression_uses c) s) in
        λ i. binary_value (binary_meaning o) (first i) (λ u. second u i)
    value_same (Conditional c x y) around used g h s w =
        let rest = back (expression_uses c) (expression_uses x ++ expression_uses y) s in
        let test = value_same c around true g h.0 (front (expression_uses c)
        (expression_uses x ++ expression_uses y) s) w in
        let yes = value_same x around true g h.1 (front (expression_uses x) (expression_uses y) rest) in
        let no = value_same y around true g h.2 (back (expression_uses x) (expression_uses y) rest) in
        λ i. with_value (test i) (λ v u. if is_zero v then no u i else yes u i)
    value_same (Assign x o e) around used g h s w =
        let a = (same_place around _ x g h.0 (front (variable_uses x) (expression_uses e) s)).0 in
        let v = value_same e around true g h.1 (back (variable_uses x) (expression_uses e) s) in
        λ i. assigned (a i) (compound_meaning o) (λ u. v u i) w
    value_same (AssignElement x j o e) around used g h s w =
        let rest = back (variable_uses x) (expression_uses j ++ expression_uses e) s in
        let a = same_place around _ x g h.0 (front (variable_uses x) (expression_uses j ++ expression_uses e) s) in
        let place = a.0 in let cells = a.1 in
        let index = value_same j around true g h.1 (front (expression_uses j) (expression_uses e) rest) in
        let v = value_same e around true g h.2 (back (expression_uses j) (expression_uses e) rest) in
        λ i. element_assigned (place i) (cells i) (λ u. index u i) (compound_meaning o) (λ u. v u i) w
    value_same (Postfix x o) around used g h s w =
        let a = (same_place around _ x g h s).0 in
        λ i. stepped_back (inverse_step_meaning o) (assigned (a i) (Some (step_meaning o)) one w)
    value_same (PostfixElement x j o) around used g h s w =
        let a = same_place around _ x g h.0 (front (variable_uses x) (expression_uses j) s) in
        let place = a.0 in let cells = a.1 in
        let index = value_same j around true g h.1 (back (variable_uses x) (expression_uses j) s) in
        λ i. stepped_back (inverse_step_meaning o) (element_assigned (place i) (cells i) (λ u. index u i)
        (Some (step_meaning o)) one w)

    values_same : (es : ValuesTree) (around : Around) → IsHere around → AreWhole around es
        → Sees (values_uses es) → (w : World) → values_of at es w ≡ values_of other es w
    values_same NoValues around g h s w = refl
    values_same (Value e rest) around g h s w =
        let first = value_same e around true g h.0 (front (expression_uses e) (values_uses rest) s) w in
        let others = values_same rest around g h.1 (back (expression_uses e) (values_uses rest) s) in
        λ i. after_value (first i) (λ v u. with_first v (others u i))

  effect_same : (e : ResolvedExpressionTree) (around : Around) → IsHere around → IsWhole around false e
      → Sees (expression_uses e) → (w : World) → effect_of at e w ≡ effect_of other e w
  unfolding expression_uses
  effect_same (Postfix x o) around g h s w =
      let a = (same_place around _ x g h s).0 in λ i. assigned (a i) (Some (step_meaning o)) one w
  effect_same (PostfixElement x j o) around g h s w =
      let a = same_place around _ x g h.0 (front (variable_uses x) (expression_uses j) s) in
      let place = a.0 in let cells = a.1 in
      let index = value_same j around true g h.1 (back (variable_uses x) (expression_uses j) s) in
      λ i. element_assigned (place i) (cells i) (λ u. index u i) (Some (step_meaning o)) one w
  effect_same (Print format es) around g h s w =
      let all = values_same es around g h.3 s w in λ i. printed format (all i)
  effect_same (Constant n) around g h s w = refl
  effect_same (Variable x) around g h s w = value_same (Variable x) around false g h s w
  effect_same (Element x j) around g h s w = value_same (Element x j) around false g h s w
  effect_same (Call f es) around g h s w = refl
  effect_same ThreadNumber around g h s w = refl
  effect_same TeamSize around g h s w = refl
  effect_same (Unary o e) around g h s w = value_same (Unary o e) around false g h s w
  effect_same (Binary a o c) around g h s w = value_same (Binary a o c) around false g h s w
  effect_same (Conditional c x y) around g h s w = value_same (Conditional c x y) around false g h s w
  effect_same (Assign x o e) around g h s w = value_same (Assign x o e) around false g h s w
  effect_same (AssignElement x j o e) around g h s w = value_same (AssignElement x j o e) around false g h s w

  -- ---- declarations and heads of loops

  declared_same : (x : LocalVariable) (e : Option ResolvedExpressionTree) (around : Around) → IsHere around
      → IsWholeIfAny around true e → list_any (nat_eq x.at) (variables_of b) ≡ true → Sees (perhaps_uses e)
      → (w : World) → declared at x e w ≡ declared other x e w
  declared_same x None around g h here s w =
      let a = (alike (named.Local x.at) (contains_found (variables_of b) x.at here)).0 in
      λ i. flows.Onward (clear (slot_number (a i)) w)
  declared_same x (Some e) around g h here s w =
      let a = (alike (named.Local x.at) (contains_found (variables_of b) x.at here)).0 in
      let v = value_same e around true g h s w in
      λ i. flow_value (v i) (λ n u. flow_value (store (a i) 0 n u) (λ z t. flows.Onward t))

  all_declared_same : (ds : List ResolvedDeclaratorTree) (around : Around) → IsHere around
      → AreWholeDeclarators around ds → Sees (flat_map declarator_sights ds) → (w : World)
      → all_declared at ds w ≡ all_declared other ds w
  all_declared_same [] around g h s w = refl
  all_declared_same (d ∷ ds) around g h s w =
      let first = declared_same d.variable d.initial (whole.declared around d) g h.1 s.0
      (front (perhaps_uses d.initial) (flat_map declarator_sights ds) s.1) w in
      let others = all_declared_same ds (whole.declared around d) g h.2
      (back (perhaps_uses d.initial) (flat_map declarator_sights ds) s.1) in
      λ i. then_do (first i) (λ u. others u i)

  effect_flow_same : (e : ResolvedExpressionTree) (around : Around) → IsHere around → IsWhole around false e
      → Sees (expression_uses e) → (w : World) → effect_flow at e w ≡ effect_flow other e w
  effect_flow_same e around g h s w =
      let v = effect_same e around g h s w in λ i. flow_value (v i) (λ x u. flows.Onward u)

  step_same : (e : Option ResolvedExpressionTree) (around : Around) → IsHere around
      → IsWholeIfAny around false e → Sees (perhaps_uses e) → (w : World)
      → effect_if_any at e w ≡ effect_if_any other e w
  step_same None around g h s w = refl
  step_same (Some e) around g h s w = effect_flow_same e around g h s w

  test_same : (c : Option ResolvedExpressionTree) (around : Around) → IsHere around
      → IsWholeIfAny around true c → Sees (perhaps_uses c) → (w : World) (rest : World → Flow)
      → tested_if_any at c w rest ≡ tested_if_any other c w rest
  test_same None around g h s w rest = refl
  test_same (Some c) around g h s w rest =
      let v = value_same c around true g h s in λ i. tested (λ u. v u i) w rest

  begun_same : (start : ResolvedStartTree) (around : Around) → IsHere around → IsWholeStart around start
      → Sees (start_sights start) → (w : World) → begun at start w ≡ begun other start w
  begun_same StartNothing around g h s w = refl
  begun_same (StartExpression e) around g h s w = effect_flow_same e around g h s w
  begun_same (StartDeclaration ds) around g h s w = all_declared_same ds around g h s w

  returned_same : (e : Option ResolvedExpressionTree) (around : Around) → IsHere around
      → IsWholeReturn around e → Sees (perhaps_uses e) → (w : World) → returned at e w ≡ returned other e w
  returned_same None around g h s w = refl
  returned_same (Some e) around g h s w =
      let v = value_same e around true g h.1 s w in λ i. flow_value (v i) (λ x u. flows.Returned (Some x) u)

  -- ---- statements

  declared_here : (ds : List ResolvedDeclaratorTree) (around : Around) → IsHere around
      → IsHere (after_declarators around ds)
  declared_here [] around g = g
  declared_here (d ∷ ds) around g = declared_here ds (whole.declared around d) g

  start_here : (start : ResolvedStartTree) (around : Around) → IsHere around
      → IsHere (after_start around start)
  start_here StartNothing around g = g
  start_here (StartExpression e) around g = g
  start_here (StartDeclaration ds) around g = declared_here ds around g

  item_here : (s : ResolvedStatementTree) (around : Around) → IsHere around → IsHere (after_item around s)
  item_here (Declaration first ds) around g = declared_here ds around g
  item_here _ around g = g

  mutual
    unfolding statement_sights statements_sights

    pub meaning_same : (x : ResolvedStatementTree) (around : Around) → IsHere around
        → IsWholeStatement around x → Sees (statement_sights x) → (n : ℕ) (w : World)
        → meaning at x n w ≡ meaning other x n w
    meaning_same (Declaration first ds) around g h s n w = all_declared_same ds around g h s w
    meaning_same (Block first items) around g h s n w = meanings_same items around g h s n w
    meaning_same (Empty first) around g h s n w = refl
    meaning_same (Expression first e) around g h s n w = effect_flow_same e around g h s w
    meaning_same (If first c x) around g h s n w =
        let test = value_same c around true g h.0 (front (expression_uses c) (statement_sights x) s) w in
        let yes = meaning_same x around g h.1 (back (expression_uses c) (statement_sights x) s) n in
        λ i. flow_value (test i) (λ v u. if is_zero v then flows.Onward u else yes u i)
    meaning_same (IfElse first c x y) around g h s n w =
        let rest = back (expression_uses c) (statement_sights x ++ statement_sights y) s in
        let test = value_same c around true g h.0 (front (expression_uses c)
        (statement_sights x ++ statement_sights y) s) w in
        let yes = meaning_same x around g h.1 (front (statement_sights x) (statement_sights y) rest) n in
        let no = meaning_same y around g h.2 (back (statement_sights x) (statement_sights y) rest) n in
        λ i. flow_value (test i) (λ v u. if is_zero v then no u i else yes u i)
    meaning_same (While first c x) around g h s n w =
        let test = value_same c around true g h.0 (front (expression_uses c) (statement_sights x) s) in
        let body = meaning_same x (repeated around) g h.1 (back (expression_uses c) (statement_sights x) s) n in
        λ i. turns n (tested (λ u. test u i)) (λ u. body u i) flows.Onward w
    meaning_same (Do first x c) around g h s n w =
        let body = meaning_same x (repeated around) g h.0 (front (statement_sights x) (expression_uses c) s) n in
        let test = value_same c around true g h.1 (back (statement_sights x) (expression_uses c) s) in
        λ i. turns_first n (λ u. body u i) (tested (λ u. test u i)) w
    meaning_same (For first start c step x) around g h s n w =
        let inside = after_start around start in
        let here = start_here start around g in
        let sc = back (start_sights start) (perhaps_uses c ++ (perhaps_uses step ++ statement_sights x)) s in
        let ss = back (perhaps_uses c) (perhaps_uses step ++ statement_sights x) sc in
        let first = begun_same start around g h.0 (front (start_sights start)
        (perhaps_uses c ++ (perhaps_uses step ++ statement_sights x)) s) w in
        let test = test_same c inside here h.1 (front (perhaps_uses c) (perhaps_uses step ++ statement_sights x) sc) in
        let between = step_same step inside here h.2 (front (perhaps_uses step) (statement_sights x) ss) in
        let body = meaning_same x (repeated inside) here h.3 (back (perhaps_uses step) (statement_sights x) ss) n in
        λ i. then_do (first i) (turns n (λ u rest. test u rest i) (λ u. body u i) (λ u. between u i))
    meaning_same (Return first e) around g h s n w = returned_same e around g h.1 s w
    meaning_same (Break first) around g h s n w = refl
    meaning_same (Continue first) around g h s n w = refl
    meaning_same (Region first kind clauses captures x) around g h s n w = refl
    meaning_same (Loop first clauses nowait loop x) around g h s n w = refl
    meaning_same (Sections first clauses nowait parts) around g h s n w = refl
    meaning_same (Construct first kind clauses x) around g h s n w = refl
    meaning_same (Update first u) around g h s n w = refl
    meaning_same (StandAlone first directive) around g h s n w = refl

    pub meanings_same : (items : ResolvedStatementsTree) (around : Around) → IsHere around
        → AreWholeItems around items → Sees (statements_sights items) → (n : ℕ) (w : World)
        → meanings at items n w ≡ meanings other items n w
    meanings_same NoStatements around g h s n w = refl
    meanings_same (Statement x rest) around g h s n w =
        let first = meaning_same x around g h.0 (front (statement_sights x) (statements_sights rest) s) n w in
        let others = meanings_same rest (after_item around x) (item_here x around g) h.1
        (back (statement_sights x) (statements_sights rest) s) n in
        λ i. then_do (first i) (λ u. others u i)

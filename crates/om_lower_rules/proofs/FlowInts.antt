-- From variables that hold ints a statement leaves variables that hold ints.
use Rattle.std.proofs.Common.{ℕ, zero, suc, ℤ, Bool, true, false, List, [], ◌∷◌, Option, Some, None, refl}
use Rattle.std.proofs.Common.{sym, subst}
use Rattle.std.specs.Prelude.{All, IfSome, nat_eq, if◌then◌else◌}
use Rattle.std.proofs.lemmas.List.Elements.{All-head, All-tail}
use Rattle.om_code.specs.declared.frame.Cell.TheVariants as cell
use Rattle.om_code.specs.declared.instruction.Place.TheVariants as place
use Rattle.om_scope_tree.specs.declared.resolved.LocalVariable.{LocalVariable}
use Rattle.om_scope_tree.specs.declared.resolved.Variable.TheVariants.{Local}
use Rattle.om_scope_tree.specs.ResolvedTree.{ResolvedExpressionTree, Constant, Variable, Element, Call, ThreadNumber}
use Rattle.om_scope_tree.specs.ResolvedTree.{TeamSize, Print, Unary, Binary, Conditional, Assign, AssignElement, Postfix}
use Rattle.om_scope_tree.specs.ResolvedTree.{PostfixElement, ValuesTree, NoValues, Value, ResolvedDeclaratorTree}
use Rattle.om_scope_tree.specs.ResolvedTree.{ResolvedStartTree, StartNothing, StartExpression, StartDeclaration}
use Rattle.om_scope_tree.specs.ResolvedTree.{ResolvedStatementTree, Declaration, Block, Empty, Expression, If, IfElse}
use Rattle.om_scope_tree.specs.ResolvedTree.{While, Do, For, Return, Break, Continue, Region, Loop, Sections}
use Rattle.om_scope_tree.specs.ResolvedTree.{Construct, Update, StandAlone, ResolvedStatementsTree, NoStatements}
use Rattle.om_scope_tree.specs.ResolvedTree.{Statement}
use Rattle.om_lower_rules.specs.Operators.{step_of}
use Rattle.om_lower_rules.specs.Ints.{IsInt, HoldsInt, HoldsInts, LeavesInts, HasInts, AllHaveInts, EffectHasInts}
use Rattle.om_lower_rules.specs.Ints.{DeclaratorHasInts, StartHasInts, StatementHasInts, StatementsHaveInts, FlowLeavesInts}
use Rattle.om_lower_rules.specs.MeaningLaws.{IntsStayBehind}
use Rattle.om_lower_rules.specs.Meaning.{is_zero, assigned, element_assigned, one, value_of, values_of, effect_of, printed}
use Rattle.om_lower_rules.specs.Meaning.{Flow, Onward, Broke}
use Rattle.om_lower_rules.specs.Meaning.{Continued, Returned, Failed, OutOfTurns, flow_value, then_do, after_turn, turns}
use Rattle.om_lower_rules.specs.Meaning.{turns_first, tested, tested_if_any, effect_flow, effect_if_any, slot_number}
use Rattle.om_lower_rules.specs.Meaning.{declared, all_declared, begun, returned, meaning, meanings}
use Rattle.om_lower_rules.specs.Worlds.{World, Layout, Outcome, Got, Faulty, Values, GotAll, FaultyAt, after_value}
use Rattle.om_lower_rules.specs.Worlds.{with_first, store, clear, print}
use Rattle.om_lower_rules.proofs.Ints.{Stays, value_ints, store_ints, assigned_ints, element_assigned_ints, one_ints}
use Rattle.om_lower_rules.proofs.OperatorsAgree.{steps_agree}

-- from a world of ints it leaves ints
abbrev Keeps : (World → Flow) → Type 0
Keeps f = (w : World) → HoldsInts w → FlowLeavesInts (f w)

flow_of : (r : Outcome) (f : ℤ → World → Flow) → LeavesInts r → ((v : ℤ) (u : World) → IsInt v → HoldsInts u
    → FlowLeavesInts (f v u)) → FlowLeavesInts (flow_value r f)
flow_of (Got v w) f h g = g v w h.0 h.1
flow_of (Faulty x w) f h g = h

then_ints : (r : Flow) (f : World → Flow) → FlowLeavesInts r → Keeps f → FlowLeavesInts (then_do r f)
then_ints (Onward w) f h g = g w h
then_ints (Broke w) f h g = h
then_ints (Continued w) f h g = h
then_ints (Returned v w) f h g = h
then_ints (Failed x w) f h g = h
then_ints OutOfTurns f h g = h

after_ints : (r : Flow) (f : World → Flow) → FlowLeavesInts r → Keeps f → FlowLeavesInts (after_turn r f)
after_ints (Onward w) f h g = g w h
after_ints (Broke w) f h g = h
after_ints (Continued w) f h g = g w h
after_ints (Returned v w) f h g = h
after_ints (Failed x w) f h g = h
after_ints OutOfTurns f h g = h

chosen_flow : (b : Bool) (r t : Flow) → FlowLeavesInts r → FlowLeavesInts t → FlowLeavesInts (if b then r else t)
chosen_flow true r t h g = h
chosen_flow false r t h g = g

-- a test lets what follows keep ints
abbrev Tests : (World → (World → Flow) → Flow) → Type 0
Tests test = (f : World → Flow) → Keeps f → Keeps (λ w. test w f)

tested_ints : (c : World → Outcome) → Stays c → Tests (tested c)
tested_ints c hc f hf w h = flow_of (c w) (λ v u. if is_zero v then Onward u else f u) (hc w h)
    (λ v u int h. chosen_flow (is_zero v) (Onward u) (f u) h (hf u h))

turns_ints : (n : ℕ) (test : World → (World → Flow) → Flow) (body between_turns : World → Flow) → Tests test
    → Keeps body → Keeps between_turns
    → Keeps (turns n test body between_turns)
turns_ints zero test body between_turns ht hb hn w h = tt
turns_ints (suc n) test body between_turns ht hb hn w h =
    ht (λ u. after_turn (body u) (λ t. then_do (between_turns t) (turns n test body between_turns)))
    (λ u h. after_ints (body u) (λ t. then_do (between_turns t) (turns n test body between_turns)) (hb u h)
    (λ t h. then_ints (between_turns t) (turns n test body between_turns) (hn t h)
    (turns_ints n test body between_turns ht hb hn)))
    w h

first_ints : (n : ℕ) (body : World → Flow) (test : World → (World → Flow) → Flow) → Keeps body → Tests test
    → Keeps (turns_first n body test)
first_ints zero body test hb ht w h = tt
first_ints (suc n) body test hb ht w h =
    after_ints (body w) (λ u. test u (turns_first n body test)) (hb w h)
    (ht (turns_first n body test) (first_ints n body test hb ht))

-- ---- printing and expressions whose value nothing uses

abbrev ValuesLeaveInts : Values → Type 0
ValuesLeaveInts (GotAll vs w) = HoldsInts w
ValuesLeaveInts (FaultyAt f w) = HoldsInts w

first_ints_of : (v : ℤ) (r : Values) → ValuesLeaveInts r → ValuesLeaveInts (with_first v r)
first_ints_of v (GotAll vs w) h = h
first_ints_of v (FaultyAt f w) h = h

after_value_ints : (r : Outcome) (f : ℤ → World → Values) → LeavesInts r → ((v : ℤ) (u : World) → HoldsInts u
    → ValuesLeaveInts (f v u)) → ValuesLeaveInts (after_value r f)
after_value_ints (Got v w) f h g = g v w h.1
after_value_ints (Faulty x w) f h g = h

module _ (at : Layout) where
  values_ints : (es : ValuesTree) → AllHaveInts es → (w : World) → HoldsInts w → ValuesLeaveInts (values_of at es w)
  values_ints NoValues g w h = h
  values_ints (Value e rest) g w h =
      after_value_ints (value_of at e w) (λ v u. with_first v (values_of at rest u)) (value_ints at e g.0 w h)
      (λ v u h. first_ints_of v (values_of at rest u) (values_ints rest g.1 u h))

  print_ints : (format : List ℕ) (vs : List ℤ) (w : World) → HoldsInts w → HoldsInts (print format vs w)
  print_ints format vs w h (place.Global n) k = h (place.Global n) k
  print_ints format vs w h (place.Slot n) k = h (place.Slot n) k

  printed_ints : (format : List ℕ) (r : Values) → ValuesLeaveInts r → LeavesInts (printed format r)
  printed_ints format (GotAll vs w) h = (refl, print_ints format vs w h)
  printed_ints format (FaultyAt f w) h = h

  effect_ints : (e : ResolvedExpressionTree) → EffectHasInts e → Stays (λ w. effect_of at e w)
  effect_ints (Postfix x o) g w h =
      subst (λ z. LeavesInts (assigned (at.place x) (Some z) one w)) (sym (steps_agree o).0)
      (assigned_ints (at.place x) (Some (step_of o)) one one_ints w h)
  effect_ints (PostfixElement a j o) g w h =
      subst (λ z. LeavesInts (element_assigned (at.place a) (at.cells (at.place a)) (λ u. value_of at j u) (Some z) one
      w)) (sym (steps_agree o).0)
      (element_assigned_ints (at.place a) (at.cells (at.place a)) (λ u. value_of at j u) (Some (step_of o)) one
      (value_ints at j g) one_ints w h)
  effect_ints (Print format es) g w h = printed_ints format (values_of at es w) (values_ints es g w h)
  effect_ints (Constant c) g w h = value_ints at (Constant c) g w h
  effect_ints (Variable x) g w h = value_ints at (Variable x) g w h
  effect_ints (Element a j) g w h = value_ints at (Element a j) g w h
  effect_ints (Call f es) g w h = h
  effect_ints ThreadNumber g w h = h
  effect_ints TeamSize g w h = h
  effect_ints (Unary o e) g w h = value_ints at (Unary o e) g w h
  effect_ints (Binary a o b) g w h = value_ints at (Binary a o b) g w h
  effect_ints (Conditional c a b) g w h = value_ints at (Conditional c a b) g w h
  effect_ints (Assign x o e) g w h = value_ints at (Assign x o e) g w h
  effect_ints (AssignElement a j o e) g w h = value_ints at (AssignElement a j o e) g w h

  effect_keeps : (e : ResolvedExpressionTree) → EffectHasInts e → Keeps (effect_flow at e)
  effect_keeps e g w h = flow_of (effect_of at e w) (λ v u. Onward u) (effect_ints e g w h) (λ v u int h. h)

  step_keeps : (e : Option ResolvedExpressionTree) → IfSome e EffectHasInts → Keeps (effect_if_any at e)
  step_keeps None g w h = h
  step_keeps (Some e) g w h = effect_keeps e g w h

  test_keeps : (c : Option ResolvedExpressionTree) → IfSome c HasInts → Tests (tested_if_any at c)
  test_keeps None g f hf w h = hf w h
  test_keeps (Some c) g f hf w h = tested_ints (λ u. value_of at c u) (value_ints at c g) f hf w h

  -- ---- statements

  clear_ints : (slot : ℕ) (w : World) → HoldsInts w → HoldsInts (clear slot w)
  unfolding clear
  clear_ints slot w h (place.Global n) k = h (place.Global n) k
  clear_ints slot w h (place.Slot n) k = chosen (nat_eq n slot)
    where
      chosen : (b : Bool) → HoldsInt (if b then cell.Unset else w.slots n k)
      chosen true = tt
      chosen false = h (place.Slot n) k

  declared_keeps : (x : LocalVariable) (e : Option ResolvedExpressionTree) → IfSome e HasInts → Keeps (declared at x e)
  declared_keeps x None g w h = clear_ints (slot_number (at.place (Local x.at))) w h
  declared_keeps x (Some e) g w h =
      flow_of (value_of at e w) (λ v u. flow_value (store (at.place (Local x.at)) 0 v u) (λ z t. Onward t))
      (value_ints at e g w h)
      (λ v u int h. flow_of (store (at.place (Local x.at)) 0 v u) (λ z t. Onward t)
      (store_ints (at.place (Local x.at)) 0 v u int h) (λ z t int h. h))

  declarators_keep : (ds : List ResolvedDeclaratorTree) → All DeclaratorHasInts ds → Keeps (all_declared at ds)
  declarators_keep [] g w h = h
  declarators_keep (d ∷ ds) g w h =
      then_ints (declared at d.variable d.initial w) (all_declared at ds) (declared_keeps d.variable d.initial
      (All-head DeclaratorHasInts d ds g) w h)
      (declarators_keep ds (All-tail DeclaratorHasInts d ds g))

  start_keeps : (start : ResolvedStartTree) → StartHasInts start → Keeps (begun at start)
  start_keeps StartNothing g w h = h
  start_keeps (StartExpression e) g w h = effect_keeps e g w h
  start_keeps (StartDeclaration ds) g w h = declarators_keep ds g w h

  returned_keeps : (e : Option ResolvedExpressionTree) → IfSome e HasInts → Keeps (returned at e)
  returned_keeps None g w h = (tt, h)
  returned_keeps (Some e) g w h = flow_of (value_of at e w) (λ v u. Returned (Some v) u) (value_ints at e g w h)
      (λ v u int h. (int, h))

  mutual
    statement_keeps : (x : ResolvedStatementTree) (n : ℕ) → StatementHasInts x → Keeps (λ w. meaning at x n w)
    statement_keeps (Declaration first ds) n g w h = declarators_keep ds g w h
    statement_keeps (Block first items) n g w h = statements_keep items n g w h
    statement_keeps (Empty first) n g w h = h
    statement_keeps (Expression first e) n g w h = effect_keeps e g w h
    statement_keeps (If first c s) n g w h =
        flow_of (value_of at c w) (λ v u. if is_zero v then Onward u else meaning at s n u) (value_ints at c g.0 w h)
        (λ v u int h. chosen_flow (is_zero v) (Onward u) (meaning at s n u) h (statement_keeps s n g.1 u h))
    statement_keeps (IfElse first c s t) n g w h =
        flow_of (value_of at c w) (λ v u. if is_zero v then meaning at t n u else meaning at s n u)
        (value_ints at c g.0 w h)
        (λ v u int h. chosen_flow (is_zero v) (meaning at t n u) (meaning at s n u) (statement_keeps t n g.2 u h)
        (statement_keeps s n g.1 u h))
    statement_keeps (While first c s) n g w h =
        turns_ints n (tested (λ u. value_of at c u)) (λ u. meaning at s n u) Onward
        (tested_ints (λ u. value_of at c u) (value_ints at c g.0)) (statement_keeps s n g.1) (λ u h. h) w h
    statement_keeps (Do first s c) n g w h =
        first_ints n (λ u. meaning at s n u) (tested (λ u. value_of at c u)) (statement_keeps s n g.0)
        (tested_ints (λ u. value_of at c u) (value_ints at c g.1)) w h
    statement_keeps (For first start c step s) n g w h =
        then_ints (begun at start w) (turns n (tested_if_any at c) (λ u. meaning at s n u) (effect_if_any at step))
        (start_keeps start g.0 w h)
        (turns_ints n (tested_if_any at c) (λ u. meaning at s n u) (effect_if_any at step) (test_keeps c g.1)
        (statement_keeps s n g.3) (step_keeps step g.2))
    statement_keeps (Return first e) n g w h = returned_keeps e g w h
    statement_keeps (Break first) n g w h = h
    statement_keeps (Continue first) n g w h = h
    statement_keeps (Region first kind clauses captures s) n g w h = h
    statement_keeps (Loop first clauses nowait l s) n g w h = h
    statement_keeps (Sections first clauses nowait parts) n g w h = h
    statement_keeps (Construct first kind clauses s) n g w h = h
    statement_keeps (Update first u) n g w h = h
    statement_keeps (StandAlone first directive) n g w h = h

    statements_keep : (xs : ResolvedStatementsTree) (n : ℕ) → StatementsHaveInts xs → Keeps (λ w. meanings at xs n w)
    statements_keep NoStatements n g w h = h
    statements_keep (Statement x xs) n g w h = then_ints (meaning at x n w) (λ u. meanings at xs n u)
        (statement_keeps x n g.0 w h) (statements_keep xs n g.1)

pub ints_stay_behind : IntsStayBehind
ints_stay_behind at x n w g h = statement_keeps at x n g w h

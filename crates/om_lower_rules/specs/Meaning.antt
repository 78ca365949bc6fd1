-- What expressions and statements mean that one thread carries out, without calls and directives (C17 6.5 and
-- 6.8). Nothing here knows code.
--
-- C17 leaves the order of many evaluations open. Here it is from left to right. An assignment takes its index,
-- then its value, and then stores; a compound one takes its index, the old value, and then the other value.
use Rattle.std.specs.Prelude.{ℕ, zero, suc, ℤ, pos, Bool, not, Option, None, Some, List, [], ◌∷◌, if◌then◌else◌}
use Rattle.std.specs.Ordering.{int_eq}
use Rattle.om_code.specs.declared.frame.Fault.{Fault}
use Rattle.om_code.specs.declared.frame.Fault.TheVariants as fault
use Rattle.om_code.specs.declared.instruction.Place.{Place}
use Rattle.om_code.specs.declared.instruction.Place.TheVariants as place
use Rattle.om_code.specs.Frames.{index_in}
use Rattle.om_scope_tree.specs.declared.resolved.LocalVariable.{LocalVariable}
use Rattle.om_scope_tree.specs.declared.resolved.UnaryOperator.{UnaryOperator}
use Rattle.om_scope_tree.specs.declared.resolved.Variable.TheVariants.{Local}
use Rattle.om_scope_tree.specs.ResolvedTree as trees
use Rattle.om_scope_tree.specs.ResolvedTree.{ResolvedExpressionTree, Constant, Element, Print, Unary, Binary, Conditional}
use Rattle.om_scope_tree.specs.ResolvedTree.{Assign, AssignElement, Postfix, PostfixElement, ValuesTree, NoValues}
use Rattle.om_scope_tree.specs.ResolvedTree.{ResolvedDeclaratorTree, ResolvedStartTree, StartNothing, StartExpression}
use Rattle.om_scope_tree.specs.ResolvedTree.{StartDeclaration, ResolvedStatementTree, Declaration, Block, Empty}
use Rattle.om_scope_tree.specs.ResolvedTree.{Expression, If, IfElse, While, Do, For, Return, Break, Continue}
use Rattle.om_scope_tree.specs.ResolvedTree.{ResolvedStatementsTree, NoStatements, Statement}
use Rattle.om_lower_rules.specs.SourceOperators.{Operation, BinaryMeaning, And, Or, OfBoth, one_if, binary_meaning}
use Rattle.om_lower_rules.specs.SourceOperators.{unary_meaning, compound_meaning, step_meaning, inverse_step_meaning}
use Rattle.om_lower_rules.specs.Worlds.{World, Layout, Outcome, Got, Faulty, with_value, result, Values, GotAll, FaultyAt}
use Rattle.om_lower_rules.specs.Worlds.{after_value, with_first, load, store, at_index, clear, print}

abbrev pub is_zero : ℤ → Bool
is_zero v = int_eq v (pos 0)

-- C17 6.5.13, 6.5.14: 1 unless it is 0
abbrev pub truth_of : ℤ → ℤ
truth_of v = one_if (not (is_zero v))

-- ---- expressions

abbrev pub unary_value : UnaryOperator → ℤ → World → Outcome
unary_value operator v w = result (unary_meaning operator v) w

-- the second operand of `&&` and `||` is evaluated only where the first leaves it open (C17 6.5.13p4,
-- 6.5.14p4)
abbrev pub binary_value : BinaryMeaning → Outcome → (World → Outcome) → Outcome
binary_value And a b =
    with_value a (λ x u. if is_zero x then Got (pos 0) u else with_value (b u) (λ y t. Got (truth_of y) t))
binary_value Or a b =
    with_value a (λ x u. if is_zero x then with_value (b u) (λ y t. Got (truth_of y) t) else Got (pos 1) u)
binary_value (OfBoth of) a b =
    with_value a (λ x u. with_value (b u) (λ y t. result (of x y) t))

-- a variable, by its place, gets a value, with its old one or not; the value is that of the assignment (C17
-- 6.5.16p3)
abbrev pub assigned : Place → Option Operation → (World → Outcome) → World → Outcome
assigned at None e w = with_value (e w) (λ v u. store at 0 v u)
assigned at (Some of) e w =
    with_value (load at 0 w) (λ x u. with_value (e u) (λ y t. with_value (result (of x y) t)
    (λ z s. store at 0 z s)))

-- an element of an array of so many cells
abbrev pub load_element : Place → ℕ → ℤ → World → Outcome
load_element at cells n w = at_index (index_in cells n) w (λ k. load at k w)

abbrev pub store_element : Place → ℕ → ℤ → ℤ → World → Outcome
store_element at cells n v w = at_index (index_in cells n) w (λ k. store at k v w)

abbrev pub element_assigned : Place → ℕ → (World → Outcome) → Option Operation → (World → Outcome) → World → Outcome
element_assigned at cells j None e w =
    with_value (j w) (λ n u. with_value (e u) (λ v t. store_element at cells n v t))
element_assigned at cells j (Some of) e w =
    with_value (j w) (λ n u. with_value (load_element at cells n u) (λ x t. with_value (e t) (λ y s.
    with_value (result (of x y) s) (λ z r. store_element at cells n z r))))

-- the step of `x++` is taken back from its value: for an int that is the old one (C17 6.5.2.4p2), as a law says
abbrev pub stepped_back : Operation → Outcome → Outcome
stepped_back of r = with_value r (λ z w. result (of z (pos 1)) w)

abbrev pub one : World → Outcome
one w = Got (pos 1) w

-- stands where nothing is meant: no law speaks of what is not serial
abbrev pub meaningless : World → Outcome
meaningless w = Faulty fault.NoValue w

-- the value of an expression; calls, and numbers of threads, mean nothing here
abbrev mutual
  pub value_of : Layout → ResolvedExpressionTree → World → Outcome
  value_of at (Constant c) w = Got c w
  value_of at (trees.Variable x) w = load (at.place x) 0 w
  value_of at (Element a j) w =
      with_value (value_of at j w) (λ n u. load_element (at.place a) (at.cells (at.place a)) n u)
  value_of at (Unary operator e) w = with_value (value_of at e w) (λ v u. unary_value operator v u)
  value_of at (Binary a operator b) w =
      binary_value (binary_meaning operator) (value_of at a w) (λ u. value_of at b u)
  value_of at (Conditional c a b) w =
      with_value (value_of at c w) (λ v u. if is_zero v then value_of at b u else value_of at a u)
  value_of at (Assign x operator e) w = assigned (at.place x) (compound_meaning operator) (λ u. value_of at e u) w
  value_of at (AssignElement a j operator e) w =
      element_assigned (at.place a) (at.cells (at.place a)) (λ u. value_of at j u) (compound_meaning operator)
      (λ u. value_of at e u) w
  value_of at (Postfix x operator) w =
      stepped_back (inverse_step_meaning operator) (assigned (at.place x) (Some (step_meaning operator)) one w)
  value_of at (PostfixElement a j operator) w =
      stepped_back (inverse_step_meaning operator) (element_assigned (at.place a) (at.cells (at.place a))
      (λ u. value_of at j u) (Some (step_meaning operator)) one w)
  value_of at _ w = meaningless w

  pub values_of : Layout → ValuesTree → World → Values
  values_of at NoValues w = GotAll [] w
  values_of at (trees.Value e rest) w =
      after_value (value_of at e w) (λ v u. with_first v (values_of at rest u))

abbrev pub printed : List ℕ → Values → Outcome
printed format (GotAll values w) = Got (pos 0) (print format values w)
printed format (FaultyAt f w) = Faulty f w

-- an expression whose value nothing uses; `printf` is one
abbrev pub effect_of : Layout → ResolvedExpressionTree → World → Outcome
effect_of at (Postfix x operator) w = assigned (at.place x) (Some (step_meaning operator)) one w
effect_of at (PostfixElement a j operator) w =
    element_assigned (at.place a) (at.cells (at.place a))
    (λ u. value_of at j u) (Some (step_meaning operator)) one w
effect_of at (Print format es) w = printed format (values_of at es w)
effect_of at e w = value_of at e w

-- ---- statements

-- how a statement goes on; a loop may be out of turns
pub data Flow : Type 0 where
  Onward : (world : World) → Flow
  Broke : (world : World) → Flow
  Continued : (world : World) → Flow
  Returned : (value : Option ℤ) (world : World) → Flow
  Failed : (fault : Fault) (world : World) → Flow
  OutOfTurns : Flow

abbrev pub flow_value : Outcome → (ℤ → World → Flow) → Flow
flow_value (Got v w) rest = rest v w
flow_value (Faulty f w) rest = Failed f w

abbrev pub then_do : Flow → (World → Flow) → Flow
then_do (Onward w) rest = rest w
then_do (Broke w) rest = Broke w
then_do (Continued w) rest = Continued w
then_do (Returned v w) rest = Returned v w
then_do (Failed f w) rest = Failed f w
then_do OutOfTurns rest = OutOfTurns

-- behind the body of a loop
abbrev pub after_turn : Flow → (World → Flow) → Flow
after_turn (Onward w) rest = rest w
after_turn (Broke w) rest = Onward w
after_turn (Continued w) rest = rest w
after_turn (Returned v w) rest = Returned v w
after_turn (Failed f w) rest = Failed f w
after_turn OutOfTurns rest = OutOfTurns

-- at most n turns (C17 6.8.5): the test, the body, and what comes between two turns
abbrev pub turns : ℕ → (World → (World → Flow) → Flow) → (World → Flow) → (World → Flow) → World → Flow
turns zero test body between w = OutOfTurns
turns (suc n) test body between w =
    test w (λ u. after_turn (body u) (λ t. then_do (between t) (turns n test body between)))

-- the same, with the body first (C17 6.8.5.2)
abbrev pub turns_first : ℕ → (World → Flow) → (World → (World → Flow) → Flow) → World → Flow
turns_first zero body test w = OutOfTurns
turns_first (suc n) body test w = after_turn (body w) (λ u. test u (turns_first n body test))

-- on where a condition is not 0, and else at the end of the loop
abbrev pub tested : (World → Outcome) → World → (World → Flow) → Flow
tested c w rest = flow_value (c w) (λ v u. if is_zero v then Onward u else rest u)

-- a loop without a condition goes on (C17 6.8.5.3p2)
abbrev pub tested_if_any : Layout → Option ResolvedExpressionTree → World → (World → Flow) → Flow
tested_if_any at None w rest = rest w
tested_if_any at (Some c) w rest = tested (λ u. value_of at c u) w rest

abbrev pub effect_flow : Layout → ResolvedExpressionTree → World → Flow
effect_flow at e w = flow_value (effect_of at e w) (λ v u. Onward u)

abbrev pub effect_if_any : Layout → Option ResolvedExpressionTree → World → Flow
effect_if_any at None w = Onward w
effect_if_any at (Some e) w = effect_flow at e w

-- the number of a slot; what is declared is never a global
abbrev pub slot_number : Place → ℕ
slot_number (place.Slot number) = number
slot_number (place.Global number) = number

-- C17 6.7.9: a declared variable gets its value, or holds none
abbrev pub declared : Layout → LocalVariable → Option ResolvedExpressionTree → World → Flow
declared at x None w = Onward (clear (slot_number (at.place (Local x.at))) w)
declared at x (Some e) w =
    flow_value (value_of at e w) (λ v u. flow_value (store (at.place (Local x.at)) 0 v u) (λ z t. Onward t))

abbrev pub all_declared : Layout → List ResolvedDeclaratorTree → World → Flow
all_declared at [] w = Onward w
all_declared at (d ∷ ds) w = then_do (declared at d.variable d.initial w) (all_declared at ds)

abbrev pub begun : Layout → ResolvedStartTree → World → Flow
begun at StartNothing w = Onward w
begun at (StartExpression e) w = effect_flow at e w
begun at (StartDeclaration ds) w = all_declared at ds w

abbrev pub returned : Layout → Option ResolvedExpressionTree → World → Flow
returned at None w = Returned None w
returned at (Some e) w = flow_value (value_of at e w) (λ v u. Returned (Some v) u)

-- a statement, each of whose loops makes at most n turns; directives mean nothing here
abbrev mutual
  pub meaning : Layout → ResolvedStatementTree → ℕ → World → Flow
  meaning at (Declaration first ds) n w = all_declared at ds w
  meaning at (Block first items) n w = meanings at items n w
  meaning at (Empty first) n w = Onward w
  meaning at (Expression first e) n w = effect_flow at e w
  meaning at (If first c s) n w =
      flow_value (value_of at c w) (λ v u. if is_zero v then Onward u else meaning at s n u)
  meaning at (IfElse first c s t) n w =
      flow_value (value_of at c w) (λ v u. if is_zero v then meaning at t n u else meaning at s n u)
  meaning at (While first c s) n w = turns n (tested (λ u. value_of at c u)) (λ u. meaning at s n u) Onward w
  meaning at (Do first s c) n w = turns_first n (λ u. meaning at s n u) (tested (λ u. value_of at c u)) w
  meaning at (For first start c step s) n w =
      then_do (begun at start w) (turns n (tested_if_any at c)
      (λ u. meaning at s n u) (effect_if_any at step))
  meaning at (Return first e) n w = returned at e w
  meaning at (Break first) n w = Broke w
  meaning at (Continue first) n w = Continued w
  meaning at _ n w = Failed fault.NoValue w

  pub meanings : Layout → ResolvedStatementsTree → ℕ → World → Flow
  meanings at NoStatements n w = Onward w
  meanings at (Statement s rest) n w = then_do (meaning at s n w) (λ u. meanings at rest n u)

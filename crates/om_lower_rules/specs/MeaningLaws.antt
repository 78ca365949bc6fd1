-- The code of the relation does what expressions and statements mean.
use Rattle.std.specs.Prelude.{◌≡◌, ◌≢◌, ℕ, ℤ, Bool, true, Option, None, Some, List, [], All, IsSomeAnd, slice_get}
use Rattle.std.specs.List.{AllZip, list_any}
use Rattle.std.specs.Str.{bytes_eq}
use Rattle.om_code.specs.declared.frame.Fault.{Fault}
use Rattle.om_code.specs.declared.frame.Operand.{Operand}
use Rattle.om_code.specs.declared.raw.Body.{Body}
use Rattle.om_code.specs.declared.raw.Raw.{Raw}
use Rattle.om_code.specs.Frames as frames
use Rattle.om_code.specs.Frames.{Frame, FrameTurn, Faulted, Stuck, cells_in, index_in}
use Rattle.om_parser_tree.specs.declared.tree.PostfixOperator.{PostfixOperator}
use Rattle.om_scope_tree.specs.declared.resolved.Variable.{Variable}
use Rattle.om_scope_tree.specs.ResolvedTree.{ResolvedExpressionTree, Postfix, PostfixElement, ResolvedStatementTree}
use Rattle.om_scope_tree.specs.ResolvedTree.{ResolvedStatementsTree, ResolvedFunctionTree, ResolvedTree}
use Rattle.om_scope_tree.specs.Uses.{is_main_function}
use Rattle.om_lower_rules.specs.Bodies.{Numbers, called_body, function_variables}
use Rattle.om_lower_rules.specs.Code.{IsCodeOf}
use Rattle.om_lower_rules.specs.Expressions.{value}
use Rattle.om_lower_rules.specs.Mentions.{IsTextOf, format_mention, mentioned}
use Rattle.om_lower_rules.specs.Rows.{Site}
use Rattle.om_lower_rules.specs.Slots.{place_of}
use Rattle.om_lower_rules.specs.Statements.{Jumps, statement}
use Rattle.om_lower_rules.specs.Ints.{HasInts, HoldsInts, LeavesInts, StatementHasInts, FlowLeavesInts}
use Rattle.om_lower_rules.specs.Meaning as flows
use Rattle.om_lower_rules.specs.Meaning.{Flow, Failed, OutOfTurns, then_do, value_of, effect_of, load_element, meaning}
use Rattle.om_lower_rules.specs.Meaning.{meanings}
use Rattle.om_lower_rules.specs.Running.{frame, world_of, run, ended, Ends, Gives, Does}
use Rattle.om_lower_rules.specs.Serial.{IsSerial, IsSerialStatement, AreSerialStatements}
use Rattle.om_lower_rules.specs.Worlds.{World, Layout, Got, with_value, load}

-- where a body has these variables, by their slots, and how many cells its tables give them
abbrev pub layout_of : Raw → Body → (variables : List ℕ) → Layout
layout_of raw body variables = record { place = place_of variables; cells = cells_in raw body.slots }

-- From where its code begins, on any operands, a frame comes to where the code ends, with the expression's
-- value on them, or meets the expression's fault.
abbrev pub ValueMeans : Type 0
ValueMeans =
    (raw : Raw) (body : Body) (at : Site) → at.code ≡ body.code →
    (e : ResolvedExpressionTree) (l p q : ℕ) (s : List Operand) (w : World) → IsSerial e → value at l e p q →
    Gives raw body (frame p s w) q s (value_of (layout_of raw body at.slots) e w)

-- The same of a statement: it goes on behind its code, or as a jump of its loop does, or ends its body.
abbrev pub StatementMeans : Type 0
StatementMeans =
    (raw : Raw) (body : Body) (at : Site) → at.code ≡ body.code → AllZip IsTextOf at.formats raw.texts →
    (x : ResolvedStatementTree) (m : Numbers) (n : ℕ) (jumps : Jumps)
    (p q : ℕ) (s : List Operand) (w : World) →
    IsSerialStatement x →
    All (λ format. list_any (bytes_eq format) at.formats ≡ true) (mentioned format_mention x) →
    statement at m x jumps p q →
    Does raw body at.is_main n (frame p s w) q jumps s (meaning (layout_of raw body at.slots) x n w)

-- ---- a whole function

-- it returns at its closing brace
abbrev pub source : Layout → ResolvedStatementsTree → ℕ → World → Flow
source at items n w = then_do (meanings at items n w) (flows.Returned None)

-- a run that doesn't go on
abbrev pub IsOver : FrameTurn → Type 0
IsOver (frames.Onward f) = ⊥
IsOver _ = Unit {0}

-- the end of a run is that of the meaning
abbrev pub Agrees : (is_main : Bool) → Flow → FrameTurn → Type 0
Agrees is_main (flows.Returned v w) t = (f : Frame) × (t ≡ ended is_main v f) × (world_of f ≡ w)
Agrees is_main (Failed x w) t = (f : Frame) × (t ≡ Faulted x f) × (world_of f ≡ w)
Agrees is_main _ t = ⊥

-- a body does what this means, from a fresh frame in any world
pub record Behaves (raw : Raw) (body : Body) (is_main : Bool) (means : ℕ → World → Flow) : Type 0 where
  -- where the meaning ends, it ends so: with the value, the globals and the output
  pub ends : (w : World) (n : ℕ) (v : Option ℤ) (u : World) → means n w ≡ flows.Returned v u →
      Ends raw body (frame 0 [] w) (ended is_main v) u
  -- where the meaning faults, it faults so
  pub faults : (w : World) (n : ℕ) (x : Fault) (u : World) → means n w ≡ Failed x u →
      Ends raw body (frame 0 [] w) (Faulted x) u
  -- where loops are out of n turns, it goes on for n instructions
  pub goes_on : (w : World) (n : ℕ) → means n w ≡ OutOfTurns →
      (f : Frame) × (run raw body n (frame 0 [] w) ≡ frames.Onward f)
  -- where it is over after n instructions, the meaning with n turns ends or faults so
  pub only : (w : World) (n : ℕ) (t : FrameTurn) → IsOver t → run raw body n (frame 0 [] w) ≡ t →
      Agrees is_main (means n w) t
  -- it lacks nothing
  pub never_stuck : (w : World) (n : ℕ) → run raw body n (frame 0 [] w) ≢ Stuck

-- The body of each function without calls and directives, run by the frame machine, does what it means.
abbrev pub KeepsMeaning : ResolvedTree → Raw → Type 0
KeepsMeaning tree raw =
    (k : ℕ) (f : ResolvedFunctionTree) → slice_get tree.functions k ≡ Some f → AreSerialStatements f.body →
    IsSomeAnd (slice_get raw.bodies (called_body tree.functions k)) (λ body.
    Behaves raw body (is_main_function f) (source (layout_of raw body (function_variables f)) f.body))

-- The code of a tree keeps its meaning so.
abbrev pub SerialMeaning : Type 0
SerialMeaning = (tree : ResolvedTree) (raw : Raw) → IsCodeOf tree raw → KeepsMeaning tree raw

-- ---- the old value of `x++` and its like (C17 6.5.2.4p2)

-- It does what it does as a statement, and its value is what the variable held.
abbrev pub PostfixGivesOld : Type 0
PostfixGivesOld =
    (at : Layout) (x : Variable) (operator : PostfixOperator) (w : World) → HoldsInts w →
    value_of at (Postfix x operator) w
    ≡ with_value (load (at.place x) 0 w) (λ old u.
    with_value (effect_of at (Postfix x operator) w) (λ z t. Got old t))

-- The same of an element, behind its index.
abbrev pub ElementGivesOld : Type 0
ElementGivesOld =
    (at : Layout) (a : Variable) (j : ResolvedExpressionTree) (operator : PostfixOperator) (w : World) →
    HasInts j → HoldsInts w →
    value_of at (PostfixElement a j operator) w
    ≡ with_value (value_of at j w) (λ n u.
    with_value (load_element (at.place a) (at.cells (at.place a)) n u) (λ old s.
    with_value (effect_of at (PostfixElement a j operator) w) (λ z t. Got old t)))

-- ---- ints

-- Where variables hold ints and constants are ints, each value is an int, and variables hold ints behind it.
abbrev pub IntsStay : Type 0
IntsStay =
    (at : Layout) (e : ResolvedExpressionTree) (w : World) → HasInts e → HoldsInts w →
    LeavesInts (value_of at e w)

-- The same of a statement, wherever it goes on and whatever it returns.
abbrev pub IntsStayBehind : Type 0
IntsStayBehind =
    (at : Layout) (x : ResolvedStatementTree) (n : ℕ) (w : World) → StatementHasInts x → HoldsInts w →
    FlowLeavesInts (meaning at x n w)

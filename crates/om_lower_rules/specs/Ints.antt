-- Worlds whose variables hold ints, and expressions whose constants are ints, as those of a program are.
use Rattle.std.specs.Prelude.{◌≡◌, ℕ, ℤ, true, All, IfSome}
use Rattle.om_code.specs.declared.frame.Cell.{Cell}
use Rattle.om_code.specs.declared.frame.Cell.TheVariants as cell
use Rattle.om_code.specs.declared.instruction.Place.{Place}
use Rattle.om_code.specs.Arithmetic.{is_int}
use Rattle.om_scope_tree.specs.ResolvedTree.{ResolvedExpressionTree, Constant, Element, Unary, Binary, Conditional}
use Rattle.om_scope_tree.specs.ResolvedTree.{Assign, AssignElement, PostfixElement, Print, ValuesTree, NoValues, Value}
use Rattle.om_scope_tree.specs.ResolvedTree.{ResolvedDeclaratorTree, ResolvedStartTree, StartNothing, StartExpression}
use Rattle.om_scope_tree.specs.ResolvedTree.{StartDeclaration, ResolvedStatementTree, Declaration, Block, Expression, If}
use Rattle.om_scope_tree.specs.ResolvedTree.{IfElse, While, Do, For, Return, ResolvedStatementsTree, NoStatements}
use Rattle.om_scope_tree.specs.ResolvedTree.{Statement}
use Rattle.om_lower_rules.specs.Meaning.{Flow, Onward, Broke, Continued, Returned, Failed, OutOfTurns}
use Rattle.om_lower_rules.specs.Worlds.{World, Outcome, Got, Faulty, held}

abbrev pub IsInt : ℤ → Type 0
IsInt v = is_int v ≡ true

-- a cell that holds a value holds an int
abbrev pub HoldsInt : Cell → Type 0
HoldsInt (cell.Int v) = IsInt v
HoldsInt _ = Unit {0}

abbrev pub HoldsInts : World → Type 0
HoldsInts w = (at : Place) (k : ℕ) → HoldsInt (held w at k)

-- the value is an int, and the world behind it holds ints
abbrev pub LeavesInts : Outcome → Type 0
LeavesInts (Got v w) = IsInt v × HoldsInts w
LeavesInts (Faulty f w) = HoldsInts w

-- each constant is an int (C17 6.4.4.1)
abbrev pub HasInts : ResolvedExpressionTree → Type 0
HasInts (Constant c) = IsInt c
HasInts (Element a j) = HasInts j
HasInts (Unary operator e) = HasInts e
HasInts (Binary a operator b) = HasInts a × HasInts b
HasInts (Conditional c a b) = HasInts c × HasInts a × HasInts b
HasInts (Assign x operator e) = HasInts e
HasInts (AssignElement a j operator e) = HasInts j × HasInts e
HasInts (PostfixElement a j operator) = HasInts j
HasInts _ = Unit {0}

-- ---- statements

abbrev pub AllHaveInts : ValuesTree → Type 0
AllHaveInts NoValues = Unit {0}
AllHaveInts (Value e rest) = HasInts e × AllHaveInts rest

abbrev pub EffectHasInts : ResolvedExpressionTree → Type 0
EffectHasInts (Print format es) = AllHaveInts es
EffectHasInts e = HasInts e

abbrev pub DeclaratorHasInts : ResolvedDeclaratorTree → Type 0
DeclaratorHasInts d = IfSome d.initial HasInts

abbrev pub StartHasInts : ResolvedStartTree → Type 0
StartHasInts StartNothing = Unit {0}
StartHasInts (StartExpression e) = EffectHasInts e
StartHasInts (StartDeclaration ds) = All DeclaratorHasInts ds

abbrev mutual
  pub StatementHasInts : ResolvedStatementTree → Type 0
  StatementHasInts (Declaration first ds) = All DeclaratorHasInts ds
  StatementHasInts (Block first items) = StatementsHaveInts items
  StatementHasInts (Expression first e) = EffectHasInts e
  StatementHasInts (If first c s) = HasInts c × StatementHasInts s
  StatementHasInts (IfElse first c s t) = HasInts c × StatementHasInts s × StatementHasInts t
  StatementHasInts (While first c s) = HasInts c × StatementHasInts s
  StatementHasInts (Do first s c) = StatementHasInts s × HasInts c
  StatementHasInts (For first start c step s) =
      StartHasInts start × IfSome c HasInts × IfSome step EffectHasInts × StatementHasInts s
  StatementHasInts (Return first e) = IfSome e HasInts
  StatementHasInts _ = Unit {0}

  pub StatementsHaveInts : ResolvedStatementsTree → Type 0
  StatementsHaveInts NoStatements = Unit {0}
  StatementsHaveInts (Statement s rest) = StatementHasInts s × StatementsHaveInts rest

-- wherever a statement goes on, variables hold ints, and what is returned is one
abbrev pub FlowLeavesInts : Flow → Type 0
FlowLeavesInts (Onward w) = HoldsInts w
FlowLeavesInts (Broke w) = HoldsInts w
FlowLeavesInts (Continued w) = HoldsInts w
FlowLeavesInts (Returned v w) = IfSome v IsInt × HoldsInts w
FlowLeavesInts (Failed f w) = HoldsInts w
FlowLeavesInts OutOfTurns = Unit {0}

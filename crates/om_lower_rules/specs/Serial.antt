-- What has a meaning here: expressions without calls, and statements without directives and without calls but a
-- `printf` that is a statement. The two calls that ask for numbers of threads have none.
use Rattle.std.specs.Prelude.{All, IfSome}
use Rattle.om_scope_tree.specs.ResolvedTree.{ResolvedExpressionTree, Constant, Variable, Element, Unary, Binary}
use Rattle.om_scope_tree.specs.ResolvedTree.{Conditional, Assign, AssignElement, Postfix, PostfixElement, Print}
use Rattle.om_scope_tree.specs.ResolvedTree.{ValuesTree, NoValues, Value, ResolvedStartTree, StartNothing}
use Rattle.om_scope_tree.specs.ResolvedTree.{StartExpression, StartDeclaration, ResolvedStatementTree, Declaration, Block}
use Rattle.om_scope_tree.specs.ResolvedTree.{Empty, Expression, If, IfElse, While, Do, For, Return, Break, Continue}
use Rattle.om_scope_tree.specs.ResolvedTree.{ResolvedStatementsTree, NoStatements, Statement}

abbrev mutual
  pub IsSerial : ResolvedExpressionTree → Type 0
  IsSerial (Constant c) = Unit {0}
  IsSerial (Variable x) = Unit {0}
  IsSerial (Element a j) = IsSerial j
  IsSerial (Unary operator e) = IsSerial e
  IsSerial (Binary a operator b) = IsSerial a × IsSerial b
  IsSerial (Conditional c a b) = IsSerial c × IsSerial a × IsSerial b
  IsSerial (Assign x operator e) = IsSerial e
  IsSerial (AssignElement a j operator e) = IsSerial j × IsSerial e
  IsSerial (Postfix x operator) = Unit {0}
  IsSerial (PostfixElement a j operator) = IsSerial j
  IsSerial _ = ⊥

  pub AreSerial : ValuesTree → Type 0
  AreSerial NoValues = Unit {0}
  AreSerial (Value e rest) = IsSerial e × AreSerial rest

-- an expression whose value nothing uses
abbrev pub IsSerialEffect : ResolvedExpressionTree → Type 0
IsSerialEffect (Print format es) = AreSerial es
IsSerialEffect e = IsSerial e

abbrev pub IsSerialStart : ResolvedStartTree → Type 0
IsSerialStart StartNothing = Unit {0}
IsSerialStart (StartExpression e) = IsSerialEffect e
IsSerialStart (StartDeclaration ds) = All (λ d. IfSome d.initial IsSerial) ds

abbrev mutual
  pub IsSerialStatement : ResolvedStatementTree → Type 0
  IsSerialStatement (Declaration first ds) = All (λ d. IfSome d.initial IsSerial) ds
  IsSerialStatement (Block first items) = AreSerialStatements items
  IsSerialStatement (Empty first) = Unit {0}
  IsSerialStatement (Expression first e) = IsSerialEffect e
  IsSerialStatement (If first c s) = IsSerial c × IsSerialStatement s
  IsSerialStatement (IfElse first c s t) = IsSerial c × IsSerialStatement s × IsSerialStatement t
  IsSerialStatement (While first c s) = IsSerial c × IsSerialStatement s
  IsSerialStatement (Do first s c) = IsSerialStatement s × IsSerial c
  IsSerialStatement (For first start c step s) =
      IsSerialStart start × IfSome c IsSerial × IfSome step IsSerialEffect × IsSerialStatement s
  IsSerialStatement (Return first e) = IfSome e IsSerial
  IsSerialStatement (Break first) = Unit {0}
  IsSerialStatement (Continue first) = Unit {0}
  IsSerialStatement _ = ⊥

  pub AreSerialStatements : ResolvedStatementsTree → Type 0
  AreSerialStatements NoStatements = Unit {0}
  AreSerialStatements (Statement s rest) = IsSerialStatement s × AreSerialStatements rest

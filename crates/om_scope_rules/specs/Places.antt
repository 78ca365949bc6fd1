-- Where a part of a tree begins: the span of its first token.
use Rattle.std.specs.Prelude.{ℕ}
use Rattle.om_lexer.specs.declared.token.Span.{Span}
use Rattle.om_parser_tree.specs.declared.tree.ResultType.{ResultType}
use Rattle.om_parser_tree.specs.declared.tree.ResultType.TheVariants as results
use Rattle.om_parser_tree.specs.Tree.{ExpressionTree, Name, Constant, Text, Paren, Index, Call, Prefix, Postfix, Binary}
use Rattle.om_parser_tree.specs.Tree.{Conditional, Assign, StatementTree, LocalDeclaration, Block, Empty, Expression, If}
use Rattle.om_parser_tree.specs.Tree.{IfElse, While, Do, For, Return, Break, Continue, Construct, StandAlone, Sections}
use Rattle.om_parser_tree.specs.Tree.{HeadTree, ItemTree, Declaration, Prototype, Function}

abbrev pub expression_first : ExpressionTree → Span
expression_first (Name n) = n.span
expression_first (Constant n) = n.span
expression_first (Text t) = t.span
expression_first (Paren left e right) = left
expression_first (Index n left e right) = n.span
expression_first (Call n left values right) = n.span
expression_first (Prefix o at e) = at
expression_first (Postfix e o at) = expression_first e
expression_first (Binary a o at b) = expression_first a
expression_first (Conditional c question a colon b) = expression_first c
expression_first (Assign a o at b) = expression_first a

abbrev pub expression_start : ExpressionTree → ℕ
expression_start e = (expression_first e).start

abbrev pub statement_first : StatementTree → Span
statement_first (LocalDeclaration d) = d.int
statement_first (Block left items right) = left
statement_first (Empty semicolon) = semicolon
statement_first (Expression e semicolon) = expression_first e
statement_first (If at c s) = at
statement_first (IfElse at c s other t) = at
statement_first (While at c s) = at
statement_first (Do at s again c semicolon) = at
statement_first (For h s) = h.word
statement_first (Return at value semicolon) = at
statement_first (Break at semicolon) = at
statement_first (Continue at semicolon) = at
statement_first (Construct d s) = d.hash
statement_first (StandAlone d) = d.hash
statement_first (Sections d left parts right) = d.hash

abbrev pub statement_start : StatementTree → ℕ
statement_start s = (statement_first s).start

abbrev pub result_first : ResultType → Span
result_first (results.Int at) = at
result_first (results.Void at) = at

abbrev pub head_first : {N : Type 0} → HeadTree N → Span
head_first head = result_first head.result

abbrev pub head_start : {N : Type 0} → HeadTree N → ℕ
head_start head = (head_first head).start

abbrev pub item_start : ItemTree → ℕ
item_start (Declaration d) = d.int.start
item_start (Prototype head semicolon) = head_start head
item_start (Function f) = head_start f.head

-- For proofs: reading the parts of statements that are no statements.
use Rattle.std.specs.Prelude.{◌-◌}
use Rattle.om_lexer.specs.declared.token.Span.{Span}
use Rattle.om_pragma.specs.declared.clause.Name as names
use Rattle.om_pragma.specs.declared.tree.Directive.{Directive}
use Rattle.om_parser_parts.specs.DeclarationReading.{signed_at, declaration_after, declared_at}
use Rattle.om_parser_parts.specs.ExpressionReading.{whole_at}
use Rattle.om_parser_tree.specs.declared.tree.SignedNumber.{SignedNumber}
use Rattle.om_parser_tree.specs.Limits.{Limits}
use Rattle.om_parser_parts.specs.LineReading.{line_at}
use Rattle.om_parser_parts.specs.Reading.{Reader}
use Rattle.om_parser_tree.specs.Tree.{ExpressionTree, DeclarationTree}

-- what reads a directive line
abbrev pub LineReader : Type 0
LineReader = Reader (Directive ExpressionTree)

-- the readers of the parts of statements that are no statements
pub record Parts : Type 0 where
  -- a whole expression, and one that stands in the parentheses of a statement
  pub expression : Reader ExpressionTree
  pub enclosed : Reader ExpressionTree
  -- a declaration behind its `int`, and one in the parentheses of a `for`
  pub declaration : Span → Reader (DeclarationTree ExpressionTree)
  pub enclosed_declaration : Span → Reader (DeclarationTree ExpressionTree)
  -- a directive line
  pub line : LineReader

-- the readers of the parts, where the parentheses of a statement count for the nesting
unfoldable pub parts : Limits → Parts
parts l = record {
  expression = whole_at l l.nested;
  enclosed = whole_at l (l.nested - 1);
  declaration = declared_at (whole_at l l.nested);
  enclosed_declaration = declared_at (whole_at l (l.nested - 1));
  line = line_at l;
}

-- a declaration at file scope, behind `int` and the first name (C17 6.7)
unfoldable pub global_at : Span → names.Name → Reader (DeclarationTree SignedNumber)
global_at = declaration_after signed_at

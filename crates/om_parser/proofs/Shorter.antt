-- An item, or a part of `sections`, that is read takes a token at least.
use Rattle.std.proofs.Common.{◌≡◌, ℕ, ◌<◌, ◌≤◌, List, [], ◌∷◌, ◌++◌, length, Bool, ap, arith, length-append}
use Rattle.om_lexer.specs.declared.token.Punctuator.TheVariants as punctuators
use Rattle.om_lexer.specs.declared.token.Span.{Span}
use Rattle.om_lexer.specs.declared.token.Token.{Token}
use Rattle.om_pragma.specs.declared.tree.Directive.{Directive}
use Rattle.om_pragma.specs.Spelling.{opening_spelling, directive_spelling}
use Rattle.om_parser_tree.specs.Formed.{AreSome, IsStatement, ArePartItems}
use Rattle.om_parser_tree.specs.Limits.{Limits}
use Rattle.om_parser_parts.specs.Reading.{take_mark}
use Rattle.om_parser_tree.specs.Spelling.{mark, expression_spelling, for_head_spelling, declaration_spelling}
use Rattle.om_parser_tree.specs.Spelling.{statement_spelling, statements_spelling, parts_spelling, part_spelling}
use Rattle.om_parser_tree.specs.Spelling.{section_spelling}
use Rattle.om_parser_parts.specs.PartReading.{Parts}
use Rattle.om_parser.specs.ConstructReading.{part_at, part_item_at}
use Rattle.om_parser.specs.StatementReading.{block_item_at, statement_at}
use Rattle.om_parser_tree.specs.Tree.{ExpressionTree, StatementTree, LocalDeclaration, Block, Empty, Expression, If, IfElse}
use Rattle.om_parser_tree.specs.Tree.{While, Do, For, Return, Break, Continue, Construct, StandAlone, Sections}
use Rattle.om_parser_tree.specs.Tree.{StatementsTree, NoStatements, Statement, PartTree}
use Rattle.om_parser_parts.specs.Outcomes.{ok, some}
use Rattle.om_parser_parts.specs.Taken.{take_mark_is}
use Rattle.om_parser_parts.specs.Laws.{ArePartsSound}
use Rattle.om_parser.proofs.StatementSound.{block_item_sound, part_item_sound, part_sound}

pub brace_shorter : (ts : List Token) (s : Span) (us : List Token) → take_mark punctuators.CloseBrace ts
    ≡ some (s, us) → length us < length ts
brace_shorter ts s us e = omega (arith, ap length (take_mark_is punctuators.CloseBrace ts s us e))

pub line_some : (d : Directive ExpressionTree) (ts : List Token) → 0 < length (directive_spelling expression_spelling d
    ++ ts)
unfolding directive_spelling opening_spelling
line_some d ts = omega arith

pub statement_some : (s : StatementTree) → IsStatement s → 0 < length (statement_spelling s)
unfolding statement_spelling for_head_spelling declaration_spelling directive_spelling opening_spelling IsStatement
statement_some (LocalDeclaration d) f = omega arith
statement_some (Expression e semicolon) f = omega (
  arith,
  length-append (expression_spelling e)
      (mark punctuators.Semicolon semicolon ∷ []),
)
statement_some (Block left items right) f = omega arith
statement_some (Empty semicolon) f = omega arith
statement_some (If at c s) f = omega arith
statement_some (IfElse at c s other t) f = omega arith
statement_some (While at c s) f = omega arith
statement_some (Do at s again c semicolon) f = omega arith
statement_some (For h s) f = omega arith
statement_some (Return at value semicolon) f = omega arith
statement_some (Break at semicolon) f = omega arith
statement_some (Continue at semicolon) f = omega arith
statement_some (Construct d s) f = line_some d (statement_spelling s)
statement_some (StandAlone d) f = omega arith
statement_some (Sections d left parts right) f = line_some d (mark punctuators.OpenBrace left
    ∷ (parts_spelling parts ++ mark punctuators.CloseBrace right ∷ []))

items_some : (items : StatementsTree) → AreSome items → ArePartItems items → 0 < length (statements_spelling items)
unfolding statement_spelling IsStatement
items_some NoStatements some f = absurd some
items_some (Statement s rest) some f = omega (
  arith,
  statement_some s f.0,
  length-append (statement_spelling s) (statements_spelling rest),
)

pub part_some : (p : PartTree) → AreSome p.items → ArePartItems p.items → 0 < length (part_spelling p)
part_some p some f = omega (
  arith,
  items_some p.items some f,
  length-append (section_spelling p.section) (statements_spelling p.items),
)

module _ (p : Parts) (l : Limits) (one : 1 ≤ l.nested) (sound : ArePartsSound p l) (checked : Bool)
    (room blocks_left : ℕ) (ts : List Token) where
  pub block_item_shorter : (s : StatementTree) (us : List Token)
      → block_item_at p (statement_at p checked room blocks_left) ts ≡ ok (s, us) → length us < length ts
  block_item_shorter s us e =
      let r = block_item_sound p l one sound checked room blocks_left ts (s, us) e in
      omega (arith, ap length r.parts, length-append (statement_spelling s) us, statement_some s r.formed.formed)

  pub part_item_shorter : (s : StatementTree) (us : List Token)
      → part_item_at p.line (statement_at p checked room blocks_left) ts ≡ ok (s, us) → length us < length ts
  part_item_shorter s us e =
      let r = part_item_sound p l one sound checked room blocks_left ts (s, us) e in
      omega (arith, ap length r.parts, length-append (statement_spelling s) us, statement_some s r.formed.formed)

  pub part_shorter : (a : PartTree) (us : List Token)
      → part_at p.line (statement_at p checked room blocks_left) ts ≡ ok (a, us) → length us < length ts
  part_shorter a us e =
      let r = part_sound p l one sound checked room blocks_left ts (a, us) e in
      omega (
        arith,
        ap length r.parts,
        length-append (part_spelling a) us,
        part_some a r.formed.one_stands r.formed.formed,
      )

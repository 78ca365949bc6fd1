-- For proofs: reading statements from the left.
use Rattle.std.specs.Prelude.{ℕ, zero, suc, List, [], ◌∷◌, length, Option, Some, None, Ok, Err, Bool}
use Rattle.om_lexer.specs.declared.token.Keyword.{Keyword}
use Rattle.om_lexer.specs.declared.token.Keyword.TheVariants as keywords
use Rattle.om_lexer.specs.declared.token.Punctuator.{Punctuator}
use Rattle.om_lexer.specs.declared.token.Punctuator.TheVariants as punctuators
use Rattle.om_lexer.specs.declared.token.Span.{Span}
use Rattle.om_lexer.specs.declared.token.Token.{Token}
use Rattle.om_lexer.specs.declared.token.TokenKind.{TokenKind}
use Rattle.om_lexer.specs.declared.token.TokenKind.TheVariants as kinds
use Rattle.om_parser_tree.specs.Limits.{Limits, accepted}
use Rattle.om_parser.specs.declared.statement.Room.{Room}
use Rattle.om_parser_parts.specs.PartReading.{Parts, parts}
use Rattle.om_pragma.specs.declared.tree.Directive.{Directive}
use Rattle.om_parser.specs.ConstructReading.{PartsReader, ends_part, ends_parts, line_start, part_at, part_item_at}
use Rattle.om_parser.specs.ConstructReading.{atomic_after, construct_at, constructed_after, line_of, sections_after}
use Rattle.om_parser.specs.OneOrMore.{one_or_more}
use Rattle.om_parser.specs.declared.start.Start.{Start}
use Rattle.om_parser.specs.declared.start.Start.TheVariants as starts
use Rattle.om_parser_parts.specs.Reading.{◌>>=◌, choose, Outcome, Reader, syntax, too_deep, take_mark, take_word, mark_at}
use Rattle.om_parser_parts.specs.Reading.{word_at}
use Rattle.om_parser_parts.specs.Repetition.{until}
use Rattle.om_parser_tree.specs.Tree.{ExpressionTree, ConditionTree, ForStartTree, Nothing, StartExpression, StartDeclaration}
use Rattle.om_parser_tree.specs.Tree.{ForHeadTree, StatementTree, LocalDeclaration, Block, Empty, Expression, If, IfElse}
use Rattle.om_parser_tree.specs.Tree.{While, Do, For, Return, Break, Continue, statements, BlockTree, PartTree}
use Rattle.om_parser_tree.specs.Tree as trees

-- ---- what a first token begins

abbrev pub start_of_mark : Punctuator → Start
start_of_mark punctuators.OpenBrace = starts.Block
start_of_mark punctuators.Semicolon = starts.Empty
start_of_mark punctuators.OpenParen = starts.Expression
start_of_mark punctuators.Plus = starts.Expression
start_of_mark punctuators.Minus = starts.Expression
start_of_mark punctuators.Bang = starts.Expression
start_of_mark punctuators.PlusPlus = starts.Expression
start_of_mark punctuators.MinusMinus = starts.Expression
start_of_mark _ = starts.Nothing

abbrev pub start_of_word : Keyword → Start
start_of_word keywords.If = starts.If
start_of_word keywords.While = starts.While
start_of_word keywords.Do = starts.Do
start_of_word keywords.For = starts.For
start_of_word keywords.Return = starts.Return
start_of_word keywords.Break = starts.Break
start_of_word keywords.Continue = starts.Continue
start_of_word _ = starts.Nothing

-- which statement a token begins
abbrev pub start_of : TokenKind → Start
start_of (kinds.Punctuator p) = start_of_mark p
start_of (kinds.Keyword k) = start_of_word k
start_of (kinds.Name text) = starts.Expression
start_of (kinds.Constant value) = starts.Expression
start_of kinds.DirectiveBegin = starts.Directive
start_of _ = starts.Nothing

-- ---- the parts of a statement

-- an expression in parentheses
unfoldable pub condition_at : Parts → Reader ConditionTree
condition_at p ts = do
  l ← mark_at punctuators.OpenParen ts
  e ← p.enclosed l.1
  r ← mark_at punctuators.CloseParen e.1
  Ok (record { open_paren = l.0; value = e.0; close_paren = r.0 }, r.1)

-- an expression that may be left out before this punctuator
unfoldable pub optional_before : Punctuator → Reader ExpressionTree → Reader (Option ExpressionTree × Span)
optional_before p expression ts = choose (take_mark p ts)
    (λ s. Ok ((None, s.0), s.1))
    (expression ts >>= λ e. mark_at p e.1 >>= λ s. Ok ((Some e.0, s.0), s.1))

-- what a `for` begins with that declares nothing: perhaps an expression, and the semicolon
abbrev pub start_with : Option ExpressionTree → Span → ForStartTree
start_with found semicolon = choose found (λ e. StartExpression e semicolon) (Nothing semicolon)

-- what a `for` begins with (C17 6.8.5.3)
unfoldable pub for_start_at : Parts → Reader ForStartTree
for_start_at p ts = choose (take_word keywords.Int ts)
    (λ i. p.enclosed_declaration i.0 i.1 >>= λ d. Ok (StartDeclaration d.0, d.1))
    (optional_before punctuators.Semicolon p.enclosed ts >>= λ e. Ok (start_with e.0.0 e.0.1, e.1))

-- a `for` up to its closing parenthesis, behind its word
unfoldable pub for_head_after : Parts → Span → Reader ForHeadTree
for_head_after p word ts = do
  l ← mark_at punctuators.OpenParen ts
  s ← for_start_at p l.1
  c ← optional_before punctuators.Semicolon p.enclosed s.1
  e ← optional_before punctuators.CloseParen p.enclosed c.1
  Ok (
    record {
      word = word;
      open_paren = l.0;
      start = s.0;
      condition = c.0.0;
      semicolon = c.0.1;
      step = e.0.0;
      close_paren = e.0.1;
    },
    e.1,
  )

-- what stands before the statement that is its body
pub data OpeningTree : Type 0 where
  OpensIf : Span → ConditionTree → OpeningTree
  OpensWhile : Span → ConditionTree → OpeningTree
  OpensFor : ForHeadTree → OpeningTree

-- the statement with this body, without `else`
abbrev pub with_body : OpeningTree → StatementTree → StatementTree
with_body (OpensIf at c) s = If at c s
with_body (OpensWhile at c) s = While at c s
with_body (OpensFor h) s = For h s

-- the opening of this start, behind its word
unfoldable pub opening_of : Parts → Start → Span → Reader OpeningTree
opening_of p starts.If at ts = condition_at p ts >>= λ c. Ok (OpensIf at c.0, c.1)
opening_of p starts.While at ts = condition_at p ts >>= λ c. Ok (OpensWhile at c.0, c.1)
opening_of p starts.For at ts = for_head_after p at ts >>= λ h. Ok (OpensFor h.0, h.1)
opening_of p _ at ts = Err (syntax ts)

-- ---- statements without a statement in them

-- a value and its semicolon, behind `return` (C17 6.8.6.4)
unfoldable pub return_after : Parts → Span → Reader StatementTree
return_after p at ts = optional_before punctuators.Semicolon p.expression ts >>= λ e. Ok (Return at e.0.0 e.0.1, e.1)

-- the semicolon behind a word that stands alone (C17 6.8.6)
unfoldable pub jump_after : (Span → StatementTree) → Reader StatementTree
jump_after jump ts = mark_at punctuators.Semicolon ts >>= λ s. Ok (jump s.0, s.1)

-- an expression and its semicolon (C17 6.8.3)
unfoldable pub expression_statement_at : Parts → Reader StatementTree
expression_statement_at p ts = do
  e ← p.expression ts
  s ← mark_at punctuators.Semicolon e.1
  Ok (Expression e.0 s.0, s.1)

-- ---- statements round a statement, over the reader of that

-- the `else` that may follow (C17 6.8.4.1)
unfoldable pub else_after : Reader StatementTree → Span → ConditionTree → StatementTree → Reader StatementTree
else_after statement at c s ts = choose (take_word keywords.Else ts)
    (λ o. statement o.1 >>= λ t. Ok (IfElse at c s o.0 t.0, t.1))
    (Ok (If at c s, ts))

-- what follows the body
unfoldable pub behind_body : Reader StatementTree → OpeningTree → StatementTree → Reader StatementTree
behind_body statement (OpensIf at c) s ts = else_after statement at c s ts
behind_body statement (OpensWhile at c) s ts = Ok (While at c s, ts)
behind_body statement (OpensFor h) s ts = Ok (For h s, ts)

-- the body, and what follows it
unfoldable pub body_after : Reader StatementTree → OpeningTree → Reader StatementTree
body_after statement o ts = statement ts >>= λ s. behind_body statement o s.0 s.1

-- a statement of this start with its opening, behind its word
unfoldable pub headed_of : Parts → Reader StatementTree → Start → Span → Reader StatementTree
headed_of p statement start at ts = opening_of p start at ts >>= λ o. body_after statement o.0 o.1

-- the end of a `do` behind its body (C17 6.8.5.2)
unfoldable pub do_end : Parts → Span → StatementTree → Reader StatementTree
do_end p at s ts = do
  w ← word_at keywords.While ts
  c ← condition_at p w.1
  e ← mark_at punctuators.Semicolon c.1
  Ok (Do at s w.0 c.0 e.0, e.1)

-- a `do` behind its word
unfoldable pub do_after : Parts → Reader StatementTree → Span → Reader StatementTree
do_after p statement at ts = statement ts >>= λ s. do_end p at s.0 s.1

-- a declaration behind its `int`
abbrev pub local_item_after : Parts → Span → Reader StatementTree
local_item_after p int ts = p.declaration int ts >>= λ d. Ok (LocalDeclaration d.0, d.1)

-- a declaration, a statement, or a directive that stands alone (C17 6.8.2)
unfoldable pub block_item_at : Parts → Reader StatementTree → Reader StatementTree
block_item_at p statement ts = choose (take_word keywords.Int ts)
    (λ i. local_item_after p i.0 i.1)
    (part_item_at p.line statement ts)

-- the items of a block, behind its left brace
abbrev pub items_at : Parts → Reader StatementTree → List Token → Outcome (List StatementTree × Span × List Token)
items_at p statement ts = until (take_mark punctuators.CloseBrace) (block_item_at p statement) (length ts) ts

-- the items of a block behind its left brace, with room for so many blocks round it
unfoldable pub block_items_after : Parts → (ℕ → Reader StatementTree) → (blocks : ℕ) → Span → List Token
    → Outcome (List StatementTree × Span × List Token)
block_items_after p statement zero left ts = Err (too_deep left)
block_items_after p statement (suc blocks) left ts = items_at p (statement blocks) ts

-- a block behind its left brace
unfoldable pub block_after : Parts → (ℕ → Reader StatementTree) → (blocks : ℕ) → Span → Reader StatementTree
block_after p statement blocks left ts = block_items_after p statement blocks left ts >>= λ x. Ok
    (Block left (statements x.0) x.1, x.2)

-- what stands in the braces of `sections`, behind the left one, with room for so many blocks
unfoldable pub parts_after : Parts → (statement : (blocks : ℕ) → Reader StatementTree) → (blocks : ℕ) → Span
    → PartsReader
parts_after p statement zero left ts = Err (too_deep left)
parts_after p statement (suc blocks) left ts = do
  x ← one_or_more ends_parts (part_at p.line (statement blocks)) (length ts) ts
  r ← mark_at punctuators.CloseBrace x.1
  Ok ((left, trees.parts x.0, r.0), r.1)

-- a statement of this start that has no statement in it
unfoldable pub simple_of : Parts → Start → Span → (behind whole : List Token) → Outcome (StatementTree × List Token)
simple_of p starts.Empty at ts whole = Ok (Empty at, ts)
simple_of p starts.Return at ts whole = return_after p at ts
simple_of p starts.Break at ts whole = jump_after (Break at) ts
simple_of p starts.Continue at ts whole = jump_after (Continue at) ts
simple_of p starts.Expression at ts whole = expression_statement_at p whole
simple_of p _ at ts whole = Err (syntax whole)

-- a statement whose first token is taken, over the readers of the statements in it
unfoldable pub statement_of : Parts → (checked : Bool) → (statement : Bool → (blocks : ℕ) → Reader StatementTree)
    → (parts : (blocks : ℕ) → PartsReader) → (blocks : ℕ) → Start → Span → (behind whole : List Token)
    → Outcome (StatementTree × List Token)
statement_of p checked statement parts blocks starts.Block at ts whole = block_after p (statement checked) blocks at ts
statement_of p checked statement parts blocks starts.If at ts whole = headed_of p (statement checked blocks)
    starts.If at ts
statement_of p checked statement parts blocks starts.While at ts whole = headed_of p (statement checked blocks)
    starts.While at ts
statement_of p checked statement parts blocks starts.For at ts whole = headed_of p (statement checked blocks)
    starts.For at ts
statement_of p checked statement parts blocks starts.Do at ts whole = do_after p (statement checked blocks) at ts
statement_of p checked statement parts blocks starts.Directive at ts whole = line_of p.line checked
    (λ c. statement c blocks) (parts blocks) (line_start whole) whole
statement_of p checked statement parts blocks start at ts whole = simple_of p start at ts whole

-- the fault of a statement that has no room
unfoldable pub no_room : Start → Span → List Token → Outcome (StatementTree × List Token)
no_room starts.Nothing s ts = Err (syntax ts)
no_room _ s ts = Err (too_deep s)

unfoldable mutual
  -- A statement, with room for so many statements, itself among them, and so many blocks (C17 6.8).
  -- Each `atomic` in it must have one of its forms, if that is checked.
  pub statement_at : Parts → (checked : Bool) → (room blocks : ℕ) → Reader StatementTree
  statement_at p checked room blocks [] = Err (syntax [])
  statement_at p checked zero blocks (t ∷ ts) = no_room (start_of t.kind) t.span (t ∷ ts)
  statement_at p checked (suc room) blocks (t ∷ ts) = statement_of p checked (λ c. statement_at p c room)
      (parts_at p checked room) blocks (start_of t.kind) t.span ts (t ∷ ts)

  -- the braces of `sections` and what stands in them
  pub parts_at : Parts → (checked : Bool) → (room blocks : ℕ) → PartsReader
  parts_at p checked zero blocks ts = mark_at punctuators.OpenBrace ts >>= λ o. Err (too_deep o.0)
  parts_at p checked (suc room) blocks ts = mark_at punctuators.OpenBrace ts >>= λ o. parts_after p
      (statement_at p checked room) blocks o.0 o.1

-- the block of a function (C17 6.8.2)
unfoldable pub block_with : Parts → (checked : Bool) → (room blocks : ℕ) → Reader BlockTree
block_with p checked room blocks ts = do
  o ← mark_at punctuators.OpenBrace ts
  x ← block_items_after p (statement_at p checked room) blocks o.0 o.1
  Ok (record { open_brace = o.0; items = x.0; close_brace = x.1 }, x.2)

-- the same with the limits
unfoldable pub block_at : Limits → Reader BlockTree
block_at l = block_with (parts l) l.checked l.statements l.blocks

-- ---- the readers of what stands in one another in this room

-- a statement in this room
abbrev pub statement_in : Room → Reader StatementTree
statement_in room = statement_at (parts accepted) room.checked room.statements room.blocks

-- the same where the forms of `atomic` are checked or not
abbrev pub statement_if : Room → (checked : Bool) → Reader StatementTree
statement_if room checked = statement_at (parts accepted) checked room.statements room.blocks

-- the braces of `sections` in this room
abbrev pub parts_in : Room → PartsReader
parts_in room = parts_at (parts accepted) room.checked room.statements room.blocks

-- a declaration, a statement, or a directive that stands alone, in this room (C17 6.8.2)
abbrev pub block_item_in : Room → Reader StatementTree
block_item_in room = block_item_at (parts accepted) (statement_in room)

-- the items of a block, behind its left brace
abbrev pub items_in : Room → List Token → Outcome (List StatementTree × Span × List Token)
items_in room = items_at (parts accepted) (statement_in room)

-- a block, behind its left brace
abbrev pub block_in : Room → Span → Reader StatementTree
block_in room = block_after (parts accepted) (statement_at (parts accepted) room.checked room.statements) room.blocks

-- a statement of this start with its opening, behind its word
abbrev pub headed_in : Room → Start → Span → Reader StatementTree
headed_in room = headed_of (parts accepted) (statement_in room)

-- a statement, or a directive that stands alone, as an item of a part of `sections`
abbrev pub part_item_in : Room → Reader StatementTree
part_item_in room = part_item_at (parts accepted).line (statement_in room)

-- the items of a part, one at least
abbrev pub part_items_in : Room → Reader (List StatementTree)
part_items_in room ts = one_or_more ends_part (part_item_in room) (length ts) ts

-- a part of `sections`
abbrev pub part_in : Room → Reader PartTree
part_in room = part_at (parts accepted).line (statement_in room)

-- the parts of `sections`, one at least
abbrev pub every_part_in : Room → Reader (List PartTree)
every_part_in room ts = one_or_more ends_parts (part_in room) (length ts) ts

-- the line that stands first where a statement must stand, with what belongs to it
abbrev pub directive_in : Room → Reader StatementTree
directive_in room ts = line_of (parts accepted).line room.checked (statement_if room) (parts_in room) (line_start ts) ts

-- a construct
abbrev pub construct_in : Room → Reader StatementTree
construct_in room = construct_at (parts accepted).line room.checked (statement_if room) (parts_in room)

-- a construct with one statement, behind its line
abbrev pub constructed_in : Room → Directive ExpressionTree → Reader StatementTree
constructed_in room = constructed_after (statement_in room)

-- an `atomic`, behind its line
abbrev pub atomic_in : Room → Directive ExpressionTree → Reader StatementTree
atomic_in room = atomic_after room.checked (statement_if room)

-- `sections`, behind its line
abbrev pub sections_in : Room → Directive ExpressionTree → Reader StatementTree
sections_in room = sections_after (parts_in room)

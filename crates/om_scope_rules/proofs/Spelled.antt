-- In a tree whose tokens rise, the names that clauses list stand behind their directives' beginnings.
use Rattle.std.proofs.Common.{ℕ, List, [], ◌∷◌, ◌++◌, Option, Some, None, All, sym, subst}
use Rattle.std.specs.List.{flat_map}
use Rattle.std.proofs.lemmas.List.Elements.{All-nil, All-cons}
use Rattle.om_lexer.specs.declared.token.Token.{Token}
use Rattle.om_lexer.specs.Order.{AreInOrder}
use Rattle.om_lexer.specs.Sources.{IsTokens}
use Rattle.om_scope_rules.proofs.ClauseNames.{directive_behind}
use Rattle.om_scope_rules.proofs.Rising.{Rises, rises, rises_back, rises_front}
use Rattle.om_scope_rules.specs.Behind.{HasNamesBehind, ItemNamesBehind, NamesBehind, NamesBehindIn}
use Rattle.om_scope_rules.specs.Behind.{NamesBehindInParts, SectionHasNamesBehind}
use Rattle.om_scope_rules.specs.PlaceLaws.{NamesStandBehind}
use Rattle.om_pragma.specs.declared.tree.Directive.{Directive}
use Rattle.om_pragma.specs.Spelling.{directive_spelling}
use Rattle.om_parser_tree.specs.Spelling.{block_spelling, condition_spelling, expression_spelling, for_head_spelling}
use Rattle.om_parser_tree.specs.Spelling.{definition_spelling, item_spelling, parts_spelling, section_spelling}
use Rattle.om_parser_tree.specs.Spelling.{statement_spelling, statements_spelling, unit_spelling}
use Rattle.om_parser_tree.specs.Tree.{ExpressionTree, ItemTree, Declaration, Prototype, Function, StatementTree}
use Rattle.om_parser_tree.specs.Tree.{LocalDeclaration, Block, Empty, Expression, If, IfElse, While, Do, For, Return, Break}
use Rattle.om_parser_tree.specs.Tree.{Continue, Construct, StandAlone, Sections, StatementsTree, NoStatements}
use Rattle.om_parser_tree.specs.Tree.{Statement, statements, PartsTree, NoParts, Part}

-- the tokens of a line
abbrev line : Directive ExpressionTree → List Token
line = directive_spelling expression_spelling

-- a directive before something else
line_behind : (d : Directive ExpressionTree) (rest : List Token) → Rises (line d ++ rest) → HasNamesBehind d
line_behind d rest h = directive_behind expression_spelling d (rises_front (line d) rest h)

section_behind : (section : Option (Directive ExpressionTree)) → Rises (section_spelling section)
    → SectionHasNamesBehind section
section_behind None h = tt
section_behind (Some d) h = directive_behind expression_spelling d h

mutual
  unfolding statement_spelling statements_spelling parts_spelling NamesBehind NamesBehindIn NamesBehindInParts

  statement_behind : (s : StatementTree) → Rises (statement_spelling s) → NamesBehind s
  statement_behind (LocalDeclaration d) h = tt
  statement_behind (Block left items right) h = statements_behind items (rises_front (statements_spelling items) _ h.1)
  statement_behind (Empty semicolon) h = tt
  statement_behind (Expression e semicolon) h = tt
  statement_behind (If at c s) h = statement_behind s (rises_back (condition_spelling c) _ h.1)
  statement_behind (IfElse at c s other t) h =
      let front = condition_spelling c ++ statement_spelling s in (
        statement_behind s (rises_back (condition_spelling c) (statement_spelling s) (rises_front front _ h.1)),
        statement_behind t (rises_back front _ h.1).1,
      )
  statement_behind (While at c s) h = statement_behind s (rises_back (condition_spelling c) _ h.1)
  statement_behind (Do at s again c semicolon) h = statement_behind s (rises_front (statement_spelling s) _ h.1)
  statement_behind (For head s) h = statement_behind s (rises_back (for_head_spelling head) _ h)
  statement_behind (Return at value semicolon) h = tt
  statement_behind (Break at semicolon) h = tt
  statement_behind (Continue at semicolon) h = tt
  statement_behind (Construct d s) h = (line_behind d _ h, statement_behind s (rises_back (line d) _ h))
  statement_behind (StandAlone d) h = directive_behind expression_spelling d h
  statement_behind (Sections d left parts right) h =
      let braces = rises_back (line d) _ h in
      (line_behind d _ h, parts_behind parts (rises_front (parts_spelling parts) _ braces.1))

  statements_behind : (ss : StatementsTree) → Rises (statements_spelling ss) → NamesBehindIn ss
  statements_behind NoStatements h = tt
  statements_behind (Statement s rest) h = (
    statement_behind s (rises_front (statement_spelling s) _ h),
    statements_behind rest (rises_back (statement_spelling s) _ h),
  )

  parts_behind : (parts : PartsTree) → Rises (parts_spelling parts) → NamesBehindInParts parts
  parts_behind NoParts h = tt
  parts_behind (Part section items rest) h =
      let own = section_spelling section ++ statements_spelling items in
      let first = rises_front own _ h in (
        section_behind section (rises_front (section_spelling section) _ first),
        statements_behind items (rises_back (section_spelling section) _ first),
        parts_behind rest (rises_back own _ h),
      )

listed_behind : (items : List StatementTree) → Rises (flat_map statement_spelling items)
    → NamesBehindIn (statements items)
unfolding NamesBehindIn
listed_behind [] h = tt
listed_behind (s ∷ rest) h = (
  statement_behind s (rises_front (statement_spelling s) _ h),
  listed_behind rest (rises_back (statement_spelling s) _ h),
)

item_behind : (item : ItemTree) → Rises (item_spelling item) → ItemNamesBehind item
unfolding item_spelling block_spelling
item_behind (Declaration d) h = tt
item_behind (Prototype head semicolon) h = tt
item_behind (Function f) h =
    let body = rises_back (definition_spelling f.head) _ h in
    listed_behind f.body.items (rises_front (flat_map statement_spelling f.body.items) _ body.1)

items_behind : (items : List ItemTree) → Rises (flat_map item_spelling items) → All ItemNamesBehind items
items_behind [] h = All-nil ItemNamesBehind
items_behind (item ∷ items) h =
    All-cons ItemNamesBehind item items (item_behind item (rises_front (item_spelling item) _ h))
    (items_behind items (rises_back (item_spelling item) _ h))

-- of a tree whose tokens are those of a source, as they stand in order
pub names_stand_behind : ((source : List ℕ) (ts : List Token) → IsTokens source ts → AreInOrder source 0 ts)
    → NamesStandBehind
unfolding unit_spelling
names_stand_behind in_order source tokens unit lexed spelled =
    let rising = subst Rises (sym spelled) (rises source tokens (in_order source tokens lexed)) in
    items_behind unit.items (rises_front (flat_map item_spelling unit.items) _ rising)

-- Where a limit is passed in a part of a source.
use Rattle.std.specs.Prelude.{◌≡◌, ℕ, suc, ◌-◌, List, [], ◌∷◌, ◌++◌, Option, Some, None, ◌⊎◌, Contains}
use Rattle.om_lexer.specs.declared.token.Keyword.TheVariants as keywords
use Rattle.om_lexer.specs.declared.token.Punctuator.TheVariants as punctuators
use Rattle.om_lexer.specs.declared.token.Token.{Token}
use Rattle.om_pragma.specs.Spelling.{directive_spelling}
use Rattle.om_parser_tree.specs.Limits.{Limits, IsTooMuch, expressions_of_declaration}
use Rattle.om_parser_tree.specs.Spelling.{mark, word, perhaps, expression_spelling, local_spelling, condition_spelling}
use Rattle.om_parser_tree.specs.Spelling.{for_start_spelling, for_head_spelling, statement_spelling, definition_spelling}
use Rattle.om_parser_tree.specs.Spelling.{item_spelling, section_spelling, statements_spelling}
use Rattle.om_parser_tree.specs.Formed.{IsBody}
use Rattle.om_parser_tree.specs.Tree.{ExpressionTree, DeclarationTree, ConditionTree, ForStartTree, Nothing, StartExpression}
use Rattle.om_parser_tree.specs.Tree.{StartDeclaration, ForHeadTree, StatementTree, StatementsTree, LocalDeclaration, Block}
use Rattle.om_parser_tree.specs.Tree.{Empty, Expression, If, IfElse, While, Do, For, Return, Break, Continue, Construct}
use Rattle.om_parser_tree.specs.Tree.{StandAlone, Sections, NoStatements, Statement, statements, BlockTree, ItemTree}
use Rattle.om_parser_tree.specs.Tree.{Declaration, Prototype, Function, UnitTree, PartsTree, NoParts, Part}

-- Where a limit is passed in a part: the tokens of the part before that place, and the token there.
abbrev pub Place : Type 1
Place = List Token → Token → Type 0

-- it is passed behind these tokens
abbrev pub Behind : List Token → Place → Place
Behind front inner before token = (rest : List Token) × (before ≡ front ++ rest) × inner rest token

-- nowhere
abbrev pub Nowhere : Place
Nowhere before token = ⊥

-- in one of two parts
abbrev pub Either : Place → Place → Place
Either first second before token = first before token ⊎ second before token

-- The token there, behind those before it, is one too many for a whole expression of the part, or nests too deep in it.
pub record IsOverIn {A : Type 0} (spelling : A → List Token) (expressions : A → List ExpressionTree) (l : Limits)
    (part : A) (before : List Token) (token : Token) : Type 0 where
  pub expression : ExpressionTree
  pub whole : Contains (expressions part) expression
  pub front : List Token
  pub begun : List Token
  pub rest_of_expression : List Token
  pub rest_of_part : List Token
  pub parts : before ≡ front ++ begun
  pub in_expression : expression_spelling expression ≡ begun ++ token ∷ rest_of_expression
  pub in_part : spelling part ≡ front ++ expression_spelling expression ++ rest_of_part
  pub too_much : IsTooMuch l begun token

-- the limits of an expression in the parentheses of a statement, which are the outermost ones round its parts
abbrev pub in_parentheses : Limits → Limits
in_parentheses l = record l { nested = l.nested - 1 }

-- in an expression
abbrev pub IsOverInExpression : Limits → ExpressionTree → Place
IsOverInExpression l e = IsOverIn expression_spelling (λ x. x ∷ []) l e

-- in an initializer of a declaration
abbrev pub IsOverInDeclaration : Limits → DeclarationTree ExpressionTree → Place
IsOverInDeclaration l d = IsOverIn local_spelling expressions_of_declaration l d

-- in an expression that may be left out
abbrev pub InOptional : Limits → Option ExpressionTree → Place
InOptional l None = Nowhere
InOptional l (Some e) = IsOverInExpression l e

-- in the parentheses of a statement
abbrev pub InCondition : Limits → ConditionTree → Place
InCondition l c = Behind (mark punctuators.OpenParen c.open_paren ∷ []) (IsOverInExpression (in_parentheses l) c.value)

abbrev pub InForStart : Limits → ForStartTree → Place
InForStart l (Nothing semicolon) = Nowhere
InForStart l (StartExpression e semicolon) = IsOverInExpression (in_parentheses l) e
InForStart l (StartDeclaration d) = IsOverInDeclaration (in_parentheses l) d

-- in one of the three parts of a `for`
unfoldable pub InForHead : Limits → ForHeadTree → Place
InForHead l h =
    let start : List Token = word keywords.For h.word ∷ mark punctuators.OpenParen h.open_paren ∷ [] in
    let condition : List Token = start ++ for_start_spelling h.start in
    let step : List Token = condition ++ (perhaps expression_spelling h.condition ++ mark punctuators.Semicolon
    h.semicolon ∷ []) in
    Either (Behind start (InForStart l h.start))
    (Either (Behind condition (InOptional (in_parentheses l) h.condition))
    (Behind step (InOptional (in_parentheses l) h.step)))

-- at the first token of a statement round which so many stand already
abbrev pub AtFirst : Limits → (depth : ℕ) → StatementTree → Place
AtFirst l depth s before token = IsBody s × (depth ≡ suc l.statements) × (before ≡ [])

-- at the left brace of `sections` round which so many statements stand already
abbrev pub AtDepth : Limits → (depth : ℕ) → Place
AtDepth l depth before token = (depth ≡ suc l.statements) × (before ≡ [])

-- at the left brace of a block round which so many stand already
abbrev pub AtBrace : Limits → (nested : ℕ) → Place
AtBrace l nested before token = (nested ≡ l.blocks) × (before ≡ [])

unfoldable mutual
  -- in a statement, behind its first token or at the brace that it begins with; so many statements and blocks
  -- stand round it
  pub IsOverInside : Limits → (depth nested : ℕ) → StatementTree → Place
  IsOverInside l depth nested (LocalDeclaration d) = IsOverInDeclaration l d
  IsOverInside l depth nested (Block left items right) = Either (AtBrace l nested)
      (Behind (mark punctuators.OpenBrace left ∷ []) (IsOverInItems l (suc depth) (suc nested) items))
  IsOverInside l depth nested (Empty semicolon) = Nowhere
  IsOverInside l depth nested (Expression e semicolon) = IsOverInExpression l e
  IsOverInside l depth nested (If at c s) = Either (Behind (word keywords.If at ∷ []) (InCondition l c))
      (Behind (word keywords.If at ∷ condition_spelling c)
      (Either (AtFirst l (suc depth) s) (IsOverInside l (suc depth) nested s)))
  IsOverInside l depth nested (IfElse at c s other t) = Either (Behind (word keywords.If at ∷ []) (InCondition l c))
      (Either (Behind (word keywords.If at ∷ condition_spelling c)
      (Either (AtFirst l (suc depth) s) (IsOverInside l (suc depth) nested s)))
      (Behind (word keywords.If at ∷ (condition_spelling c ++ statement_spelling s ++ word keywords.Else other
      ∷ [])) (Either (AtFirst l (suc depth) t) (IsOverInside l (suc depth) nested t))))
  IsOverInside l depth nested (While at c s) = Either (Behind (word keywords.While at ∷ []) (InCondition l c))
      (Behind (word keywords.While at ∷ condition_spelling c)
      (Either (AtFirst l (suc depth) s) (IsOverInside l (suc depth) nested s)))
  IsOverInside l depth nested (Do at s again c semicolon) = Either (Behind (word keywords.Do at ∷ [])
      (Either (AtFirst l (suc depth) s) (IsOverInside l (suc depth) nested s)))
      (Behind (word keywords.Do at ∷ (statement_spelling s ++ word keywords.While again ∷ [])) (InCondition l c))
  IsOverInside l depth nested (For h s) = Either (InForHead l h)
      (Behind (for_head_spelling h) (Either (AtFirst l (suc depth) s) (IsOverInside l (suc depth) nested s)))
  IsOverInside l depth nested (Return at value semicolon) = Behind (word keywords.Return at ∷ []) (InOptional l value)
  IsOverInside l depth nested (Break at semicolon) = Nowhere
  IsOverInside l depth nested (Continue at semicolon) = Nowhere
  IsOverInside l depth nested (Construct d s) = Behind (directive_spelling expression_spelling d)
      (Either (AtFirst l (suc depth) s) (IsOverInside l (suc depth) nested s))
  IsOverInside l depth nested (StandAlone d) = Nowhere
  IsOverInside l depth nested (Sections d left parts right) = Behind (directive_spelling expression_spelling d)
      (Either (Either (AtDepth l (suc depth)) (AtBrace l nested)) (Behind (mark punctuators.OpenBrace left ∷ [])
      (IsOverInParts l (suc (suc depth)) (suc nested) parts)))

  -- in one of the items of a block
  pub IsOverInItems : Limits → (depth nested : ℕ) → StatementsTree → Place
  IsOverInItems l depth nested NoStatements = Nowhere
  IsOverInItems l depth nested (Statement s rest) = Either
      (Either (AtFirst l depth s) (IsOverInside l depth nested s))
      (Behind (statement_spelling s) (IsOverInItems l depth nested rest))

  -- in one of the parts of `sections`
  pub IsOverInParts : Limits → (depth nested : ℕ) → PartsTree → Place
  IsOverInParts l depth nested NoParts = Nowhere
  IsOverInParts l depth nested (Part section items rest) = Either
      (Behind (section_spelling section) (IsOverInItems l depth nested items))
      (Behind (section_spelling section ++ statements_spelling items) (IsOverInParts l depth nested rest))

-- in a statement round which so many statements and blocks stand
abbrev pub IsOverInStatement : Limits → (depth nested : ℕ) → StatementTree → Place
IsOverInStatement l depth nested s = Either (AtFirst l depth s) (IsOverInside l depth nested s)

-- in the block of a function
abbrev pub IsOverInBlock : Limits → BlockTree → Place
IsOverInBlock l b = Either (AtBrace l 0) (Behind (mark punctuators.OpenBrace b.open_brace ∷ [])
    (IsOverInItems l 1 1 (statements b.items)))

-- in a function
abbrev pub IsOverInItem : Limits → ItemTree → Place
IsOverInItem l (Declaration d) = Nowhere
IsOverInItem l (Prototype h semicolon) = Nowhere
IsOverInItem l (Function f) = Behind (definition_spelling f.head) (IsOverInBlock l f.body)

-- in one of several items
abbrev pub IsOverInUnitItems : Limits → List ItemTree → Place
IsOverInUnitItems l [] = Nowhere
IsOverInUnitItems l (i ∷ items) = Either (IsOverInItem l i) (Behind (item_spelling i) (IsOverInUnitItems l items))

-- in a whole source
abbrev pub IsOverInUnit : Limits → UnitTree → Place
IsOverInUnit l u = IsOverInUnitItems l u.items

-- A limit is passed at this place: some well-formed part begins with the same tokens up to there, and with the token
-- there, which is one too many for it.
pub record IsPassed {A : Type 0} (spelling : A → List Token) (IsFormed : A → Type 0) (over : A → Place)
    (tokens : List Token) (place : ℕ) : Type 0 where
  pub part : A
  pub formed : IsFormed part
  pub before : List Token
  pub token : Token
  pub after : List Token
  pub rest_of_part : List Token
  pub stands : tokens ≡ before ++ token ∷ after
  pub in_part : spelling part ≡ before ++ token ∷ rest_of_part
  pub at_place : token.span.start ≡ place
  pub too_much : over part before token

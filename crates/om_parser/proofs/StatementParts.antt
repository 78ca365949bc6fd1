-- What statements are made of, as it is read.
use Rattle.std.proofs.Common.{◌≡◌, ℕ, ◌+◌, ◌≤◌, List, [], ◌∷◌, ◌++◌, Option, None, Err, Bool, true, false, refl, sym}
use Rattle.std.proofs.Common.{ap, ◌∙◌, arith, cond, All}
use Rattle.std.specs.List.{flat_map}
use Rattle.std.proofs.lemmas.List.Elements.{All-head, All-tail}
use Rattle.om_lexer.specs.declared.fault.SourceFault.{SourceFault}
use Rattle.om_lexer.specs.declared.token.Keyword.{Keyword}
use Rattle.om_lexer.specs.declared.token.Keyword.TheVariants as keywords
use Rattle.om_lexer.specs.declared.token.Punctuator.{Punctuator}
use Rattle.om_lexer.specs.declared.token.Punctuator.TheVariants as punctuators
use Rattle.om_lexer.specs.declared.token.Span.{Span}
use Rattle.om_lexer.specs.declared.token.Token.{Token}
use Rattle.om_lexer.specs.declared.token.TokenKind.{TokenKind}
use Rattle.om_lexer.specs.declared.token.TokenKind.TheVariants as kinds
use Rattle.om_pragma.specs.declared.tree.Directive.{Directive}
use Rattle.om_pragma.specs.Questions.{is_stand_alone, is_section}
use Rattle.om_pragma.specs.Spelling.{directive_spelling}
use Rattle.om_parser.specs.declared.construct.LineStart.{LineStart}
use Rattle.om_parser.specs.declared.construct.LineStart.TheVariants as lines
use Rattle.om_parser.specs.declared.start.Start.{Start}
use Rattle.om_parser.specs.declared.start.Start.TheVariants as starts
use Rattle.om_parser.specs.ConstructReading.{line_start, PartsReader}
use Rattle.om_parser_parts.specs.Reading.{Outcome, Reader, take_word}
use Rattle.om_parser_tree.specs.Spelling.{token, mark, word, perhaps, expression_spelling, condition_spelling}
use Rattle.om_parser_tree.specs.Spelling.{for_head_spelling, statement_spelling, statements_spelling, parts_spelling}
use Rattle.om_parser_tree.specs.Spelling.{part_spelling}
use Rattle.om_parser_tree.specs.Formed.{IsOptional, IsForStart, ends_open, IsBody, IsPartItem, IsSection, IsOptionalSection}
use Rattle.om_parser_tree.specs.Formed.{AreSome, IsStatement, AreStatements, ArePartItems, AreFurtherParts, AreParts}
use Rattle.om_parser_tree.specs.Limits.{Limits}
use Rattle.om_parser_tree.specs.Sizes.{longest_of, brackets_of, blocks_of, height_of, HasForms, HaveForms, HasRoom, HaveRoom}
use Rattle.om_parser_tree.specs.Sizes.{section_longest, section_nesting, longest_of_parts, brackets_of_parts}
use Rattle.om_parser_tree.specs.Sizes.{blocks_of_parts, height_of_parts, PartsHaveForms}
use Rattle.om_parser_tree.specs.Sizes.{optional_extent, optional_nesting, for_start_extent, for_start_nesting}
use Rattle.om_parser.specs.StatementReading.{start_of, OpeningTree, OpensIf, OpensWhile, OpensFor}
use Rattle.om_parser_tree.specs.Tree.{ExpressionTree, ForStartTree, ForHeadTree, StatementTree, StatementsTree}
use Rattle.om_parser_tree.specs.Tree.{LocalDeclaration, statements, PartsTree, NoParts, Part, PartTree}
use Rattle.om_parser_tree.specs.Tree as trees
use Rattle.om_parser_parts.specs.Laws.{IsSound, IsWhole}
use Rattle.om_parser_parts.specs.Outcomes.{ok}
use Rattle.om_parser.proofs.OneOrMore.{FirstAndMore, each_of}
use Rattle.om_parser.proofs.LineStarts.{line_start_is, start_of_directive}

-- ---- what a first token is

-- the token that begins such a statement, where there is only one
abbrev pub IsOf : Start → TokenKind → Type 0
IsOf starts.Block k = k ≡ kinds.Punctuator punctuators.OpenBrace
IsOf starts.Empty k = k ≡ kinds.Punctuator punctuators.Semicolon
IsOf starts.If k = k ≡ kinds.Keyword keywords.If
IsOf starts.While k = k ≡ kinds.Keyword keywords.While
IsOf starts.Do k = k ≡ kinds.Keyword keywords.Do
IsOf starts.For k = k ≡ kinds.Keyword keywords.For
IsOf starts.Return k = k ≡ kinds.Keyword keywords.Return
IsOf starts.Break k = k ≡ kinds.Keyword keywords.Break
IsOf starts.Continue k = k ≡ kinds.Keyword keywords.Continue
IsOf starts.Directive k = k ≡ kinds.DirectiveBegin
IsOf starts.Expression k = Unit {0}
IsOf starts.Nothing k = Unit {0}

mark_of_start : (p : Punctuator) → IsOf (start_of (kinds.Punctuator p)) (kinds.Punctuator p)
mark_of_start punctuators.OpenBrace = refl
mark_of_start punctuators.Semicolon = refl
mark_of_start _ = tt

word_of_start : (k : Keyword) → IsOf (start_of (kinds.Keyword k)) (kinds.Keyword k)
word_of_start keywords.If = refl
word_of_start keywords.While = refl
word_of_start keywords.Do = refl
word_of_start keywords.For = refl
word_of_start keywords.Return = refl
word_of_start keywords.Break = refl
word_of_start keywords.Continue = refl
word_of_start _ = tt

pub is_of_start : (k : TokenKind) → IsOf (start_of k) k
is_of_start (kinds.Punctuator p) = mark_of_start p
is_of_start (kinds.Keyword k) = word_of_start k
is_of_start kinds.DirectiveBegin = refl
is_of_start _ = tt

-- ---- the parts

-- an expression that may be left out, within the limits
pub record IsWholeOptional (l : Limits) (round : ℕ) (e : Option ExpressionTree) : Type 0 where
  pub formed : IsOptional e
  pub nested : optional_nesting e + round ≤ l.nested
  pub long : optional_extent e ≤ l.tokens

-- what a `for` begins with, within the limits
pub record IsWholeStart (l : Limits) (s : ForStartTree) : Type 0 where
  pub formed : IsForStart s
  pub nested : for_start_nesting s + 1 ≤ l.nested
  pub long : for_start_extent s ≤ l.tokens

pub record IsWholeHead (l : Limits) (h : ForHeadTree) : Type 0 where
  pub start : IsWholeStart l h.start
  pub condition : IsWholeOptional l 1 h.condition
  pub step : IsWholeOptional l 1 h.step

abbrev pub optional_spelling : Punctuator → Option ExpressionTree × Span → List Token
optional_spelling p e = perhaps expression_spelling e.0 ++ mark p e.1 ∷ []

abbrev pub opening_spelling : OpeningTree → List Token
opening_spelling (OpensIf at c) = word keywords.If at ∷ condition_spelling c
opening_spelling (OpensWhile at c) = word keywords.While at ∷ condition_spelling c
opening_spelling (OpensFor h) = for_head_spelling h

abbrev pub IsWholeOpening : Limits → OpeningTree → Type 0
IsWholeOpening l (OpensIf at c) = IsWhole l 1 c.value
IsWholeOpening l (OpensWhile at c) = IsWhole l 1 c.value
IsWholeOpening l (OpensFor h) = IsWholeHead l h

-- a well-formed statement that keeps the limits
pub record IsGood (l : Limits) (checked : Bool) (room blocks_left : ℕ) (s : StatementTree) : Type 0 where
  pub formed : IsStatement s
  pub room_for : HasRoom l checked room blocks_left s

-- the same of one that may be a part of another
pub record IsGoodBody (l : Limits) (checked : Bool) (room blocks_left : ℕ) (s : StatementTree) : Type 0 where
  pub good : IsGood l checked room blocks_left s
  pub body : IsBody s

-- the same of one that may be an item of a part of `sections`
pub record IsGoodPartItem (l : Limits) (checked : Bool) (room blocks_left : ℕ) (s : StatementTree) : Type 0 where
  pub formed : IsStatement s
  pub room_for : HasRoom l checked room blocks_left s
  pub part : IsPartItem s

-- the items of a block
pub record AreGood (l : Limits) (checked : Bool) (room blocks_left : ℕ) (items : List StatementTree) : Type 0 where
  pub formed : AreStatements (statements items)
  pub room_for : HaveRoom l checked room blocks_left (statements items)

no_room_asked : (l : Limits) (checked : Bool) (room blocks_left : ℕ) → HaveRoom l checked room blocks_left
    (statements [])
unfolding HasForms
no_room_asked l checked room blocks_left = record {
  high = omega arith;
  deep = omega arith;
  nested = omega arith;
  long = omega arith;
  forms = tt;
}

room_for_one_more : (l : Limits) (checked : Bool) (room blocks_left : ℕ) (s : StatementTree)
    (rest : List StatementTree) → HasRoom l checked room blocks_left s
    → HaveRoom l checked room blocks_left (statements rest) → HaveRoom l checked room blocks_left (statements (s ∷
    rest))
unfolding HasForms
room_for_one_more l checked room blocks_left s rest first others = record {
  high = omega (arith, first.high, others.high);
  deep = omega (arith, first.deep, others.deep);
  nested = omega (arith, first.nested, others.nested);
  long = omega (arith, first.long, others.long);
  forms = (first.forms, others.forms);
}

pub are_good : (l : Limits) (checked : Bool) (room blocks_left : ℕ) (items : List StatementTree)
    → All (IsGood l checked room blocks_left) items → AreGood l checked room blocks_left items
unfolding IsStatement
are_good l checked room blocks_left [] h = record {
  formed = tt;
  room_for = no_room_asked l checked room blocks_left;
}
are_good l checked room blocks_left (s ∷ rest) h =
    let first = All-head (IsGood l checked room blocks_left) s rest h in
    let others = are_good l checked room blocks_left rest (All-tail (IsGood l checked room blocks_left) s rest h) in
    record {
      formed = (first.formed, others.formed);
      room_for = room_for_one_more l checked room blocks_left s rest first.room_for others.room_for;
    }

-- the items of a part of `sections`
record AreGoodPartItems (l : Limits) (checked : Bool) (room blocks_left : ℕ) (items : List StatementTree) : Type 0
  where
    pub formed : ArePartItems (statements items)
    pub room_for : HaveRoom l checked room blocks_left (statements items)

are_good_part_items : (l : Limits) (checked : Bool) (room blocks_left : ℕ) (items : List StatementTree)
    → All (IsGoodPartItem l checked room blocks_left) items → AreGoodPartItems l checked room blocks_left items
unfolding IsStatement
are_good_part_items l checked room blocks_left [] h = record {
  formed = tt;
  room_for = no_room_asked l checked room blocks_left;
}
are_good_part_items l checked room blocks_left (s ∷ rest) h =
    let first = All-head (IsGoodPartItem l checked room blocks_left) s rest h in
    let others = are_good_part_items l checked room blocks_left rest
    (All-tail (IsGoodPartItem l checked room blocks_left) s rest h) in
    record {
      formed = (first.formed, first.part, others.formed);
      room_for = room_for_one_more l checked room blocks_left s rest first.room_for others.room_for;
    }

-- a well-formed part of `sections` that keeps the limits, of whose `section` this is said
pub record IsGoodPart (Named : Option (Directive ExpressionTree) → Type 0) (l : Limits) (checked : Bool)
    (room blocks_left : ℕ) (p : PartTree) : Type 0 where
  pub named : Named p.section
  pub one_stands : AreSome p.items
  pub formed : ArePartItems p.items
  pub nested : section_nesting p.section ≤ l.nested
  pub long : section_longest p.section ≤ l.tokens
  pub room_for : HaveRoom l checked room blocks_left p.items

-- a part whose items are these, one at least
pub good_part : (Named : Option (Directive ExpressionTree) → Type 0) (l : Limits) (checked : Bool)
    (room blocks_left : ℕ) (section : Option (Directive ExpressionTree)) (items : List StatementTree) → Named section
    → section_nesting section ≤ l.nested → section_longest section ≤ l.tokens
    → FirstAndMore (IsGoodPartItem l checked room blocks_left) (IsGoodPartItem l checked room blocks_left) items
    → IsGoodPart Named l checked room blocks_left (record { section = section; items = statements items })
good_part Named l checked room blocks_left section items named nested long h =
    let good = are_good_part_items l checked room blocks_left items
    (each_of (IsGoodPartItem l checked room blocks_left) items h) in
    record {
      named = named;
      one_stands = one_at_least items h;
      formed = good.formed;
      nested = nested;
      long = long;
      room_for = good.room_for;
    }
  where
    one_at_least : (items : List StatementTree) → FirstAndMore (IsGoodPartItem l checked room blocks_left)
        (IsGoodPartItem l checked room blocks_left) items → AreSome (statements items)
    one_at_least [] h = absurd h
    one_at_least (s ∷ rest) h = tt

-- parts with such room
pub record PartsHaveRoom (l : Limits) (checked : Bool) (room blocks_left : ℕ) (parts : PartsTree) : Type 0 where
  pub high : height_of_parts parts ≤ room
  pub deep : blocks_of_parts parts ≤ blocks_left
  pub nested : brackets_of_parts parts ≤ l.nested
  pub long : longest_of_parts parts ≤ l.tokens
  pub forms : PartsHaveForms checked parts

room_for_part : (Named : Option (Directive ExpressionTree) → Type 0) (l : Limits) (checked : Bool)
    (room blocks_left : ℕ) (p : PartTree) (rest : List PartTree) → IsGoodPart Named l checked room blocks_left p
    → PartsHaveRoom l checked room blocks_left (trees.parts rest)
    → PartsHaveRoom l checked room blocks_left (trees.parts (p ∷ rest))
unfolding HasForms
room_for_part Named l checked room blocks_left p rest first others = record {
  high = omega (arith, first.room_for.high, others.high);
  deep = omega (arith, first.room_for.deep, others.deep);
  nested = omega (arith, first.nested, first.room_for.nested, others.nested);
  long = omega (arith, first.long, first.room_for.long, others.long);
  forms = (first.room_for.forms, others.forms);
}

record AreGoodFurtherParts (l : Limits) (checked : Bool) (room blocks_left : ℕ) (parts : List PartTree) : Type 0 where
  pub formed : AreFurtherParts (trees.parts parts)
  pub room_for : PartsHaveRoom l checked room blocks_left (trees.parts parts)

are_good_further : (l : Limits) (checked : Bool) (room blocks_left : ℕ) (parts : List PartTree)
    → All (IsGoodPart IsSection l checked room blocks_left) parts → AreGoodFurtherParts l checked room blocks_left parts
unfolding IsStatement HasForms
are_good_further l checked room blocks_left [] h = record {
  formed = tt;
  room_for = record { high = omega arith; deep = omega arith; nested = omega arith; long = omega arith; forms = tt };
}
are_good_further l checked room blocks_left (p ∷ rest) h =
    let first = All-head (IsGoodPart IsSection l checked room blocks_left) p rest h in
    let others = are_good_further l checked room blocks_left rest
    (All-tail (IsGoodPart IsSection l checked room blocks_left) p rest h) in
    record {
      formed = (first.named, first.one_stands, first.formed, others.formed);
      room_for = room_for_part IsSection l checked room blocks_left p rest first others.room_for;
    }

-- the parts of `sections`
pub record AreGoodParts (l : Limits) (checked : Bool) (room blocks_left : ℕ) (parts : List PartTree) : Type 0 where
  pub formed : AreParts (trees.parts parts)
  pub room_for : PartsHaveRoom l checked room blocks_left (trees.parts parts)

pub are_good_parts : (l : Limits) (checked : Bool) (room blocks_left : ℕ) (parts : List PartTree)
    → FirstAndMore (IsGoodPart IsOptionalSection l checked room blocks_left)
    (IsGoodPart IsSection l checked room blocks_left) parts → AreGoodParts l checked room blocks_left parts
unfolding IsStatement
are_good_parts l checked room blocks_left [] h = absurd h
are_good_parts l checked room blocks_left (p ∷ rest) h =
    let others = are_good_further l checked room blocks_left rest h.1 in
    record {
      formed = (h.0.named, h.0.one_stands, h.0.formed, others.formed);
      room_for = room_for_part IsOptionalSection l checked room blocks_left p rest h.0 others.room_for;
    }

-- what may be a part of another statement may be an item of a part of `sections`
pub body_is_part : (s : StatementTree) → IsBody s → IsPartItem s
body_is_part (LocalDeclaration d) body = absurd body
body_is_part _ body = tt

pub parts_flat : (parts : List PartTree) → parts_spelling (trees.parts parts) ≡ flat_map part_spelling parts
unfolding statement_spelling
parts_flat [] = refl
parts_flat (p ∷ rest) = ap (λ w. part_spelling p ++ w) (parts_flat rest)

pub statements_flat : (items : List StatementTree) → statements_spelling (statements items)
    ≡ flat_map statement_spelling items
unfolding statement_spelling
statements_flat [] = refl
statements_flat (s ∷ rest) = ap (λ w. statement_spelling s ++ w) (statements_flat rest)

-- a well-formed statement that stands at the front, as far as it can
pub record IsStatementRead (l : Limits) (checked : Bool) (room blocks_left : ℕ) (ts : List Token) (x : StatementTree
    × List Token) : Type 0 where
  pub parts : ts ≡ statement_spelling x.0 ++ x.1
  pub good : IsGoodBody l checked room blocks_left x.0
  pub nearest : ends_open x.0 ≡ true → take_word keywords.Else x.1 ≡ None

abbrev pub IsStatementSound : (l : Limits) (checked : Bool) (room blocks_left : ℕ) → Reader StatementTree → Type 0
IsStatementSound l checked room blocks_left r = (ts : List Token) (x : StatementTree × List Token) → r ts ≡ ok x
    → IsStatementRead l checked room blocks_left ts x

-- the items of a block that are read behind its left brace
pub record AreItemsRead (l : Limits) (checked : Bool) (room blocks_left : ℕ) (ts : List Token)
    (x : List StatementTree × Span × List Token) : Type 0 where
  pub parts : ts ≡ (statements_spelling (statements x.0) ++ mark punctuators.CloseBrace x.1 ∷ []) ++ x.2
  pub formed : AreStatements (statements x.0)
  pub high : height_of (statements x.0) ≤ room
  pub deep : blocks_of (statements x.0) + 1 ≤ blocks_left
  pub nested : brackets_of (statements x.0) ≤ l.nested
  pub long : longest_of (statements x.0) ≤ l.tokens
  pub forms : HaveForms checked (statements x.0)

-- the braces of `sections`, with what stands in them
abbrev pub braces_spelling : Span × PartsTree × Span → List Token
braces_spelling x = mark punctuators.OpenBrace x.0 ∷ (parts_spelling x.1 ++ mark punctuators.CloseBrace x.2 ∷ [])

-- well-formed parts in the braces of `sections` that keep the limits; the braces are a statement and a block
pub record AreGoodBraces (l : Limits) (checked : Bool) (room blocks_left : ℕ) (x : Span × PartsTree × Span) : Type 0
  where
    pub formed : AreParts x.1
    pub high : height_of_parts x.1 + 1 ≤ room
    pub deep : blocks_of_parts x.1 + 1 ≤ blocks_left
    pub nested : brackets_of_parts x.1 ≤ l.nested
    pub long : longest_of_parts x.1 ≤ l.tokens
    pub forms : PartsHaveForms checked x.1

abbrev pub AreBracesSound : (l : Limits) (checked : Bool) (room blocks_left : ℕ) → PartsReader → Type 0
AreBracesSound l checked room blocks_left r = IsSound braces_spelling (AreGoodBraces l checked room blocks_left) r

-- what begins with such a first token
abbrev pub Whole : Start → Span → List Token → List Token
Whole starts.Block at ts = mark punctuators.OpenBrace at ∷ ts
Whole starts.Empty at ts = mark punctuators.Semicolon at ∷ ts
Whole starts.If at ts = word keywords.If at ∷ ts
Whole starts.While at ts = word keywords.While at ∷ ts
Whole starts.Do at ts = word keywords.Do at ∷ ts
Whole starts.For at ts = word keywords.For at ∷ ts
Whole starts.Return at ts = word keywords.Return at ∷ ts
Whole starts.Break at ts = word keywords.Break at ∷ ts
Whole starts.Continue at ts = word keywords.Continue at ∷ ts
Whole starts.Directive at ts = token kinds.DirectiveBegin at ∷ ts
Whole starts.Expression at ts = []
Whole starts.Nothing at ts = []

-- ---- the names of lines

-- what a line begins whose directive is of these kinds
abbrev start_of_kinds : (alone section : Bool) → LineStart
start_of_kinds alone section = cond alone lines.StandAlone (cond section lines.Section lines.Construct)

alone_of_kinds : (alone section : Bool) → start_of_kinds alone section ≡ lines.StandAlone → alone ≡ true
alone_of_kinds true section e = refl
alone_of_kinds false true e = absurd cc
alone_of_kinds false false e = absurd cc

section_of_kinds : (alone section : Bool) → start_of_kinds alone section ≡ lines.Section → section ≡ true
section_of_kinds true section e = absurd cc
section_of_kinds false true e = refl
section_of_kinds false false e = absurd cc

construct_of_kinds : (alone section : Bool) → start_of_kinds alone section ≡ lines.Construct → (alone ≡ false)
    × (section ≡ false)
construct_of_kinds true section e = absurd cc
construct_of_kinds false true e = absurd cc
construct_of_kinds false false e = (refl, refl)

-- what the line that stands first begins is what its name says
pub line_named : (ts : List Token) (d : Directive ExpressionTree) (us : List Token) (start : LineStart)
    → line_start ts ≡ start → ts ≡ directive_spelling expression_spelling d ++ us → start_of_directive d.name ≡ start
line_named ts d us start is parts = sym (line_start_is d us) ∙ ap line_start (sym parts) ∙ is

pub alone_named : (ts : List Token) (d : Directive ExpressionTree) (us : List Token) → line_start ts
    ≡ lines.StandAlone → ts ≡ directive_spelling expression_spelling d ++ us → is_stand_alone d.name ≡ true
alone_named ts d us is parts = alone_of_kinds (is_stand_alone d.name) (is_section d.name)
    (line_named ts d us lines.StandAlone is parts)

pub section_named : (ts : List Token) (d : Directive ExpressionTree) (us : List Token) → line_start ts
    ≡ lines.Section → ts ≡ directive_spelling expression_spelling d ++ us → is_section d.name ≡ true
section_named ts d us is parts = section_of_kinds (is_stand_alone d.name) (is_section d.name)
    (line_named ts d us lines.Section is parts)

pub construct_named : (ts : List Token) (d : Directive ExpressionTree) (us : List Token) → line_start ts
    ≡ lines.Construct → ts ≡ directive_spelling expression_spelling d ++ us → (is_stand_alone d.name ≡ false)
    × (is_section d.name ≡ false)
construct_named ts d us is parts = construct_of_kinds (is_stand_alone d.name) (is_section d.name)
    (line_named ts d us lines.Construct is parts)

-- an outcome that is good only where a test holds
pub only_where : {A : Type 0} (b : Bool) (first : Outcome A) (f : SourceFault) (x : A) → cond b first (Err f) ≡ ok x
    → (b ≡ true) × (first ≡ ok x)
only_where true first f x h = (refl, h)
only_where false first f x h = absurd cc

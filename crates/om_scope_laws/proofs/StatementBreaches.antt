-- The breaches of a statement stand at its tokens, in their order.
use Rattle.std.proofs.Common.{ℕ, ◌+◌, Bool, true, false, List, [], ◌∷◌, ◌++◌, Option, None, Some}
use Rattle.std.specs.Prelude.{IfSome, is_some, nat_le, not}
use Rattle.om_lexer.specs.declared.fault.FaultCode.TheVariants as faults
use Rattle.om_lexer.specs.declared.token.Keyword.{Keyword}
use Rattle.om_lexer.specs.declared.token.Keyword.TheVariants as keywords
use Rattle.om_lexer.specs.declared.token.Punctuator.TheVariants as punctuators
use Rattle.om_lexer.specs.declared.token.Span.{Span}
use Rattle.om_lexer.specs.declared.token.Token.{Token}
use Rattle.om_lexer.specs.declared.token.TokenKind.TheVariants as kinds
use Rattle.om_pragma.specs.declared.tree.Directive.{Directive}
use Rattle.om_pragma.specs.Spelling.{directive_spelling, opening_spelling}
use Rattle.om_parser_tree.specs.Formed.{IsStatement, AreStatements, AreParts, AreFurtherParts, ArePartItems}
use Rattle.om_parser_tree.specs.Spelling.{condition_spelling, declaration_spelling, expression_spelling}
use Rattle.om_parser_tree.specs.Spelling.{for_head_spelling}
use Rattle.om_parser_tree.specs.Spelling.{mark, parts_spelling, perhaps, section_spelling, statement_spelling}
use Rattle.om_parser_tree.specs.Spelling.{statements_spelling, token, word}
use Rattle.om_parser_tree.specs.Tree.{ConditionTree, ExpressionTree, StatementTree, LocalDeclaration, Block, Empty}
use Rattle.om_parser_tree.specs.Tree.{Expression, If, IfElse, While, Do, For, Return, Break, Continue, Construct}
use Rattle.om_parser_tree.specs.Tree.{StandAlone, Sections, StatementsTree, NoStatements, Statement, PartsTree, NoParts}
use Rattle.om_parser_tree.specs.Tree.{Part}
use Rattle.om_scope_rules.specs.declared.limits.TheConstants.{SECTION_LIMIT}
use Rattle.om_scope_rules.specs.declared.region.Flow.{Flow}
use Rattle.om_scope_rules.specs.DirectiveRules.{constructing, directive_breaches, in_construct, traits_of}
use Rattle.om_scope_rules.specs.ExpressionRules.{expression_breaches, misplaced_breaches}
use Rattle.om_scope_rules.specs.Faults.{with_breach}
use Rattle.om_scope_rules.specs.Loops.{Loop, loop_in, loop_of}
use Rattle.om_scope_rules.specs.Places.{statement_start}
use Rattle.om_scope_rules.specs.Scopes.{Scopes, inside}
use Rattle.om_scope_rules.specs.StatementRules.{after_for_start, after_statement, body_breaches, bounds_breaches}
use Rattle.om_scope_rules.specs.StatementRules.{continuing}
use Rattle.om_scope_rules.specs.StatementRules.{found_breaches, in_loop, jump_breaches}
use Rattle.om_scope_rules.specs.StatementRules.{looping, parts_breaches, return_breaches, round_bounds}
use Rattle.om_scope_rules.specs.StatementRules.{section_breaches}
use Rattle.om_scope_rules.specs.StatementRules.{statement_breaches, statements_breaches}
use Rattle.om_scope_laws.proofs.DirectiveBreaches.{directive_among, stand_alone_among}
use Rattle.om_scope_laws.proofs.ExpressionBreaches.{BeginsAt, alone, begins, begins_more, begins_with, expression_among}
use Rattle.om_scope_laws.proofs.ExpressionBreaches.{inserted_at, misplaced_among}
use Rattle.om_scope_laws.proofs.LoopBreaches.{for_head_among, locals_among, loop_among}
use Rattle.om_scope_laws.proofs.TokenBreaches.{Among, before, chosen, first, first_alone, further, none, stands}
use Rattle.om_scope_laws.proofs.TokenBreaches.{together}

condition_among : (c : ConditionTree) (scopes : Scopes)
    → Among (expression_breaches scopes true c.value) (condition_spelling c)
unfolding condition_spelling
condition_among c scopes =
    further _ _ _ (before _ (expression_spelling c.value) _ (expression_among c.value scopes true))

returned_among : (scopes : Scopes) (flow : Flow) (o : Option ExpressionTree)
    → Among (return_breaches scopes flow o) (perhaps expression_spelling o)
returned_among scopes flow None = none []
returned_among scopes flow (Some e) =
    chosen flow.returns (expression_breaches scopes true e) (misplaced_breaches scopes e) (expression_spelling e)
    (expression_among e scopes true) (misplaced_among scopes e)

-- S14 at a word
jump_stands : (allowed : Bool) (at : Span) (k : Keyword) (ts : List Token)
    → Among (jump_breaches allowed at.start) (word k at ∷ ts)
jump_stands allowed at k ts =
    first_alone (jump_breaches allowed at.start) (word k at) ts
    (stands (word k at) (jump_breaches allowed at.start) tt (alone (not allowed) faults.LeavesConstruct at.start))

-- a line begins with its `#`
line_begins : (d : Directive ExpressionTree) → BeginsAt d.hash.start (directive_spelling expression_spelling d)
unfolding directive_spelling opening_spelling
line_begins d = begins_with (token kinds.DirectiveBegin d.hash) _ tt

-- S11 at a `section` too many
section_among : (count : ℕ) (section : Option (Directive ExpressionTree))
    → Among (section_breaches count section) (section_spelling section)
unfolding directive_spelling opening_spelling
section_among count None = none []
section_among count (Some d) =
    first_alone (section_breaches count (Some d)) (token kinds.DirectiveBegin d.hash) _
    (stands (token kinds.DirectiveBegin d.hash) (section_breaches count (Some d)) tt
    (alone (nat_le SECTION_LIMIT count) faults.TooMany d.hash.start))

-- where a statement begins
statement_begins : (s : StatementTree) → BeginsAt (statement_start s) (statement_spelling s)
unfolding statement_spelling declaration_spelling for_head_spelling
statement_begins (LocalDeclaration d) = begins_with (word keywords.Int d.int) _ tt
statement_begins (Block left items right) = begins_with (mark punctuators.OpenBrace left) _ tt
statement_begins (Empty semicolon) = begins_with (mark punctuators.Semicolon semicolon) _ tt
statement_begins (Expression e semicolon) = begins_more _ (expression_spelling e) _ (begins e)
statement_begins (If at c s) = begins_with (word keywords.If at) _ tt
statement_begins (IfElse at c s other t) = begins_with (word keywords.If at) _ tt
statement_begins (While at c s) = begins_with (word keywords.While at) _ tt
statement_begins (Do at s again c semicolon) = begins_with (word keywords.Do at) _ tt
statement_begins (For h s) = begins_with (word keywords.For h.word) _ tt
statement_begins (Return at value semicolon) = begins_with (word keywords.Return at) _ tt
statement_begins (Break at semicolon) = begins_with (word keywords.Break at) _ tt
statement_begins (Continue at semicolon) = begins_with (word keywords.Continue at) _ tt
statement_begins (Construct d s) = begins_more _ (directive_spelling expression_spelling d) _ (line_begins d)
statement_begins (StandAlone d) = line_begins d
statement_begins (Sections d left parts right) =
    begins_more _ (directive_spelling expression_spelling d) _ (line_begins d)

-- the bounds of a loop, if it is one
bounds_among : (scopes : Scopes) (o : Option Loop) (ts : List Token)
    → IfSome o (λ found. (scopes : Scopes) → Among (found_breaches scopes found) ts)
    → Among (bounds_breaches scopes o) ts
bounds_among scopes None ts h = none ts
bounds_among scopes (Some found) ts h = h scopes

-- the items of a part are statements
abbrev PartsFormed : PartsTree → Type 0
PartsFormed NoParts = Unit {0}
PartsFormed (Part section items rest) = AreStatements items × PartsFormed rest

items_formed : (items : StatementsTree) → ArePartItems items → AreStatements items
unfolding AreStatements ArePartItems
items_formed NoStatements h = tt
items_formed (Statement s rest) h = (h.0, items_formed rest h.2)

further_formed : (parts : PartsTree) → AreFurtherParts parts → PartsFormed parts
unfolding AreFurtherParts
further_formed NoParts h = tt
further_formed (Part section items rest) h = (items_formed items h.2, further_formed rest h.3)

parts_formed : (parts : PartsTree) → AreParts parts → PartsFormed parts
unfolding AreParts
parts_formed NoParts h = tt
parts_formed (Part section items rest) h = (items_formed items h.2, further_formed rest h.3)

mutual
  unfolding statement_breaches statements_breaches body_breaches parts_breaches statement_spelling
      statements_spelling parts_spelling IsStatement AreStatements

  statement_among : (s : StatementTree) (scopes : Scopes) (flow : Flow) → IsStatement s
      → Among (statement_breaches scopes flow s) (statement_spelling s)
  statement_among (LocalDeclaration d) scopes flow h = locals_among scopes d
  statement_among (Block left items right) scopes flow h =
      further _ _ _ (before _ (statements_spelling items) _ (statements_among items (inside scopes) flow h))
  statement_among (Empty semicolon) scopes flow h = none _
  statement_among (Expression e semicolon) scopes flow h =
      before _ (expression_spelling e) _ (expression_among e scopes false)
  statement_among (If at c s) scopes flow h =
      further _ _ _ (together (expression_breaches scopes true c.value) _ (condition_spelling c) (statement_spelling s)
      (condition_among c scopes) (statement_among s (inside scopes) flow h.1))
  statement_among (IfElse at c s other t) scopes flow h =
      further _ _ _ (together _ (statement_breaches (inside scopes) flow t)
      (condition_spelling c ++ statement_spelling s) _
      (together (expression_breaches scopes true c.value) (statement_breaches (inside scopes) flow s)
      (condition_spelling c) (statement_spelling s) (condition_among c scopes)
      (statement_among s (inside scopes) flow h.1))
      (further _ _ _ (statement_among t (inside scopes) flow h.4)))
  statement_among (While at c s) scopes flow h =
      further _ _ _ (together (expression_breaches scopes true c.value) _ (condition_spelling c) (statement_spelling s)
      (condition_among c scopes) (statement_among s (inside scopes) (looping flow) h.1))
  statement_among (Do at s again c semicolon) scopes flow h =
      further _ _ _ (together (statement_breaches (inside scopes) (looping flow) s) _ (statement_spelling s) _
      (statement_among s (inside scopes) (looping flow) h.1)
      (further _ _ _ (before _ (condition_spelling c) _ (condition_among c scopes))))
  statement_among (For head s) scopes flow h =
      together _ (statement_breaches (inside (after_for_start (inside scopes) head.start)) (looping flow) s)
      (for_head_spelling head) (statement_spelling s) (for_head_among (inside scopes) head)
      (statement_among s (inside (after_for_start (inside scopes) head.start)) (looping flow) h.1)
  statement_among (Return at value semicolon) scopes flow h =
      first (jump_breaches (not flow.in_construct) at.start) (return_breaches scopes flow value)
      (word keywords.Return at) _
      (stands (word keywords.Return at) (jump_breaches (not flow.in_construct) at.start) tt
      (alone (not (not flow.in_construct)) faults.LeavesConstruct at.start))
      (before _ (perhaps expression_spelling value) _ (returned_among scopes flow value))
  statement_among (Break at semicolon) scopes flow h = jump_stands flow.may_break at keywords.Break _
  statement_among (Continue at semicolon) scopes flow h = jump_stands flow.may_continue at keywords.Continue _
  statement_among (Construct d s) scopes flow h =
      let inner = in_construct d scopes in
      let around = constructing d flow in
      let plain = statement_breaches inner around s in
      let own = statement_spelling s in
      together (directive_breaches scopes flow d) _ (directive_spelling expression_spelling d) own
      (directive_among scopes flow d)
      (chosen (not (traits_of d.name).takes_loop) plain _ own (statement_among s inner around h.2)
      (chosen (is_some (loop_in s))
      (bounds_breaches (round_bounds d scopes) (loop_in s) ++ body_breaches inner around (loop_in s) s)
      (with_breach (record { code = faults.LoopForm; at = statement_start s }) plain) own
      (repeated_among s (round_bounds d scopes) inner around h.2)
      (inserted_at (record { code = faults.LoopForm; at = statement_start s }) own plain (statement_begins s)
      (statement_among s inner around h.2))))
  statement_among (StandAlone d) scopes flow h = stand_alone_among scopes flow d h.0
  statement_among (Sections d left parts right) scopes flow h =
      together (directive_breaches scopes flow d) _ (directive_spelling expression_spelling d) _
      (directive_among scopes flow d)
      (further _ _ _ (before _ (parts_spelling parts) _
      (parts_among parts (in_construct d scopes) (constructing d flow) 0 (parts_formed parts h.2))))

  pub statements_among : (items : StatementsTree) (scopes : Scopes) (flow : Flow) → AreStatements items
      → Among (statements_breaches scopes flow items) (statements_spelling items)
  statements_among NoStatements scopes flow h = none []
  statements_among (Statement s rest) scopes flow h =
      together (statement_breaches scopes flow s) _ (statement_spelling s) (statements_spelling rest)
      (statement_among s scopes flow h.0) (statements_among rest (after_statement scopes s) flow h.1)

  -- a loop's bounds and its body
  repeated_among : (s : StatementTree) (scopes inner : Scopes) (flow : Flow) → IsStatement s
      → Among (bounds_breaches scopes (loop_in s) ++ body_breaches inner flow (loop_in s) s) (statement_spelling s)
  repeated_among (For head s) scopes inner flow h =
      together (bounds_breaches scopes (loop_of head)) _ (for_head_spelling head) (statement_spelling s)
      (bounds_among scopes (loop_of head) (for_head_spelling head) (loop_among head))
      (statement_among s (in_loop inner (loop_of head)) (continuing flow) h.1)
  repeated_among (LocalDeclaration d) scopes inner flow h = none _
  repeated_among (Block left items right) scopes inner flow h = none _
  repeated_among (Empty semicolon) scopes inner flow h = none _
  repeated_among (Expression e semicolon) scopes inner flow h = none _
  repeated_among (If at c s) scopes inner flow h = none _
  repeated_among (IfElse at c s other t) scopes inner flow h = none _
  repeated_among (While at c s) scopes inner flow h = none _
  repeated_among (Do at s again c semicolon) scopes inner flow h = none _
  repeated_among (Return at value semicolon) scopes inner flow h = none _
  repeated_among (Break at semicolon) scopes inner flow h = none _
  repeated_among (Continue at semicolon) scopes inner flow h = none _
  repeated_among (Construct d s) scopes inner flow h = none _
  repeated_among (StandAlone d) scopes inner flow h = none _
  repeated_among (Sections d left parts right) scopes inner flow h = none _

  parts_among : (parts : PartsTree) (scopes : Scopes) (flow : Flow) (count : ℕ) → PartsFormed parts
      → Among (parts_breaches scopes flow count parts) (parts_spelling parts)
  parts_among NoParts scopes flow count h = none []
  parts_among (Part section items rest) scopes flow count h =
      together (section_breaches count section ++ statements_breaches (inside scopes) flow items) _
      (section_spelling section ++ statements_spelling items) (parts_spelling rest)
      (together (section_breaches count section) _ (section_spelling section) (statements_spelling items)
      (section_among count section) (statements_among items (inside scopes) flow h.0))
      (parts_among rest scopes flow (count + 1) h.1)

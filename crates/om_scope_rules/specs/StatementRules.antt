-- The rules of declarations and statements, by the breaches that a tree has of them, in the order of the text.
use Rattle.std.specs.Prelude.{ℕ, ◌+◌, List, [], ◌++◌, Option, None, Some, Bool, true, false, nat_eq, nat_le, not}
use Rattle.std.specs.Prelude.{if◌then◌else◌, is_some, fold}
use Rattle.om_lexer.specs.declared.fault.FaultCode.TheVariants as faults
use Rattle.om_lexer.specs.declared.fault.SourceFault.{SourceFault}
use Rattle.om_parser_tree.specs.declared.tree.ArrayLength.{ArrayLength}
use Rattle.om_pragma.specs.declared.clause.Name as names
use Rattle.om_parser_tree.specs.Tree.{ExpressionTree, InitializerTree, DeclaratorTree, ForStartTree, Nothing, StartExpression}
use Rattle.om_parser_tree.specs.Tree.{StartDeclaration, ForHeadTree, StatementTree, LocalDeclaration, Block, Empty, Expression}
use Rattle.om_parser_tree.specs.Tree.{If, IfElse, While, Do, For, Return, Break, Continue, Construct, StandAlone, Sections}
use Rattle.om_parser_tree.specs.Tree.{StatementsTree, NoStatements, Statement, PartsTree, NoParts, Part, PartTree}
use Rattle.om_pragma.specs.declared.tree.Directive.{Directive}
use Rattle.om_scope_rules.specs.declared.region.Flow.{Flow}
use Rattle.om_scope_rules.specs.declared.limits.TheConstants.{SECTION_LIMIT}
use Rattle.om_scope_rules.specs.Faults.{breach_if, breaches_along, with_breach}
use Rattle.om_scope_rules.specs.Places.{statement_start}
use Rattle.om_scope_rules.specs.ExpressionRules.{expression_breaches, is_scalar, misplaced_breaches, undeclared_breaches}
use Rattle.om_scope_rules.specs.DirectiveRules.{constructing, directive_breaches, flush_breaches, in_construct, traits_of}
use Rattle.om_scope_rules.specs.Loops.{Loop, loop_in}
use Rattle.om_scope_rules.specs.Sharing.{is_parallel}
use Rattle.om_scope_tree.specs.declared.resolved.Shape.TheVariants as shapes
use Rattle.om_scope_rules.specs.Scopes.{Scopes, is_declared, inside, meaning_of, with_local, declarators_of, after_local}
use Rattle.om_scope_rules.specs.Scopes.{after_locals}

-- S8: declared again in the same scope (C17 6.7p3; of globals an own choice, since 6.9.2p2 lets a tentative definition
-- stand again)
abbrev pub redeclared_breaches : Scopes → names.Name → List SourceFault
redeclared_breaches scopes name = breach_if (is_declared scopes name.text) faults.Redeclared name.span.start

-- S9 at the declared name: an array of no cells (C17 6.7.6.2p1)
abbrev pub is_empty_array : Option ArrayLength → Bool
is_empty_array None = false
is_empty_array (Some array) = nat_eq array.size.value 0

abbrev pub array_size_breaches : {I : Type 0} → DeclaratorTree I → List SourceFault
array_size_breaches d = breach_if (is_empty_array d.array) faults.Misuse d.name.span.start

abbrev pub initializer_breaches : Scopes → Option (InitializerTree ExpressionTree) → List SourceFault
initializer_breaches scopes None = []
initializer_breaches scopes (Some initializer) = expression_breaches scopes true initializer.value

-- the name's scope begins behind it, so its initializer reads the name itself (C17 6.2.1p7)
unfoldable pub local_breaches : Scopes → DeclaratorTree ExpressionTree → List SourceFault
local_breaches scopes d = redeclared_breaches scopes d.name ++ array_size_breaches d ++ initializer_breaches
    (after_local scopes d) d.initializer

abbrev pub locals_breaches : Scopes → List (DeclaratorTree ExpressionTree) → List SourceFault
locals_breaches = breaches_along local_breaches after_local

-- S14: a `break` or a `continue` outside of a loop (C17 6.8.6.2p1, 6.8.6.3p1), or a jump that leaves a construct
-- (structured blocks: OpenMP API 5.2, section 4.3)
abbrev pub jump_breaches : Bool → ℕ → List SourceFault
jump_breaches allowed at = breach_if (not allowed) faults.LeavesConstruct at

-- S9: a value that a `void` function returns (C17 6.8.6.4p1)
abbrev pub return_breaches : Scopes → Flow → Option ExpressionTree → List SourceFault
return_breaches scopes flow None = []
return_breaches scopes flow (Some e) = if flow.returns then expression_breaches scopes true e else
    misplaced_breaches scopes e

abbrev pub perhaps_breaches : Scopes → Bool → Option ExpressionTree → List SourceFault
perhaps_breaches scopes for_value None = []
perhaps_breaches scopes for_value (Some e) = expression_breaches scopes for_value e

abbrev pub for_start_breaches : Scopes → ForStartTree → List SourceFault
for_start_breaches scopes (Nothing semicolon) = []
for_start_breaches scopes (StartExpression e semicolon) = expression_breaches scopes false e
for_start_breaches scopes (StartDeclaration d) = locals_breaches scopes (declarators_of d)

abbrev pub after_for_start : Scopes → ForStartTree → Scopes
after_for_start scopes (Nothing semicolon) = scopes
after_for_start scopes (StartExpression e semicolon) = scopes
after_for_start scopes (StartDeclaration d) = after_locals scopes (declarators_of d)

-- of the condition and the step, behind what the `for` begins with
abbrev pub for_turn_breaches : Scopes → ForHeadTree → List SourceFault
for_turn_breaches scopes h = perhaps_breaches scopes true h.condition ++ perhaps_breaches scopes false h.step

-- in a loop
abbrev pub looping : Flow → Flow
looping flow = record flow { may_break = true; may_continue = true }

-- ---- canonical loops

-- the bounds of a loop use the originals of the copies that a `for` makes, and the copies of a `parallel for`, which
-- are those of its `parallel` (an own reading: OpenMP API 5.2, section 4.4.1 has the bounds evaluated before the loop)
abbrev pub round_bounds : Directive ExpressionTree → Scopes → Scopes
round_bounds d scopes = if is_parallel (traits_of d.name).region then in_construct d scopes else scopes

-- the scopes in which a loop's variable is one of its own
abbrev pub with_iteration : Scopes → Loop → Scopes
with_iteration scopes found = with_local (inside scopes) found.start.variable shapes.Scalar

-- S7, S9: a variable that the loop does not declare is an `int`; the loop uses a copy of it, and not the original
abbrev pub variable_breaches : Scopes → names.Name → List SourceFault
variable_breaches scopes name = undeclared_breaches scopes name
    ++ breach_if (not (is_scalar (meaning_of scopes name.text))) faults.Misuse name.span.start

abbrev pub values_breaches : Scopes → Loop → List SourceFault
values_breaches scopes found = expression_breaches scopes true found.start.from ++ expression_breaches scopes true
    found.to

-- a variable that the loop declares is seen in the bounds
abbrev pub found_breaches : Scopes → Loop → List SourceFault
found_breaches scopes found =
    if found.start.is_declared
    then values_breaches (with_iteration scopes found) found
    else variable_breaches scopes found.start.variable ++ values_breaches scopes found

abbrev pub bounds_breaches : Scopes → Option Loop → List SourceFault
bounds_breaches scopes None = []
bounds_breaches scopes (Some found) = found_breaches scopes found

abbrev pub in_loop : Scopes → Option Loop → Scopes
in_loop scopes None = scopes
in_loop scopes (Some found) = inside (with_iteration scopes found)

-- a `continue` goes on with the next iteration
abbrev pub continuing : Flow → Flow
continuing flow = record flow { may_continue = true }

-- ---- statements

-- the scopes behind an item of a block
abbrev pub after_statement : Scopes → StatementTree → Scopes
after_statement scopes (LocalDeclaration d) = after_locals scopes (declarators_of d)
after_statement scopes (Block left items right) = scopes
after_statement scopes (Empty semicolon) = scopes
after_statement scopes (Expression e semicolon) = scopes
after_statement scopes (If at c s) = scopes
after_statement scopes (IfElse at c s other t) = scopes
after_statement scopes (While at c s) = scopes
after_statement scopes (Do at s again c semicolon) = scopes
after_statement scopes (For h s) = scopes
after_statement scopes (Return at value semicolon) = scopes
after_statement scopes (Break at semicolon) = scopes
after_statement scopes (Continue at semicolon) = scopes
after_statement scopes (Construct d s) = scopes
after_statement scopes (StandAlone d) = scopes
after_statement scopes (Sections d left parts right) = scopes

abbrev pub after_statements : Scopes → List StatementTree → Scopes
after_statements scopes statements = fold after_statement scopes statements

-- S11: a `section` that begins a part of `sections`, behind so many of them, where no more may stand. The first part,
-- which may lack its `section`, is never one too many.
abbrev pub section_breaches : (before : ℕ) → Option (Directive ExpressionTree) → List SourceFault
section_breaches before None = []
section_breaches before (Some d) = breach_if (nat_le SECTION_LIMIT before) faults.TooMany d.hash.start

-- A part of a statement is a block of its own (C17 6.8.4p3, 6.8.5p5).
unfoldable mutual
  pub statement_breaches : Scopes → Flow → StatementTree → List SourceFault
  statement_breaches scopes flow (LocalDeclaration d) = locals_breaches scopes (declarators_of d)
  statement_breaches scopes flow (Block left items right) = statements_breaches (inside scopes) flow items
  statement_breaches scopes flow (Empty semicolon) = []
  statement_breaches scopes flow (Expression e semicolon) = expression_breaches scopes false e
  statement_breaches scopes flow (If at c s) = expression_breaches scopes true c.value ++ statement_breaches
      (inside scopes) flow s
  statement_breaches scopes flow (IfElse at c s other t) =
      expression_breaches scopes true c.value ++ statement_breaches (inside scopes) flow s ++ statement_breaches
      (inside scopes) flow t
  statement_breaches scopes flow (While at c s) = expression_breaches scopes true c.value ++ statement_breaches
      (inside scopes) (looping flow) s
  statement_breaches scopes flow (Do at s again c semicolon) = statement_breaches (inside scopes) (looping flow) s
      ++ expression_breaches scopes true c.value
  statement_breaches scopes flow (For h s) =
      for_start_breaches (inside scopes) h.start
      ++ for_turn_breaches (after_for_start (inside scopes) h.start) h
      ++ statement_breaches (inside (after_for_start (inside scopes) h.start)) (looping flow) s
  statement_breaches scopes flow (Return at value semicolon) = jump_breaches (not flow.in_construct) at.start
      ++ return_breaches scopes flow value
  statement_breaches scopes flow (Break at semicolon) = jump_breaches flow.may_break at.start
  statement_breaches scopes flow (Continue at semicolon) = jump_breaches flow.may_continue at.start
  statement_breaches scopes flow (Construct d s) =
      directive_breaches scopes flow d
      ++ (if not (traits_of d.name).takes_loop
      then statement_breaches (in_construct d scopes) (constructing d flow) s
      else if is_some (loop_in s)
      then bounds_breaches (round_bounds d scopes) (loop_in s) ++ body_breaches (in_construct d scopes)
      (constructing d flow) (loop_in s) s
      else with_breach (record { code = faults.LoopForm; at = statement_start s })
      (statement_breaches (in_construct d scopes) (constructing d flow) s))
  statement_breaches scopes flow (StandAlone d) = directive_breaches scopes flow d ++ flush_breaches scopes d.name
  statement_breaches scopes flow (Sections d left parts right) =
      directive_breaches scopes flow d ++ parts_breaches (in_construct d scopes) (constructing d flow) 0 parts

  -- of the items of a block, in their order
  pub statements_breaches : Scopes → Flow → StatementsTree → List SourceFault
  statements_breaches scopes flow NoStatements = []
  statements_breaches scopes flow (Statement s rest) = statement_breaches scopes flow s ++ statements_breaches
      (after_statement scopes s) flow rest

  -- of the body of a canonical loop
  pub body_breaches : Scopes → Flow → Option Loop → StatementTree → List SourceFault
  body_breaches scopes flow found (For h s) = statement_breaches (in_loop scopes found) (continuing flow) s
  body_breaches scopes flow found (LocalDeclaration d) = []
  body_breaches scopes flow found (Block left items right) = []
  body_breaches scopes flow found (Empty semicolon) = []
  body_breaches scopes flow found (Expression e semicolon) = []
  body_breaches scopes flow found (If at c s) = []
  body_breaches scopes flow found (IfElse at c s other t) = []
  body_breaches scopes flow found (While at c s) = []
  body_breaches scopes flow found (Do at s again c semicolon) = []
  body_breaches scopes flow found (Return at value semicolon) = []
  body_breaches scopes flow found (Break at semicolon) = []
  body_breaches scopes flow found (Continue at semicolon) = []
  body_breaches scopes flow found (Construct d s) = []
  body_breaches scopes flow found (StandAlone d) = []
  body_breaches scopes flow found (Sections d left parts right) = []

  -- of the parts of `sections`, behind so many of them; a part is a block of its own, in which no
  -- declaration stands (an own choice)
  pub parts_breaches : Scopes → Flow → (before : ℕ) → PartsTree → List SourceFault
  parts_breaches scopes flow before NoParts = []
  parts_breaches scopes flow before (Part section items rest) =
      (section_breaches before section ++ statements_breaches (inside scopes) flow items)
      ++ parts_breaches scopes flow (before + 1) rest

-- of a construct that is for a loop, which is this one
abbrev pub loop_construct_breaches : Scopes → Flow → Directive ExpressionTree → Option Loop → StatementTree
    → List SourceFault
loop_construct_breaches scopes flow d found s =
    directive_breaches scopes flow d
    ++ (if is_some found
    then bounds_breaches (round_bounds d scopes) found ++ body_breaches (in_construct d scopes)
    (constructing d flow) found s
    else with_breach (record { code = faults.LoopForm; at = statement_start s })
    (statement_breaches (in_construct d scopes) (constructing d flow) s))

-- of another construct
abbrev pub plain_construct_breaches : Scopes → Flow → Directive ExpressionTree → StatementTree → List SourceFault
plain_construct_breaches scopes flow d s = directive_breaches scopes flow d ++ statement_breaches
    (in_construct d scopes) (constructing d flow) s

-- of a construct
abbrev pub construct_breaches : Scopes → Flow → Directive ExpressionTree → StatementTree → List SourceFault
construct_breaches scopes flow d s =
    directive_breaches scopes flow d
    ++ (if not (traits_of d.name).takes_loop
    then statement_breaches (in_construct d scopes) (constructing d flow) s
    else if is_some (loop_in s)
    then bounds_breaches (round_bounds d scopes) (loop_in s) ++ body_breaches (in_construct d scopes)
    (constructing d flow) (loop_in s) s
    else with_breach (record { code = faults.LoopForm; at = statement_start s })
    (statement_breaches (in_construct d scopes) (constructing d flow) s))

abbrev pub sections_construct_breaches : Scopes → Flow → Directive ExpressionTree → PartsTree → List SourceFault
sections_construct_breaches scopes flow d parts = directive_breaches scopes flow d ++ parts_breaches
    (in_construct d scopes) (constructing d flow) 0 parts

abbrev pub part_breaches : Scopes → Flow → (before : ℕ) → PartTree → List SourceFault
part_breaches scopes flow before part = section_breaches before part.section
    ++ statements_breaches (inside scopes) flow part.items

abbrev pub stand_alone_breaches : Scopes → Flow → Directive ExpressionTree → List SourceFault
stand_alone_breaches scopes flow d = directive_breaches scopes flow d ++ flush_breaches scopes d.name

-- of a `for`
abbrev pub for_breaches : Scopes → Flow → ForHeadTree → StatementTree → List SourceFault
for_breaches scopes flow h s =
    for_start_breaches (inside scopes) h.start
    ++ for_turn_breaches (after_for_start (inside scopes) h.start) h
    ++ statement_breaches (inside (after_for_start (inside scopes) h.start)) (looping flow) s

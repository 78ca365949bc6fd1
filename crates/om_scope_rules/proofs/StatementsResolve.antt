-- A statement without a breach has a resolution.
use Rattle.std.proofs.Common.{◌≡◌, ℕ, true, false, cond, not, List, [], ◌++◌, Option, None, Some, is_some}
use Rattle.std.proofs.Common.{refl, ◌+◌}
use Rattle.std.specs.Prelude.{IsSome}
use Rattle.om_lexer.specs.declared.fault.FaultCode.TheVariants as faults
use Rattle.om_lexer.specs.declared.fault.SourceFault.{SourceFault}
use Rattle.om_pragma.specs.declared.tree.Directive.{Directive}
use Rattle.om_parser_tree.specs.Formed.{AreStatements, IsStatement}
use Rattle.om_parser_tree.specs.Sizes.{HasForms, HaveForms}
use Rattle.om_parser_tree.specs.Tree.{ExpressionTree, StatementTree, LocalDeclaration, Block, Empty, Expression, If, IfElse}
use Rattle.om_parser_tree.specs.Tree.{While, Do, For, Return, Break, Continue, Construct, StandAlone, Sections}
use Rattle.om_parser_tree.specs.Tree.{StatementsTree, NoStatements, Statement, PartsTree, NoParts, Part}
use Rattle.om_scope_rules.specs.declared.region.Flow.{Flow}
use Rattle.om_scope_rules.specs.DirectiveRules.{constructing, directive_breaches, flush_breaches, in_construct, parallel_in}
use Rattle.om_scope_rules.specs.DirectiveRules.{traits_of}
use Rattle.om_scope_rules.specs.ExpressionRules.{expression_breaches}
use Rattle.om_scope_rules.specs.Faults.{with_breach}
use Rattle.om_scope_rules.specs.Loops.{Loop, loop_in}
use Rattle.om_scope_rules.specs.Places.{statement_start}
use Rattle.om_scope_rules.specs.Proper.{AreProper, AreProperParts, IsProper}
use Rattle.om_scope_rules.specs.ProperConstructs.{construct_there, parts_proper, proper_inside}
use Rattle.om_scope_rules.specs.Resolution.{resolved_expression}
use Rattle.om_scope_rules.specs.Scopes.{Scopes, inside, declarators_of}
use Rattle.om_scope_rules.specs.StatementResolution.{resolved_declarators, resolved_clauses, resolved_loop, resolved_start}
use Rattle.om_scope_rules.specs.StatementResolution.{resolved_perhaps, schedule_of, resolved_statement, resolved_statements}
use Rattle.om_scope_rules.specs.StatementResolution.{resolved_repeated, resolved_parts, resolved_plain_construct}
use Rattle.om_scope_rules.specs.StatementResolution.{resolved_loop_construct}
use Rattle.om_scope_rules.specs.StatementRules.{jump_breaches, return_breaches, perhaps_breaches, for_start_breaches}
use Rattle.om_scope_rules.specs.StatementRules.{after_for_start, for_turn_breaches, looping, round_bounds, found_breaches}
use Rattle.om_scope_rules.specs.StatementRules.{bounds_breaches, in_loop, continuing, after_statement}
use Rattle.om_scope_rules.specs.StatementRules.{statement_breaches, statements_breaches, body_breaches}
use Rattle.om_scope_rules.specs.StatementRules.{parts_breaches, section_breaches}
use Rattle.om_scope_rules.specs.Updates.{statement_side}
use Rattle.om_scope_rules.proofs.ClausesResolve.{has_declarators, has_start, has_perhaps, has_returned, has_clauses, has_loop}
use Rattle.om_scope_rules.proofs.ClausesResolve.{has_alone}
use Rattle.om_scope_rules.proofs.ExpressionsResolve.{has_expression}
use Rattle.om_scope_rules.proofs.SomeSteps.{some_given, some_then}
use Rattle.om_scope_rules.proofs.Unbroken.{front, back, by_cases, fails, never_placed}

-- what a construct for a loop has where it has none of its parts lacks a breach
loop_there : (scopes : Scopes) (parallel : Option ℕ) (flow : Flow) (d : Directive ExpressionTree)
    (s : StatementTree) (perhaps_found : Option Loop) (others : List SourceFault)
    → IsSome (resolved_clauses scopes d.clauses)
    → ((found : Loop) → perhaps_found ≡ Some found
    → body_breaches (in_construct d scopes) (constructing d flow) (Some found) s ≡ []
    → IsSome (resolved_repeated (in_construct d scopes) (parallel_in d parallel) found s))
    → cond (is_some perhaps_found) (bounds_breaches (round_bounds d scopes) perhaps_found
    ++ body_breaches (in_construct d scopes) (constructing d flow) perhaps_found s)
    (with_breach (record { code = faults.LoopForm; at = statement_start s }) others) ≡ []
    → IsSome (resolved_loop_construct scopes parallel d perhaps_found s)
loop_there scopes parallel flow d s None others clauses body whole = absurd
    (never_placed faults.LoopForm (statement_start s) others whole)
loop_there scopes parallel flow d s (Some found) others clauses body whole =
    let l = has_loop (round_bounds d scopes) (schedule_of d.clauses) found
    (front (found_breaches (round_bounds d scopes) found) (body_breaches (in_construct d scopes)
    (constructing d flow) (Some found) s) whole) in
    let repeated = body found refl (back (found_breaches (round_bounds d scopes) found)
    (body_breaches (in_construct d scopes) (constructing d flow) (Some found) s) whole) in
    some_then (resolved_clauses scopes d.clauses) _ clauses
    (λ cs. some_then (resolved_loop (round_bounds d scopes) (schedule_of d.clauses) found) _ l (λ x.
    some_then (resolved_repeated (in_construct d scopes) (parallel_in d parallel) found s) _ repeated (λ y. refl)))

mutual
  unfolding statement_breaches statements_breaches body_breaches parts_breaches resolved_statement
      resolved_statements resolved_repeated resolved_parts IsStatement AreStatements HasForms HaveForms

  has_statement : (scopes : Scopes) (flow : Flow) (parallel : Option ℕ) (s : StatementTree) → IsProper s
      → statement_breaches scopes flow s ≡ [] → IsSome (resolved_statement scopes parallel s)
  has_statement scopes flow parallel (LocalDeclaration d) p whole = some_then
      (resolved_declarators scopes (declarators_of d)) _ (has_declarators scopes (declarators_of d) whole) (λ ds. refl)
  has_statement scopes flow parallel (Block left items right) p whole = some_then (resolved_statements (inside scopes)
      parallel items) _ (has_statements (inside scopes) flow parallel items p whole) (λ ss. refl)
  has_statement scopes flow parallel (Empty semicolon) p whole = refl
  has_statement scopes flow parallel (Expression e semicolon) p whole = some_then (resolved_expression scopes e) _
      (has_expression scopes false e whole) (λ x. refl)
  has_statement scopes flow parallel (If at c s) p whole =
      let condition = expression_breaches scopes true c.value in
      let branch = statement_breaches (inside scopes) flow s in
      let y = has_statement (inside scopes) flow parallel s (p.0.1, p.1) (back condition branch whole) in
      some_then (resolved_expression scopes c.value) _ (has_expression scopes true c.value
      (front condition branch whole)) (λ x.
      some_then (resolved_statement (inside scopes) parallel s) _ y (λ t. refl))
  has_statement scopes flow parallel (IfElse at c s other t) p whole =
      let condition = expression_breaches scopes true c.value in
      let branch = statement_breaches (inside scopes) flow s in
      let otherwise = statement_breaches (inside scopes) flow t in
      let before = front (condition ++ branch) otherwise whole in
      let y = has_statement (inside scopes) flow parallel s (p.0.1, p.1.0) (back condition branch before) in
      let z = has_statement (inside scopes) flow parallel t (p.0.4, p.1.1)
      (back (condition ++ branch) otherwise whole) in
      some_then (resolved_expression scopes c.value) _ (has_expression scopes true c.value
      (front condition branch before)) (λ x.
      some_then (resolved_statement (inside scopes) parallel s) _ y
      (λ u. some_then (resolved_statement (inside scopes) parallel t) _ z (λ v. refl)))
  has_statement scopes flow parallel (While at c s) p whole =
      let condition = expression_breaches scopes true c.value in
      let body = statement_breaches (inside scopes) (looping flow) s in
      let y = has_statement (inside scopes) (looping flow) parallel s (p.0.1, p.1) (back condition body whole) in
      some_then (resolved_expression scopes c.value) _ (has_expression scopes true c.value
      (front condition body whole)) (λ x.
      some_then (resolved_statement (inside scopes) parallel s) _ y (λ t. refl))
  has_statement scopes flow parallel (Do at s again c semicolon) p whole =
      let condition = expression_breaches scopes true c.value in
      let body = statement_breaches (inside scopes) (looping flow) s in
      let y = has_expression scopes true c.value (back body condition whole) in
      some_then (resolved_statement (inside scopes) parallel s) _ (has_statement (inside scopes) (looping flow)
      parallel s (p.0.1, p.1) (front body condition whole)) (λ t.
      some_then (resolved_expression scopes c.value) _ y (λ x. refl))
  has_statement scopes flow parallel (For h s) p whole =
      let behind = after_for_start (inside scopes) h.start in
      let start = for_start_breaches (inside scopes) h.start in
      let turn = for_turn_breaches behind h in
      let body = statement_breaches (inside behind) (looping flow) s in
      let before = front (start ++ turn) body whole in
      let turns = back start turn before in
      let condition = has_perhaps behind true h.condition (front (perhaps_breaches behind true h.condition)
      (perhaps_breaches behind false h.step) turns) in
      let step = has_perhaps behind false h.step (back (perhaps_breaches behind true h.condition)
      (perhaps_breaches behind false h.step) turns) in
      let repeated = has_statement (inside behind) (looping flow) parallel s (p.0.1, p.1)
      (back (start ++ turn) body whole) in
      some_then (resolved_start (inside scopes) h.start) _ (has_start (inside scopes) h.start
      (front start turn before)) (λ x.
      some_then (resolved_perhaps behind h.condition) _ condition (λ y.
      some_then (resolved_perhaps behind h.step) _ step (λ z.
      some_then (resolved_statement (inside behind) parallel s) _ repeated (λ t. refl))))
  has_statement scopes flow parallel (Return at value semicolon) p whole =
      some_then (resolved_perhaps scopes value) _
      (has_returned scopes flow value (back (jump_breaches (not flow.in_construct) at.start)
      (return_breaches scopes flow value) whole)) (λ x. refl)
  has_statement scopes flow parallel (Break at semicolon) p whole = refl
  has_statement scopes flow parallel (Continue at semicolon) p whole = refl
  has_statement scopes flow parallel (Construct d s) p whole =
      let clauses = has_clauses scopes flow d (front (directive_breaches scopes flow d) _ whole) in
      let plain = statement_breaches (in_construct d scopes) (constructing d flow) s in
      let looped = cond (is_some (loop_in s)) (bounds_breaches (round_bounds d scopes) (loop_in s)
      ++ body_breaches (in_construct d scopes) (constructing d flow) (loop_in s) s)
      (with_breach (record { code = faults.LoopForm; at = statement_start s }) plain) in
      let inner = proper_inside d s p in
      by_cases (not (traits_of d.name).takes_loop) (λ breaches found. breaches ≡ [] → IsSome found) plain looped
      (resolved_plain_construct scopes parallel d s) (resolved_loop_construct scopes parallel d (loop_in s) s)
      (λ e w. let y = has_statement (in_construct d scopes) (constructing d flow) (parallel_in d parallel) s inner w in
      some_then (resolved_clauses scopes d.clauses) _ clauses
      (λ cs. some_given (resolved_statement (in_construct d scopes) (parallel_in d parallel) s) _ y
      (λ body found. construct_there (in_construct d scopes) (parallel_in d parallel) parallel d s (statement_side s)
      cs body p (fails (traits_of d.name).takes_loop e) found)))
      (λ e w. loop_there scopes parallel flow d s (loop_in s) plain clauses
      (λ found is v. has_repeated (in_construct d scopes) (constructing d flow) (parallel_in d parallel) found s is
      inner v) w)
      (back (directive_breaches scopes flow d) (cond (not (traits_of d.name).takes_loop) plain looped) whole)
  has_statement scopes flow parallel (StandAlone d) p whole = has_alone scopes d d.name p.0.1
      (back (directive_breaches scopes flow d) (flush_breaches scopes d.name) whole)
  has_statement scopes flow parallel (Sections d left parts right) p whole =
      let own = directive_breaches scopes flow d in
      let others = parts_breaches (in_construct d scopes) (constructing d flow) 0 parts in
      let made = has_parts (in_construct d scopes) (constructing d flow) (parallel_in d parallel) 0 parts
      (parts_proper parts p.0.2 p.1) (back own others whole) in
      some_then (resolved_clauses scopes d.clauses) _ (has_clauses scopes flow d (front own others whole)) (λ cs.
      some_then (resolved_parts (in_construct d scopes) (parallel_in d parallel) parts) _ made (λ x. refl))

  pub has_statements : (scopes : Scopes) (flow : Flow) (parallel : Option ℕ) (ss : StatementsTree) → AreProper ss
      → statements_breaches scopes flow ss ≡ [] → IsSome (resolved_statements scopes parallel ss)
  has_statements scopes flow parallel NoStatements p whole = refl
  has_statements scopes flow parallel (Statement s rest) p whole =
      let own = statement_breaches scopes flow s in
      let others = statements_breaches (after_statement scopes s) flow rest in
      let y = has_statements (after_statement scopes s) flow parallel rest (p.0.1, p.1.1)
      (back own others whole) in
      some_then (resolved_statement scopes parallel s) _ (has_statement scopes flow parallel s
      (p.0.0, p.1.0) (front own others whole)) (λ t.
      some_then (resolved_statements (after_statement scopes s) parallel rest) _ y (λ ts. refl))

  has_repeated : (scopes : Scopes) (flow : Flow) (parallel : Option ℕ) (found : Loop) (s : StatementTree)
      → loop_in s ≡ Some found → IsProper s → body_breaches scopes flow (Some found) s ≡ []
      → IsSome (resolved_repeated scopes parallel found s)
  has_repeated scopes flow parallel found (For h s) is p whole = has_statement (in_loop scopes (Some found))
      (continuing flow) parallel s (p.0.1, p.1) whole
  has_repeated scopes flow parallel found _ is p whole = cc

  has_parts : (scopes : Scopes) (flow : Flow) (parallel : Option ℕ) (before : ℕ) (parts : PartsTree)
      → AreProperParts parts → parts_breaches scopes flow before parts ≡ []
      → IsSome (resolved_parts scopes parallel parts)
  has_parts scopes flow parallel before NoParts p whole = refl
  has_parts scopes flow parallel before (Part section items rest) p whole =
      let many = section_breaches before section in
      let own = statements_breaches (inside scopes) flow items in
      let others = parts_breaches scopes flow (before + 1) rest in
      let y = has_parts scopes flow parallel (before + 1) rest p.1 (back (many ++ own) others whole) in
      some_then (resolved_statements (inside scopes) parallel items) _ (has_statements (inside scopes) flow parallel
      items p.0 (back many own (front (many ++ own) others whole))) (λ ss.
      some_then (resolved_parts scopes parallel rest) _ y (λ ps. refl))

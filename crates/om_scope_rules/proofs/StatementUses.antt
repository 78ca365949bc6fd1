-- A resolved statement uses globals that there are.
use Rattle.std.proofs.Common.{ℕ, Option, Some}
use Rattle.std.specs.Prelude.{IfSome, not}
use Rattle.om_parser_tree.specs.Tree.{StatementTree, LocalDeclaration, Block, Empty, Expression, If, IfElse, While, Do, For}
use Rattle.om_parser_tree.specs.Tree.{Return, Break, Continue, Construct, StandAlone, Sections, PartsTree, NoParts, Part, StatementsTree}
use Rattle.om_parser_tree.specs.Tree.{NoStatements, Statement}
use Rattle.om_scope_rules.specs.DirectiveRules.{in_construct, parallel_in, traits_of}
use Rattle.om_scope_rules.specs.Loops.{Loop, loop_in}
use Rattle.om_scope_rules.specs.Resolution.{resolved_expression}
use Rattle.om_scope_tree.specs.ResolvedTree.{ResolvedLoopTree}
use Rattle.om_scope_rules.specs.Scopes.{Scopes, inside, declarators_of}
use Rattle.om_scope_rules.specs.StatementResolution.{resolved_declarators, resolved_clauses, resolved_loop, resolved_start}
use Rattle.om_scope_rules.specs.StatementResolution.{resolved_perhaps, schedule_of, resolved_statement, resolved_statements}
use Rattle.om_scope_rules.specs.StatementResolution.{resolved_repeated, resolved_parts, resolved_plain_construct}
use Rattle.om_scope_rules.specs.StatementResolution.{resolved_loop_construct}
use Rattle.om_scope_rules.specs.Updates.{statement_side}
use Rattle.om_scope_rules.specs.StatementRules.{after_for_start, after_statement, in_loop}
use Rattle.om_scope_rules.specs.StatementRules.{round_bounds}
use Rattle.om_scope_tree.specs.Uses.{UsesVariables, PerhapsUsesVariables, DeclaratorsUseVariables, StartUsesVariables}
use Rattle.om_scope_tree.specs.Uses.{ClausesUseVariables, StatementUsesVariables, StatementsUseVariables}
use Rattle.om_scope_tree.specs.Uses.{PartsUseVariables}
use Rattle.om_scope_rules.proofs.ClauseUses.{perhaps_uses, declarators_use, start_uses, clauses_use, construct_uses}
use Rattle.om_scope_rules.proofs.ClauseUses.{loop_construct_uses, sections_construct_uses, loop_uses, alone_uses}
use Rattle.om_scope_rules.proofs.ExpressionUses.{expression_uses}
use Rattle.om_scope_rules.proofs.GlobalsBelow.{Below, below_inside, below_construct, below_bounds, below_in_loop, below_start}
use Rattle.om_scope_rules.proofs.GlobalsBelow.{below_statement}
use Rattle.om_scope_rules.proofs.Steps.{if_then, if_any, if_either}

-- what both bounds of a loop use
abbrev LoopUsesVariables : ℕ → ResolvedLoopTree → Type 0
LoopUsesVariables n l = UsesVariables n l.from × UsesVariables n l.to

mutual
  unfolding resolved_statement resolved_statements resolved_repeated resolved_parts

  statement_uses : (n : ℕ) (scopes : Scopes) (parallel : Option ℕ) (s : StatementTree) → Below n scopes
      → IfSome (resolved_statement scopes parallel s) (StatementUsesVariables n)
  statement_uses n scopes parallel (LocalDeclaration d) h =
      if_then (DeclaratorsUseVariables n) (StatementUsesVariables n)
      (resolved_declarators scopes (declarators_of d)) _ (declarators_use n scopes (declarators_of d) h)
      (λ ds hds. hds)
  statement_uses n scopes parallel (Block left items right) h =
      if_then (StatementsUseVariables n) (StatementUsesVariables n) (resolved_statements (inside scopes) parallel
      items) _ (statements_use n (inside scopes) parallel items (below_inside n scopes h)) (λ ss hss. hss)
  statement_uses n scopes parallel (Empty semicolon) h = tt
  statement_uses n scopes parallel (Expression e semicolon) h = if_then (UsesVariables n) (StatementUsesVariables n)
      (resolved_expression scopes e) _ (expression_uses n scopes e h) (λ x hx. hx)
  statement_uses n scopes parallel (If at c s) h =
      if_then (UsesVariables n) (StatementUsesVariables n) (resolved_expression scopes c.value) _
      (expression_uses n scopes c.value h) (λ x hx.
      if_then (StatementUsesVariables n) (StatementUsesVariables n) (resolved_statement (inside scopes) parallel s)
      _ (statement_uses n (inside scopes) parallel s (below_inside n scopes h)) (λ t ht. (hx, ht)))
  statement_uses n scopes parallel (IfElse at c s other t) h =
      if_then (UsesVariables n) (StatementUsesVariables n) (resolved_expression scopes c.value) _
      (expression_uses n scopes c.value h) (λ x hx.
      if_then (StatementUsesVariables n) (StatementUsesVariables n) (resolved_statement (inside scopes) parallel s)
      _ (statement_uses n (inside scopes) parallel s (below_inside n scopes h)) (λ y hy.
      if_then (StatementUsesVariables n) (StatementUsesVariables n) (resolved_statement (inside scopes) parallel t)
      _ (statement_uses n (inside scopes) parallel t (below_inside n scopes h)) (λ z hz. (hx, hy, hz))))
  statement_uses n scopes parallel (While at c s) h =
      if_then (UsesVariables n) (StatementUsesVariables n) (resolved_expression scopes c.value) _
      (expression_uses n scopes c.value h) (λ x hx.
      if_then (StatementUsesVariables n) (StatementUsesVariables n) (resolved_statement (inside scopes) parallel s)
      _ (statement_uses n (inside scopes) parallel s (below_inside n scopes h)) (λ t ht. (hx, ht)))
  statement_uses n scopes parallel (Do at s again c semicolon) h =
      if_then (StatementUsesVariables n) (StatementUsesVariables n) (resolved_statement (inside scopes) parallel s)
      _ (statement_uses n (inside scopes) parallel s (below_inside n scopes h)) (λ t ht.
      if_then (UsesVariables n) (StatementUsesVariables n) (resolved_expression scopes c.value) _
      (expression_uses n scopes c.value h) (λ x hx. (ht, hx)))
  statement_uses n scopes parallel (For head s) h =
      let within = below_inside n scopes h in
      let behind = below_start n (inside scopes) head.start within in
      if_then (StartUsesVariables n) (StatementUsesVariables n) (resolved_start (inside scopes) head.start) _
      (start_uses n (inside scopes) head.start within) (λ x hx.
      if_then (PerhapsUsesVariables n) (StatementUsesVariables n)
      (resolved_perhaps (after_for_start (inside scopes) head.start) head.condition) _
      (perhaps_uses n (after_for_start (inside scopes) head.start) head.condition behind) (λ y hy.
      if_then (PerhapsUsesVariables n) (StatementUsesVariables n)
      (resolved_perhaps (after_for_start (inside scopes) head.start) head.step) _
      (perhaps_uses n (after_for_start (inside scopes) head.start) head.step behind) (λ z hz.
      if_then (StatementUsesVariables n) (StatementUsesVariables n)
      (resolved_statement (inside (after_for_start (inside scopes) head.start)) parallel s) _
      (statement_uses n (inside (after_for_start (inside scopes) head.start)) parallel s
      (below_inside n (after_for_start (inside scopes) head.start) behind)) (λ t ht. (hx, hy, hz, ht)))))
  statement_uses n scopes parallel (Return at value semicolon) h =
      if_then (PerhapsUsesVariables n) (StatementUsesVariables n) (resolved_perhaps scopes value) _
      (perhaps_uses n scopes value h) (λ x hx. hx)
  statement_uses n scopes parallel (Break at semicolon) h = tt
  statement_uses n scopes parallel (Continue at semicolon) h = tt
  statement_uses n scopes parallel (Construct d s) h =
      if_either (λ o. IfSome o (StatementUsesVariables n)) (not (traits_of d.name).takes_loop)
      (resolved_plain_construct scopes parallel d s) (resolved_loop_construct scopes parallel d (loop_in s) s)
      (if_then (ClausesUseVariables n) (StatementUsesVariables n) (resolved_clauses scopes d.clauses) _
      (clauses_use n scopes d.clauses h) (λ cs hcs.
      if_then (StatementUsesVariables n) (StatementUsesVariables n) (resolved_statement (in_construct d scopes)
      (parallel_in d parallel) s) _
      (statement_uses n (in_construct d scopes) (parallel_in d parallel) s (below_construct n d scopes h))
      (λ body hb. construct_uses n parallel (statement_side s) d d.name cs body hcs hb)))
      (if_then (ClausesUseVariables n) (StatementUsesVariables n) (resolved_clauses scopes d.clauses) _
      (clauses_use n scopes d.clauses h) (λ cs hcs.
      if_then (λ found. Unit {0}) (StatementUsesVariables n) (loop_in s) _ (if_any (loop_in s)) (λ found u.
      if_then (LoopUsesVariables n) (StatementUsesVariables n) (resolved_loop (round_bounds d scopes)
      (schedule_of d.clauses) found) _ (loop_uses n (round_bounds d scopes) (schedule_of d.clauses) found
      (below_bounds n d scopes h)) (λ l hl.
      if_then (StatementUsesVariables n) (StatementUsesVariables n) (resolved_repeated (in_construct d scopes)
      (parallel_in d parallel) found s) _
      (repeated_uses n (in_construct d scopes) (parallel_in d parallel) found s (below_construct n d scopes h))
      (λ body hb. loop_construct_uses n d cs l body hcs hl.0 hl.1 hb)))))
  statement_uses n scopes parallel (StandAlone d) h = alone_uses n scopes d d.name h
  statement_uses n scopes parallel (Sections d left parts right) h =
      if_then (ClausesUseVariables n) (StatementUsesVariables n) (resolved_clauses scopes d.clauses) _
      (clauses_use n scopes d.clauses h) (λ cs hcs.
      if_then (PartsUseVariables n) (StatementUsesVariables n)
      (resolved_parts (in_construct d scopes) (parallel_in d parallel) parts) _
      (parts_use n (in_construct d scopes) (parallel_in d parallel) parts (below_construct n d scopes h))
      (λ made hm. sections_construct_uses n d cs made hcs hm))

  pub statements_use : (n : ℕ) (scopes : Scopes) (parallel : Option ℕ) (ss : StatementsTree) → Below n scopes
      → IfSome (resolved_statements scopes parallel ss) (StatementsUseVariables n)
  statements_use n scopes parallel NoStatements h = tt
  statements_use n scopes parallel (Statement s rest) h =
      if_then (StatementUsesVariables n) (StatementsUseVariables n) (resolved_statement scopes parallel s) _
      (statement_uses n scopes parallel s h) (λ t ht.
      if_then (StatementsUseVariables n) (StatementsUseVariables n) (resolved_statements (after_statement scopes s)
      parallel rest) _
      (statements_use n (after_statement scopes s) parallel rest (below_statement n scopes s h)) (λ ts hts. (ht, hts)))

  repeated_uses : (n : ℕ) (scopes : Scopes) (parallel : Option ℕ) (found : Loop) (s : StatementTree)
      → Below n scopes → IfSome (resolved_repeated scopes parallel found s) (StatementUsesVariables n)
  repeated_uses n scopes parallel found (For head s) h = statement_uses n (in_loop scopes (Some found)) parallel s
      (below_in_loop n scopes found h)
  repeated_uses n scopes parallel found (LocalDeclaration d) h = tt
  repeated_uses n scopes parallel found (Block left items right) h = tt
  repeated_uses n scopes parallel found (Empty semicolon) h = tt
  repeated_uses n scopes parallel found (Expression e semicolon) h = tt
  repeated_uses n scopes parallel found (If at c s) h = tt
  repeated_uses n scopes parallel found (IfElse at c s other t) h = tt
  repeated_uses n scopes parallel found (While at c s) h = tt
  repeated_uses n scopes parallel found (Do at s again c semicolon) h = tt
  repeated_uses n scopes parallel found (Return at value semicolon) h = tt
  repeated_uses n scopes parallel found (Break at semicolon) h = tt
  repeated_uses n scopes parallel found (Continue at semicolon) h = tt
  repeated_uses n scopes parallel found (Construct d s) h = tt
  repeated_uses n scopes parallel found (StandAlone d) h = tt
  repeated_uses n scopes parallel found (Sections d left parts right) h = tt

  parts_use : (n : ℕ) (scopes : Scopes) (parallel : Option ℕ) (parts : PartsTree) → Below n scopes
      → IfSome (resolved_parts scopes parallel parts) (PartsUseVariables n)
  parts_use n scopes parallel NoParts h = tt
  parts_use n scopes parallel (Part section items rest) h =
      if_then (StatementsUseVariables n) (PartsUseVariables n) (resolved_statements (inside scopes) parallel items) _
      (statements_use n (inside scopes) parallel items (below_inside n scopes h)) (λ ss hss.
      if_then (PartsUseVariables n) (PartsUseVariables n) (resolved_parts scopes parallel rest) _
      (parts_use n scopes parallel rest h) (λ ps hps. (hss, hps)))

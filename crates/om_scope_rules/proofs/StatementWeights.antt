-- A statement has tokens enough for all in it that gets a number.
use Rattle.std.proofs.Common.{ℕ, ◌+◌, ◌≤◌, not, List, [], ◌++◌, Option, Some, arith}
use Rattle.std.specs.Prelude.{IfSome}
use Rattle.om_lexer.specs.declared.token.Token.{Token}
use Rattle.om_scope_tree.specs.ResolvedTree.{ResolvedLoopTree, ResolvedStatementTree, ResolvedStatementsTree}
use Rattle.om_scope_tree.specs.Weights.{expression_weight, loop_weight, parts_weight, perhaps_weight, start_weight}
use Rattle.om_scope_tree.specs.Weights.{statement_weight, statements_weight}
use Rattle.om_scope_rules.proofs.ClauseWeights.{LineFits, directive_fits}
use Rattle.om_scope_rules.proofs.ConstructWeights.{PartsFit, StatementFits, alone_fits, construct_fits, loop_construct_fits}
use Rattle.om_scope_rules.proofs.ConstructWeights.{sections_fit}
use Rattle.om_scope_rules.proofs.CopyPlaces.{line}
use Rattle.om_scope_rules.proofs.DeclarationWeights.{DeclaratorsFit, StartFits, declaration_fits, head_fits, start_fits}
use Rattle.om_scope_rules.proofs.ExpressionWeights.{ExpressionFits, PerhapsFits, expression_fits, perhaps_fits}
use Rattle.om_scope_rules.proofs.Fitting.{Fits, nothing, further, behind, before, lighter, together}
use Rattle.om_scope_rules.proofs.LoopWeights.{LoopFits, bounds_size, loop_fits, loop_within}
use Rattle.om_scope_rules.proofs.Steps.{if_either, if_then}
use Rattle.om_scope_rules.proofs.StepsFrom.{if_weaker}
use Rattle.om_scope_rules.specs.DirectiveRules.{in_construct, parallel_in, traits_of}
use Rattle.om_scope_rules.specs.Loops.{Loop, loop_in, loop_of}
use Rattle.om_scope_rules.specs.Resolution.{resolved_expression}
use Rattle.om_scope_rules.specs.Scopes.{Scopes, inside}
use Rattle.om_scope_rules.specs.StatementResolution.{resolved_loop_construct, resolved_parts, resolved_plain_construct}
use Rattle.om_scope_rules.specs.StatementResolution.{resolved_repeated, resolved_statement, resolved_statements, schedule_of}
use Rattle.om_scope_rules.specs.StatementRules.{after_for_start, after_statement, in_loop, round_bounds}
use Rattle.om_scope_rules.specs.Updates.{statement_side}
use Rattle.om_parser_tree.specs.Spelling.{condition_spelling, expression_spelling, for_head_spelling, for_start_spelling}
use Rattle.om_parser_tree.specs.Spelling.{local_spelling, parts_spelling, perhaps, section_spelling, statement_spelling}
use Rattle.om_parser_tree.specs.Spelling.{statements_spelling}
use Rattle.om_parser_tree.specs.Tree.{ConditionTree, StatementTree, LocalDeclaration, Block, Empty, Expression, If, IfElse}
use Rattle.om_parser_tree.specs.Tree.{While, Do, For, Return, Break, Continue, Construct, StandAlone, Sections}
use Rattle.om_parser_tree.specs.Tree.{StatementsTree, NoStatements, Statement, PartsTree, NoParts, Part}

abbrev pub StatementsFit : List Token → ResolvedStatementsTree → Type 0
StatementsFit ts ss = Fits ts (statements_weight ss)

-- the bounds of a loop and what it repeats
abbrev RoundFits : List Token → Loop → ResolvedStatementTree → Type 0
RoundFits ts found body = Fits ts (bounds_size found + statement_weight body)

-- the same of what resolving makes of it
abbrev RoundsFit : Scopes → Option ℕ → StatementTree → Loop → Type 0
RoundsFit scopes parallel s found =
    IfSome (resolved_repeated scopes parallel found s) (RoundFits (statement_spelling s) found)

-- a loop has no more than that in its bounds
abbrev IsWithin : Loop → ResolvedLoopTree → Type 0
IsWithin found l = loop_weight l ≤ bounds_size found

condition_fits : (scopes : Scopes) (c : ConditionTree)
    → IfSome (resolved_expression scopes c.value) (ExpressionFits (condition_spelling c))
unfolding condition_spelling
condition_fits scopes c =
    let own = expression_spelling c.value in
    if_weaker (ExpressionFits own) (ExpressionFits (condition_spelling c)) _ (expression_fits scopes c.value) (λ x h.
    let n = expression_weight x in
    further n _ _ (before n own _ h))

mutual
  unfolding resolved_statement resolved_statements resolved_repeated resolved_parts statement_spelling
      statements_spelling parts_spelling statement_weight statements_weight parts_weight

  statement_fits : (scopes : Scopes) (parallel : Option ℕ) (s : StatementTree)
      → IfSome (resolved_statement scopes parallel s) (StatementFits (statement_spelling s))
  statement_fits scopes parallel (LocalDeclaration d) =
      let ts = local_spelling d in
      if_then (DeclaratorsFit ts) (StatementFits ts) _ _ (declaration_fits scopes d) (λ ds h. h)
  statement_fits scopes parallel (Block left items right) =
      let own = statements_spelling items in
      if_then (StatementsFit own) (StatementFits (statement_spelling (Block left items right))) _ _
      (statements_fit (inside scopes) parallel items) (λ ss h.
      let n = statements_weight ss in
      further n _ _ (before n own _ h))
  statement_fits scopes parallel (Empty semicolon) = nothing _
  statement_fits scopes parallel (Expression e semicolon) =
      let own = expression_spelling e in
      if_then (ExpressionFits own) (StatementFits (statement_spelling (Expression e semicolon))) _ _
      (expression_fits scopes e) (λ x h. before (expression_weight x) own _ h)
  statement_fits scopes parallel (If at c s) =
      let first = condition_spelling c in
      let own = statement_spelling s in
      let goal = StatementFits (statement_spelling (If at c s)) in
      if_then (ExpressionFits first) goal _ _ (condition_fits scopes c) (λ x hx.
      if_then (StatementFits own) goal _ _ (statement_fits (inside scopes) parallel s) (λ t ht.
      let m = expression_weight x in
      let n = statement_weight t in
      further (m + n) _ _ (together m n first own hx ht)))
  statement_fits scopes parallel (IfElse at c s other u) =
      let first = condition_spelling c in
      let own = statement_spelling s in
      let last = statement_spelling u in
      let goal = StatementFits (statement_spelling (IfElse at c s other u)) in
      if_then (ExpressionFits first) goal _ _ (condition_fits scopes c) (λ x hx.
      if_then (StatementFits own) goal _ _ (statement_fits (inside scopes) parallel s) (λ t ht.
      if_then (StatementFits last) goal _ _ (statement_fits (inside scopes) parallel u) (λ v hv.
      let k = expression_weight x in
      let m = statement_weight t in
      let n = statement_weight v in
      lighter (k + (m + n)) (k + m + n) _ (omega arith)
      (further (k + m + n) _ _ (together (k + m) n (first ++ own) _ (together k m first own hx ht)
      (further n _ last hv))))))
  statement_fits scopes parallel (While at c s) =
      let first = condition_spelling c in
      let own = statement_spelling s in
      let goal = StatementFits (statement_spelling (While at c s)) in
      if_then (ExpressionFits first) goal _ _ (condition_fits scopes c) (λ x hx.
      if_then (StatementFits own) goal _ _ (statement_fits (inside scopes) parallel s) (λ t ht.
      let m = expression_weight x in
      let n = statement_weight t in
      further (m + n) _ _ (together m n first own hx ht)))
  statement_fits scopes parallel (Do at s again c semicolon) =
      let own = statement_spelling s in
      let last = condition_spelling c in
      let goal = StatementFits (statement_spelling (Do at s again c semicolon)) in
      if_then (StatementFits own) goal _ _ (statement_fits (inside scopes) parallel s) (λ t ht.
      if_then (ExpressionFits last) goal _ _ (condition_fits scopes c) (λ x hx.
      let m = statement_weight t in
      let n = expression_weight x in
      further (m + n) _ _ (together m n own _ ht (further n _ _ (before n last _ hx)))))
  statement_fits scopes parallel (For head s) =
      let first = for_head_spelling head in
      let own = statement_spelling s in
      let after = after_for_start (inside scopes) head.start in
      let goal = StatementFits (statement_spelling (For head s)) in
      if_then (StartFits (for_start_spelling head.start)) goal _ _ (start_fits (inside scopes) head.start) (λ start hs.
      if_then (PerhapsFits head.condition) goal _ _ (perhaps_fits after head.condition) (λ condition hc.
      if_then (PerhapsFits head.step) goal _ _ (perhaps_fits after head.step) (λ step hp.
      if_then (StatementFits own) goal _ _ (statement_fits (inside after) parallel s) (λ t ht.
      let j = start_weight start in
      let k = perhaps_weight condition in
      let m = perhaps_weight step in
      let n = statement_weight t in
      lighter (j + (k + (m + n))) (j + k + m + n) _ (omega arith)
      (together (j + k + m) n first own (head_fits head j k m hs hc hp) ht)))))
  statement_fits scopes parallel (Return at value semicolon) =
      let own = perhaps expression_spelling value in
      if_then (PerhapsFits value) (StatementFits (statement_spelling (Return at value semicolon))) _ _
      (perhaps_fits scopes value) (λ x h.
      let n = perhaps_weight x in
      further n _ _ (before n own _ h))
  statement_fits scopes parallel (Break at semicolon) = nothing _
  statement_fits scopes parallel (Continue at semicolon) = nothing _
  statement_fits scopes parallel (Construct d s) =
      let own = statement_spelling s in
      let goal = StatementFits (line d ++ own) in
      if_either (λ found. IfSome found goal) (not (traits_of d.name).takes_loop)
      (resolved_plain_construct scopes parallel d s) (resolved_loop_construct scopes parallel d (loop_in s) s)
      (if_then (LineFits d) goal _ _ (directive_fits scopes d) (λ cs hc.
      if_then (StatementFits own) goal _ _ (statement_fits (in_construct d scopes) (parallel_in d parallel) s)
      (λ body hb. construct_fits d own cs hc body hb parallel (statement_side s) d.name)))
      (if_then (LineFits d) goal _ _ (directive_fits scopes d) (λ cs hc.
      if_then (RoundsFit (in_construct d scopes) (parallel_in d parallel) s) goal _ _
      (repeated_fits (in_construct d scopes) (parallel_in d parallel) s) (λ found hf.
      if_then (IsWithin found) goal _ _ (loop_within (round_bounds d scopes) (schedule_of d.clauses) found) (λ l hl.
      if_then (RoundFits own found) goal _ _ hf (λ body hb.
      let n = statement_weight body in
      loop_construct_fits d own cs hc l body
      (lighter (loop_weight l + n) (bounds_size found + n) own (omega (hl, arith)) hb))))))
  statement_fits scopes parallel (StandAlone d) = alone_fits (line d) scopes d d.name
  statement_fits scopes parallel (Sections d left parts right) =
      let own = parts_spelling parts in
      let goal = StatementFits (statement_spelling (Sections d left parts right)) in
      if_then (LineFits d) goal _ _ (directive_fits scopes d) (λ cs hc.
      if_then (PartsFit own) goal _ _ (parts_fit (in_construct d scopes) (parallel_in d parallel) parts) (λ ps hp.
      let n = parts_weight ps in
      sections_fit d _ cs hc ps (further n _ _ (before n own _ hp))))

  pub statements_fit : (scopes : Scopes) (parallel : Option ℕ) (ss : StatementsTree)
      → IfSome (resolved_statements scopes parallel ss) (StatementsFit (statements_spelling ss))
  statements_fit scopes parallel NoStatements = nothing []
  statements_fit scopes parallel (Statement s rest) =
      let own = statement_spelling s in
      let tail = statements_spelling rest in
      let goal = StatementsFit (own ++ tail) in
      if_then (StatementFits own) goal _ _ (statement_fits scopes parallel s) (λ t ht.
      if_then (StatementsFit tail) goal _ _ (statements_fit (after_statement scopes s) parallel rest) (λ ts hts.
      together (statement_weight t) (statements_weight ts) own tail ht hts))

  repeated_fits : (scopes : Scopes) (parallel : Option ℕ) (s : StatementTree)
      → IfSome (loop_in s) (RoundsFit scopes parallel s)
  repeated_fits scopes parallel (For head s) =
      let first = for_head_spelling head in
      let own = statement_spelling s in
      if_weaker (LoopFits first) (RoundsFit scopes parallel (For head s)) (loop_of head) (loop_fits head)
      (λ found hf.
      if_weaker (StatementFits own) (RoundFits (first ++ own) found) _
      (statement_fits (in_loop scopes (Some found)) parallel s) (λ body hb.
      together (bounds_size found) (statement_weight body) first own hf hb))
  repeated_fits scopes parallel (LocalDeclaration d) = tt
  repeated_fits scopes parallel (Block left items right) = tt
  repeated_fits scopes parallel (Empty semicolon) = tt
  repeated_fits scopes parallel (Expression e semicolon) = tt
  repeated_fits scopes parallel (If at c s) = tt
  repeated_fits scopes parallel (IfElse at c s other t) = tt
  repeated_fits scopes parallel (While at c s) = tt
  repeated_fits scopes parallel (Do at s again c semicolon) = tt
  repeated_fits scopes parallel (Return at value semicolon) = tt
  repeated_fits scopes parallel (Break at semicolon) = tt
  repeated_fits scopes parallel (Continue at semicolon) = tt
  repeated_fits scopes parallel (Construct d s) = tt
  repeated_fits scopes parallel (StandAlone d) = tt
  repeated_fits scopes parallel (Sections d left parts right) = tt

  parts_fit : (scopes : Scopes) (parallel : Option ℕ) (parts : PartsTree)
      → IfSome (resolved_parts scopes parallel parts) (PartsFit (parts_spelling parts))
  parts_fit scopes parallel NoParts = nothing []
  parts_fit scopes parallel (Part section items rest) =
      let own = statements_spelling items in
      let front = section_spelling section ++ own in
      let tail = parts_spelling rest in
      let goal = PartsFit (front ++ tail) in
      if_then (StatementsFit own) goal _ _ (statements_fit (inside scopes) parallel items) (λ ss hs.
      if_then (PartsFit tail) goal _ _ (parts_fit scopes parallel rest) (λ ps hp.
      let n = statements_weight ss in
      together n (parts_weight ps) front tail (behind n (section_spelling section) own hs) hp))

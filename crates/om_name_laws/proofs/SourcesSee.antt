-- Resolved statements of a source without a breach see their names.
use Rattle.std.proofs.Common.{◌≡◌, ℕ, Bool, true, false, cond, List, [], ◌∷◌, ◌++◌, ◌+◌, Option, None, Some, inl, inr}
use Rattle.std.proofs.Common.{refl}
use Rattle.std.proofs.Common.{subst, sym}
use Rattle.std.specs.Prelude.{IfSome, is_some, not, if◌then◌else◌}
use Rattle.om_lexer.specs.declared.fault.FaultCode.TheVariants as faults
use Rattle.om_lexer.specs.declared.fault.SourceFault.{SourceFault}
use Rattle.om_lexer.specs.declared.token.Span.{Span}
use Rattle.om_parser_tree.specs.Formed.{IsLine, IsStatement, AreStatements, AreParts, ArePartItems}
use Rattle.om_parser_tree.specs.Formed.{AreFurtherParts}
use Rattle.om_parser_tree.specs.Tree.{ExpressionTree, StatementTree, LocalDeclaration, Block, Empty, Expression, If}
use Rattle.om_parser_tree.specs.Tree.{IfElse, While, Do, For, Return, Break, Continue, Construct, StandAlone, Sections}
use Rattle.om_parser_tree.specs.Tree.{StatementsTree, NoStatements, Statement, PartsTree, NoParts, Part}
use Rattle.om_pragma.specs.declared.tree.AtomicKind.{AtomicKind}
use Rattle.om_pragma.specs.declared.tree.AtomicKind.TheVariants as atomics
use Rattle.om_pragma.specs.declared.tree.Directive.{Directive}
use Rattle.om_pragma.specs.declared.tree.DirectiveName.{DirectiveName}
use Rattle.om_pragma.specs.declared.tree.DirectiveName.TheVariants as directives
use Rattle.om_pragma.specs.Questions.{atomic_kind}
use Rattle.om_pragma.specs.Table.{IsDirective}
use Rattle.om_scope_tree.specs.declared.resolved.GlobalVariable.{GlobalVariable}
use Rattle.om_scope_tree.specs.declared.resolved.ResolvedSchedule.{ResolvedSchedule}
use Rattle.om_scope_tree.specs.declared.resolved.Shape.TheVariants as shapes
use Rattle.om_scope_tree.specs.declared.resolved.Side.{Side}
use Rattle.om_scope_tree.specs.ResolvedTree as resolved
use Rattle.om_scope_tree.specs.ResolvedTree.{ResolvedExpressionTree, ResolvedClauseTree, ResolvedLoopTree}
use Rattle.om_scope_tree.specs.ResolvedTree.{ResolvedPartsTree, ResolvedStatementTree, ResolvedStatementsTree}
use Rattle.om_scope_tree.specs.ResolvedTree.{ResolvedUpdateTree}
use Rattle.om_scope_rules.specs.declared.region.Flow.{Flow}
use Rattle.om_scope_rules.specs.DirectiveRules.{constructing, directive_breaches, flush_breaches, in_construct}
use Rattle.om_scope_rules.specs.DirectiveRules.{item_breaches, listed_by, nesting_breaches, nothing_listed, parallel_in}
use Rattle.om_scope_rules.specs.DirectiveRules.{traits_of}
use Rattle.om_pragma.specs.declared.clause.Name as names
use Rattle.om_pragma.specs.declared.clause.NameList.{NameList}
use Rattle.om_scope_rules.specs.DirectiveRules.{names_in}
use Rattle.om_scope_rules.specs.DirectiveRules as rules
use Rattle.om_scope_rules.specs.ExpressionRules.{expression_breaches}
use Rattle.om_scope_rules.specs.Faults.{breaches_along, with_breach}
use Rattle.om_scope_rules.specs.Loops.{Loop, loop_in}
use Rattle.om_scope_rules.specs.Perhaps.{◌>>=◌, each}
use Rattle.om_scope_rules.specs.Places.{statement_start}
use Rattle.om_scope_rules.specs.Resolution.{resolved_expression, variable_named}
use Rattle.om_scope_rules.specs.Scopes.{Scopes, declarators_of, inside}
use Rattle.om_scope_rules.specs.Sharing.{is_parallel}
use Rattle.om_scope_rules.specs.StatementResolution.{atomic_of, construct_of, flushed, has_nowait, local_of}
use Rattle.om_scope_rules.specs.StatementResolution.{parallel_of, resolved_alone, resolved_clauses}
use Rattle.om_scope_rules.specs.StatementResolution.{resolved_construct, resolved_declarators, resolved_loop}
use Rattle.om_scope_rules.specs.StatementResolution.{resolved_loop_construct, resolved_parts, resolved_perhaps}
use Rattle.om_scope_rules.specs.StatementResolution.{resolved_plain_construct, resolved_repeated, resolved_sections}
use Rattle.om_scope_rules.specs.StatementResolution.{resolved_start, resolved_statement, resolved_statements}
use Rattle.om_scope_rules.specs.StatementResolution.{schedule_of}
use Rattle.om_scope_rules.specs.StatementResolution.{with_update}
use Rattle.om_scope_rules.specs.StatementRules.{after_for_start, after_statement, body_breaches, bounds_breaches}
use Rattle.om_scope_rules.specs.StatementRules.{continuing, for_start_breaches, for_turn_breaches, found_breaches}
use Rattle.om_scope_rules.specs.StatementRules.{in_loop}
use Rattle.om_scope_rules.specs.StatementRules.{looping, parts_breaches, round_bounds, section_breaches}
use Rattle.om_scope_rules.specs.StatementRules.{statement_breaches, statements_breaches, with_iteration}
use Rattle.om_scope_rules.specs.Updates.{statement_side, update_of}
use Rattle.om_name_laws.specs.Sees.{Known, ClausesSee, EachUse, EachUseIfAny, HaveNoCopies, IsSeen, ItemsSee}
use Rattle.om_name_laws.specs.Sees.{LoopSees, PartsSee, StatementSees, UpdateSees, after_item, after_start}
use Rattle.om_name_laws.specs.Sees.{known_scalar}
use Rattle.om_name_laws.specs.Sees.{with_copies}
use Rattle.om_name_laws.proofs.ClausesSee.{KnownDeclarators, KnownStart, any_sees, clauses_see}
use Rattle.om_name_laws.proofs.ClausesSee.{declarators_see, expression_sees, start_sees}
use Rattle.om_name_laws.proofs.Known.{Anything, no_copies}
use Rattle.om_name_laws.specs.Sees.{AllSeen}
use Rattle.om_name_laws.proofs.Naming.{Knows, knows_local, seen_named}
use Rattle.om_name_laws.proofs.PlainClauses.{makes_none, none_items}
use Rattle.om_name_laws.proofs.Steps.{back, by_cases, front, if_more, if_then, never_placed}
use Rattle.om_name_laws.proofs.UpdatesSee.{update_uses}

-- well-formed items in each of these parts
abbrev HaveItems : PartsTree → Type 0
HaveItems NoParts = Unit {0}
HaveItems (Part section items rest) = AreStatements items × HaveItems rest

items_formed : (ss : StatementsTree) → ArePartItems ss → AreStatements ss
unfolding IsStatement
items_formed NoStatements formed = tt
items_formed (Statement s rest) formed = (formed.0, items_formed rest formed.2)

further_items : (parts : PartsTree) → AreFurtherParts parts → HaveItems parts
unfolding IsStatement
further_items NoParts formed = tt
further_items (Part section items rest) formed = (items_formed items formed.2, further_items rest formed.3)

have_items : (parts : PartsTree) → AreParts parts → HaveItems parts
unfolding IsStatement
have_items NoParts formed = absurd formed
have_items (Part section items rest) formed = (items_formed items formed.2, further_items rest formed.3)

not_loop : (a : Bool) → not a ≡ false → a ≡ true
not_loop true e = refl
not_loop false e = absurd cc

module _ (globals : List GlobalVariable) where
  -- ---- constructs

  -- a resolved construct sees its names, and declares nothing behind it
  abbrev GoodConstruct : List Known → ResolvedStatementTree → Type 0
  GoodConstruct ks t = StatementSees Anything globals ks t × (after_item ks t ≡ ks)

  with_update_sees : (ks : List Known) (at : Span) (update : Option ResolvedUpdateTree)
      → IfSome update (UpdateSees globals ks) → IfSome (with_update at update) (GoodConstruct ks)
  with_update_sees ks at None h = tt
  with_update_sees ks at (Some update) h = (h, refl)

  atomic_sees : (ks : List Known) (kind : AtomicKind) (side : Side) (at : Span) (cs : List ResolvedClauseTree)
      (body : ResolvedStatementTree) → ClausesSee globals ks cs → HaveNoCopies cs
      → StatementSees Anything globals (with_copies ks cs) body → IfSome (atomic_of kind side at cs body)
      (GoodConstruct ks)
  atomic_sees ks atomics.Update side at cs body hc none hb =
      with_update_sees ks at (update_of side body)
      (update_uses globals ks side body (subst (λ z. StatementSees Anything globals z body) (no_copies cs ks none) hb))
  atomic_sees ks atomics.Read side at cs body hc none hb = ((hc, none, hb), refl)
  atomic_sees ks atomics.Write side at cs body hc none hb = ((hc, none, hb), refl)

  construct_sees : (ks : List Known) (parallel : Option ℕ) (side : Side) (d : Directive ExpressionTree)
      (name : DirectiveName) (cs : List ResolvedClauseTree) (body : ResolvedStatementTree)
      → ClausesSee globals ks cs → (makes_none name ≡ true → HaveNoCopies cs)
      → StatementSees Anything globals (with_copies ks cs) body
      → IfSome (construct_of parallel side d name cs body) (GoodConstruct ks)
  unfolding construct_of
  construct_sees ks parallel side d (directives.Parallel s) cs body hc none hb = ((hc, tt, hb), refl)
  construct_sees ks parallel side d (directives.Task s) cs body hc none hb = ((hc, tt, hb), refl)
  construct_sees ks parallel side d (directives.Taskgroup s) cs body hc none hb = ((hc, none refl, hb), refl)
  construct_sees ks parallel side d (directives.Single s) cs body hc none hb = ((hc, tt, hb), refl)
  construct_sees ks parallel side d (directives.Masked s) cs body hc none hb = ((hc, none refl, hb), refl)
  construct_sees ks parallel side d (directives.Master s) cs body hc none hb = ((hc, none refl, hb), refl)
  construct_sees ks parallel side d (directives.Critical s name) cs body hc none hb = ((hc, none refl, hb), refl)
  construct_sees ks parallel side d (directives.Atomic s) cs body hc none hb =
      atomic_sees ks (atomic_kind d) side d.hash cs body hc (none refl) hb
  construct_sees ks parallel side d _ cs body hc none hb = tt

  listed_seen : (ks : List Known) (scopes : Scopes) (ns : List names.Name) → Knows globals ks scopes
      → IfSome (each (variable_named scopes) ns) (AllSeen globals ks)
  listed_seen ks scopes [] h = tt
  listed_seen ks scopes (n ∷ ns) h =
      if_then (IsSeen globals ks) (AllSeen globals ks) (variable_named scopes n) _
      (seen_named globals ks scopes h n.text) (λ v hv.
      if_then (AllSeen globals ks) (AllSeen globals ks) (each (variable_named scopes) ns) _
      (listed_seen ks scopes ns h) (λ vs hvs. (hv, hvs)))

  flushed_seen : (ks : List Known) (scopes : Scopes) (list : Option NameList) → Knows globals ks scopes
      → IfSome (flushed scopes list) (AllSeen globals ks)
  flushed_seen ks scopes None h = tt
  flushed_seen ks scopes (Some list) h = listed_seen ks scopes (names_in list.first list.rest) h

  alone_sees : (ks : List Known) (scopes : Scopes) (d : Directive ExpressionTree) (name : DirectiveName)
      → Knows globals ks scopes → IfSome (resolved_alone scopes d name) (GoodConstruct ks)
  alone_sees ks scopes d (directives.Barrier s) h = (tt, refl)
  alone_sees ks scopes d (directives.Taskwait s) h = (tt, refl)
  alone_sees ks scopes d (directives.Taskyield s) h = (tt, refl)
  alone_sees ks scopes d (directives.Flush s list) h =
      if_then (AllSeen globals ks) (GoodConstruct ks) (flushed scopes list) _ (flushed_seen ks scopes list h)
      (λ vs hvs. (hvs, refl))
  alone_sees ks scopes d _ h = tt

  -- the clauses of a directive, of which a construct may make no copies
  abbrev GoodClauses : List Known → Directive ExpressionTree → Scopes → List ResolvedClauseTree → Type 0
  GoodClauses ks d scopes cs =
      ClausesSee globals ks cs × Knows globals (with_copies ks cs) (in_construct d scopes)
      × (makes_none d.name ≡ true → HaveNoCopies cs)

  line_sees : (ks : List Known) (scopes : Scopes) (flow : Flow) (d : Directive ExpressionTree)
      → Knows globals ks scopes → IsLine d → directive_breaches scopes flow d ≡ []
      → IfSome (resolved_clauses scopes d.clauses) (GoodClauses ks d scopes)
  unfolding IsDirective
  line_sees ks scopes flow d h formed w =
      both (resolved_clauses scopes d.clauses)
      (clauses_see globals ks scopes h (traits_of d.name).region d.clauses ks nothing_listed h
      (back (nesting_breaches flow d.name) (breaches_along (item_breaches scopes) rules.after_item nothing_listed
      d.clauses) w))
      (λ e. none_items scopes d.name e d.clauses [] formed)
    where
      both : (o : Option (List ResolvedClauseTree))
          → IfSome o (λ cs. ClausesSee globals ks cs × Knows globals (with_copies ks cs) (in_construct d scopes))
          → (makes_none d.name ≡ true → IfSome o HaveNoCopies) → IfSome o (GoodClauses ks d scopes)
      both None a b = tt
      both (Some cs) a b = (a.0, a.1, b)

  -- ---- loops

  abbrev variable_of_loop : Loop → Known
  variable_of_loop found =
      record { name = found.start.variable.text; at = found.start.variable.span.start; length = None }

  abbrev GoodLoop : List Known → Loop → ResolvedLoopTree → Type 0
  GoodLoop ks found l = LoopSees globals ks l × (known_scalar l.variable ≡ variable_of_loop found)

  loop_sees : (ks : List Known) (scopes : Scopes) (schedule : ResolvedSchedule) (found : Loop) → Knows globals ks scopes
      → IfSome (resolved_loop scopes schedule found) (GoodLoop ks found)
  unfolding resolved_loop
  loop_sees ks scopes schedule found h = by found.start.is_declared
    where
      kv : Known
      kv = variable_of_loop found

      by : (b : Bool) → IfSome (do
        from ← resolved_expression (if b then with_iteration scopes found else scopes) found.start.from
        to ← resolved_expression (if b then with_iteration scopes found else scopes) found.to
        Some (record {
          at = found.at;
          variable = local_of found.start.variable;
          from = from;
          comparison = found.comparison;
          to = to;
          step = found.step;
          schedule = schedule;
        })) (GoodLoop ks found)
      by true =
          let ls = variable_of_loop found ∷ ks in
          let inner = knows_local globals ks (inside scopes) found.start.variable shapes.Scalar None refl h in
          if_then (EachUse (IsSeen globals ls)) (GoodLoop ks found)
          (resolved_expression (with_iteration scopes found) found.start.from) _
          (expression_sees globals ls (with_iteration scopes found) found.start.from inner) (λ x hx.
          if_then (EachUse (IsSeen globals ls)) (GoodLoop ks found)
          (resolved_expression (with_iteration scopes found) found.to) _
          (expression_sees globals ls (with_iteration scopes found) found.to inner) (λ y hy. (inr (hx, hy), refl)))
      by false =
          if_then (EachUse (IsSeen globals ks)) (GoodLoop ks found) (resolved_expression scopes found.start.from) _
          (expression_sees globals ks scopes found.start.from h) (λ x hx.
          if_then (EachUse (IsSeen globals ks)) (GoodLoop ks found) (resolved_expression scopes found.to) _
          (expression_sees globals ks scopes found.to h) (λ y hy. (inl (hx, hy), refl)))

  loop_construct_sees : (ks : List Known) (scopes : Scopes) (parallel : Option ℕ) (d : Directive ExpressionTree)
      (s : StatementTree) → Knows globals ks scopes
      → IfSome (resolved_clauses scopes d.clauses) (GoodClauses ks d scopes)
      → (perhaps_found : Option Loop) → (others : List SourceFault) (flow : Flow)
      → ((found : Loop) (ls : List Known) → Knows globals ls (in_loop (in_construct d scopes) (Some found))
      → body_breaches (in_construct d scopes) flow (Some found) s ≡ []
      → IfSome (resolved_repeated (in_construct d scopes) (parallel_in d parallel) found s)
      (StatementSees Anything globals ls))
      → cond (is_some perhaps_found) (bounds_breaches (round_bounds d scopes) perhaps_found
      ++ body_breaches (in_construct d scopes) flow perhaps_found s)
      (with_breach (record { code = faults.LoopForm; at = statement_start s }) others) ≡ []
      → IfSome (resolved_loop_construct scopes parallel d perhaps_found s) (GoodConstruct ks)
  loop_construct_sees ks scopes parallel d s h clauses None others flow body w =
      absurd (never_placed faults.LoopForm (statement_start s) others w)
  loop_construct_sees ks scopes parallel d s h clauses (Some found) others flow body w =
      let rest = back (found_breaches (round_bounds d scopes) found) (body_breaches (in_construct d scopes) flow
      (Some found) s) w in
      if_then (GoodClauses ks d scopes) (GoodConstruct ks) (resolved_clauses scopes d.clauses) _ clauses (λ cs hcs.
      by cs hcs.0 hcs.1 rest (is_parallel (traits_of d.name).region))
    where
      by : (cs : List ResolvedClauseTree) → ClausesSee globals ks cs
          → Knows globals (with_copies ks cs) (in_construct d scopes)
          → body_breaches (in_construct d scopes) flow (Some found) s ≡ [] → (p : Bool)
          → IfSome (resolved_loop (cond p (in_construct d scopes) scopes) (schedule_of d.clauses) found >>= λ l.
          resolved_repeated (in_construct d scopes) (parallel_in d parallel) found s >>= λ t.
          Some (cond p (parallel_of d cs (resolved.Loop d.hash [] true l t)) (resolved.Loop d.hash cs (has_nowait d) l
          t))) (GoodConstruct ks)
      by cs hc inner rest true =
          let mid = with_copies ks cs in
          let kv = variable_of_loop found in
          let deeper = knows_local globals mid (inside (in_construct d scopes)) found.start.variable shapes.Scalar None
          refl inner in
          if_then (GoodLoop mid found) (GoodConstruct ks) (resolved_loop (in_construct d scopes)
          (schedule_of d.clauses) found) _ (loop_sees mid (in_construct d scopes) (schedule_of d.clauses) found inner)
          (λ l hl.
          if_then (StatementSees Anything globals (kv ∷ mid)) (GoodConstruct ks)
          (resolved_repeated (in_construct d scopes)
          (parallel_in d parallel) found s) _ (body found (kv ∷ mid) deeper rest)
          (λ t ht. ((hc, tt, (tt, hl.0, subst (λ z. StatementSees Anything globals (z ∷ mid) t) (sym hl.1) ht)), refl)))
      by cs hc inner rest false =
          let mid = with_copies ks cs in
          let kv = variable_of_loop found in
          let deeper = knows_local globals mid (inside (in_construct d scopes)) found.start.variable shapes.Scalar None
          refl inner in
          if_then (GoodLoop ks found) (GoodConstruct ks) (resolved_loop scopes (schedule_of d.clauses) found) _
          (loop_sees ks scopes (schedule_of d.clauses) found h) (λ l hl.
          if_then (StatementSees Anything globals (kv ∷ mid)) (GoodConstruct ks)
          (resolved_repeated (in_construct d scopes)
          (parallel_in d parallel) found s) _ (body found (kv ∷ mid) deeper rest)
          (λ t ht. ((hc, hl.0, subst (λ z. StatementSees Anything globals (z ∷ mid) t) (sym hl.1) ht), refl)))

  sections_sees : (ks : List Known) (scopes : Scopes) (parallel : Option ℕ) (d : Directive ExpressionTree)
      (parts : PartsTree) → IfSome (resolved_clauses scopes d.clauses) (GoodClauses ks d scopes)
      → ((ls : List Known) → Knows globals ls (in_construct d scopes)
      → IfSome (resolved_parts (in_construct d scopes) (parallel_in d parallel) parts) (PartsSee Anything globals ls))
      → IfSome (resolved_sections scopes parallel d parts) (GoodConstruct ks)
  sections_sees ks scopes parallel d parts clauses see =
      if_then (GoodClauses ks d scopes) (GoodConstruct ks) (resolved_clauses scopes d.clauses) _ clauses (λ cs hcs.
      if_then (PartsSee Anything globals (with_copies ks cs)) (GoodConstruct ks)
      (resolved_parts (in_construct d scopes) (parallel_in d parallel) parts) _ (see (with_copies ks cs) hcs.1)
      (λ ps hps. by cs hcs.0 ps hps (is_parallel (traits_of d.name).region)))
    where
      by : (cs : List ResolvedClauseTree) → ClausesSee globals ks cs → (ps : ResolvedPartsTree)
          → PartsSee Anything globals (with_copies ks cs) ps → (p : Bool)
          → GoodConstruct ks (cond p (parallel_of d cs (resolved.Sections d.hash [] true ps))
          (resolved.Sections d.hash cs (has_nowait d) ps))
      by cs hc ps hps true = ((hc, tt, (tt, hps)), refl)
      by cs hc ps hps false = ((hc, hps), refl)

  -- ---- statements

  abbrev pub Good : List Known → Scopes → StatementTree → ResolvedStatementTree → Type 0
  Good ks scopes s t = StatementSees Anything globals ks t × Knows globals (after_item ks t) (after_statement scopes s)

  -- a construct leaves what was known
  kept : (ks : List Known) (scopes : Scopes) (s : StatementTree) → after_statement scopes s ≡ scopes
      → Knows globals ks scopes → (t : ResolvedStatementTree) → GoodConstruct ks t → Good ks scopes s t
  kept ks scopes s same h t g =
      (g.0, subst (λ z. Knows globals (after_item ks t) z) (sym same) (subst (λ z. Knows globals z scopes) (sym g.1) h))

  part : (ks : List Known) (scopes : Scopes) (parallel : Option ℕ) (s : StatementTree)
      → IfSome (resolved_statement scopes parallel s) (Good ks scopes s)
      → IfSome (resolved_statement scopes parallel s) (StatementSees Anything globals ks)
  part ks scopes parallel s h = if_more (Good ks scopes s) (StatementSees Anything globals ks)
      (resolved_statement scopes parallel s) (λ t ht. ht.0) h

  mutual
    unfolding statement_breaches statements_breaches body_breaches resolved_statement resolved_statements
        resolved_repeated parts_breaches resolved_parts IsStatement AreStatements

    pub source_sees : (ks : List Known) (scopes : Scopes) (flow : Flow) (parallel : Option ℕ) (s : StatementTree)
        → Knows globals ks scopes → IsStatement s → statement_breaches scopes flow s ≡ []
        → IfSome (resolved_statement scopes parallel s) (Good ks scopes s)
    source_sees ks scopes flow parallel (LocalDeclaration d) h formed w =
        if_then (KnownDeclarators globals ks scopes (declarators_of d)) (Good ks scopes (LocalDeclaration d))
        (resolved_declarators scopes (declarators_of d)) _ (declarators_see globals (declarators_of d) ks scopes h w)
        (λ ds hds. hds)
    source_sees ks scopes flow parallel (Block left items right) h formed w =
        if_then (ItemsSee Anything globals ks) (Good ks scopes (Block left items right))
        (resolved_statements (inside scopes) parallel items) _
        (items_see ks (inside scopes) flow parallel items h formed w) (λ ss hss. (hss, h))
    source_sees ks scopes flow parallel (Empty semicolon) h formed w = (tt, h)
    source_sees ks scopes flow parallel (Expression e semicolon) h formed w =
        if_then (EachUse (IsSeen globals ks)) (Good ks scopes (Expression e semicolon)) (resolved_expression scopes e)
        _ (expression_sees globals ks scopes e h) (λ x hx. (hx, h))
    source_sees ks scopes flow parallel (If at c s) h formed w =
        let condition = expression_breaches scopes true c.value in
        let branch = statement_breaches (inside scopes) flow s in
        if_then (EachUse (IsSeen globals ks)) (Good ks scopes (If at c s)) (resolved_expression scopes c.value) _
        (expression_sees globals ks scopes c.value h) (λ x hx.
        if_then (StatementSees Anything globals ks) (Good ks scopes (If at c s))
        (resolved_statement (inside scopes) parallel s)
        _ (part ks (inside scopes) parallel s (source_sees ks (inside scopes) flow parallel s h formed.1
        (back condition branch w))) (λ t ht. ((hx, ht), h)))
    source_sees ks scopes flow parallel (IfElse at c s other t) h formed w =
        let condition = expression_breaches scopes true c.value in
        let branch = statement_breaches (inside scopes) flow s in
        let otherwise = statement_breaches (inside scopes) flow t in
        let before = front (condition ++ branch) otherwise w in
        if_then (EachUse (IsSeen globals ks)) (Good ks scopes (IfElse at c s other t))
        (resolved_expression scopes c.value) _ (expression_sees globals ks scopes c.value h) (λ x hx.
        if_then (StatementSees Anything globals ks) (Good ks scopes (IfElse at c s other t))
        (resolved_statement (inside scopes) parallel s) _
        (part ks (inside scopes) parallel s (source_sees ks (inside scopes) flow parallel s h formed.1
        (back condition branch before))) (λ y hy.
        if_then (StatementSees Anything globals ks) (Good ks scopes (IfElse at c s other t))
        (resolved_statement (inside scopes) parallel t) _
        (part ks (inside scopes) parallel t (source_sees ks (inside scopes) flow parallel t h formed.4
        (back (condition ++ branch) otherwise w))) (λ z hz. ((hx, hy, hz), h))))
    source_sees ks scopes flow parallel (While at c s) h formed w =
        let condition = expression_breaches scopes true c.value in
        let body = statement_breaches (inside scopes) (looping flow) s in
        if_then (EachUse (IsSeen globals ks)) (Good ks scopes (While at c s)) (resolved_expression scopes c.value) _
        (expression_sees globals ks scopes c.value h) (λ x hx.
        if_then (StatementSees Anything globals ks) (Good ks scopes (While at c s))
        (resolved_statement (inside scopes) parallel s) _
        (part ks (inside scopes) parallel s (source_sees ks (inside scopes) (looping flow) parallel s h formed.1
        (back condition body w))) (λ t ht. ((hx, ht), h)))
    source_sees ks scopes flow parallel (Do at s again c semicolon) h formed w =
        let condition = expression_breaches scopes true c.value in
        let body = statement_breaches (inside scopes) (looping flow) s in
        if_then (StatementSees Anything globals ks) (Good ks scopes (Do at s again c semicolon))
        (resolved_statement (inside scopes) parallel s) _
        (part ks (inside scopes) parallel s (source_sees ks (inside scopes) (looping flow) parallel s h formed.1
        (front body condition w))) (λ t ht.
        if_then (EachUse (IsSeen globals ks)) (Good ks scopes (Do at s again c semicolon))
        (resolved_expression scopes c.value) _ (expression_sees globals ks scopes c.value h) (λ x hx. ((ht, hx), h)))
    source_sees ks scopes flow parallel (For head s) h formed w =
        let behind = after_for_start (inside scopes) head.start in
        let start = for_start_breaches (inside scopes) head.start in
        let turn = for_turn_breaches behind head in
        let body = statement_breaches (inside behind) (looping flow) s in
        let before = front (start ++ turn) body w in
        if_then (KnownStart globals ks (inside scopes) head.start) (Good ks scopes (For head s))
        (resolved_start (inside scopes) head.start) _
        (start_sees globals ks (inside scopes) head.start h (front start turn before)) (λ x hx.
        if_then (EachUseIfAny (IsSeen globals (after_start ks x))) (Good ks scopes (For head s))
        (resolved_perhaps behind head.condition) _ (any_sees globals (after_start ks x) behind head.condition hx.1)
        (λ y hy.
        if_then (EachUseIfAny (IsSeen globals (after_start ks x))) (Good ks scopes (For head s))
        (resolved_perhaps behind head.step) _ (any_sees globals (after_start ks x) behind head.step hx.1) (λ z hz.
        if_then (StatementSees Anything globals (after_start ks x)) (Good ks scopes (For head s))
        (resolved_statement (inside behind) parallel s) _
        (part (after_start ks x) (inside behind) parallel s (source_sees (after_start ks x) (inside behind)
        (looping flow) parallel s hx.1 formed.1 (back (start ++ turn) body w)))
        (λ t ht. ((hx.0, hy, hz, ht), h)))))
    source_sees ks scopes flow parallel (Return at value semicolon) h formed w =
        if_then (EachUseIfAny (IsSeen globals ks)) (Good ks scopes (Return at value semicolon))
        (resolved_perhaps scopes value) _ (any_sees globals ks scopes value h) (λ x hx. (hx, h))
    source_sees ks scopes flow parallel (Break at semicolon) h formed w = (tt, h)
    source_sees ks scopes flow parallel (Continue at semicolon) h formed w = (tt, h)
    source_sees ks scopes flow parallel (Construct d s) h formed w =
        let own = directive_breaches scopes flow d in
        let plain = statement_breaches (in_construct d scopes) (constructing d flow) s in
        let looped = cond (is_some (loop_in s)) (bounds_breaches (round_bounds d scopes) (loop_in s)
        ++ body_breaches (in_construct d scopes) (constructing d flow) (loop_in s) s)
        (with_breach (record { code = faults.LoopForm; at = statement_start s }) plain) in
        let clauses = line_sees ks scopes flow d h formed.0 (front own (cond (not (traits_of d.name).takes_loop) plain
        looped) w) in
        if_more (GoodConstruct ks) (Good ks scopes (Construct d s)) (resolved_construct scopes parallel d s)
        (kept ks scopes (Construct d s) refl h)
        (by_cases (not (traits_of d.name).takes_loop) (λ breaches found. breaches ≡ []
        → IfSome found (GoodConstruct ks)) plain looped
        (resolved_plain_construct scopes parallel d s) (resolved_loop_construct scopes parallel d (loop_in s) s)
        (λ e v.
        if_then (GoodClauses ks d scopes) (GoodConstruct ks) (resolved_clauses scopes d.clauses) _ clauses
        (λ cs hcs.
        if_then (StatementSees Anything globals (with_copies ks cs)) (GoodConstruct ks)
        (resolved_statement (in_construct d scopes) (parallel_in d parallel) s) _
        (part (with_copies ks cs) (in_construct d scopes) (parallel_in d parallel) s
        (source_sees (with_copies ks cs) (in_construct d scopes) (constructing d flow) (parallel_in d parallel) s
        hcs.1 formed.2 v)) (λ body hb.
        construct_sees ks parallel (statement_side s) d d.name cs body hcs.0 hcs.2 hb)))
        (λ e v. loop_construct_sees ks scopes parallel d s h clauses (loop_in s) plain (constructing d flow)
        (λ found ls known u. repeated_sees ls (in_construct d scopes) (constructing d flow) (parallel_in d parallel)
        found s known formed.2 u) v)
        (back own (cond (not (traits_of d.name).takes_loop) plain looped) w))
    source_sees ks scopes flow parallel (StandAlone d) h formed w =
        if_more (GoodConstruct ks) (Good ks scopes (StandAlone d)) (resolved_alone scopes d d.name)
        (kept ks scopes (StandAlone d) refl h) (alone_sees ks scopes d d.name h)
    source_sees ks scopes flow parallel (Sections d left parts right) h formed w =
        let own = directive_breaches scopes flow d in
        let others = parts_breaches (in_construct d scopes) (constructing d flow) 0 parts in
        if_more (GoodConstruct ks) (Good ks scopes (Sections d left parts right))
        (resolved_sections scopes parallel d parts) (kept ks scopes (Sections d left parts right) refl h)
        (sections_sees ks scopes parallel d parts (line_sees ks scopes flow d h formed.0 (front own others w))
        (λ ls known. parts_see ls (in_construct d scopes) (constructing d flow) (parallel_in d parallel) 0 parts known
        (have_items parts formed.2) (back own others w)))

    -- what a canonical loop repeats
    repeated_sees : (ks : List Known) (scopes : Scopes) (flow : Flow) (parallel : Option ℕ) (found : Loop)
        (s : StatementTree) → Knows globals ks (in_loop scopes (Some found)) → IsStatement s
        → body_breaches scopes flow (Some found) s ≡ []
        → IfSome (resolved_repeated scopes parallel found s) (StatementSees Anything globals ks)
    repeated_sees ks scopes flow parallel found (For head s) known formed w =
        part ks (in_loop scopes (Some found)) parallel s
        (source_sees ks (in_loop scopes (Some found)) (continuing flow) parallel s known formed.1 w)
    repeated_sees ks scopes flow parallel found _ known formed w = tt

    pub items_see : (ks : List Known) (scopes : Scopes) (flow : Flow) (parallel : Option ℕ) (ss : StatementsTree)
        → Knows globals ks scopes → AreStatements ss → statements_breaches scopes flow ss ≡ []
        → IfSome (resolved_statements scopes parallel ss) (ItemsSee Anything globals ks)
    items_see ks scopes flow parallel NoStatements h formed w = tt
    items_see ks scopes flow parallel (Statement s rest) h formed w =
        let own = statement_breaches scopes flow s in
        let others = statements_breaches (after_statement scopes s) flow rest in
        if_then (Good ks scopes s) (ItemsSee Anything globals ks) (resolved_statement scopes parallel s) _
        (source_sees ks scopes flow parallel s h formed.0 (front own others w)) (λ t ht.
        if_then (ItemsSee Anything globals (after_item ks t)) (ItemsSee Anything globals ks)
        (resolved_statements (after_statement scopes s) parallel rest) _
        (items_see (after_item ks t) (after_statement scopes s) flow parallel rest ht.1 formed.1 (back own others w))
        (λ ts hts. (ht.0, hts)))

    parts_see : (ks : List Known) (scopes : Scopes) (flow : Flow) (parallel : Option ℕ) (before : ℕ)
        (parts : PartsTree) → Knows globals ks scopes → HaveItems parts
        → parts_breaches scopes flow before parts ≡ []
        → IfSome (resolved_parts scopes parallel parts) (PartsSee Anything globals ks)
    parts_see ks scopes flow parallel before NoParts h formed w = tt
    parts_see ks scopes flow parallel before (Part section items rest) h formed w =
        let many = section_breaches before section in
        let own = statements_breaches (inside scopes) flow items in
        let others = parts_breaches scopes flow (before + 1) rest in
        if_then (ItemsSee Anything globals ks) (PartsSee Anything globals ks)
        (resolved_statements (inside scopes) parallel items) _
        (items_see ks (inside scopes) flow parallel items h formed.0 (back many own (front (many ++ own) others w)))
        (λ ss hss.
        if_then (PartsSee Anything globals ks) (PartsSee Anything globals ks) (resolved_parts scopes parallel rest) _
        (parts_see ks scopes flow parallel (before + 1) rest h formed.1 (back (many ++ own) others w))
        (λ ps hps. (hss, hps)))

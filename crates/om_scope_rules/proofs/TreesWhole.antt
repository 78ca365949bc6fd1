-- Well-formed statements without a breach resolve to whole ones.
use Rattle.std.proofs.Common.{◌≡◌, ℕ, ◌≤◌, Bool, true, false, cond, not, List, [], ◌∷◌, ◌++◌, All, Option, None, Some}
use Rattle.std.proofs.Common.{is_some, refl, sym, subst, ◌∙◌, ◌+◌}
use Rattle.std.specs.Prelude.{IfSome}
use Rattle.std.specs.List.{flat_map}
use Rattle.std.proofs.lemmas.List.Elements.{All-nil}
use Rattle.om_lexer.specs.declared.fault.FaultCode.TheVariants as faults
use Rattle.om_lexer.specs.declared.fault.SourceFault.{SourceFault}
use Rattle.om_pragma.specs.declared.tree.Directive.{Directive}
use Rattle.om_pragma.specs.declared.tree.DirectiveName.{DirectiveName}
use Rattle.om_pragma.specs.declared.tree.DirectiveName.TheVariants as names
use Rattle.om_pragma.specs.Questions.{is_sections}
use Rattle.om_scope_tree.specs.declared.resolved.Shape.TheVariants as shapes
use Rattle.om_scope_tree.specs.ResolvedTree as resolved
use Rattle.om_scope_tree.specs.ResolvedTree.{ResolvedClauseTree, ResolvedLoopTree, ResolvedStatementTree}
use Rattle.om_scope_tree.specs.ResolvedTree.{ResolvedPartsTree}
use Rattle.om_scope_tree.specs.Whole.{HaveOneValueAtMost}
use Rattle.om_scope_tree.specs.Whole.{Around, IsWhole, IsWholeIfAny, IsWholeClause, IsWholeReturn, of_parallel}
use Rattle.om_scope_tree.specs.Whole.{of_worksharing, copies_in, scalar, within, with_locals, iterated, repeated}
use Rattle.om_scope_tree.specs.Whole.{after_start, after_item, part_count, IsWholeStatement, AreWholeItems, AreWholeParts}
use Rattle.om_scope_tree.specs.Whole.{HasItem}
use Rattle.om_scope_rules.specs.declared.region.Flow.{Flow}
use Rattle.om_scope_rules.specs.DirectiveRules.{constructing, parallel_in, nesting_breaches, nothing_listed, item_breaches}
use Rattle.om_scope_rules.specs.DirectiveRules.{directive_breaches, flush_breaches, in_construct, traits_of}
use Rattle.om_scope_rules.specs.DirectiveRules as directives
use Rattle.om_scope_rules.specs.ExpressionRules.{expression_breaches}
use Rattle.om_scope_rules.specs.Faults.{breaches_along, with_breach}
use Rattle.om_scope_rules.specs.Knowing.{Known, Knows, Agrees}
use Rattle.om_scope_rules.specs.Loops.{Loop, loop_in}
use Rattle.om_scope_rules.specs.Perhaps.{◌>>=◌}
use Rattle.om_scope_rules.specs.Places.{statement_start}
use Rattle.om_scope_rules.specs.Resolution.{resolved_expression}
use Rattle.om_scope_rules.specs.Scopes.{Scopes, inside, declarators_of}
use Rattle.om_scope_rules.specs.Sharing.{is_parallel}
use Rattle.om_scope_rules.specs.StatementResolution.{local_of, has_nowait, parallel_of, schedule_of, resolved_clauses}
use Rattle.om_scope_rules.specs.StatementResolution.{resolved_declarators, resolved_loop, resolved_start, resolved_perhaps}
use Rattle.om_scope_rules.specs.StatementResolution.{resolved_alone, resolved_statement, resolved_statements}
use Rattle.om_scope_rules.specs.StatementResolution.{resolved_repeated, resolved_parts, resolved_plain_construct}
use Rattle.om_scope_rules.specs.StatementResolution.{resolved_loop_construct, resolved_construct, resolved_sections}
use Rattle.om_scope_rules.specs.StatementRules.{jump_breaches, return_breaches, perhaps_breaches, for_start_breaches}
use Rattle.om_scope_rules.specs.StatementRules.{after_for_start, for_turn_breaches, looping, continuing, round_bounds}
use Rattle.om_scope_rules.specs.StatementRules.{with_iteration, found_breaches, bounds_breaches, in_loop, after_statement}
use Rattle.om_scope_rules.specs.StatementRules.{parts_breaches, section_breaches, statement_breaches, statements_breaches}
use Rattle.om_scope_rules.specs.StatementRules.{body_breaches}
use Rattle.om_scope_rules.specs.Updates.{statement_side}
use Rattle.om_pragma.specs.Table.{IsDirective}
use Rattle.om_parser_tree.specs.Formed.{IsLine}
use Rattle.om_scope_rules.proofs.AskedOnce.{one_value}
use Rattle.om_scope_rules.proofs.ClausesWhole.{admitted_by, line_admitted, whole_clauses}
use Rattle.om_scope_rules.proofs.ConstructsWhole.{construct_whole, loop_admitted, alone_whole, region}
use Rattle.om_scope_rules.proofs.ExpressionsWhole.{whole_expression}
use Rattle.om_scope_rules.proofs.Knowing.{if_more, known_inside, known_local, known_more}
use Rattle.om_scope_rules.proofs.LoopsWhole.{GoesOn, goes_on, IsGoodSchedule, good_schedule, IsGoodLoop, whole_loop}
use Rattle.om_scope_rules.proofs.StatementsWhole.{AreGoodDeclarators, whole_declarators, IsGoodStart, whole_start}
use Rattle.om_scope_rules.proofs.StatementsWhole.{whole_perhaps, whole_return, not_true, agrees_looping, agrees_start}
use Rattle.om_scope_rules.proofs.StatementsWhole.{agrees_item, agrees_construct, agrees_loop, knows_item}
use Rattle.om_scope_rules.proofs.PartCounts.{few_parts, some_part}
use Rattle.om_scope_rules.proofs.Steps.{if_any, if_then, if_both, if_three}
use Rattle.om_scope_rules.proofs.Unbroken.{front, back, by_cases, fails, not_broken, not_false, never_placed}
use Rattle.om_parser_tree.specs.Formed.{IsStatement, AreStatements, AreSome, AreParts, ArePartItems, AreFurtherParts}
use Rattle.om_parser_tree.specs.Tree.{ExpressionTree, StatementTree, LocalDeclaration, Block, Empty, Expression, If, IfElse}
use Rattle.om_parser_tree.specs.Tree.{While, Do, For, Return, Break, Continue, Construct, StandAlone, Sections}
use Rattle.om_parser_tree.specs.Tree.{StatementsTree, NoStatements, Statement, PartsTree, NoParts, Part}

-- what a test decides of two resolved clauses, and what is known in their construct
abbrev AreGood : Around → Directive ExpressionTree → Scopes → List ResolvedClauseTree → Type 0
AreGood around d scopes cs = All (IsWholeClause around (admitted_by (has_nowait d) d.name)) cs
    × Known around.globals around.functions (around.locals ++ flat_map copies_in cs) (in_construct d scopes)
    × HaveOneValueAtMost cs

-- resolved clauses of a line give one value at most
once_too : (around : Around) (d : Directive ExpressionTree) (scopes : Scopes) → IsLine d
    → IfSome (resolved_clauses scopes d.clauses) (λ cs.
    All (IsWholeClause around (admitted_by (has_nowait d) d.name)) cs
    × Known around.globals around.functions (around.locals ++ flat_map copies_in cs) (in_construct d scopes))
    → IfSome (resolved_clauses scopes d.clauses) (AreGood around d scopes)
unfolding IsDirective
once_too around d scopes formed good =
    if_both (resolved_clauses scopes d.clauses) good
    (one_value (admitted_by (has_nowait d) d.name) scopes d.name d.clauses [] formed
    (line_admitted (has_nowait d) d formed))
  where
    if_both : (o : Option (List ResolvedClauseTree)) → IfSome o (λ cs.
        All (IsWholeClause around (admitted_by (has_nowait d) d.name)) cs
        × Known around.globals around.functions (around.locals ++ flat_map copies_in cs) (in_construct d scopes))
        → IfSome o HaveOneValueAtMost → IfSome o (AreGood around d scopes)
    if_both None g h = tt
    if_both (Some cs) g h = (g.0, g.1, h)

-- ---- worksharing-loop constructs

-- in a loop, whose variable is this one's
known_iteration : (outer : Around) (scopes : Scopes) (found : Loop) (l : ResolvedLoopTree) → l.variable
    ≡ local_of found.start.variable → Knows outer scopes
    → Knows (with_locals outer (scalar l.variable ∷ [])) (in_loop scopes (Some found))
known_iteration outer scopes found l same h =
    subst (λ variable. Known outer.globals outer.functions (outer.locals ++ scalar variable ∷ [])
    (in_loop scopes (Some found))) (sym same)
    (known_inside outer.globals outer.functions (outer.locals ++ (found.start.variable.span.start, shapes.Scalar)
    ∷ []) (with_iteration scopes found)
    (known_local outer.globals outer.functions outer.locals (inside scopes) found.start.variable shapes.Scalar
    (known_inside outer.globals outer.functions outer.locals scopes h)))

loop_whole : (around : Around) (scopes : Scopes) (flow : Flow) (parallel : Option ℕ) (d : Directive ExpressionTree)
    (s : StatementTree) → Knows around scopes → Agrees around flow → (traits_of d.name).takes_loop ≡ true
    → IsGoodSchedule (schedule_of d.clauses) → IfSome (resolved_clauses scopes d.clauses) (AreGood around d scopes)
    → (perhaps_found : Option Loop) → IfSome perhaps_found GoesOn → (others : List SourceFault)
    → ((found : Loop) (inner : Around) → Knows inner (in_loop (in_construct d scopes) (Some found))
    → Agrees inner (continuing (constructing d flow))
    → body_breaches (in_construct d scopes) (constructing d flow) (Some found) s ≡ []
    → IfSome (resolved_repeated (in_construct d scopes) (parallel_in d parallel) found s) (IsWholeStatement inner))
    → cond (is_some perhaps_found) (bounds_breaches (round_bounds d scopes) perhaps_found
    ++ body_breaches (in_construct d scopes) (constructing d flow) perhaps_found s)
    (with_breach (record { code = faults.LoopForm; at = statement_start s }) others) ≡ []
    → IfSome (resolved_loop_construct scopes parallel d perhaps_found s) (IsWholeStatement around)
loop_whole around scopes flow parallel d s h f takes chunk clauses None goes others body w = absurd
    (never_placed faults.LoopForm (statement_start s) others w)
loop_whole around scopes flow parallel d s h f takes chunk clauses (Some found) goes others body w =
    let bounds = found_breaches (round_bounds d scopes) found in
    let rest = body_breaches (in_construct d scopes) (constructing d flow) (Some found) s in
    if_then (AreGood around d scopes) (IsWholeStatement around) (resolved_clauses scopes d.clauses) _ clauses (λ cs hcs.
    by cs hcs.1 (is_parallel (traits_of d.name).region) (subst (λ admitted. All (IsWholeClause around admitted) cs)
    (loop_admitted (has_nowait d) d.name takes) hcs.0) hcs.2 (front bounds rest w) (back bounds rest w))
  where
    by : (cs : List ResolvedClauseTree) → Known around.globals around.functions (around.locals ++ flat_map copies_in
        cs) (in_construct d scopes) → (p : Bool)
        → All (IsWholeClause around (cond p of_parallel of_worksharing)) cs → HaveOneValueAtMost cs
        → found_breaches (cond p (in_construct d scopes) scopes) found ≡ []
        → body_breaches (in_construct d scopes) (constructing d flow) (Some found) s ≡ []
        → IfSome (resolved_loop (cond p (in_construct d scopes) scopes) (schedule_of d.clauses) found >>= λ l.
        resolved_repeated (in_construct d scopes) (parallel_in d parallel) found s >>= λ t.
        Some (cond p (parallel_of d cs (resolved.Loop d.hash [] true l t)) (resolved.Loop d.hash cs (has_nowait d) l
        t))) (IsWholeStatement around)
    by cs known true hc once wb wr =
        if_then (IsGoodLoop (within around cs) found) (IsWholeStatement around)
        (resolved_loop (in_construct d scopes) (schedule_of d.clauses) found) _
        (whole_loop (within around cs) (in_construct d scopes) (schedule_of d.clauses) found known goes chunk
        wb) (λ l hl.
        let outer = within (within around cs) [] in
        let deeper = known_more around.globals around.functions (around.locals ++ flat_map copies_in cs) []
        (in_construct d scopes) known in
        if_then (IsWholeStatement (iterated (within around cs) [] l)) (IsWholeStatement around)
        (resolved_repeated (in_construct d scopes) (parallel_in d parallel) found s) _
        (body found (iterated (within around cs) [] l) (known_iteration outer (in_construct d scopes) found l hl.1
        deeper) (record { breaks = refl; continues = refl; returns = f.returns; in_construct = refl }) wr) (λ t ht. (
          hc,
          region _ d.hash.start cs (resolved.Loop d.hash [] true l t),
          (All-nil (IsWholeClause (within around cs) of_worksharing), hl.0, ht),
          once,
        )))
    by cs known false hc once wb wr =
        if_then (IsGoodLoop around found) (IsWholeStatement around) (resolved_loop scopes (schedule_of d.clauses)
        found) _ (whole_loop around scopes (schedule_of d.clauses) found h goes chunk wb) (λ l hl.
        if_then (IsWholeStatement (iterated around cs l)) (IsWholeStatement around)
        (resolved_repeated (in_construct d scopes) (parallel_in d parallel) found s) _
        (body found (iterated around cs l) (known_iteration (within around cs) (in_construct d scopes) found l hl.1
        known) (agrees_loop around flow d cs l f) wr) (λ t ht. (hc, hl.0, ht)))

-- ---- constructs of parts

sections_admitted : (nowait : Bool) (name : DirectiveName) → is_sections name ≡ true
    → admitted_by nowait name ≡ cond (is_parallel (traits_of name).region) of_parallel of_worksharing
sections_admitted nowait (names.Sections s) is = refl
sections_admitted nowait (names.ParallelSections s t) is = refl
sections_admitted nowait (names.Parallel s) is = cc
sections_admitted nowait (names.For s) is = cc
sections_admitted nowait (names.Section s) is = cc
sections_admitted nowait (names.Single s) is = cc
sections_admitted nowait (names.ParallelFor s t) is = cc
sections_admitted nowait (names.Masked s) is = cc
sections_admitted nowait (names.Master s) is = cc
sections_admitted nowait (names.Critical s name) is = cc
sections_admitted nowait (names.Atomic s) is = cc
sections_admitted nowait (names.Task s) is = cc
sections_admitted nowait (names.Taskgroup s) is = cc
sections_admitted nowait (names.Barrier s) is = cc
sections_admitted nowait (names.Taskwait s) is = cc
sections_admitted nowait (names.Taskyield s) is = cc
sections_admitted nowait (names.Flush s list) is = cc

-- parts in a construct
abbrev AreGoodParts : Around → ResolvedPartsTree → Type 0
AreGoodParts around parts = (1 ≤ part_count parts) × (part_count parts ≤ 256) × AreWholeParts around parts

sections_whole : (around : Around) (scopes : Scopes) (flow : Flow) (parallel : Option ℕ)
    (d : Directive ExpressionTree) (parts : PartsTree) → Agrees around flow → is_sections d.name ≡ true
    → AreParts parts
    → IfSome (resolved_clauses scopes d.clauses) (AreGood around d scopes) → parts_breaches
    (in_construct d scopes) (constructing d flow) 0 parts ≡ []
    → ((inner : Around) → Knows inner (in_construct d scopes) → Agrees inner (constructing d flow)
    → IfSome (resolved_parts (in_construct d scopes) (parallel_in d parallel) parts) (AreWholeParts inner))
    → IfSome (resolved_sections scopes parallel d parts) (IsWholeStatement around)
sections_whole around scopes flow parallel d parts f is formed clauses w whole =
    if_then (AreGood around d scopes) (IsWholeStatement around) (resolved_clauses scopes d.clauses) _ clauses (λ cs hcs.
    by cs hcs.1 (is_parallel (traits_of d.name).region) (subst (λ admitted. All (IsWholeClause around admitted) cs)
    (sections_admitted (has_nowait d) d.name is) hcs.0) hcs.2)
  where
    found : Option ResolvedPartsTree
    found = resolved_parts (in_construct d scopes) (parallel_in d parallel) parts

    good : (inner : Around) → Knows inner (in_construct d scopes) → Agrees inner (constructing d flow)
        → IfSome found (AreGoodParts inner)
    good inner known agrees =
        if_three (λ ps. 1 ≤ part_count ps) (λ ps. part_count ps ≤ 256) (AreWholeParts inner) found
        (some_part (in_construct d scopes) (parallel_in d parallel) parts formed) (few_parts (in_construct d scopes)
        (constructing d flow) (parallel_in d parallel) parts formed w) (whole inner known agrees)

    by : (cs : List ResolvedClauseTree) → Known around.globals around.functions (around.locals ++ flat_map copies_in
        cs) (in_construct d scopes) → (p : Bool)
        → All (IsWholeClause around (cond p of_parallel of_worksharing)) cs → HaveOneValueAtMost cs
        → IfSome (found >>= λ parts. Some
        (cond p (parallel_of d cs (resolved.Sections d.hash [] true parts))
        (resolved.Sections d.hash cs (has_nowait d) parts))) (IsWholeStatement around)
    by cs known true hc once =
        let outer = within (within around cs) [] in
        let deeper = known_more around.globals around.functions (around.locals ++ flat_map copies_in cs) []
        (in_construct d scopes) known in
        if_then (AreGoodParts outer) (IsWholeStatement around) found _
        (good outer deeper (record {
          breaks = refl;
          continues = refl;
          returns = f.returns;
          in_construct = refl;
        })) (λ parts hp. (
          hc,
          region _ d.hash.start cs (resolved.Sections d.hash [] true parts),
          (All-nil (IsWholeClause (within around cs) of_worksharing), hp.0, hp.1, hp.2),
          once,
        ))
    by cs known false hc once =
        if_then (AreGoodParts (within around cs)) (IsWholeStatement around) found _
        (good (within around cs) known (agrees_construct around flow d cs f)) (λ parts hp. (hc, hp.0, hp.1, hp.2))

-- well-formed items in each of these parts, one at least
abbrev HaveItems : PartsTree → Type 0
HaveItems NoParts = Unit {0}
HaveItems (Part section items rest) = AreSome items × AreStatements items × HaveItems rest

items_formed : (ss : StatementsTree) → ArePartItems ss → AreStatements ss
unfolding IsStatement
items_formed NoStatements formed = tt
items_formed (Statement s rest) formed = (formed.0, items_formed rest formed.2)

further_items : (parts : PartsTree) → AreFurtherParts parts → HaveItems parts
unfolding IsStatement
further_items NoParts formed = tt
further_items (Part section items rest) formed =
    (formed.1, items_formed items formed.2, further_items rest formed.3)

have_items : (parts : PartsTree) → AreParts parts → HaveItems parts
unfolding IsStatement
have_items NoParts formed = absurd formed
have_items (Part section items rest) formed = (formed.1, items_formed items formed.2, further_items rest formed.3)

some_item : (scopes : Scopes) (parallel : Option ℕ) (items : StatementsTree) → AreSome items
    → IfSome (resolved_statements scopes parallel items) HasItem
unfolding resolved_statements
some_item scopes parallel NoStatements some = absurd some
some_item scopes parallel (Statement s rest) some =
    if_then (λ t. Unit {0}) HasItem (resolved_statement scopes parallel s) _
    (if_any (resolved_statement scopes parallel s)) (λ t u.
    if_then (λ ts. Unit {0}) HasItem (resolved_statements (after_statement scopes s) parallel rest) _
    (if_any (resolved_statements (after_statement scopes s) parallel rest)) (λ ts u. tt))

-- ---- statements

-- a resolved statement, and what is known behind it
abbrev IsGoodStatement : Around → Scopes → StatementTree → ResolvedStatementTree → Type 0
IsGoodStatement around scopes s t = IsWholeStatement around t × Knows (after_item around t) (after_statement scopes s)

-- of a part of a statement, which is a block of its own
part : (around : Around) (scopes : Scopes) (parallel : Option ℕ) (s : StatementTree)
    → IfSome (resolved_statement (inside scopes) parallel s) (IsGoodStatement around (inside scopes) s)
    → IfSome (resolved_statement (inside scopes) parallel s) (IsWholeStatement around)
part around scopes parallel s h = if_more (IsGoodStatement around (inside scopes) s) (IsWholeStatement around)
    (resolved_statement (inside scopes) parallel s) (λ t ht. ht.0) h

mutual
  unfolding statement_breaches statements_breaches body_breaches resolved_statement resolved_statements
      resolved_repeated parts_breaches resolved_parts IsStatement AreStatements

  pub whole_statement : (around : Around) (scopes : Scopes) (flow : Flow) (parallel : Option ℕ) (s : StatementTree)
      → Knows around scopes → Agrees around flow → IsStatement s
      → statement_breaches scopes flow s ≡ [] → IfSome (resolved_statement scopes parallel s)
      (IsGoodStatement around scopes s)
  whole_statement around scopes flow parallel (LocalDeclaration d) h f formed w =
      if_then (AreGoodDeclarators around scopes (declarators_of d))
      (IsGoodStatement around scopes (LocalDeclaration d)) (resolved_declarators scopes (declarators_of d)) _
      (whole_declarators (declarators_of d) around scopes h w) (λ ds hds. hds)
  whole_statement around scopes flow parallel (Block left items right) h f formed w =
      if_then (AreWholeItems around) (IsGoodStatement around scopes (Block left items right))
      (resolved_statements (inside scopes) parallel items) _
      (whole_items around (inside scopes) flow parallel items (known_inside around.globals around.functions
      around.locals scopes h) f formed w) (λ ss hss. (hss, h))
  whole_statement around scopes flow parallel (Empty semicolon) h f formed w = (tt, h)
  whole_statement around scopes flow parallel (Expression e semicolon) h f formed w =
      if_then (IsWhole around false) (IsGoodStatement around scopes (Expression e semicolon))
      (resolved_expression scopes e) _ (whole_expression around scopes false e h w) (λ x hx. (hx, h))
  whole_statement around scopes flow parallel (If at c s) h f formed w =
      let condition = expression_breaches scopes true c.value in
      let branch = statement_breaches (inside scopes) flow s in
      if_then (IsWhole around true) (IsGoodStatement around scopes (If at c s)) (resolved_expression scopes c.value)
      _ (whole_expression around scopes true c.value h (front condition branch w)) (λ x hx.
      if_then (IsWholeStatement around) (IsGoodStatement around scopes (If at c s))
      (resolved_statement (inside scopes) parallel s) _
      (part around scopes parallel s (whole_statement around (inside scopes) flow parallel s
      (known_inside around.globals around.functions around.locals scopes h) f formed.1
      (back condition branch w))) (λ t ht. ((hx, ht), h)))
  whole_statement around scopes flow parallel (IfElse at c s other t) h f formed w =
      let condition = expression_breaches scopes true c.value in
      let branch = statement_breaches (inside scopes) flow s in
      let otherwise = statement_breaches (inside scopes) flow t in
      let before = front (condition ++ branch) otherwise w in
      if_then (IsWhole around true) (IsGoodStatement around scopes (IfElse at c s other t))
      (resolved_expression scopes c.value) _ (whole_expression around scopes true c.value h
      (front condition branch before)) (λ x hx.
      if_then (IsWholeStatement around) (IsGoodStatement around scopes (IfElse at c s other t))
      (resolved_statement (inside scopes) parallel s) _
      (part around scopes parallel s (whole_statement around (inside scopes) flow parallel s
      (known_inside around.globals around.functions around.locals scopes h) f formed.1
      (back condition branch before))) (λ y hy.
      if_then (IsWholeStatement around) (IsGoodStatement around scopes (IfElse at c s other t))
      (resolved_statement (inside scopes) parallel t) _
      (part around scopes parallel t (whole_statement around (inside scopes) flow parallel t
      (known_inside around.globals around.functions around.locals scopes h) f formed.4
      (back (condition ++ branch) otherwise w))) (λ z hz. ((hx, hy, hz), h))))
  whole_statement around scopes flow parallel (While at c s) h f formed w =
      let condition = expression_breaches scopes true c.value in
      let body = statement_breaches (inside scopes) (looping flow) s in
      if_then (IsWhole around true) (IsGoodStatement around scopes (While at c s))
      (resolved_expression scopes c.value) _ (whole_expression around scopes true c.value h
      (front condition body w)) (λ x hx.
      if_then (IsWholeStatement (repeated around)) (IsGoodStatement around scopes (While at c s))
      (resolved_statement (inside scopes) parallel s) _
      (part (repeated around) scopes parallel s (whole_statement (repeated around) (inside scopes) (looping flow)
      parallel s (known_inside (repeated around).globals (repeated around).functions (repeated around).locals
      scopes h) (agrees_looping around flow f) formed.1 (back condition body w))) (λ t ht. ((hx, ht), h)))
  whole_statement around scopes flow parallel (Do at s again c semicolon) h f formed w =
      let condition = expression_breaches scopes true c.value in
      let body = statement_breaches (inside scopes) (looping flow) s in
      if_then (IsWholeStatement (repeated around)) (IsGoodStatement around scopes (Do at s again c semicolon))
      (resolved_statement (inside scopes) parallel s) _
      (part (repeated around) scopes parallel s (whole_statement (repeated around) (inside scopes) (looping flow)
      parallel s (known_inside (repeated around).globals (repeated around).functions (repeated around).locals
      scopes h) (agrees_looping around flow f) formed.1 (front body condition w))) (λ t ht.
      if_then (IsWhole around true) (IsGoodStatement around scopes (Do at s again c semicolon))
      (resolved_expression scopes c.value) _ (whole_expression around scopes true c.value h
      (back body condition w)) (λ x hx. ((ht, hx), h)))
  whole_statement around scopes flow parallel (For head s) h f formed w =
      let behind = after_for_start (inside scopes) head.start in
      let start = for_start_breaches (inside scopes) head.start in
      let turn = for_turn_breaches behind head in
      let body = statement_breaches (inside behind) (looping flow) s in
      let before = front (start ++ turn) body w in
      let turns = back start turn before in
      let condition = perhaps_breaches behind true head.condition in
      let step = perhaps_breaches behind false head.step in
      if_then (IsGoodStart around (inside scopes) head.start) (IsGoodStatement around scopes (For head s))
      (resolved_start (inside scopes) head.start) _
      (whole_start around (inside scopes) head.start (known_inside around.globals around.functions around.locals
      scopes h) (front start turn before)) (λ x hx.
      if_then (IsWholeIfAny (after_start around x) true) (IsGoodStatement around scopes (For head s))
      (resolved_perhaps behind head.condition) _ (whole_perhaps (after_start around x) behind true
      head.condition hx.1 (front condition step turns)) (λ y hy.
      if_then (IsWholeIfAny (after_start around x) false) (IsGoodStatement around scopes (For head s))
      (resolved_perhaps behind head.step) _ (whole_perhaps (after_start around x) behind false head.step hx.1
      (back condition step turns)) (λ z hz.
      if_then (IsWholeStatement (repeated (after_start around x))) (IsGoodStatement around scopes (For head s))
      (resolved_statement (inside behind) parallel s) _
      (part (repeated (after_start around x)) behind parallel s (whole_statement (repeated (after_start around x))
      (inside behind) (looping flow) parallel s (known_inside (repeated (after_start around x)).globals
      (repeated (after_start around x)).functions (repeated (after_start around x)).locals behind hx.1)
      (agrees_looping (after_start around x) flow (agrees_start around flow x f)) formed.1
      (back (start ++ turn) body w))) (λ t ht. ((hx.0, hy, hz, ht), h)))))
  whole_statement around scopes flow parallel (Return at value semicolon) h f formed w =
      let jump = jump_breaches (not flow.in_construct) at.start in
      let outside = not_true flow.in_construct (not_broken (not (not flow.in_construct)) faults.LeavesConstruct
      at.start (front jump (return_breaches scopes flow value) w)) in
      if_then (IsWholeReturn around) (IsGoodStatement around scopes (Return at value semicolon))
      (resolved_perhaps scopes value) _
      (whole_return around scopes flow value h f.returns (back jump (return_breaches scopes flow value) w))
      (λ x hx. ((f.in_construct ∙ outside, hx), h))
  whole_statement around scopes flow parallel (Break at semicolon) h f formed w =
      (f.breaks ∙ not_false flow.may_break (not_broken (not flow.may_break) faults.LeavesConstruct at.start w), h)
  whole_statement around scopes flow parallel (Continue at semicolon) h f formed w = (
    f.continues ∙ not_false flow.may_continue (not_broken (not flow.may_continue) faults.LeavesConstruct at.start
        w),
    h,
  )
  whole_statement around scopes flow parallel (Construct d s) h f formed w =
      let own = directive_breaches scopes flow d in
      let clauses = once_too around d scopes formed.0 (whole_clauses around (admitted_by (has_nowait d) d.name) scopes
      h d (line_admitted (has_nowait d) d formed.0)
      (back (nesting_breaches flow d.name) (breaches_along (item_breaches scopes) directives.after_item
      nothing_listed d.clauses) (front own _ w))) in
      let plain = statement_breaches (in_construct d scopes) (constructing d flow) s in
      let looped = cond (is_some (loop_in s)) (bounds_breaches (round_bounds d scopes) (loop_in s)
      ++ body_breaches (in_construct d scopes) (constructing d flow) (loop_in s) s)
      (with_breach (record { code = faults.LoopForm; at = statement_start s }) plain) in
      if_more (IsWholeStatement around) (IsGoodStatement around scopes (Construct d s))
      (resolved_construct scopes parallel d s) (λ t ht. (ht, knows_item around scopes t h))
      (by_cases (not (traits_of d.name).takes_loop) (λ breaches found. breaches ≡ []
      → IfSome found (IsWholeStatement around)) plain looped
      (resolved_plain_construct scopes parallel d s) (resolved_loop_construct scopes parallel d (loop_in s) s)
      (λ e v.
      if_then (AreGood around d scopes) (IsWholeStatement around) (resolved_clauses scopes d.clauses) _ clauses
      (λ cs hcs.
      if_then (IsGoodStatement (within around cs) (in_construct d scopes) s) (IsWholeStatement around)
      (resolved_statement (in_construct d scopes) (parallel_in d parallel) s) _
      (whole_statement (within around cs) (in_construct d scopes) (constructing d flow) (parallel_in d parallel) s
      hcs.1 (agrees_construct around flow d cs f) formed.2 v) (λ body hb.
      construct_whole around parallel (statement_side s) d d.name cs body formed.1
      (fails (traits_of d.name).takes_loop e) hcs.0 hb.0 hcs.2)))
      (λ e v. loop_whole around scopes flow parallel d s h f (not_false (traits_of d.name).takes_loop e)
      (good_schedule d formed.0) clauses (loop_in s) (goes_on s) plain
      (λ found inner known agrees u. whole_repeated inner (in_construct d scopes) (constructing d flow)
      (parallel_in d parallel) found s known agrees formed.2 u) v)
      (back own (cond (not (traits_of d.name).takes_loop) plain looped) w))
  whole_statement around scopes flow parallel (StandAlone d) h f formed w =
      if_more (IsWholeStatement around) (IsGoodStatement around scopes (StandAlone d))
      (resolved_alone scopes d d.name) (λ t ht. (ht, knows_item around scopes t h))
      (alone_whole around scopes d d.name h (back (directive_breaches scopes flow d) (flush_breaches scopes d.name) w))
  whole_statement around scopes flow parallel (Sections d left parts right) h f formed w =
      let own = directive_breaches scopes flow d in
      let others = parts_breaches (in_construct d scopes) (constructing d flow) 0 parts in
      let clauses = once_too around d scopes formed.0 (whole_clauses around (admitted_by (has_nowait d) d.name) scopes
      h d (line_admitted (has_nowait d) d formed.0)
      (back (nesting_breaches flow d.name) (breaches_along (item_breaches scopes) directives.after_item
      nothing_listed d.clauses) (front own others w))) in
      if_more (IsWholeStatement around) (IsGoodStatement around scopes (Sections d left parts right))
      (resolved_sections scopes parallel d parts) (λ t ht. (ht, knows_item around scopes t h))
      (sections_whole around scopes flow parallel d parts f formed.1 formed.2 clauses (back own others w)
      (λ inner known agrees. whole_parts inner (in_construct d scopes) (constructing d flow) (parallel_in d parallel) 0
      parts known agrees (have_items parts formed.2) (back own others w)))

  -- what a canonical loop repeats
  whole_repeated : (inner : Around) (scopes : Scopes) (flow : Flow) (parallel : Option ℕ) (found : Loop)
      (s : StatementTree) → Knows inner (in_loop scopes (Some found)) → Agrees inner (continuing flow)
      → IsStatement s → body_breaches scopes flow (Some found) s ≡ []
      → IfSome (resolved_repeated scopes parallel found s) (IsWholeStatement inner)
  whole_repeated inner scopes flow parallel found (For head s) known agrees formed w =
      if_more (IsGoodStatement inner (in_loop scopes (Some found)) s) (IsWholeStatement inner)
      (resolved_statement (in_loop scopes (Some found)) parallel s) (λ t ht. ht.0)
      (whole_statement inner (in_loop scopes (Some found)) (continuing flow) parallel s known agrees formed.1 w)
  whole_repeated inner scopes flow parallel found (LocalDeclaration d) known agrees formed w = tt
  whole_repeated inner scopes flow parallel found (Block left items right) known agrees formed w = tt
  whole_repeated inner scopes flow parallel found (Empty semicolon) known agrees formed w = tt
  whole_repeated inner scopes flow parallel found (Expression e semicolon) known agrees formed w = tt
  whole_repeated inner scopes flow parallel found (If at c s) known agrees formed w = tt
  whole_repeated inner scopes flow parallel found (IfElse at c s other t) known agrees formed w = tt
  whole_repeated inner scopes flow parallel found (While at c s) known agrees formed w = tt
  whole_repeated inner scopes flow parallel found (Do at s again c semicolon) known agrees formed w = tt
  whole_repeated inner scopes flow parallel found (Return at value semicolon) known agrees formed w = tt
  whole_repeated inner scopes flow parallel found (Break at semicolon) known agrees formed w = tt
  whole_repeated inner scopes flow parallel found (Continue at semicolon) known agrees formed w = tt
  whole_repeated inner scopes flow parallel found (Construct d s) known agrees formed w = tt
  whole_repeated inner scopes flow parallel found (StandAlone d) known agrees formed w = tt
  whole_repeated inner scopes flow parallel found (Sections d left parts right) known agrees formed w = tt

  pub whole_items : (around : Around) (scopes : Scopes) (flow : Flow) (parallel : Option ℕ) (ss : StatementsTree)
      → Knows around scopes → Agrees around flow → AreStatements ss
      → statements_breaches scopes flow ss ≡ [] → IfSome (resolved_statements scopes parallel ss) (AreWholeItems around)
  whole_items around scopes flow parallel NoStatements h f formed w = tt
  whole_items around scopes flow parallel (Statement s rest) h f formed w =
      let own = statement_breaches scopes flow s in
      let others = statements_breaches (after_statement scopes s) flow rest in
      if_then (IsGoodStatement around scopes s) (AreWholeItems around) (resolved_statement scopes parallel s) _
      (whole_statement around scopes flow parallel s h f formed.0 (front own others w)) (λ t ht.
      if_then (AreWholeItems (after_item around t)) (AreWholeItems around)
      (resolved_statements (after_statement scopes s) parallel rest) _
      (whole_items (after_item around t) (after_statement scopes s) flow parallel rest ht.1
      (agrees_item around flow t f) formed.1 (back own others w)) (λ ts hts. (ht.0, hts)))

  -- the parts of `sections`, each in the scopes of the construct
  whole_parts : (around : Around) (scopes : Scopes) (flow : Flow) (parallel : Option ℕ) (before : ℕ)
      (parts : PartsTree) → Knows around scopes → Agrees around flow → HaveItems parts
      → parts_breaches scopes flow before parts ≡ [] → IfSome (resolved_parts scopes parallel parts)
      (AreWholeParts around)
  whole_parts around scopes flow parallel before NoParts h f formed w = tt
  whole_parts around scopes flow parallel before (Part section items rest) h f formed w =
      let many = section_breaches before section in
      let own = statements_breaches (inside scopes) flow items in
      let others = parts_breaches scopes flow (before + 1) rest in
      if_then (λ ss. HasItem ss × AreWholeItems around ss) (AreWholeParts around)
      (resolved_statements (inside scopes) parallel items) _
      (if_both HasItem (AreWholeItems around) (resolved_statements (inside scopes) parallel items)
      (some_item (inside scopes) parallel items formed.0)
      (whole_items around (inside scopes) flow parallel items (known_inside around.globals around.functions
      around.locals scopes h) f formed.1 (back many own (front (many ++ own) others w)))) (λ ss hss.
      if_then (AreWholeParts around) (AreWholeParts around) (resolved_parts scopes parallel rest) _
      (whole_parts around scopes flow parallel (before + 1) rest h f formed.2 (back (many ++ own) others w))
      (λ ps hps. (hss.0, hss.1, hps)))

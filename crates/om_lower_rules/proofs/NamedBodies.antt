-- What the code of statements and bodies names exists.
use Rattle.std.proofs.Common.{◌≡◌, ℕ, ◌+◌, ◌<◌, true, List, [], ◌∷◌, ◌++◌, length, Option, Some, refl, sym, ap, ◌∙◌}
use Rattle.std.proofs.Common.{subst, arith}
use Rattle.std.specs.Prelude.{slice_get, map, nat_eq}
use Rattle.std.specs.List.{flat_map, list_any}
use Rattle.std.specs.Str.{bytes_eq}
use Rattle.std.proofs.lemmas.List.{length-map}
use Rattle.std.proofs.lemmas.Option.{slice_get_within}
use Rattle.om_code.specs.declared.instruction.Instr.TheVariants as i
use Rattle.om_code.specs.declared.instruction.Serial.TheVariants as serials
use Rattle.om_code.specs.declared.raw.Raw.{Raw}
use Rattle.om_code.specs.declared.raw.Slot.{Slot}
use Rattle.om_code.specs.Validity.{IsKnownBody}
use Rattle.om_scope_tree.specs.declared.resolved.Capture.{Capture}
use Rattle.om_scope_tree.specs.declared.resolved.ConstructKind.TheVariants as constructs
use Rattle.om_scope_tree.specs.declared.resolved.RegionKind.TheVariants as kinds
use Rattle.om_scope_tree.specs.Captures.{expression_uses, perhaps_uses, clause_uses, captured_variable}
use Rattle.om_scope_tree.specs.ResolvedTree.{ResolvedExpressionTree, ResolvedDeclaratorTree, ResolvedClauseTree}
use Rattle.om_scope_tree.specs.ResolvedTree.{ResolvedStartTree, StartNothing, StartExpression, StartDeclaration}
use Rattle.om_scope_tree.specs.ResolvedTree.{ResolvedStatementTree, Declaration, Block, Empty, Expression, If, IfElse}
use Rattle.om_scope_tree.specs.ResolvedTree.{While, Do, For, Return, Break, Continue, Region, Loop, Sections}
use Rattle.om_scope_tree.specs.ResolvedTree.{Construct, Update, StandAlone, ResolvedStatementsTree, NoStatements}
use Rattle.om_scope_tree.specs.ResolvedTree.{Statement, ResolvedPartsTree, NoParts, Part, ResolvedFunctionTree}
use Rattle.om_scope_tree.specs.ResolvedTree.{ResolvedTree}
use Rattle.om_scope_tree.specs.Whole.{Around, IsWhole, repeated, after_start, after_item, after_declarators, declared}
use Rattle.om_scope_tree.specs.Whole.{within, iterated, of_parallel, of_task, of_worksharing, of_construct}
use Rattle.om_scope_tree.specs.Whole.{IsWholeStatement, AreWholeItems, AreWholeParts}
use Rattle.om_lower_rules.specs.Bodies.{Numbers, next_body, next_pick, behind, behind_all, BodySite, RegionBody}
use Rattle.om_lower_rules.specs.Bodies.{region_variables, regions, all_regions, parts_regions, bodies_of}
use Rattle.om_lower_rules.specs.Code.{captures_of, given_of}
use Rattle.om_lower_rules.specs.Expressions.{value}
use Rattle.om_lower_rules.specs.Mentions.{format_mention, lock_mention, perhaps_mentioned, start_mentioned, clause_mentioned}
use Rattle.om_lower_rules.specs.Mentions.{loop_mentioned, mentioned, all_mentioned, parts_mentioned, lock_name}
use Rattle.om_lower_rules.specs.Operators.{comparison_of, side_of, update_of}
use Rattle.om_lower_rules.specs.Rows.{Site, Row, ins, part, here, ◌▸◌}
use Rattle.om_lower_rules.specs.Slots.{FirstCopy, slot_of, start_sights, clause_sights, loop_sights, statement_sights}
use Rattle.om_lower_rules.specs.Slots.{statements_sights, parts_sights}
use Rattle.om_lower_rules.specs.Statements.{Jumps, nowhere, in_loop, in_iteration, clause_value, given_copies, lock_number}
use Rattle.om_lower_rules.specs.Statements.{with_place, no_place, assignment_row, statement, statements, parts}
use Rattle.om_lower_rules.proofs.Named.{Named, named_end, named_ins, named_part, number_found, Has, has_front, has_back}
use Rattle.om_lower_rules.proofs.NamedExpressions as expressions
use Rattle.om_lower_rules.proofs.NamedExpressions.{Program}
use Rattle.om_lower_rules.proofs.NamedStatements as heads
use Rattle.om_lower_rules.specs.Positions.{StandsAt, stands_front, stands_back, stands_head, regions_long, all_regions_long}

-- what the code of a body can count on beside that: its program's locks and lists, and the bodies that it makes
pub record Bodies (tree : ResolvedTree) (raw : Raw) (at : Site) (slots : List Slot)
    (f : ResolvedFunctionTree) : Type 0 where
  pub locks : raw.locks ≡ at.locks
  pub picks : at.picks ≡ raw.picks
  pub region : (k : ℕ) (b : BodySite) → slice_get (bodies_of tree) k ≡ Some b → b.function ≡ f → b.outer ≡ at.slots
      → Has nat_eq at.slots (map captured_variable (captures_of b.tree)) → IsKnownBody raw.bodies slots k
      (length (given_of b))

module _ (tree : ResolvedTree) (raw : Raw) (at : Site) (slots : List Slot) (program : Program tree raw at slots)
    (f : ResolvedFunctionTree) (bodies : Bodies tree raw at slots f) where
  abbrev pub Names : Row → Type 0
  Names r = (p q : ℕ) → r p q → Named raw slots at.code p q

  abbrev Slots : List ℕ → Type 0
  Slots xs = Has nat_eq at.slots xs

  abbrev Formats : List (List ℕ) → Type 0
  Formats xs = Has bytes_eq at.formats xs

  abbrev Locks : List (List ℕ) → Type 0
  Locks xs = Has bytes_eq at.locks xs

  -- these bodies stand where numbers tell
  abbrev Stand : Numbers → List BodySite → Type 0
  Stand n some = StandsAt (bodies_of tree) n.bodies some

  abbrev IsHere : Around → Type 0
  IsHere around = (around.globals ≡ tree.globals) × (around.functions ≡ tree.functions)

  slots_front : (xs ys : List ℕ) → Slots (xs ++ ys) → Slots xs
  slots_front xs ys h = has_front nat_eq at.slots xs ys h

  slots_back : (xs ys : List ℕ) → Slots (xs ++ ys) → Slots ys
  slots_back xs ys h = has_back nat_eq at.slots xs ys h

  formats_front : (xs ys : List (List ℕ)) → Formats (xs ++ ys) → Formats xs
  formats_front xs ys h = has_front bytes_eq at.formats xs ys h

  formats_back : (xs ys : List (List ℕ)) → Formats (xs ++ ys) → Formats ys
  formats_back xs ys h = has_back bytes_eq at.formats xs ys h

  locks_front : (xs ys : List (List ℕ)) → Locks (xs ++ ys) → Locks xs
  locks_front xs ys h = has_front bytes_eq at.locks xs ys h

  locks_back : (xs ys : List (List ℕ)) → Locks (xs ++ ys) → Locks ys
  locks_back xs ys h = has_back bytes_eq at.locks xs ys h

  abbrev clause_formats : List ResolvedClauseTree → List (List ℕ)
  clause_formats clauses = flat_map (clause_mentioned format_mention) clauses

  abbrev clause_locks : List ResolvedClauseTree → List (List ℕ)
  clause_locks clauses = flat_map (clause_mentioned lock_mention) clauses

  pub declared_here : (ds : List ResolvedDeclaratorTree) (around : Around) → IsHere around
      → IsHere (after_declarators around ds)
  declared_here [] around g = g
  declared_here (d ∷ ds) around g = declared_here ds (declared around d) g

  start_here : (start : ResolvedStartTree) (around : Around) → IsHere around → IsHere (after_start around start)
  start_here StartNothing around g = g
  start_here (StartExpression e) around g = g
  start_here (StartDeclaration ds) around g = declared_here ds around g

  item_here : (s : ResolvedStatementTree) (around : Around) → IsHere around → IsHere (after_item around s)
  item_here (Declaration first ds) around g = declared_here ds around g
  item_here _ around g = g

  value_named : (l : ℕ) (e : ResolvedExpressionTree) (around : Around) → IsHere around → IsWhole around true e
      → Slots (expression_uses e)
      → Formats (format_mention.in_expression e) → Names (value at l e)
  value_named l e around g w s t = heads.value_named tree raw at slots program e l around g w s t

  lock_known : (name : Option (List ℕ)) → list_any (bytes_eq (lock_name name)) at.locks ≡ true → lock_number at name
      < length raw.locks
  lock_known name e =
      let found = number_found (bytes_eq (lock_name name)) at.locks e in
      omega (arith, slice_get_within at.locks (lock_number at name) found.0 found.1, ap (λ z. length z) bodies.locks)

  -- a region's body can begin with as many values as are loaded for it
  region_known : (k : ℕ) (b : BodySite) (clauses : List ResolvedClauseTree) (captures : List Capture)
      (s : ResolvedStatementTree)
      → slice_get (bodies_of tree) k ≡ Some b → b.function ≡ f → b.outer ≡ at.slots → captures_of b.tree ≡ captures
      → length (given_of b) ≡ length (given_copies clauses captures s)
      → Slots (map captured_variable captures) → IsKnownBody raw.bodies slots k
      (length (given_copies clauses captures s))
  region_known k b clauses captures s is same_function same_outer same_captures long v =
      subst (λ z. IsKnownBody raw.bodies slots k z) long
      (bodies.region k b is same_function same_outer (subst (λ z. Slots (map captured_variable z))
      (sym same_captures) v))

  given_long : (xs : List FirstCopy) (order : List ℕ)
      → length (map (slot_of order) (map (λ (copy : FirstCopy). copy.variable) xs)) ≡ length xs
  given_long xs order =
      length-map (map (λ (copy : FirstCopy). copy.variable) xs) (slot_of order)
      ∙ length-map xs (λ (copy : FirstCopy). copy.variable)

  with_place_names : (places : List ℕ) (row : ℕ → List ℕ → Row) → ((x : ℕ) (xs : List ℕ) → Names (row x xs))
      → Names (with_place places row)
  with_place_names [] row f p q r = absurd r
  with_place_names (x ∷ xs) row f p q r = f x xs p q r

  no_place_names : (places : List ℕ) → Names (no_place places)
  no_place_names [] p q r = named_end r
  no_place_names (x ∷ xs) p q r = absurd r

  assignment_names : (l : ℕ) (s : ResolvedStatementTree) (around : Around) → IsHere around → IsWholeStatement around
      s → Slots (statement_sights s)
      → Formats (mentioned format_mention s) → Names (assignment_row at l s)
  unfolding statement_sights mentioned
  assignment_names l (Expression first e) around g w v t p q r = expressions.effect_names tree raw at slots program
      e l around g.0 g.1 w v t p q r
  assignment_names l _ around g w v t p q r = absurd r

  mutual
    unfolding statement_sights statements_sights parts_sights mentioned all_mentioned parts_mentioned regions
        all_regions parts_regions

    pub statement_names : (s : ResolvedStatementTree) (n : Numbers) (j : Jumps) (around : Around) → IsHere around
        → IsWholeStatement around s
        → Slots (statement_sights s) → Formats (mentioned format_mention s) → Locks (mentioned lock_mention s)
        → Stand n (regions f at.slots n s)
        → Names (statement at n s j)
    statement_names (Declaration first ds) n j around g w v t k b p q r = heads.declarators_names tree raw at slots
        program first.line ds around g w v t p q r
    statement_names (Block first items) n j around g w v t k b p q r = statements_names items n j around g w v t k b
        p q r
    statement_names (Empty first) n j around g w v t k b p q r = named_end r
    statement_names (Expression first e) n j around g w v t k b p q r =
        expressions.effect_names tree raw at slots program e first.line around g.0 g.1 w v t p q r
    statement_names (If first c s) n j around g w v t k b p q r =
        named_part r.1
        (value_named first.line c around g w.0 (slots_front (expression_uses c) (statement_sights s) v)
        (formats_front (format_mention.in_expression c) (mentioned format_mention s) t) p)
        (λ m u. named_ins u tt (λ u. named_part u
        (statement_names s n j around g w.1 (slots_back (expression_uses c) (statement_sights s) v)
        (formats_back (format_mention.in_expression c) (mentioned format_mention s) t) k b (m + 1))
        (λ m u. named_end u.1)))
    statement_names (IfElse first c s e) n j around g w v t k b p q r =
        let vr = slots_back (expression_uses c) (statement_sights s ++ statement_sights e) v in
        let tr = formats_back (format_mention.in_expression c) (mentioned format_mention s
        ++ mentioned format_mention e) t in
        named_part r.2
        (value_named first.line c around g w.0 (slots_front (expression_uses c) (statement_sights s
        ++ statement_sights e) v)
        (formats_front (format_mention.in_expression c) (mentioned format_mention s ++ mentioned format_mention e) t) p)
        (λ m u. named_ins u tt (λ u. named_part u
        (statement_names s n j around g w.1 (slots_front (statement_sights s) (statement_sights e) vr)
        (formats_front (mentioned format_mention s) (mentioned format_mention e) tr)
        (locks_front (mentioned lock_mention s) (mentioned lock_mention e) k)
        (stands_front (bodies_of tree) (regions f at.slots n s) (regions f at.slots (behind n s) e) n.bodies b) (m + 1))
        (λ m u. named_ins u tt (λ u. named_part u.1
        (statement_names e (behind n s) j around g w.2 (slots_back (statement_sights s) (statement_sights e) vr)
        (formats_back (mentioned format_mention s) (mentioned format_mention e) tr)
        (locks_back (mentioned lock_mention s) (mentioned lock_mention e) k)
        (stands_back (bodies_of tree) (regions f at.slots n s) (regions f at.slots (behind n s) e) n.bodies
        (behind n s).bodies (regions_long f s at.slots n) b) (m + 1))
        (λ m u. named_end u.1)))))
    statement_names (While first c s) n j around g w v t k b p q r =
        named_part r.2.1
        (value_named first.line c around g w.0 (slots_front (expression_uses c) (statement_sights s) v)
        (formats_front (format_mention.in_expression c) (mentioned format_mention s) t) p)
        (λ m u. named_ins u tt (λ u. named_part u
        (statement_names s n (in_loop r.1 r.0) (repeated around) g w.1
        (slots_back (expression_uses c) (statement_sights s) v)
        (formats_back (format_mention.in_expression c) (mentioned format_mention s) t) k b (m + 1))
        (λ m u. named_ins u tt (λ u. named_end u.1))))
    statement_names (Do first s c) n j around g w v t k b p q r =
        named_part r.3.1
        (statement_names s n (in_loop r.2 r.1) (repeated around) g w.0
        (slots_front (statement_sights s) (expression_uses c) v)
        (formats_front (mentioned format_mention s) (format_mention.in_expression c) t)
        (locks_front (mentioned lock_mention s) [] k) b p)
        (λ m u. named_part u.1
        (value_named first.line c around g w.1 (slots_back (statement_sights s) (expression_uses c) v)
        (formats_back (mentioned format_mention s) (format_mention.in_expression c) t) m)
        (λ m u. named_ins u tt (λ u. named_ins u tt (λ u. named_end u.1))))
    statement_names (For first start c step s) n j around g w v t k b p q r =
        let after = after_start around start in
        let v1 = slots_back (start_sights start) (perhaps_uses c ++ (perhaps_uses step ++ statement_sights s)) v in
        let v2 = slots_back (perhaps_uses c) (perhaps_uses step ++ statement_sights s) v1 in
        let t1 = formats_back (start_mentioned format_mention start) (perhaps_mentioned format_mention c
        ++ (perhaps_mentioned format_mention step ++ mentioned format_mention s)) t in
        let t2 = formats_back (perhaps_mentioned format_mention c) (perhaps_mentioned format_mention step
        ++ mentioned format_mention s) t1 in
        let k1 = locks_back (start_mentioned lock_mention start) (perhaps_mentioned lock_mention c
        ++ (perhaps_mentioned lock_mention step ++ mentioned lock_mention s)) k in
        let k2 = locks_back (perhaps_mentioned lock_mention c) (perhaps_mentioned lock_mention step
        ++ mentioned lock_mention s) k1 in
        let h = start_here start around g in
        named_part r.3
        (heads.start_names tree raw at slots program first.line start around g w.0
        (slots_front (start_sights start) (perhaps_uses c ++ (perhaps_uses step ++ statement_sights s)) v)
        (formats_front (start_mentioned format_mention start) (perhaps_mentioned format_mention c
        ++ (perhaps_mentioned format_mention step ++ mentioned format_mention s)) t) p)
        (λ m u. named_part u.1
        (heads.test_names tree raw at slots program first.line r.2 c after h w.1
        (slots_front (perhaps_uses c) (perhaps_uses step ++ statement_sights s) v1)
        (formats_front (perhaps_mentioned format_mention c) (perhaps_mentioned format_mention step
        ++ mentioned format_mention s) t1) m)
        (λ m u. named_part u
        (statement_names s n (in_loop r.2 r.1) (repeated after) h w.3
        (slots_back (perhaps_uses step) (statement_sights s) v2)
        (formats_back (perhaps_mentioned format_mention step) (mentioned format_mention s) t2)
        (locks_back (perhaps_mentioned lock_mention step) (mentioned lock_mention s) k2) b m)
        (λ m u. named_part u.1
        (heads.step_names tree raw at slots program first.line step after h w.2
        (slots_front (perhaps_uses step) (statement_sights s) v2)
        (formats_front (perhaps_mentioned format_mention step) (mentioned format_mention s) t2) m)
        (λ m u. named_ins u tt (λ u. named_end u.1)))))
    statement_names (Return first e) n j around g w v t k b p q r = heads.returned_names tree raw at slots program
        first.line at.is_main e around g w.1 v t p q r
    statement_names (Break first) n j around g w v t k b p q r = heads.jump_names tree raw at slots program
        first.line j.over p q r
    statement_names (Continue first) n j around g w v t k b p q r = heads.jump_names tree raw at slots program
        first.line j.next p q r
    statement_names (Region first kinds.Parallel clauses captures s) n j around g w v t k b p q r =
        let copies = given_copies clauses captures s in
        heads.parallel_names tree raw at slots program first.line n.bodies (clause_value clauses) copies
        (λ e is. heads.clause_value_named tree raw at slots program first.line clauses around of_parallel
        clause_uses (λ kind e. refl) g w.0
        (slots_front (flat_map clause_uses clauses) (map captured_variable captures) v)
        (formats_front (clause_formats clauses) (mentioned format_mention s) t) e is)
        (heads.loads_names tree raw at slots program first.line copies (heads.copies_known tree raw at slots program
        clauses captures s around of_parallel g w.0 v))
        (region_known n.bodies (record {
          function = f;
          tree = RegionBody first kinds.Parallel clauses captures s;
          outer = at.slots;
          numbers = next_body n;
        }) clauses captures s
        (stands_head (bodies_of tree) _ (regions f (region_variables clauses s) (next_body n) s) n.bodies b) refl
        refl refl (given_long copies (region_variables clauses s))
        (slots_back (flat_map clause_uses clauses) (map captured_variable captures) v))
        p q r
    statement_names (Region first kinds.Task clauses captures s) n j around g w v t k b p q r =
        let copies = given_copies clauses captures s in
        heads.task_names tree raw at slots program first.line n.bodies copies
        (heads.loads_names tree raw at slots program first.line copies (heads.copies_known tree raw at slots program
        clauses captures s around of_task g w.0 v))
        (region_known n.bodies (record {
          function = f;
          tree = RegionBody first kinds.Task clauses captures s;
          outer = at.slots;
          numbers = next_body n;
        }) clauses captures s
        (stands_head (bodies_of tree) _ (regions f (region_variables clauses s) (next_body n) s) n.bodies b) refl
        refl refl (given_long copies (region_variables clauses s))
        (slots_back (flat_map clause_uses clauses) (map captured_variable captures) v))
        p q r
    statement_names (Loop first clauses nowait l s) n j around g w v t k b p q r =
        let vc = slots_front (flat_map clause_sights clauses) (loop_sights l ++ statement_sights s) v in
        let vl = slots_back (flat_map clause_sights clauses) (loop_sights l ++ statement_sights s) v in
        let ve = slots_front (expression_uses l.from ++ expression_uses l.to) (statement_sights s) vl.1 in
        let tl = formats_back (clause_formats clauses) (loop_mentioned format_mention l ++ mentioned format_mention
        s) t in
        let te = formats_front (loop_mentioned format_mention l) (mentioned format_mention s) tl in
        heads.loop_names tree raw at slots program first.line clauses nowait l
        (λ next. statement at n s (in_iteration next)) (comparison_of l.comparison)
        (value_named l.at.line l.from _ g w.1.from (slots_front (expression_uses l.from) (expression_uses l.to) ve)
        (formats_front (format_mention.in_expression l.from) (format_mention.in_expression l.to) te))
        (value_named l.at.line l.to _ g w.1.to (slots_back (expression_uses l.from) (expression_uses l.to) ve)
        (formats_back (format_mention.in_expression l.from) (format_mention.in_expression l.to) te))
        (heads.slot_known tree raw at slots program l.variable vl.0)
        (heads.starts_names tree raw at slots program first.line clauses around of_worksharing g w.0 vc)
        (heads.reductions_names tree raw at slots program first.line clauses around of_worksharing g w.0
        (heads.region_sights tree raw at slots program clauses vc))
        (λ next. statement_names s n (in_iteration next) (iterated around clauses l) g w.2
        (slots_back (expression_uses l.from ++ expression_uses l.to) (statement_sights s) vl.1)
        (formats_back (loop_mentioned format_mention l) (mentioned format_mention s) tl)
        (locks_back (clause_locks clauses) (mentioned lock_mention s) k) b)
        p q r
    statement_names (Sections first clauses nowait sections) n j around g w v t k b p q r =
        let vc = slots_front (flat_map clause_sights clauses) (parts_sights sections) v in
        named_part r.4 (heads.starts_names tree raw at slots program first.line clauses around of_worksharing g w.0
        vc p) (λ m u.
        named_ins u tt (λ u. named_ins u.1 tt
        (λ u. named_ins u (omega (
          arith,
          slice_get_within at.picks n.picks r.0 r.3,
          ap (λ z. length z)
              bodies.picks,
        )) (λ u.
        named_part u
        (parts_names sections (next_pick n) first.line r.1 r.0 (within around clauses) g w.3
        (slots_back (flat_map clause_sights clauses) (parts_sights sections) v)
        (formats_back (clause_formats clauses) (parts_mentioned format_mention sections) t)
        (locks_back (clause_locks clauses) (parts_mentioned lock_mention sections) k) b (m + 1 + 1 + 1))
        (λ m u. named_part u.1
        (heads.reductions_names tree raw at slots program first.line clauses around of_worksharing g w.0
        (heads.region_sights tree raw at slots program clauses vc) m)
        (λ m u. heads.end_names tree raw at slots program first.line nowait m q u))))))
    statement_names (Construct first (constructs.Single nowait) clauses s) n j around g w v t k b p q r =
        heads.single_names tree raw at slots program first.line nowait clauses (statement at n s nowhere)
        (heads.starts_names tree raw at slots program first.line clauses around
        (of_construct (constructs.Single nowait)) g w.0
        (slots_front (flat_map clause_sights clauses) (statement_sights s) v))
        (statement_names s n nowhere (within around clauses) g w.1 (slots_back (flat_map clause_sights clauses)
        (statement_sights s) v)
        (formats_back (clause_formats clauses) (mentioned format_mention s) t) (locks_back (clause_locks clauses)
        (mentioned lock_mention s) k) b) p q r
    statement_names (Construct first constructs.Masked clauses s) n j around g w v t k b p q r =
        heads.masked_names tree raw at slots program first.line clauses (statement at n s nowhere)
        (heads.filter_names tree raw at slots program first.line (clause_value clauses)
        (λ e is. heads.clause_value_named tree raw at slots program first.line clauses around
        (of_construct constructs.Masked) clause_sights (λ kind e. refl) g w.0
        (slots_front (flat_map clause_sights clauses) (statement_sights s) v)
        (formats_front (clause_formats clauses) (mentioned format_mention s) t) e is))
        (statement_names s n nowhere (within around clauses) g w.1 (slots_back (flat_map clause_sights clauses)
        (statement_sights s) v)
        (formats_back (clause_formats clauses) (mentioned format_mention s) t) (locks_back (clause_locks clauses)
        (mentioned lock_mention s) k) b) p q r
    statement_names (Construct first (constructs.Critical name) clauses s) n j around g w v t k b p q r =
        heads.critical_names tree raw at slots program first.line name (statement at n s nowhere) (lock_known name k.0)
        (statement_names s n nowhere (within around clauses) g w.1 (slots_back (flat_map clause_sights clauses)
        (statement_sights s) v)
        (formats_back (clause_formats clauses) (mentioned format_mention s) t) (locks_back (clause_locks clauses)
        (mentioned lock_mention s) k.1) b) p q r
    statement_names (Construct first (constructs.Atomic access) clauses s) n j around g w v t k b p q r =
        assignment_names first.line s (within around clauses) g w.1 (slots_back (flat_map clause_sights clauses)
        (statement_sights s) v)
        (formats_back (clause_formats clauses) (mentioned format_mention s) t) p q r
    statement_names (Construct first constructs.Taskgroup clauses s) n j around g w v t k b p q r =
        heads.group_names tree raw at slots program first.line (statement at n s nowhere)
        (statement_names s n nowhere (within around clauses) g w.1 (slots_back (flat_map clause_sights clauses)
        (statement_sights s) v)
        (formats_back (clause_formats clauses) (mentioned format_mention s) t) (locks_back (clause_locks clauses)
        (mentioned lock_mention s) k) b) p q r
    statement_names (Update first u) n j around g w v t k b p q r =
        heads.updated_names tree raw at slots program first.line u.variable u.index (update_of u.operator)
        (side_of u.side) u.operand _ g w.target w.operand v t p q r
    statement_names (StandAlone first directive) n j around g w v t k b p q r = heads.alone_names tree raw at slots
        program first.line directive p q r

    pub statements_names : (items : ResolvedStatementsTree) (n : Numbers) (j : Jumps) (around : Around)
        → IsHere around → AreWholeItems around items
        → Slots (statements_sights items) → Formats (all_mentioned format_mention items)
        → Locks (all_mentioned lock_mention items)
        → Stand n (all_regions f at.slots n items) → Names (statements at n items j)
    statements_names NoStatements n j around g w v t k b p q r = named_end r
    statements_names (Statement s rest) n j around g w v t k b p q r =
        named_part r
        (statement_names s n j around g w.0 (slots_front (statement_sights s) (statements_sights rest) v)
        (formats_front (mentioned format_mention s) (all_mentioned format_mention rest) t)
        (locks_front (mentioned lock_mention s) (all_mentioned lock_mention rest) k)
        (stands_front (bodies_of tree) (regions f at.slots n s) (all_regions f at.slots (behind n s) rest) n.bodies
        b) p)
        (λ m r. statements_names rest (behind n s) j (after_item around s) (item_here s around g) w.1
        (slots_back (statement_sights s) (statements_sights rest) v)
        (formats_back (mentioned format_mention s) (all_mentioned format_mention rest) t)
        (locks_back (mentioned lock_mention s) (all_mentioned lock_mention rest) k)
        (stands_back (bodies_of tree) (regions f at.slots n s) (all_regions f at.slots (behind n s) rest) n.bodies
        (behind n s).bodies (regions_long f s at.slots n) b) m q r)

    parts_names : (sections : ResolvedPartsTree) (n : Numbers) (l grab : ℕ) (places : List ℕ) (around : Around)
        → IsHere around → AreWholeParts around sections
        → Slots (parts_sights sections) → Formats (parts_mentioned format_mention sections)
        → Locks (parts_mentioned lock_mention sections)
        → Stand n (parts_regions f at.slots n sections) → Names (parts at n l grab sections places)
    parts_names NoParts n l grab places around g w v t k b p q r = no_place_names places p q r
    parts_names (Part items rest) n l grab places around g w v t k b p q r =
        with_place_names places
        (λ x xs. here x ▸ part (statements at n items nowhere) ▸ ins at l (i.Serial (serials.Jump grab)) ▸ parts at
        (behind_all n items) l grab rest xs)
        (λ x xs p q r. named_part r.1
        (statements_names items n nowhere around g w.1 (slots_front (statements_sights items) (parts_sights rest) v)
        (formats_front (all_mentioned format_mention items) (parts_mentioned format_mention rest) t)
        (locks_front (all_mentioned lock_mention items) (parts_mentioned lock_mention rest) k)
        (stands_front (bodies_of tree) (all_regions f at.slots n items)
        (parts_regions f at.slots (behind_all n items) rest) n.bodies b) p)
        (λ m u. named_ins u tt (λ u.
        parts_names rest (behind_all n items) l grab xs around g w.2 (slots_back (statements_sights items)
        (parts_sights rest) v)
        (formats_back (all_mentioned format_mention items) (parts_mentioned format_mention rest) t)
        (locks_back (all_mentioned lock_mention items) (parts_mentioned lock_mention rest) k)
        (stands_back (bodies_of tree) (all_regions f at.slots n items)
        (parts_regions f at.slots (behind_all n items) rest) n.bodies (behind_all n items).bodies
        (all_regions_long f items at.slots n) b) (m + 1) q u)))
        p q r

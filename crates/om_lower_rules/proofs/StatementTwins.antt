-- Two codes of one statement: they are one, and so are the lists of PICK that they have.
use Rattle.std.proofs.Common.{◌≡◌, ℕ, ◌+◌, ◌<◌, ◌≤◌, List, [], ◌∷◌, length, Some, refl, sym, ap, ◌∙◌, ⊎_elim, arith}
use Rattle.std.specs.Prelude.{slice_get, slice_index_or, ◌++◌}
use Rattle.om_scope_tree.specs.Uses.{is_main_function}
use Rattle.om_lexer.specs.declared.token.Span.{Span}
use Rattle.std.proofs.lemmas.Bool.{cases_lt}
use Rattle.std.proofs.lemmas.Option.{get_or_from_slice_get}
use Rattle.om_code.specs.declared.instruction.Instr.TheVariants as i
use Rattle.om_code.specs.declared.instruction.Serial.TheVariants as serials
use Rattle.om_code.specs.declared.instruction.Sharing.TheVariants as sharings
use Rattle.om_code.specs.declared.raw.Line.{Line}
use Rattle.om_scope_tree.specs.declared.resolved.Capture.{Capture}
use Rattle.om_scope_tree.specs.declared.resolved.ConstructKind.TheVariants as constructs
use Rattle.om_scope_tree.specs.declared.resolved.RegionKind.TheVariants as kinds
use Rattle.om_scope_tree.specs.ResolvedTree.{ResolvedClauseTree, ResolvedStatementTree, Declaration, Block, Empty}
use Rattle.om_scope_tree.specs.ResolvedTree.{Expression, If, IfElse, While, Do, For, Return, Break, Continue, Region}
use Rattle.om_scope_tree.specs.ResolvedTree.{Loop, Sections, Construct, Update, StandAlone, ResolvedStatementsTree}
use Rattle.om_scope_tree.specs.ResolvedTree.{NoStatements, Statement, ResolvedPartsTree, NoParts, Part}
use Rattle.om_scope_tree.specs.ResolvedTree.{ResolvedFunctionTree}
use Rattle.om_lower_rules.specs.Bodies.{Numbers, next_body, next_pick, behind, behind_all, behind_parts, BodySite}
use Rattle.om_lower_rules.specs.Bodies.{RegionBody, variables_of, region_variables, regions, all_regions}
use Rattle.om_lower_rules.specs.Bodies.{parts_regions}
use Rattle.om_lower_rules.specs.Code.{body_row}
use Rattle.om_lower_rules.specs.Expressions.{effect}
use Rattle.om_lower_rules.specs.Operators.{comparison_of}
use Rattle.om_lower_rules.specs.Rows.{Site, Row, ins, part, here, ◌▸◌}
use Rattle.om_lower_rules.specs.Statements.{Jumps, nowhere, in_loop, in_iteration, test, clause_value, given_copies}
use Rattle.om_lower_rules.specs.Statements.{assignment_row, loop_rest, with_place, no_place, statement, statements, parts}
use Rattle.om_lower_rules.proofs.Twins.{Alike, twin_end, twin_jump, twin_pick, twin_within, twin_as, twin_more, twin_free}
use Rattle.om_lower_rules.proofs.Twins.{twin_part, twin_here, twin_closed}
use Rattle.om_lower_rules.proofs.HeadTwins as heads
use Rattle.om_lower_rules.proofs.ExpressionTwins as expressions
use Rattle.om_lower_rules.proofs.ExpressionTwins.{with_code}

-- two tables of lists of PICK have the same lists from this number up to that one
pub record Covers (picks picks' : List (List ℕ)) (a b : ℕ) : Type 0 where
  pub by : (k : ℕ) → a ≤ k → k < b → slice_get picks k ≡ slice_get picks' k

module _ (functions : List ResolvedFunctionTree) (formats locks picks picks' : List (List ℕ)) where
  abbrev pub Covered : ℕ → ℕ → Type 0
  Covered a b = Covers picks picks' a b

  pub covers_none : (a : ℕ) → Covered a a
  covers_none a = record { by = λ k le lt. absurd (omega arith) }

  pub covers_join : (a m b : ℕ) → Covered a m → Covered m b → Covered a b
  covers_join a m b f g = record {
    by = λ k le lt. ⊎_elim (λ (below : k < m). f.by k le below)
        (λ (behind : m ≤ k). g.by k behind lt) (cases_lt k m);
  }

  covers_one : (a : ℕ) → slice_get picks a ≡ slice_get picks' a → Covered a (a + 1)
  covers_one a e = record {
    by = λ k le lt. let at : k ≡ a = omega arith in ap (λ z. slice_get picks z) at ∙ e
        ∙ ap (λ z. slice_get picks' z) (sym at);
  }

  -- `break` and `continue` go to the same places
  abbrev pub Same : Jumps → Jumps → Type 0
  Same j j' = (j.over ≡ j'.over) × (j.next ≡ j'.next)

  -- where a body's code stands, but for the code
  abbrev pub base_of : BodySite → Site
  base_of b = record {
    code = [];
    slots = variables_of b;
    functions = functions;
    formats = formats;
    locks = locks;
    picks = [];
    is_main = is_main_function b.function;
  }

  -- a body has two codes
  pub record HasCodes (b : BodySite) : Type 0 where
    pub code : List Line
    pub code' : List Line
    pub end : ℕ
    pub end' : ℕ
    pub one : body_row (with_code (base_of b) code picks) b.numbers b.function b.tree 0 end
    pub other : body_row (with_code (base_of b) code' picks') b.numbers b.function b.tree 0 end'

  abbrev pub HaveCodes : List BodySite → Type 0
  HaveCodes [] = Unit {0}
  HaveCodes (b ∷ bs) = HasCodes b × HaveCodes bs

  module _ (f : ResolvedFunctionTree) where
    abbrev pub region_base : List ResolvedClauseTree → ResolvedStatementTree → Site
    region_base clauses s = record {
      code = [];
      slots = region_variables clauses s;
      functions = functions;
      formats = formats;
      locks = locks;
      picks = [];
      is_main = is_main_function f;
    }

    pub front : (xs ys : List BodySite) → HaveCodes (xs ++ ys) → HaveCodes xs
    front [] ys h = tt
    front (x ∷ xs) ys h = (h.0, front xs ys h.1)

    pub back : (xs ys : List BodySite) → HaveCodes (xs ++ ys) → HaveCodes ys
    back [] ys h = h
    back (x ∷ xs) ys h = back xs ys h.1

    abbrev pub Twins : List Line → List Line → Type 0 → Type 0 → Row → Row → Type 0
    Twins code code' needs gives r t = (p p' q q' : ℕ) → r p q → t p' q'
        → Alike code code' picks picks' needs gives p q p' q'

    no_place_twin : {N : Type 0} (code code' : List Line) (places places' : List ℕ) → Twins code code' N
        (places ≡ places') (no_place places) (no_place places')
    no_place_twin code code' [] [] p p' q q' r t = twin_as (twin_end r t) (λ g. refl)
    no_place_twin code code' (x ∷ xs) places' p p' q q' r t = absurd r
    no_place_twin code code' [] (y ∷ ys) p p' q q' r t = absurd t

    with_place_twin : {N H : Type 0} (code code' : List Line) (places places' : List ℕ) (row row' : ℕ → List ℕ → Row)
        → ((x y : ℕ) (xs ys : List ℕ) → Twins code code' N ((x ≡ y) × (xs ≡ ys) × H) (row x xs) (row' y ys))
        → Twins code code' N ((places ≡ places') × H) (with_place places row) (with_place places' row')
    with_place_twin code code' [] places' row row' h p p' q q' r t = absurd r
    with_place_twin code code' (x ∷ xs) [] row row' h p p' q q' r t = absurd t
    with_place_twin code code' (x ∷ xs) (y ∷ ys) row row' h p p' q q' r t = twin_as (h x y xs ys p p' q q' r t)
        (λ g. (cc (g.0, g.1), g.2))

    one_list : (list : ℕ) (places places' : List ℕ) → slice_get picks list ≡ Some places
        → slice_get picks' list ≡ Some places' → places ≡ places'
        → slice_index_or picks list [] ≡ slice_index_or picks' list []
    one_list list places places' e e' same = get_or_from_slice_get picks list places [] e ∙ same
        ∙ sym (get_or_from_slice_get picks' list places' [] e')

    -- the bodies of regions given, the lists of a statement, of statements, of parts
    abbrev pub Covers-in : List ℕ → Numbers → ResolvedStatementTree → Type 0
    Covers-in outer n s = HaveCodes (regions f outer n s) → Covered n.picks (behind n s).picks

    abbrev pub Covers-all : List ℕ → Numbers → ResolvedStatementsTree → Type 0
    Covers-all outer n items = HaveCodes (all_regions f outer n items) → Covered n.picks (behind_all n items).picks

    abbrev pub Covers-parts : List ℕ → Numbers → ResolvedPartsTree → Type 0
    Covers-parts outer n sections = HaveCodes (parts_regions f outer n sections) → Covered n.picks
        (behind_parts n sections).picks

    own : {N X : Type 0} {code code' : List Line} {p p' q q' : ℕ} (n : Numbers)
        → Alike code code' picks picks' N (Unit {0}) p q p' q'
        → Alike code code' picks picks' N (X → Covered n.picks n.picks) p q p' q'
    own n a = twin_as a (λ g h. covers_none n.picks)

    assignment_twin : (l : ℕ) (s : ResolvedStatementTree) (n : Numbers) (outer : List ℕ) (base : Site)
        (code code' : List Line)
        → Twins code code' (Unit {0}) (Covers-in outer n s)
        (assignment_row (with_code base code picks) l s) (assignment_row (with_code base code' picks') l s)
    assignment_twin l (Expression first e) n outer base code code' p p' q q' r t = own n
        (twin_free (expressions.effect_twin base code code' picks picks' l e p p' q q' r t))
    assignment_twin l _ n outer base code code' p p' q q' r t = absurd r

    -- the lists of PICK in the body of a `parallel` or a `task`, by those of its statement
    parallel_covers : (first : Span) (clauses : List ResolvedClauseTree) (captures : List Capture)
        (s : ResolvedStatementTree) (n : Numbers) (outer : List ℕ)
        (h : HasCodes (record {
          function = f;
          tree = RegionBody first kinds.Parallel clauses captures s;
          outer = outer;
          numbers = next_body n;
        }))
        → Twins h.code h.code' (Same nowhere nowhere) (Covers-in (region_variables clauses s) (next_body n) s)
        (statement (with_code (region_base clauses s) h.code picks) (next_body n) s nowhere)
        (statement (with_code (region_base clauses s) h.code' picks') (next_body n) s nowhere)
        → HaveCodes (regions f (region_variables clauses s) (next_body n) s) → Covered n.picks
        (behind (next_body n) s).picks
    parallel_covers first clauses captures s n outer h twin inner =
        let r = h.one in let t = h.other in
        let starts = heads.reduction_starts_twin (region_base clauses s) h.code h.code' picks picks' first.line
        clauses 1 1 r.1.0 t.1.0 r.1.1 t.1.1 in
        (twin r.1.0 t.1.0 r.1.2.0 t.1.2.0 r.1.2.1 t.1.2.1).given (starts.same refl) inner

    task_covers : (first : Span) (clauses : List ResolvedClauseTree) (captures : List Capture)
        (s : ResolvedStatementTree) (n : Numbers) (outer : List ℕ)
        (h : HasCodes (record {
          function = f;
          tree = RegionBody first kinds.Task clauses captures s;
          outer = outer;
          numbers = next_body n;
        }))
        → Twins h.code h.code' (Same nowhere nowhere) (Covers-in (region_variables clauses s) (next_body n) s)
        (statement (with_code (region_base clauses s) h.code picks) (next_body n) s nowhere)
        (statement (with_code (region_base clauses s) h.code' picks') (next_body n) s nowhere)
        → HaveCodes (regions f (region_variables clauses s) (next_body n) s) → Covered n.picks
        (behind (next_body n) s).picks
    task_covers first clauses captures s n outer h twin inner =
        let r = h.one in let t = h.other in (twin 0 0 r.0 t.0 r.1 t.1).given refl inner

    mutual
      unfolding regions all_regions parts_regions

      pub statement_twin : (s : ResolvedStatementTree) (n : Numbers) (outer : List ℕ) (base : Site)
          (code code' : List Line) (j j' : Jumps)
          → Twins code code' (Same j j') (Covers-in outer n s)
          (statement (with_code base code picks) n s j) (statement (with_code base code' picks') n s j')
      statement_twin (Declaration first ds) n outer base code code' j j' p p' q q' r t =
          own n (twin_free (heads.declarators_twin base code code' picks picks' first.line ds p p' q q' r t))
      statement_twin (Block first items) n outer base code code' j j' p p' q q' r t = statements_twin items n outer
          base code code' j j' p p' q q' r t
      statement_twin (Empty first) n outer base code code' j j' p p' q q' r t = own n (twin_end r t)
      statement_twin (Expression first e) n outer base code code' j j' p p' q q' r t =
          own n (twin_free (expressions.effect_twin base code code' picks picks' first.line e p p' q q' r t))
      statement_twin (If first c s) n outer base code code' j j' p p' q q' r t =
          twin_closed {L = r.0 ≡ t.0}
          (twin_part r.1 t.1 (expressions.value_twin base code code' picks picks' first.line c p p') (λ m m' r t.
          twin_jump r t tt (λ k. ap (λ x. i.Serial (serials.JumpIfZero x)) k.1) (λ r t.
          twin_within r t (λ k. k.0) (statement_twin s n outer base code code' j j' (m + 1) (m' + 1)) (λ m m' r t.
          twin_here r t twin_end))))
          (λ g. g.1.0) (λ g. g.0)
      statement_twin (IfElse first c s u) n outer base code code' j j' p p' q q' r t =
          twin_closed {L = (r.0 ≡ t.0) × (r.1 ≡ t.1)}
          (twin_part r.2 t.2 (expressions.value_twin base code code' picks picks' first.line c p p') (λ m m' r t.
          twin_jump r t tt (λ k. ap (λ x. i.Serial (serials.JumpIfZero x)) k.1.0) (λ r t.
          twin_within r t (λ k. k.0) (statement_twin s n outer base code code' j j' (m + 1) (m' + 1)) (λ m m' r t.
          twin_jump r t tt (λ k. ap (λ x. i.Serial (serials.Jump x)) k.1.1) (λ r t.
          twin_here r t (λ r t.
          twin_within r t (λ k. k.0) (statement_twin u (behind n s) outer base code code' j j' (m + 1) (m' + 1))
          (λ m m' r t.
          twin_here r t twin_end)))))))
          (λ g. (g.1.0, g.1.1.1.0)) (λ g h. covers_join n.picks (behind n s).picks (behind (behind n s) u).picks
          (g.0 (front (regions f outer n s) (regions f outer (behind n s) u) h))
          (g.1.1.0 (back (regions f outer n s) (regions f outer (behind n s) u) h)))
      statement_twin (While first c s) n outer base code code' j j' p p' q q' r t =
          twin_closed {L = (r.0 ≡ t.0) × (r.1 ≡ t.1)}
          (twin_here r.2 t.2 (λ u v.
          twin_part u v (expressions.value_twin base code code' picks picks' first.line c p p') (λ m m' u v.
          twin_jump u v tt (λ k. ap (λ x. i.Serial (serials.JumpIfZero x)) k.1.1) (λ u v.
          twin_within u v (λ k. (ap Some k.1.1, ap Some k.1.0)) (statement_twin s n outer base code code'
          (in_loop r.1 r.0) (in_loop t.1 t.0) (m + 1) (m' + 1)) (λ m m' u v.
          twin_jump u v tt (λ k. ap (λ x. i.Serial (serials.Jump x)) k.1.0) (λ u v.
          twin_here u v twin_end))))))
          (λ g. (g.0, g.1.1.0)) (λ g. g.1.0)
      statement_twin (Do first s c) n outer base code code' j j' p p' q q' r t =
          twin_closed {L = (r.0 ≡ t.0) × (r.1 ≡ t.1) × (r.2 ≡ t.2)}
          (twin_here r.3 t.3 (λ u v.
          twin_within u v (λ k. (ap Some k.1.2, ap Some k.1.1)) (statement_twin s n outer base code code'
          (in_loop r.2 r.1) (in_loop t.2 t.1) p p') (λ m m' u v.
          twin_here u v (λ u v.
          twin_part u v (expressions.value_twin base code code' picks picks' first.line c m m') (λ m m' u v.
          twin_jump u v tt (λ k. ap (λ x. i.Serial (serials.JumpIfZero x)) k.1.2) (λ u v.
          twin_jump u v tt (λ k. ap (λ x. i.Serial (serials.Jump x)) k.1.0) (λ u v.
          twin_here u v twin_end)))))))
          (λ g. (g.0, g.1.1.0, g.1.1.1.0)) (λ g. g.1.0)
      statement_twin (For first begin c step s) n outer base code code' j j' p p' q q' r t =
          twin_closed {L = (r.0 ≡ t.0) × (r.1 ≡ t.1) × (r.2 ≡ t.2)}
          (twin_part r.3 t.3 (heads.start_twin base code code' picks picks' first.line begin p p') (λ m m' u v.
          twin_here u v (λ u v.
          twin_within u v (λ k. k.1.2)
          (heads.perhaps_twin base code code' picks picks' (test (with_code base code picks) first.line r.2)
          (test (with_code base code' picks') first.line t.2) c
          (heads.test_twin base code code' picks picks' first.line r.2 t.2) m m') (λ m m' u v.
          twin_within u v (λ k. (ap Some k.1.2, ap Some k.1.1)) (statement_twin s n outer base code code'
          (in_loop r.2 r.1) (in_loop t.2 t.1) m m') (λ m m' u v.
          twin_here u v (λ u v.
          twin_part u v
          (heads.perhaps_twin base code code' picks picks' (effect (with_code base code picks) first.line)
          (effect (with_code base code' picks') first.line) step
          (expressions.effect_twin base code code' picks picks' first.line) m m') (λ m m' u v.
          twin_jump u v tt (λ k. ap (λ x. i.Serial (serials.Jump x)) k.1.0) (λ u v.
          twin_here u v twin_end))))))))
          (λ g. (g.0, g.1.1.1.0, g.1.1.1.1.0)) (λ g. g.1.1.0)
      statement_twin (Return first e) n outer base code code' j j' p p' q q' r t =
          own n (twin_free (heads.returned_twin base code code' picks picks' first.line base.is_main e p p' q q' r t))
      statement_twin (Break first) n outer base code code' j j' p p' q q' r t =
          own n (twin_more (heads.jump_twin base code code' picks picks' first.line j.over j'.over p p' q q' r t)
          (λ k. k.0))
      statement_twin (Continue first) n outer base code code' j j' p p' q q' r t =
          own n (twin_more (heads.jump_twin base code code' picks picks' first.line j.next j'.next p p' q q' r t)
          (λ k. k.1))
      statement_twin (Region first kinds.Parallel clauses captures s) n outer base code code' j j' p p' q q' r t =
          twin_as
          (twin_more (heads.parallel_twin base code code' picks picks' first.line n.bodies (clause_value clauses)
          (given_copies clauses captures s) p p' q q' r t) (λ k. tt))
          (λ g h. parallel_covers first clauses captures s n outer h.0
          (statement_twin s (next_body n) (region_variables clauses s) (region_base clauses s) h.0.code h.0.code'
          nowhere nowhere) h.1)
      statement_twin (Region first kinds.Task clauses captures s) n outer base code code' j j' p p' q q' r t =
          twin_as
          (twin_more (heads.task_twin base code code' picks picks' first.line n.bodies
          (given_copies clauses captures s) p p' q q' r t) (λ k. tt))
          (λ g h. task_covers first clauses captures s n outer h.0
          (statement_twin s (next_body n) (region_variables clauses s) (region_base clauses s) h.0.code h.0.code'
          nowhere nowhere) h.1)
      statement_twin (Loop first clauses nowait loop s) n outer base code code' j j' p p' q q' r t =
          twin_more
          (heads.given_twin base code code' picks picks'
          (loop_rest (with_code base code picks) first.line clauses nowait loop
          (λ next. statement (with_code base code picks) n s (in_iteration next)))
          (loop_rest (with_code base code' picks') first.line clauses nowait loop
          (λ next. statement (with_code base code' picks') n s (in_iteration next)))
          (comparison_of loop.comparison)
          (λ comparison. heads.loop_twin base code code' picks picks' first.line clauses nowait loop
          (λ next. statement (with_code base code picks) n s (in_iteration next))
          (λ next. statement (with_code base code' picks') n s (in_iteration next)) comparison
          (λ next next' p p' q q' r t. twin_more (statement_twin s n outer base code code' (in_iteration next)
          (in_iteration next') p p' q q' r t) (λ k. (refl, ap Some k))))
          p p' q q' r t)
          (λ k. tt)
      statement_twin (Sections first clauses nowait sections) n outer base code code' j j' p p' q q' r t =
          twin_closed {L = (r.0 ≡ t.0) × (r.1 ≡ t.1) × (r.2 ≡ t.2)}
          (twin_part r.4 t.4 (heads.starts_twin base code code' picks picks' first.line clauses p p') (λ m m' u v.
          twin_jump u v tt (λ k. ap (λ z. i.Sharing (sharings.Sections (length z))) k.1.0) (λ u v.
          twin_here u v (λ u v.
          twin_jump u v tt (λ k. ap (λ x. i.Sharing (sharings.Grab x)) k.1.2) (λ u v.
          twin_pick u v (λ k. one_list n.picks r.0 t.0 r.3 t.3 k.1.0) (λ u v.
          twin_within u v (λ k. k.1.1)
          (parts_twin sections (next_pick n) outer base code code' first.line r.1 t.1 r.0 t.0 (m + 1 + 1 + 1)
          (m' + 1 + 1 + 1)) (λ m m' u v.
          twin_here u v (λ u v.
          twin_part u v (heads.reductions_twin base code code' picks picks' first.line clauses m m') (λ m m' u v.
          twin_more (heads.end_twin base code code' picks picks' first.line nowait m m' q q' u v) (λ k. tt))))))))))
          (λ g. (g.1.0.0, g.0, g.1.1.0))
          (λ g h. covers_join n.picks (n.picks + 1) (behind_parts (next_pick n) sections).picks
          (covers_one n.picks (r.3 ∙ ap Some g.1.0.0 ∙ sym t.3)) (g.1.0.1 h))
      statement_twin (Construct first (constructs.Single nowait) clauses s) n outer base code code' j j' p p' q q' r t =
          twin_more
          (heads.single_twin base code code' picks picks' first.line nowait clauses
          (statement (with_code base code picks) n s nowhere) (statement (with_code base code' picks') n s nowhere)
          (λ p p' q q' r t. twin_more (statement_twin s n outer base code code' nowhere nowhere p p' q q' r t)
          (λ k. (refl, refl)))
          p p' q q' r t)
          (λ k. tt)
      statement_twin (Construct first constructs.Masked clauses s) n outer base code code' j j' p p' q q' r t =
          twin_more
          (heads.masked_twin base code code' picks picks' first.line clauses
          (statement (with_code base code picks) n s nowhere) (statement (with_code base code' picks') n s nowhere)
          (λ p p' q q' r t. twin_more (statement_twin s n outer base code code' nowhere nowhere p p' q q' r t)
          (λ k. (refl, refl)))
          p p' q q' r t)
          (λ k. tt)
      statement_twin (Construct first (constructs.Critical name) clauses s) n outer base code code' j j' p p' q q' r t =
          twin_more
          (heads.critical_twin base code code' picks picks' first.line name
          (statement (with_code base code picks) n s nowhere) (statement (with_code base code' picks') n s nowhere)
          (λ p p' q q' r t. twin_more (statement_twin s n outer base code code' nowhere nowhere p p' q q' r t)
          (λ k. (refl, refl)))
          p p' q q' r t)
          (λ k. tt)
      statement_twin (Construct first (constructs.Atomic access) clauses s) n outer base code code' j j' p p' q q' r t =
          twin_more (assignment_twin first.line s n outer base code code' p p' q q' r t) (λ k. tt)
      statement_twin (Construct first constructs.Taskgroup clauses s) n outer base code code' j j' p p' q q' r t =
          twin_more
          (heads.group_twin base code code' picks picks' first.line
          (statement (with_code base code picks) n s nowhere) (statement (with_code base code' picks') n s nowhere)
          (λ p p' q q' r t. twin_more (statement_twin s n outer base code code' nowhere nowhere p p' q q' r t)
          (λ k. (refl, refl)))
          p p' q q' r t)
          (λ k. tt)
      statement_twin (Update first u) n outer base code code' j j' p p' q q' r t =
          own n (twin_free (heads.update_twin base code code' picks picks' first.line u p p' q q' r t))
      statement_twin (StandAlone first directive) n outer base code code' j j' p p' q q' r t =
          own n (twin_free (heads.alone_twin base code code' picks picks' first.line directive p p' q q' r t))

      pub statements_twin : (items : ResolvedStatementsTree) (n : Numbers) (outer : List ℕ) (base : Site)
          (code code' : List Line) (j j' : Jumps)
          → Twins code code' (Same j j') (Covers-all outer n items)
          (statements (with_code base code picks) n items j) (statements (with_code base code' picks') n items j')
      statements_twin NoStatements n outer base code code' j j' p p' q q' r t = own n (twin_end r t)
      statements_twin (Statement s rest) n outer base code code' j j' p p' q q' r t =
          twin_as
          (twin_within r t (λ k. k) (statement_twin s n outer base code code' j j' p p') (λ m m' r t.
          statements_twin rest (behind n s) outer base code code' j j' m m' q q' r t))
          (λ g h. covers_join n.picks (behind n s).picks (behind_all (behind n s) rest).picks
          (g.0 (front (regions f outer n s) (all_regions f outer (behind n s) rest) h))
          (g.1 (back (regions f outer n s) (all_regions f outer (behind n s) rest) h)))

      pub parts_twin : (sections : ResolvedPartsTree) (n : Numbers) (outer : List ℕ) (base : Site)
          (code code' : List Line) (l grab grab' : ℕ) (places places' : List ℕ)
          → Twins code code' (grab ≡ grab') ((places ≡ places') × Covers-parts outer n sections)
          (parts (with_code base code picks) n l grab sections places) (parts (with_code base code' picks') n l
          grab' sections places')
      parts_twin NoParts n outer base code code' l grab grab' places places' p p' q q' r t =
          twin_as (no_place_twin code code' places places' p p' q q' r t) (λ g. (g, λ h. covers_none n.picks))
      parts_twin (Part items rest) n outer base code code' l grab grab' places places' p p' q q' r t =
          with_place_twin code code' places places'
          (λ x xs. here x ▸ part (statements (with_code base code picks) n items nowhere) ▸ ins
          (with_code base code picks) l (i.Serial (serials.Jump grab))
          ▸ parts (with_code base code picks) (behind_all n items) l grab rest xs)
          (λ x xs. here x ▸ part (statements (with_code base code' picks') n items nowhere) ▸ ins
          (with_code base code' picks') l (i.Serial (serials.Jump grab'))
          ▸ parts (with_code base code' picks') (behind_all n items) l grab' rest xs)
          (λ x y xs ys p p' q q' r t.
          twin_as
          (twin_here r t (λ r t.
          twin_within r t (λ k. (refl, refl)) (statements_twin items n outer base code code' nowhere nowhere p p')
          (λ m m' r t.
          twin_jump r t tt (λ k. ap (λ x. i.Serial (serials.Jump x)) k) (λ r t.
          parts_twin rest (behind_all n items) outer base code code' l grab grab' xs ys (m + 1) (m' + 1) q q' r t))))
          (λ g. (
            g.0,
            g.1.1.0,
            λ h. covers_join n.picks (behind_all n items).picks (behind_parts (behind_all n items) rest).picks
                (g.1.0 (front (all_regions f outer n items) (parts_regions f outer (behind_all n items) rest) h))
                (g.1.1.1 (back (all_regions f outer n items) (parts_regions f outer (behind_all n items) rest) h)),
          )))
          p p' q q' r t

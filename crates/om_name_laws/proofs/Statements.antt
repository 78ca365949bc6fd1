-- Each statement fits: where its scopes sit, its instructions name variables that their names mean.
use Rattle.std.proofs.Common.{◌≡◌, ℕ, ◌+◌, ◌∙◌, List, [], ◌∷◌, ◌++◌}
use Rattle.std.proofs.Common.{refl, ap, subst, arith, flat_map}
use Rattle.om_scope_rules.specs.TreePlaces.{Declared, clause_places, parts_places, start_places, statement_places}
use Rattle.om_scope_rules.specs.TreePlaces.{statements_places}
use Rattle.om_scope_tree.specs.declared.resolved.ConstructKind.TheVariants as constructs
use Rattle.om_scope_tree.specs.declared.resolved.GlobalVariable.{GlobalVariable}
use Rattle.om_scope_tree.specs.declared.resolved.RegionKind.TheVariants as kinds
use Rattle.om_scope_tree.specs.declared.resolved.Variable.{Variable}
use Rattle.om_scope_tree.specs.ResolvedTree.{ResolvedStatementTree, Declaration, Block, Empty}
use Rattle.om_scope_tree.specs.ResolvedTree.{Expression, If, IfElse, While, Do, For, Return, Break, Continue, Region}
use Rattle.om_scope_tree.specs.ResolvedTree.{Loop, Sections, Construct, Update, StandAlone, ResolvedStatementsTree}
use Rattle.om_scope_tree.specs.ResolvedTree.{NoStatements, Statement, ResolvedPartsTree, NoParts, Part}
use Rattle.om_lower_rules.specs.declared.variables.VariableScope.{VariableScope}
use Rattle.om_lower_rules.specs.Bodies.{Numbers, behind, behind_all, next_pick}
use Rattle.om_lower_rules.specs.Expressions.{effect}
use Rattle.om_lower_rules.specs.Operators.{side_of, update_of}
use Rattle.om_lower_rules.specs.Rows.{Site, part, ◌▸◌, perhaps}
use Rattle.om_lower_rules.specs.Scopes.{Found, after, all_scopes, block, both, clause_scope}
use Rattle.om_lower_rules.specs.Scopes.{before, each_scope, instructions}
use Rattle.om_lower_rules.specs.Scopes.{part_scopes, scopes, tested}
use Rattle.om_lower_rules.specs.Slots.{place}
use Rattle.om_lower_rules.specs.Statements.{Jumps, alone_row, assignment_row, clause_value, closes, combine_clause}
use Rattle.om_lower_rules.specs.Statements.{combine_copy, filter_row, given_copies, in_iteration, in_loop}
use Rattle.om_lower_rules.specs.Statements.{load_original}
use Rattle.om_lower_rules.specs.Statements.{loop_rest, nowhere, parallel_row, reductions, starts, task_row, update_row}
use Rattle.om_lower_rules.specs.Statements.{updated, worksharing_end}
use Rattle.om_lower_rules.specs.Statements as rows
use Rattle.om_name_laws.specs.Sees.{Known, EachUse, EachUseIfAny}
use Rattle.om_name_laws.specs.Sees.{IsSeen, ItemsSee, PartsSee, StatementSees, after_item}
use Rattle.om_name_laws.specs.Sees.{after_start, known_scalar, with_copies}
use Rattle.om_name_laws.proofs.Known.{AreOf, PlacesOf, copies_front, copies_of, declarators_front, declarators_of}
use Rattle.om_name_laws.proofs.Known.{no_copies, places_back, places_front, start_front, start_of}
use Rattle.om_name_laws.proofs.Parts as parts
use Rattle.om_name_laws.proofs.Runs.{effect_ran, effect_size, effect_count, jump_ran, perhaps_effect_ran}
use Rattle.om_name_laws.proofs.Runs.{perhaps_test_ran, perhaps_tested_ran, returned_ran, returned_size}
use Rattle.om_name_laws.proofs.Runs.{test_count, test_ran, tested_ran, value_count}
use Rattle.om_name_laws.proofs.Runs.{value_size}
use Rattle.om_name_laws.proofs.Rows.{reductions_size, end_size, end_ran, closes_ran, alone_size, alone_ran}
use Rattle.om_name_laws.proofs.Rows.{filter_size, filter_ran, update_size, update_ran}
use Rattle.om_name_laws.proofs.Heads as heads
use Rattle.om_name_laws.specs.Sees.{CapturesSee}
use Rattle.om_name_laws.proofs.Rows.{loads_size, parallel_ran, task_ran}

-- ---- what items leave in scope

abbrev pub after_items : List Known → ResolvedStatementsTree → List Known
after_items ks NoStatements = ks
after_items ks (Statement s rest) = after_items (after_item ks s) rest

item_front : (s : ResolvedStatementTree) (ks ls : List Known) → after_item (ks ++ ls) s ≡ after_item ks s ++ ls
item_front (Declaration first ds) ks ls = declarators_front ds ks ls
item_front _ ks ls = refl

item_of : (Q : List ℕ → ℕ → Type 0) (s : ResolvedStatementTree) (ks ls : List Known)
    → PlacesOf Q (statement_places s) → AreOf Q (ks ++ ls) → AreOf Q (after_item ks s ++ ls)
item_of Q (Declaration first ds) ks ls h of = declarators_of Q ds ks ls h of
item_of Q _ ks ls h of = of

pub items_of : (Q : List ℕ → ℕ → Type 0) (items : ResolvedStatementsTree) (ks ls : List Known)
    → PlacesOf Q (statements_places items) → AreOf Q (ks ++ ls) → AreOf Q (after_items ks items ++ ls)
items_of Q NoStatements ks ls h of = of
items_of Q (Statement s rest) ks ls h of =
    items_of Q rest (after_item ks s) ls (places_back Q (statement_places s) (statements_places rest) h)
    (item_of Q s ks ls (places_front Q (statement_places s) (statements_places rest) h) of)

-- ---- statements

module _ (at : Site) (globals : List GlobalVariable) (Q : List ℕ → ℕ → Type 0) (outer : List Known)
    (all : List VariableScope) where
  abbrev pub Seen : List Known → Variable → Type 0
  Seen own = parts.Seen at globals Q outer all own

  abbrev Coding : List Known → (p q : ℕ) → Type 0
  Coding own p q = parts.Coding at globals Q outer all own p q

  abbrev pub Meets : (own out : List Known) → (p q q' : ℕ) → Found → Type 0
  Meets own out p q q' f = parts.Meets at globals Q outer all own out p q q' f

  abbrev pub In : List Known → Type 0
  In own = AreOf Q (own ++ outer)

  mutual
    pub statement_fits : (s : ResolvedStatementTree) (own : List Known) → In own
        → StatementSees (CapturesSee globals) globals (own ++ outer) s → PlacesOf Q (statement_places s) →
        (n : Numbers) (jumps : Jumps)
        (p q q' : ℕ) (f : Found) → rows.statement at n s jumps p q → scopes at s p q' f
        → Meets own (after_item own s) p q q' f
    statement_fits (Declaration first ds) own of u h n jumps p q q' f r s =
        parts.declarators_fit at globals Q outer all ds own of u h first.line p q q' f r s
    statement_fits (Block first items) own of u h n jumps p q q' f r s =
        heads.meets_block at globals Q outer all own (after_items own items) p q q' s.0 f
        (items_fit items own of u h n jumps p q q' s.0 r s.1) s.2
    statement_fits (Empty first) own of u h n jumps p q q' f r s =
        parts.none_here at globals Q outer all own p q q' f r s.0.2 s.1
    statement_fits (Expression first e) own of u h n jumps p q q' f r s =
        heads.leaf at globals Q outer all own of p (effect_size e) q q' f
        (effect_ran at (Seen own) first.line e u p q r)
        (effect_ran at (Seen own) first.line e u p q' s.0.2) s.1
    statement_fits (If first c s) own of u h n jumps p q q' f r t =
        let l = first.line in
        let x = r.1 in
        let m = x.0 in
        let y = x.2.1 in
        let inner : rows.statement at n s jumps (m + 1) q =
        subst (λ z. rows.statement at n s jumps (m + 1) z) y.2.1 y.1 in
        let k = value_size c + 1 in
        let tested_here = test_ran at (Seen own) l r.0 c u.0 p (m + 1) (m, x.1, (x.2.0, refl)) in
        heads.meets_after at globals Q outer all own own p (m + 1) q t.0 q' f (block (scopes at s))
        (heads.ended at globals Q outer all own p k (m + 1) t.0 tested_here
        (tested_ran at (Seen own) l c u.0 p t.0 t.1))
        (heads.ran at globals Q outer all own of p k (m + 1) tested_here) t.2
        (λ q2 g w. heads.meets_block at globals Q outer all own (after_item own s) (m + 1) q q2 w.0 g
        (statement_fits s own of u.1 h n jumps (m + 1) q q2 w.0 inner w.1) w.2)
    statement_fits (IfElse first c s t) own of u h n jumps p q q' f r z =
        let l = first.line in
        let x = r.2 in
        let m = x.0 in
        let y = x.2.1 in
        let m2 = y.0 in
        let v = y.2.1.1 in
        let other : rows.statement at (behind n s) t jumps (m2 + 1) q =
        subst (λ e. rows.statement at (behind n s) t jumps (m2 + 1) e) v.2.1 v.1 in
        let k = value_size c + 1 in
        let tested_here = test_ran at (Seen own) l r.0 c u.0 p (m + 1) (m, x.1, (x.2.0, refl)) in
        let ps = places_front Q (statement_places s) (statement_places t) h in
        let qs = places_back Q (statement_places s) (statement_places t) h in
        let rest = after (instructions 1) (block (scopes at t)) in
        heads.meets_after at globals Q outer all own own p (m + 1) q z.0 q' f (both (block (scopes at s)) rest)
        (heads.ended at globals Q outer all own p k (m + 1) z.0 tested_here
        (tested_ran at (Seen own) l c u.0 p z.0 z.1))
        (heads.ran at globals Q outer all own of p k (m + 1) tested_here) z.2
        (λ q2 g w. heads.meets_both at globals Q outer all own own own (m + 1) m2 q w.0 q2 w.1 w.2 g rest
        (heads.meets_block at globals Q outer all own (after_item own s) (m + 1) m2 w.0 w.3.0 w.1
        (statement_fits s own of u.1 ps n jumps (m + 1) m2 w.0 w.3.0 y.1 w.3.1) w.3.2)
        w.4
        (λ q3 g3 w3. heads.meets_after at globals Q outer all own own m2 (m2 + 1) q w3.0 q3 g3 (block (scopes at t))
        w3.1
        (heads.gap at globals Q outer all own of m2 l _ y.2.0 refl) w3.2
        (λ q4 g4 w4. heads.meets_block at globals Q outer all own (after_item own t) (m2 + 1) q q4 w4.0 g4
        (statement_fits t own of u.2 qs (behind n s) jumps (m2 + 1) q q4 w4.0 other w4.1) w4.2)) w.5)
    statement_fits (While first c s) own of u h n jumps p q q' f r t =
        let l = first.line in
        let x = r.2.1 in
        let m = x.0 in
        let y = x.2.1 in
        let m2 = y.0 in
        let last = y.2.1.1 in
        let k = value_size c + 1 in
        let tested_here = test_ran at (Seen own) l r.1 c u.0 p (m + 1) (m, x.1, (x.2.0, refl)) in
        heads.meets_after at globals Q outer all own own p (m + 1) q t.0 q' f
        (before (block (scopes at s)) (instructions 1))
        (heads.ended at globals Q outer all own p k (m + 1) t.0 tested_here
        (tested_ran at (Seen own) l c u.0 p t.0 t.1))
        (heads.ran at globals Q outer all own of p k (m + 1) tested_here) t.2
        (λ q2 g w. heads.meets_before at globals Q outer all own own (m + 1) m2 q w.0 q2 g (instructions 1)
        (heads.meets_block at globals Q outer all own (after_item own s) (m + 1) m2 w.0 w.1.0 g
        (statement_fits s own of u.1 h n (in_loop r.1 r.0) (m + 1) m2 w.0 w.1.0 y.1 w.1.1) w.1.2) w.2
        (λ q3 e. e ∙ last) (subst (λ e. Coding own m2 e) last
        (heads.gap at globals Q outer all own of m2 l _ y.2.0 refl)))
    statement_fits (Do first s c) own of u h n jumps p q q' f r t =
        let l = first.line in
        let x = r.3.1 in
        let m = x.0 in
        let y = x.2.1 in
        let m2 = y.0 in
        let last = y.2.1.1.1 in
        let k = value_size c + 1 in
        let tested_here = test_ran at (Seen own) l r.2 c u.1 m (m2 + 1) (m2, y.1, (y.2.0, refl)) in
        heads.meets_before at globals Q outer all own own p m q t.0 q' f (part (tested at l c) ▸ instructions 1)
        (heads.meets_block at globals Q outer all own (after_item own s) p m t.0 t.1.0 f
        (statement_fits s own of u.0 h n (in_loop r.2 r.1) p m t.0 t.1.0 x.1 t.1.1) t.1.2) t.2
        (λ q3 w. w.2 ∙ ap (λ e. e + 1) (heads.ended at globals Q outer all own m k (m2 + 1) w.0 tested_here
        (tested_ran at (Seen own) l c u.1 m w.0 w.1)) ∙ last)
        (heads.both_codes at globals Q outer all own m (m2 + 1) q
        (heads.ran at globals Q outer all own of m k (m2 + 1) tested_here)
        (subst (λ e. Coding own (m2 + 1) e) last (heads.gap at globals Q outer all own of (m2 + 1) l _ y.2.1.0 refl)))
    statement_fits (For first start c step s) own of u h n jumps p q q' f r t =
        let l = first.line in
        let x = r.3 in
        let m = x.0 in
        let y = x.2.1 in
        let m2 = y.0 in
        let z = y.2 in
        let m3 = z.0 in
        let v = z.2.1 in
        let m4 = v.0 in
        let last = v.2.1.1 in
        let in_for = after_start own start in
        let same = start_front start own outer in
        let of_for = start_of Q start own outer (places_front Q (start_places start) (statement_places s) h) of in
        let seen_c = subst (λ e. EachUseIfAny (IsSeen globals e) c) same u.1 in
        let seen_step = subst (λ e. EachUseIfAny (IsSeen globals e) step) same u.2 in
        let seen_s = subst (λ e. StatementSees (CapturesSee globals) globals e s) same u.3 in
        let inner_places = places_back Q (start_places start) (statement_places s) h in
        let test_here = perhaps_test_ran at (Seen in_for) l r.2 c seen_c m m2 y.1 in
        let step_here = perhaps_effect_ran at (Seen in_for) l step seen_step m3 m4 v.1 in
        let rest = before (block (scopes at s)) (part (perhaps (effect at l) step) ▸ instructions 1) in
        let b = t.1 in
        heads.meets_block at globals Q outer all own in_for p q q' t.0 f
        (heads.meets_both at globals Q outer all own in_for in_for p m2 q b.0 q' b.1 b.2 t.0 rest
        (heads.meets_before at globals Q outer all own in_for p m m2 b.3.0 b.0 b.1 (perhaps (tested at l) c)
        (parts.start_fit at globals Q outer all start own of u.0 (places_front Q (start_places start)
        (statement_places s) h) l p m b.3.0 b.1 x.1 b.3.1) b.3.2
        (λ q3 w. heads.ended at globals Q outer all in_for m (test_count at (Seen in_for) c) m2 q3 test_here
        (perhaps_tested_ran at (Seen in_for) l c seen_c m q3 w))
        (heads.ran at globals Q outer all in_for of_for m (test_count at (Seen in_for) c) m2 test_here)) b.4
        (λ q2 g w. heads.meets_before at globals Q outer all in_for in_for m2 m3 q w.0 q2 g
        (part (perhaps (effect at l) step) ▸ instructions 1)
        (heads.meets_block at globals Q outer all in_for (after_item in_for s) m2 m3 w.0 w.1.0 g
        (statement_fits s in_for of_for seen_s inner_places n (in_loop r.2 r.1) m2 m3 w.0 w.1.0 z.1 w.1.1) w.1.2) w.2
        (λ q3 w3. w3.2 ∙ ap (λ e. e + 1)
        (heads.ended at globals Q outer all in_for m3 (effect_count at (Seen in_for) step) m4 w3.0 step_here
        (perhaps_effect_ran at (Seen in_for) l step seen_step m3 w3.0 w3.1)) ∙ last)
        (heads.both_codes at globals Q outer all in_for m3 m4 q
        (heads.ran at globals Q outer all in_for of_for m3 (effect_count at (Seen in_for) step) m4 step_here)
        (subst (λ e. Coding in_for m4 e) last (heads.gap at globals Q outer all in_for of_for m4 l _ v.2.0 refl))))
        b.5) t.2
    statement_fits (Return first e) own of u h n jumps p q q' f r s =
        heads.leaf at globals Q outer all own of p (returned_size at (Seen own) e) q q' f
        (returned_ran at (Seen own) first.line at.is_main e u p q r)
        (returned_ran at (Seen own) first.line at.is_main e u p q' s.0.2) s.1
    statement_fits (Break first) own of u h n jumps p q q' f r s =
        heads.leaf at globals Q outer all own of p 1 q q' f (jump_ran at (Seen own) first.line jumps.over p q r)
        (jump_ran at (Seen own) first.line s.0.1.over p q' s.0.2) s.1
    statement_fits (Continue first) own of u h n jumps p q q' f r s =
        heads.leaf at globals Q outer all own of p 1 q q' f (jump_ran at (Seen own) first.line jumps.next p q r)
        (jump_ran at (Seen own) first.line s.0.1.next p q' s.0.2) s.1
    statement_fits (Region first kinds.Parallel cs ts s) own of u h n jumps p q q' f r t =
        let l = first.line in
        let xs = given_copies cs ts s in
        let known = heads.originals at globals Q outer all own cs ts s u.0 u.1 in
        let seen = heads.value_seen at globals Q outer all (own ++ outer) cs u.0 in
        heads.leaf at globals Q outer all own of p
        (value_count at (Seen own) (clause_value cs) + (loads_size at (Seen own) xs + 1)) q q' f
        (parallel_ran at (Seen own) l n.bodies (clause_value cs) xs seen known p q r)
        (parallel_ran at (Seen own) l t.0.0.bodies (clause_value cs) xs seen known p q' t.0.2) t.1
    statement_fits (Region first kinds.Task cs ts s) own of u h n jumps p q q' f r t =
        let l = first.line in
        let xs = given_copies cs ts s in
        let known = heads.originals at globals Q outer all own cs ts s u.0 u.1 in
        heads.leaf at globals Q outer all own of p (loads_size at (Seen own) xs + 1) q q' f
        (task_ran at (Seen own) l n.bodies xs known p q r)
        (task_ran at (Seen own) l t.0.0.bodies xs known p q' t.0.2) t.1
    statement_fits (Loop first cs nowait loop s) own of u h n jumps p q q' f r t =
        let kv = known_scalar loop.variable in
        let mid = with_copies own cs in
        let own_places = places_front Q (flat_map clause_places cs) (Declared loop.variable ∷ statement_places s) h in
        let rest = places_back Q (flat_map clause_places cs) (Declared loop.variable ∷ statement_places s) h in
        let seen = subst (λ e. StatementSees (CapturesSee globals) globals (kv ∷ e) s) (copies_front cs own outer) u.2
        in
        heads.loop_fit at globals Q outer all own of first.line cs nowait loop u.0 u.1 own_places rest.0
        (λ next. rows.statement at n s (in_iteration next)) (scopes at s) (after_item (kv ∷ mid) s)
        (λ next p q q' f r t. statement_fits s (kv ∷ mid) (rest.0, copies_of Q cs own outer own_places of) seen rest.1
        n (in_iteration next) p q q' f r t) p q q' f r t
    statement_fits (Sections first cs nowait sections) own of u h n jumps p q q' f r t =
        let l = first.line in
        let own_places = places_front Q (flat_map clause_places cs) (parts_places sections) h in
        let rest = places_back Q (flat_map clause_places cs) (parts_places sections) h in
        let mid = with_copies own cs in
        let of_mid = copies_of Q cs own outer own_places of in
        let seen = subst (λ e. PartsSee (CapturesSee globals) globals e sections) (copies_front cs own outer) u.1 in
        let x = r.4 in
        let m = x.0 in
        let y = x.2 in
        let z = y.1.1 in
        let v = z.1 in
        let w = v.1 in
        let m2 = w.0 in
        let out = w.2.1 in
        let at_parts = m + 1 + 1 + 1 in
        let b = t.1 in
        let three = heads.both_codes at globals Q outer all mid m (m + 1 + 1) at_parts
        (heads.both_codes at globals Q outer all mid m (m + 1) (m + 1 + 1)
        (heads.gap at globals Q outer all mid of_mid m l _ y.0 refl)
        (heads.gap at globals Q outer all mid of_mid (m + 1) l _ z.0 refl))
        (heads.gap at globals Q outer all mid of_mid (m + 1 + 1) l _ v.0 refl) in
        let closed = closes_ran at (Seen mid) l cs nowait in
        let k = reductions_size at (Seen mid) cs + end_size at (Seen mid) nowait in
        heads.meets_block at globals Q outer all own mid p q q' t.0 f
        (heads.meets_both at globals Q outer all own mid mid p at_parts q b.0 q' b.1 b.2 t.0
        (before (part_scopes at sections) (closes at l cs nowait))
        (heads.meets_before at globals Q outer all own mid p m at_parts b.3.0 b.0 b.1 (instructions 3)
        (heads.clauses_fit at globals Q outer all cs own of u.0 own_places l p m b.3.0 b.1 x.1 b.3.1) b.3.2
        (λ q3 e. omega (arith, e)) three) b.4
        (λ q2 g e. heads.meets_before at globals Q outer all mid mid at_parts m2 q e.0 q2 g (closes at l cs nowait)
        (parts_fit sections mid of_mid seen rest (next_pick n) l r.1 r.0 at_parts m2 e.0 g w.1 e.1) e.2
        (λ q3 e3. heads.ended at globals Q outer all mid m2 k q q3 (closed m2 q out) (closed m2 q3 e3))
        (heads.ran at globals Q outer all mid of_mid m2 k q (closed m2 q out))) b.5) t.2
    statement_fits (Construct first (constructs.Single nowait) cs s) own of u h n jumps p q q' f r t =
        let l = first.line in
        let own_places = places_front Q (flat_map clause_places cs) (statement_places s) h in
        let rest = places_back Q (flat_map clause_places cs) (statement_places s) h in
        let mid = with_copies own cs in
        let of_mid = copies_of Q cs own outer own_places of in
        let seen = subst (λ e. StatementSees (CapturesSee globals) globals e s) (copies_front cs own outer) u.2 in
        let x = r.1.1 in
        let m = x.0 in
        let y = x.2 in
        let m2 = y.0 in
        let out = y.2.1 in
        let b = t.1 in
        let closed = end_ran at (Seen mid) l nowait in
        let k = end_size at (Seen mid) nowait in
        heads.meets_block at globals Q outer all own mid p q q' t.0 f
        (heads.meets_both at globals Q outer all own mid mid p m q b.0 q' b.1 b.2 t.0
        (before (block (scopes at s)) (worksharing_end at l nowait))
        (heads.meets_after at globals Q outer all own mid p (p + 1) m b.3.0 b.0 b.1 (each_scope (clause_scope at l) cs)
        b.3.1
        (heads.gap at globals Q outer all own of p l _ r.1.0 refl) b.3.2
        (λ q2 g e. heads.clauses_fit at globals Q outer all cs own of u.0 own_places l (p + 1) m q2 g x.1 e)) b.4
        (λ q2 g e. heads.meets_before at globals Q outer all mid mid m m2 q e.0 q2 g (worksharing_end at l nowait)
        (heads.meets_block at globals Q outer all mid (after_item mid s) m m2 e.0 e.1.0 g
        (statement_fits s mid of_mid seen rest n nowhere m m2 e.0 e.1.0 y.1 e.1.1) e.1.2) e.2
        (λ q3 e3. heads.ended at globals Q outer all mid m2 k q q3 (closed m2 q out) (closed m2 q3 e3))
        (heads.ran at globals Q outer all mid of_mid m2 k q (closed m2 q out))) b.5) t.2
    statement_fits (Construct first constructs.Masked cs s) own of u h n jumps p q q' f r t =
        let l = first.line in
        let rest = places_back Q (flat_map clause_places cs) (statement_places s) h in
        let seen = subst (λ e. StatementSees (CapturesSee globals) globals e s) (no_copies cs (own ++ outer) u.1) u.2 in
        let seen_value = heads.value_seen at globals Q outer all (own ++ outer) cs u.0 in
        let x = r.1 in
        let m = x.0 in
        let y = x.2.1 in
        let m2 = y.0 in
        let k = filter_size at (Seen own) (clause_value cs) in
        let filtered = filter_ran at (Seen own) l (clause_value cs) seen_value in
        heads.around at globals Q outer all own s (after_item own s)
        (part (filter_row at l (clause_value cs)) ▸ instructions 1) p (m + 1) m2 q q' f
        (heads.both_codes at globals Q outer all own p m (m + 1)
        (heads.ran at globals Q outer all own of p k m (filtered p m x.1))
        (heads.gap at globals Q outer all own of m l _ x.2.0 refl))
        (λ m' e. e.2 ∙ ap (λ z. z + 1)
        (heads.ended at globals Q outer all own p k m e.0 (filtered p m x.1) (filtered p e.0 e.1)))
        (λ q2 g e. statement_fits s own of seen rest n nowhere (m + 1) m2 q2 g y.1 e)
        (heads.gap at globals Q outer all own of m2 l _ y.2.0 refl) y.2.1.1 t
    statement_fits (Construct first (constructs.Critical name) cs s) own of u h n jumps p q q' f r t =
        let l = first.line in
        let rest = places_back Q (flat_map clause_places cs) (statement_places s) h in
        let seen = subst (λ e. StatementSees (CapturesSee globals) globals e s) (no_copies cs (own ++ outer) u.1) u.2 in
        let y = r.1.1 in
        let m2 = y.0 in
        heads.around at globals Q outer all own s (after_item own s) (instructions 2) p (p + 1 + 1) m2 q q' f
        (heads.both_codes at globals Q outer all own p (p + 1) (p + 1 + 1)
        (heads.gap at globals Q outer all own of p l _ r.0 refl)
        (heads.gap at globals Q outer all own of (p + 1) l _ r.1.0 refl))
        (λ m' e. omega (arith, e))
        (λ q2 g e. statement_fits s own of seen rest n nowhere (p + 1 + 1) m2 q2 g y.1 e)
        (heads.gap at globals Q outer all own of m2 l _ y.2.0 refl) y.2.1 t
    statement_fits (Construct first (constructs.Atomic access) cs (Expression second e)) own of u h n jumps p q q' f r
        s =
        let l = first.line in
        let seen = subst (λ z. EachUse (IsSeen globals z) e) (no_copies cs (own ++ outer) u.1) u.2 in
        heads.leaf at globals Q outer all own of p (effect_size e) q q' f (effect_ran at (Seen own) l e seen p q r)
        (effect_ran at (Seen own) l e seen p q' s.0) s.1
    statement_fits (Construct first (constructs.Atomic access) cs _) own of u h n jumps p q q' f r s = absurd r
    statement_fits (Construct first constructs.Taskgroup cs s) own of u h n jumps p q q' f r t =
        let l = first.line in
        let rest = places_back Q (flat_map clause_places cs) (statement_places s) h in
        let seen = subst (λ e. StatementSees (CapturesSee globals) globals e s) (no_copies cs (own ++ outer) u.1) u.2 in
        let y = r.1 in
        let m2 = y.0 in
        heads.around at globals Q outer all own s (after_item own s) (instructions 1) p (p + 1) m2 q q' f
        (heads.gap at globals Q outer all own of p l _ r.0 refl)
        (λ m' e. e) (λ q2 g e. statement_fits s own of seen rest n nowhere (p + 1) m2 q2 g y.1 e)
        (heads.gap at globals Q outer all own of m2 l _ y.2.0 refl) y.2.1 t
    statement_fits (Update first x) own of u h n jumps p q q' f r s =
        let run = update_ran at (Seen own) first.line x.variable x.index (update_of x.operator) (side_of x.side)
        x.operand
        u.0 u.1 u.2 in
        heads.leaf at globals Q outer all own of p (update_size at (Seen own) x.index x.operand) q q' f (run p q r)
        (run p q' s.0.2) s.1
    statement_fits (StandAlone first d) own of u h n jumps p q q' f r s =
        heads.leaf at globals Q outer all own of p (alone_size at (Seen own) d) q q' f
        (alone_ran at (Seen own) first.line d p q r)
        (alone_ran at (Seen own) first.line d p q' s.0.2) s.1

    -- with what they leave in scope
    pub items_fit : (items : ResolvedStatementsTree) (own : List Known) → In own
        → ItemsSee (CapturesSee globals) globals (own ++ outer) items → PlacesOf Q (statements_places items) →
        (n : Numbers) (jumps : Jumps)
        (p q q' : ℕ) (f : Found) → rows.statements at n items jumps p q → all_scopes at items p q' f
        → Meets own (after_items own items) p q q' f
    items_fit NoStatements own of u h n jumps p q q' f r s =
        parts.none_here at globals Q outer all own p q q' f r s.0 s.1
    items_fit (Statement s rest) own of u h n jumps p q q' f r t =
        let next = after_item own s in
        let ps = places_front Q (statement_places s) (statements_places rest) h in
        let qs = places_back Q (statement_places s) (statements_places rest) h in
        let seen = subst (λ e. ItemsSee (CapturesSee globals) globals e rest) (item_front s own outer) u.1 in
        heads.meets_both at globals Q outer all own next (after_items next rest) p r.0 q t.0 q' t.1 t.2 f
        (all_scopes at rest)
        (statement_fits s own of u.0 ps n jumps p r.0 t.0 t.1 r.1 t.3) t.4
        (λ q2 g e. items_fit rest next (item_of Q s own outer ps of) seen qs (behind n s) jumps r.0 q q2 g r.2 e) t.5

    pub parts_fit : (sections : ResolvedPartsTree) (own : List Known) → In own
        → PartsSee (CapturesSee globals) globals (own ++ outer) sections → PlacesOf Q (parts_places sections) →
        (n : Numbers) (l grab : ℕ)
        (places : List ℕ) (p q q' : ℕ) (f : Found) → rows.parts at n l grab sections places p q
        → part_scopes at sections p q' f → Meets own own p q q' f
    parts_fit NoParts own of u h n l grab [] p q q' f r s =
        parts.none_here at globals Q outer all own p q q' f r s.0 s.1
    parts_fit NoParts own of u h n l grab (place ∷ places) p q q' f r s = absurd r
    parts_fit (Part items rest) own of u h n l grab [] p q q' f r s = absurd r
    parts_fit (Part items rest) own of u h n l grab (place ∷ places) p q q' f r t =
        let x = r.1 in
        let m = x.0 in
        let ps = places_front Q (statements_places items) (parts_places rest) h in
        let rest_places = places_back Q (statements_places items) (parts_places rest) h in
        heads.meets_both at globals Q outer all own own own p (m + 1) q t.0 q' t.1 t.2 f (part_scopes at rest)
        (heads.meets_before at globals Q outer all own own p m (m + 1) t.3.0 t.0 t.1 (instructions 1)
        (heads.meets_block at globals Q outer all own (after_items own items) p m t.3.0 t.3.1.0 t.1
        (items_fit items own of u.0 ps n nowhere p m t.3.0 t.3.1.0 x.1 t.3.1.1) t.3.1.2) t.3.2 (λ q3 e. e)
        (heads.gap at globals Q outer all own of m l _ x.2.0 refl)) t.4
        (λ q2 g e. parts_fit rest own of u.1 rest_places (behind_all n items) l grab places (m + 1) q q2 g x.2.1 e) t.5

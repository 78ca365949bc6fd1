-- What statements begin and end with: bounds of loops, copies, and what stands round a part.
use Rattle.std.proofs.Common.{◌≡◌, ℕ, ◌+◌, ◌<◌, ◌≤◌, ◌∙◌, ◌⊎◌, Bool, true, false, List, [], ◌∷◌, ◌++◌, Option, None}
use Rattle.std.proofs.Common.{Some, inl, inr, refl, sym, ap, subst, arith, bytes_eq, flat_map, slice_get}
use Rattle.std.specs.Prelude.{if◌then◌else◌}
use Rattle.om_code.specs.declared.instruction.Comparison.{Comparison}
use Rattle.om_code.specs.declared.instruction.Instr.{Instr}
use Rattle.om_code.specs.declared.instruction.Instr.TheVariants as i
use Rattle.om_code.specs.declared.instruction.Sharing.TheVariants as sharings
use Rattle.om_scope_rules.specs.TreePlaces.{clause_places}
use Rattle.om_scope_tree.specs.declared.resolved.GlobalVariable.{GlobalVariable}
use Rattle.om_scope_tree.specs.declared.resolved.Variable.{Variable}
use Rattle.om_scope_tree.specs.declared.resolved.Variable.TheVariants as named
use Rattle.om_scope_tree.specs.ResolvedTree.{ResolvedClauseTree, ClauseValue, Shared, Copied}
use Rattle.om_scope_tree.specs.ResolvedTree.{ResolvedLoopTree, ResolvedStatementTree}
use Rattle.om_lower_rules.specs.declared.variables.VariableScope.{VariableScope}
use Rattle.om_lower_rules.specs.Expressions.{value}
use Rattle.om_lower_rules.specs.Operators.{comparison_of}
use Rattle.om_lower_rules.specs.Rows.{Row, Site, given, part, ◌▸◌}
use Rattle.om_lower_rules.specs.Scopes.{Found, Scoping, after, block, both, clause_scope}
use Rattle.om_lower_rules.specs.Scopes.{before, each_scope, ending, instructions, loop_head, nothing, opened_with}
use Rattle.om_lower_rules.specs.Scopes.{opens, plain, scopes}
use Rattle.om_lower_rules.specs.Slots.{slot_of}
use Rattle.om_lower_rules.specs.Statements.{clause_value, closes}
use Rattle.om_lower_rules.specs.Statements.{loop_rest, starts}
use Rattle.om_lower_rules.specs.Bodies.{region_variables}
use Rattle.om_lower_rules.specs.Slots.{capture_first, clause_first, first_copies, taken_first}
use Rattle.om_lower_rules.specs.Statements.{given_copies}
use Rattle.om_scope_tree.specs.declared.resolved.Capture.{Capture}
use Rattle.om_scope_tree.specs.declared.resolved.CopyKind.TheVariants as copies
use Rattle.om_scope_tree.specs.declared.resolved.Taking.{Taking}
use Rattle.om_scope_tree.specs.declared.resolved.Taking.TheVariants as takings
use Rattle.om_name_laws.specs.Sees.{CapturesSee}
use Rattle.om_name_laws.proofs.Rows.{OriginalsOf, originals_by, originals_first}
use Rattle.om_name_laws.specs.NameLaws.{named_place}
use Rattle.om_name_laws.specs.Sees.{Known, ClausesSee, EachUseIfAny}
use Rattle.om_name_laws.specs.Sees.{IsSeen, IsSeenAs, LoopSees}
use Rattle.om_name_laws.specs.Sees.{known_as, known_scalar, with_copies}
use Rattle.om_name_laws.proofs.Known.{AreOf, PlacesOf, copies_of}
use Rattle.om_name_laws.proofs.Known.{seen_first}
use Rattle.om_name_laws.proofs.Meanings.{code_both}
use Rattle.om_name_laws.proofs.Parts as parts
use Rattle.om_name_laws.proofs.Runs.{Runs, Named}
use Rattle.om_name_laws.proofs.Runs.{runs_both, runs_one, this}
use Rattle.om_name_laws.proofs.Runs.{value_ran, value_size}
use Rattle.om_name_laws.proofs.Rows.{reductions_size, end_size, closes_ran}

module _ (at : Site) (globals : List GlobalVariable) (Q : List ℕ → ℕ → Type 0) (outer : List Known)
    (all : List VariableScope) where
  abbrev pub Seen : List Known → Variable → Type 0
  Seen own = parts.Seen at globals Q outer all own

  abbrev pub Ran : List Known → (p n q : ℕ) → Type 0
  Ran own p n q = parts.Ran at globals Q outer all own p n q

  abbrev pub Coding : List Known → (p q : ℕ) → Type 0
  Coding own p q = parts.Coding at globals Q outer all own p q

  abbrev pub Meets : (own out : List Known) → (p q q' : ℕ) → Found → Type 0
  Meets own out p q q' f = parts.Meets at globals Q outer all own out p q q' f

  abbrev pub In : List Known → Type 0
  In own = AreOf Q (own ++ outer)

  pub ran : (own : List Known) → In own → (p n q : ℕ) → Ran own p n q → Coding own p q
  ran own of p n q r = parts.code_ran at globals Q outer all own of p n q r

  pub ended : (own : List Known) (p n q q' : ℕ) → Ran own p n q → Ran own p n q' → q' ≡ q
  ended own p n q q' a b = parts.same_end at globals Q outer all own p n q q' a b

  -- one instruction that names no variable
  pub gap : (own : List Known) → In own → (p l : ℕ) (x : Instr)
      → slice_get at.code p ≡ Some (record { instruction = x; line = l }) → named_place x ≡ None
      → Coding own p (p + 1)
  gap own of p l x e none = parts.code_ins at globals Q outer all own of p l x e none

  pub leaf : (own : List Known) → In own → (p n q q' : ℕ) (f : Found) → Ran own p n q → Ran own p n q' → f ≡ nothing
      → Meets own own p q q' f
  leaf own of p n q q' f a b e = parts.leaf at globals Q outer all own of p n q q' f a b e

  pub plainly : (own : List Known) (p q q' : ℕ) (f : Found) → q' ≡ q → Coding own p q → f ≡ nothing
      → Meets own own p q q' f
  plainly own p q q' f same c e = parts.meets_plain at globals Q outer all own p q q' f same c e

  pub meets_both : (own mid out : List Known) (p m q m' q' : ℕ) (f1 f2 f : Found) (S : Scoping)
      → Meets own mid p m m' f1 → S m' q' f2
      → ((q'' : ℕ) (g : Found) → S m q'' g → Meets mid out m q q'' g) → f ≡ parts.joined f1 f2
      → Meets own out p q q' f
  meets_both own mid out p m q m' q' f1 f2 f S first s k e =
      parts.meets_both at globals Q outer all own mid out p m q m' q' f1 f2 f S first s k e

  pub meets_after : (own out : List Known) (p m q m' q' : ℕ) (f : Found) (S : Scoping)
      → m' ≡ m → Coding own p m → S m' q' f
      → ((q'' : ℕ) (g : Found) → S m q'' g → Meets own out m q q'' g) → Meets own out p q q' f
  meets_after own out p m q m' q' f S same c s k =
      parts.meets_after at globals Q outer all own out p m q m' q' f S same c s k

  pub meets_before : (own out : List Known) (p m q m' q' : ℕ) (f : Found) (R : Row)
      → Meets own out p m m' f → R m' q' → ((q'' : ℕ) → R m q'' → q'' ≡ q) → Coding out m q → Meets own out p q q' f
  meets_before own out p m q m' q' f R first r k c =
      parts.meets_before at globals Q outer all own out p m q m' q' f R first r k c

  pub meets_block : (own out : List Known) (p q q' : ℕ) (f g : Found) → Meets own out p q q' f → g ≡ ending q' f
      → Meets own own p q q' g
  meets_block own out p q q' f g x e = parts.meets_block at globals Q outer all own out p q q' f g x e

  pub both_codes : (own : List Known) (p m q : ℕ) → Coding own p m → Coding own m q → Coding own p q
  both_codes own p m q c d = code_both all (parts.Fine at globals Q outer all) own p m q c d

  pub clauses_fit : (cs : List ResolvedClauseTree) (own : List Known) → In own → ClausesSee globals (own ++ outer) cs
      → PlacesOf Q (flat_map clause_places cs) → (l p q q' : ℕ) (f : Found) → starts at l cs p q
      → each_scope (clause_scope at l) cs p q' f → Meets own (with_copies own cs) p q q' f
  clauses_fit cs own of u h l p q q' f r s =
      parts.clauses_fit at globals Q outer all cs own of
      (parts.copies_named at globals Q outer all cs (own ++ outer) of u) h l p q q' f r s

  -- ---- bounds of loops

  -- these may read the variable of the loop, whose ITER stands behind them
  bound : (own : List Known) → In own → (k : Known) → Q k.name k.at → (p n q g l e : ℕ)
      → Runs at.code (Named at (IsSeen globals (k ∷ own ++ outer))) p n q → q ≤ g
      → slice_get at.code g ≡ Some (record { instruction = i.Sharing (sharings.Iterate (slot_of at.slots k.at) e); line = l })
      → Coding own p q
  bound own of k named_k p n q g l e run le iter =
      let long = run.long in
      record {
        long = omega (arith, long);
        fine = λ s r lo hi line is.
            parts.if_some (named_place line.instruction) (run.by r lo hi line is)
            (λ pl h. (
              h.0,
              h.1,
              meant r h.0 h.2.0 (omega (arith, hi, le)) (bytes_eq h.2.0 k.name) refl h.2.1
                  (parts.plain_here at globals Q outer all own p q r h.2.0 s lo hi),
            ));
      }
    where
      meant : (r : ℕ) (x : Variable) (name : List ℕ) → r < g → (b : Bool) → bytes_eq name k.name ≡ b
          → IsSeenAs globals (k ∷ own ++ outer) name x
          → parts.HereMeans at globals Q outer all own r name
          → parts.IsTold at globals Q outer all r x ⊎ (parts.IsCopied at globals Q outer all r x
          ⊎ parts.IsEarly at globals Q outer all r x)
      meant r (named.Global n) name lt true same seen here =
          let none : Some k ≡ None = ap (λ b. if b then Some k else known_as name (own ++ outer)) (sym same) ∙ seen.1 in
          absurd cc
      meant r (named.Local x) name lt true same seen here =
          let found : Some k ≡ Some seen.0 =
          ap (λ b. if b then Some k else known_as name (own ++ outer)) (sym same) ∙ seen.3 in
          let is : k ≡ seen.0 = cc found in
          let there : k.at ≡ x = ap (λ (z : Known). z.at) is ∙ seen.1 in
          inr (inr (
            k.name,
            subst (λ z. Q k.name z) there named_k,
            g,
            e,
            lt,
            (l, iter ∙ ap (λ z. Some (record { instruction = i.Sharing (sharings.Iterate (slot_of at.slots z) e); line = l })) there),
          ))
      meant r (named.Global n) name lt false same seen here =
          inl (parts.told_seen at globals Q outer all own of r name (named.Global n)
          (seen.0, ap (λ b. if b then Some k else known_as name (own ++ outer)) (sym same) ∙ seen.1) here)
      meant r (named.Local x) name lt false same seen here =
          inl (parts.told_seen at globals Q outer all own of r name (named.Local x)
          (seen.0, seen.1, seen.2, ap (λ b. if b then Some k else known_as name (own ++ outer)) (sym same) ∙ seen.3)
          here)

  -- both of them, in this order
  bounds : (own : List Known) → In own → (loop : ResolvedLoopTree) → Q loop.variable.name loop.variable.at → LoopSees
      globals (own ++ outer) loop
      → (p m q m' q' g l e : ℕ) → value at loop.at.line loop.from p m → value at loop.at.line loop.to m q → q ≤ g
      → slice_get at.code g
      ≡ Some (record { instruction = i.Sharing (sharings.Iterate (slot_of at.slots loop.variable.at) e); line = l })
      → value at loop.at.line loop.from p m'
      → (m' ≡ m) × Coding own p m × Coding own m q × (value at loop.at.line loop.to m q' → q' ≡ q)
  bounds own of loop hv (inl u) p m q m' q' g l e from to le iter from' =
      let line = loop.at.line in
      let one = value_ran at (Seen own) line loop.from u.0 in
      let other = value_ran at (Seen own) line loop.to u.1 in (
        ended own p (value_size loop.from) m m' (one p m from) (one p m' from'),
        ran own of p (value_size loop.from) m (one p m from),
        ran own of m (value_size loop.to) q (other m q to),
        λ to'. ended own m (value_size loop.to) q q' (other m q to) (other m q' to'),
      )
  bounds own of loop hv (inr u) p m q m' q' g l e from to le iter from' =
      let line = loop.at.line in
      let k = known_scalar loop.variable in
      let one = value_ran at (IsSeen globals (k ∷ own ++ outer)) line loop.from u.0 in
      let other = value_ran at (IsSeen globals (k ∷ own ++ outer)) line loop.to u.1 in
      let a = (one p m from).long in
      let b = (one p m' from').long in
      let c = (other m q to).long in (
        omega (arith, a, b),
        bound own of k hv p (value_size loop.from) m g l e (one p m from) (omega (arith, c, le)) iter,
        bound own of k hv m (value_size loop.to) q g l e (other m q to) le iter,
        λ to'. let d = (other m q' to').long in omega (arith, c, d),
      )

  starts_long : (l : ℕ) (cs : List ResolvedClauseTree) (p q : ℕ) → starts at l cs p q → p ≤ q
  starts_long l [] p q r = omega (arith, r)
  starts_long l (ClauseValue kind e ∷ cs) p q r =
      let a = r.1 in let b = starts_long l cs r.0 q r.2 in omega (arith, a, b)
  starts_long l (Shared v ∷ cs) p q r = let a = r.1 in let b = starts_long l cs r.0 q r.2 in omega (arith, a, b)
  starts_long l (Copied kind x copy ∷ cs) p q r =
      let a = parts.copy_long at globals Q outer all l kind x copy p r.0 r.1 in
      let b = starts_long l cs r.0 q r.2 in
      omega (arith, a, b)

  -- what stands behind a place, moved to where the code has it
  closes_end : (own : List Known) (l : ℕ) (cs : List ResolvedClauseTree) (nowait : Bool) (m q q' : ℕ)
      → closes at l cs nowait (m + 1) q → part (instructions 1) (closes at l cs nowait) m q' → q' ≡ q
  closes_end own l cs nowait m q q' r w =
      ended own (m + 1) (reductions_size at (Seen own) cs + end_size at (Seen own) nowait) q q'
      (closes_ran at (Seen own) l cs nowait (m + 1) q r)
      (closes_ran at (Seen own) l cs nowait (m + 1) q' (subst (λ z. closes at l cs nowait z q') w.1 w.2))

  pub loop_fit : (own : List Known) → In own → (l : ℕ) (cs : List ResolvedClauseTree) (nowait : Bool)
      (loop : ResolvedLoopTree) → ClausesSee globals (own ++ outer) cs → LoopSees globals (own ++ outer) loop
      → PlacesOf Q (flat_map clause_places cs) → Q loop.variable.name loop.variable.at
      → (body : ℕ → Row) (S : Scoping) (out : List Known)
      → ((next p q q' : ℕ) (f : Found) → body next p q → S p q' f
      → Meets (known_scalar loop.variable ∷ with_copies own cs) out p q q' f)
      → (p q q' : ℕ) (f : Found) → given (comparison_of loop.comparison) (loop_rest at l cs nowait loop body) p q
      → block (both (loop_head at l cs loop) (before (block S) (part (instructions 1) ▸ closes at l cs nowait))) p q' f
      → Meets own own p q q' f
  loop_fit own of l cs nowait loop u see h hv body S out inner p q q' f r s = by (comparison_of loop.comparison) r
    where
      by : (o : Option Comparison) → given o (loop_rest at l cs nowait loop body) p q → Meets own own p q q' f
      by None r = absurd r
      by (Some comparison) r =
          let v = r.3 in
          let m1 = v.0 in
          let w = v.2 in
          let m2 = w.0 in
          let x = w.2 in
          let m3 = x.0 in
          let y = x.2 in
          let z = y.1.1 in
          let it = z.1.1 in
          let j = it.1 in
          let m4 = j.0 in
          let k = j.2 in
          let mid = with_copies own cs in
          let kv = known_scalar loop.variable in
          let ofmid = copies_of Q cs own outer h of in
          let at_body = m3 + 1 + 1 + 1 in
          let b = s.1 in
          let head = b.3 in
          let inside = head.3 in
          let started = starts_long l cs m2 m3 x.1 in
          let le : m2 ≤ m3 + 1 + 1 = omega (arith, started) in
          let bnd = bounds own of loop hv see p m1 m2 inside.0 m2 (m3 + 1 + 1) l r.0 v.1 w.1 le it.0 inside.1 in
          let first = meets_after own mid p m1 m3 inside.0 head.0 head.1
          (after (value at loop.at.line loop.to) (each_scope (clause_scope at l) cs)) bnd.0 bnd.1 inside.2
          (λ q2 g t. meets_after own mid m1 m2 m3 t.0 q2 g (each_scope (clause_scope at l) cs)
          ((bounds own of loop hv see p m1 m2 inside.0 t.0 (m3 + 1 + 1) l r.0 v.1 w.1 le it.0 inside.1).3 t.1) bnd.2 t.2
          (λ q3 g3 t3. clauses_fit cs own of u h l m2 m3 q3 g3 x.1 t3)) in
          let taken = ran (kv ∷ mid) (hv, ofmid) m3 3 at_body
          (runs_both (runs_one y.0 tt) (runs_both (runs_one z.0 tt) (runs_one it.0
          (this at (Seen (kv ∷ mid)) (named.Local kv.at) (kv.name, seen_first globals kv (mid ++ outer)))))) in
          let begun = meets_both own mid (kv ∷ mid) p m3 at_body head.0 b.0 head.1 head.2 b.1
          (opens None loop.variable (instructions 3)) first head.4
          (λ q2 g t. parts.opened_here at globals Q outer all mid kv m3 at_body q2 (opened_with None m3 loop.variable)
          g refl refl (let e = t.0 in omega (arith, e)) taken t.1) head.5 in
          let ran_out = both_codes (kv ∷ mid) m4 (m4 + 1) q (gap (kv ∷ mid) (hv, ofmid) m4 l _ k.0 refl)
          (ran (kv ∷ mid) (hv, ofmid) (m4 + 1)
          (reductions_size at (Seen (kv ∷ mid)) cs + end_size at (Seen (kv ∷ mid)) nowait) q
          (closes_ran at (Seen (kv ∷ mid)) l cs nowait (m4 + 1) q k.1.1)) in
          meets_block own (kv ∷ mid) p q q' s.0 f
          (meets_both own (kv ∷ mid) (kv ∷ mid) p at_body q b.0 q' b.1 b.2 s.0
          (before (block S) (part (instructions 1) ▸ closes at l cs nowait)) begun b.4
          (λ q2 g t. meets_before (kv ∷ mid) (kv ∷ mid) at_body m4 q t.0 q2 g
          (part (instructions 1) ▸ closes at l cs nowait)
          (meets_block (kv ∷ mid) out at_body m4 t.0 t.1.0 g (inner r.1 at_body m4 t.0 t.1.0 j.1 t.1.1) t.1.2) t.2
          (λ q3 w3. closes_end (kv ∷ mid) l cs nowait m4 q q3 k.1.1 w3) ran_out) b.5) s.2

  -- the value of a clause is seen
  pub value_seen : (ks : List Known) (cs : List ResolvedClauseTree) → ClausesSee globals ks cs
      → EachUseIfAny (IsSeen globals ks) (clause_value cs)
  value_seen ks [] u = tt
  value_seen ks (ClauseValue kind e ∷ cs) u = u.0
  value_seen ks (Shared v ∷ cs) u = value_seen ks cs u.1
  value_seen ks (Copied kind x copy ∷ cs) u = value_seen ks cs u.1

  -- the originals of the copies of a region are seen
  clauses_first : (ks : List Known) (cs : List ResolvedClauseTree) → ClausesSee globals ks cs
      → OriginalsOf at (IsSeen globals ks) (flat_map clause_first cs)
  clauses_first ks [] u = tt
  clauses_first ks (ClauseValue kind e ∷ cs) u = clauses_first ks cs u.1
  clauses_first ks (Shared v ∷ cs) u = clauses_first ks cs u.1
  clauses_first ks (Copied copies.Private x copy ∷ cs) u = clauses_first ks cs u.1
  clauses_first ks (Copied copies.Firstprivate x copy ∷ cs) u = ((copy.name, u.0), clauses_first ks cs u.1)
  clauses_first ks (Copied (copies.Reduction o) x copy ∷ cs) u = clauses_first ks cs u.1

  captures_first : (ks : List Known) (ts : List Capture) → CapturesSee globals ks ts
      → OriginalsOf at (IsSeen globals ks) (flat_map capture_first ts)
  captures_first ks [] u = tt
  captures_first ks (t ∷ ts) u = by t.taking (captures_first ks ts u.1)
    where
      by : (taking : Taking) → OriginalsOf at (IsSeen globals ks) (flat_map capture_first ts)
          → OriginalsOf at (IsSeen globals ks) (taken_first taking t.variable ++ flat_map capture_first ts)
      by takings.Shared rest = rest
      by takings.Firstprivate rest = (u.0, rest)

  pub originals : (own : List Known) (cs : List ResolvedClauseTree) (ts : List Capture) (s : ResolvedStatementTree)
      → ClausesSee globals (own ++ outer) cs → CapturesSee globals (own ++ outer) ts
      → OriginalsOf at (Seen own) (given_copies cs ts s)
  originals own cs ts s u w =
      originals_by at (Seen own) (region_variables cs s) (first_copies cs ts)
      (originals_first at (Seen own) cs ts (clauses_first (own ++ outer) cs u) (captures_first (own ++ outer) ts w))

  -- a construct that makes no copies round a statement: what it begins with, and its last instruction
  pub around : (own : List Known) → (s : ResolvedStatementTree) (out : List Known) (R : Row)
      → (p m k q q' : ℕ) (f : Found)
      → Coding own p m → ((m' : ℕ) → R p m' → m' ≡ m)
      → ((q2 : ℕ) (g : Found) → scopes at s m q2 g → Meets own out m k q2 g)
      → Coding own k (k + 1) → k + 1 ≡ q
      → block (both (plain R) (before (block (scopes at s)) (instructions 1))) p q' f
      → Meets own own p q q' f
  around own s out R p m k q q' f c same inner last e t =
      let b = t.1 in
      meets_block own own p q q' t.0 f
      (meets_both own own own p m q b.0 q' b.1 b.2 t.0 (before (block (scopes at s)) (instructions 1))
      (plainly own p m b.0 b.1 (same b.0 b.3.0) c b.3.1) b.4
      (λ q2 g w. meets_before own own m k q w.0 q2 g (instructions 1)
      (meets_block own out m k w.0 w.1.0 g (inner w.0 w.1.0 w.1.1) w.1.2) w.2
      (λ q3 x. x ∙ e) (subst (λ z. Coding own k z) e last)) b.5) t.2

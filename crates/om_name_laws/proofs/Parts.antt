-- What each instruction of a part shows, and how parts stand one behind the other.
use Rattle.std.proofs.Common.{◌≡◌, ℕ, ◌+◌, ◌<◌, ◌≤◌, ◌∙◌, ◌⊎◌, false, List, [], ◌∷◌, ◌++◌, Option, None}
use Rattle.std.proofs.Common.{Some, IfSome, inl, inr, refl, sym, ap, subst, arith, flat_map, map, slice_get}
use Rattle.std.specs.Option.{option_or}
use Rattle.om_code.specs.declared.instruction.Instr.{Instr}
use Rattle.om_code.specs.declared.instruction.Instr.TheVariants as i
use Rattle.om_code.specs.declared.instruction.Serial.TheVariants as serials
use Rattle.om_code.specs.declared.instruction.Sharing.TheVariants as sharings
use Rattle.om_code.specs.declared.instruction.Place.{Place}
use Rattle.om_code.specs.declared.raw.Line.{Line}
use Rattle.om_scope_rules.specs.TreePlaces.{clause_places, declarator_place, start_places}
use Rattle.om_scope_tree.specs.declared.resolved.CopyKind.{CopyKind}
use Rattle.om_scope_tree.specs.declared.resolved.CopyKind.TheVariants as copies
use Rattle.om_scope_tree.specs.declared.resolved.GlobalVariable.{GlobalVariable}
use Rattle.om_scope_tree.specs.declared.resolved.LocalVariable.{LocalVariable}
use Rattle.om_scope_tree.specs.declared.resolved.Variable.{Variable}
use Rattle.om_scope_tree.specs.declared.resolved.Variable.TheVariants as named
use Rattle.om_scope_tree.specs.ResolvedTree.{ResolvedExpressionTree, ResolvedDeclaratorTree, ResolvedClauseTree}
use Rattle.om_scope_tree.specs.ResolvedTree.{ClauseValue, Shared, Copied, ResolvedStartTree, StartNothing}
use Rattle.om_scope_tree.specs.ResolvedTree.{StartExpression, StartDeclaration}
use Rattle.om_lower_rules.specs.declared.variables.VariableScope.{VariableScope}
use Rattle.om_lower_rules.specs.Rows.{Row, Site, each}
use Rattle.om_lower_rules.specs.Scopes.{Found, Scoping, ◌then◌, clause_scope, declarator_scope, each_scope, ending}
use Rattle.om_lower_rules.specs.Scopes.{nothing, opened_with, opening, start_scopes}
use Rattle.om_lower_rules.specs.Statements as statements
use Rattle.om_lower_rules.specs.Statements.{copy_start, declared, declarator, starts}
use Rattle.om_lower_rules.specs.Slots.{place, slot_of}
use Rattle.om_name_laws.specs.NameLaws.{named_place}
use Rattle.om_name_laws.specs.Sees.{Known, ClausesSee, CopySees, DeclaratorsSee, EachUseIfAny, IsSeen, IsSeenAs}
use Rattle.om_name_laws.specs.Sees.{StartSees, after_declarators, after_start, global_as, known_as, known_of}
use Rattle.om_name_laws.specs.Sees.{known_scalar, with_copies}
use Rattle.om_name_laws.proofs.Known.{AreOf, PlacesOf, found_of, known_both, known_first, seen_first}
use Rattle.om_name_laws.proofs.Meanings as meanings
use Rattle.om_name_laws.proofs.Meanings.{closed_meaning, Sits, sits_plain, Fit, Code, fit_code, fit_both, fit_after}
use Rattle.om_name_laws.proofs.Meanings.{fit_before, fit_block, fit_open, code_both}
use Rattle.om_name_laws.proofs.Runs.{Runs, Named, effect_ran, effect_size, runs_end, runs_ins, runs_one, runs_part}
use Rattle.om_name_laws.proofs.Runs.{this}
use Rattle.om_name_laws.proofs.Runs.{value_ran, value_size}

pub if_some : {A : Type 0} {P R : A → Type 0} (o : Option A) → IfSome o P → ((x : A) → P x → R x) → IfSome o R
if_some None h f = tt
if_some (Some x) h f = f x h

abbrev pub joined : Found → Found → Found
joined f g = f then g

module _ (at : Site) (globals : List GlobalVariable) (Q : List ℕ → ℕ → Type 0) (outer : List Known)
    (all : List VariableScope) where
  -- this instruction stands there
  abbrev pub Stands : ℕ → Instr → Type 0
  Stands k x = (l : ℕ) × (slice_get at.code k ≡ Some (record { instruction = x; line = l }))

  -- At an instruction the name of a variable means it: the innermost scope of this name that holds the instruction is
  -- its own, or none holds it, and the name means the variable outside of the body.
  abbrev pub IsTold : ℕ → Variable → Type 0
  IsTold r (named.Global n) =
      (name : List ℕ) × (global_as name globals ≡ Some n) × (closed_meaning r name all ≡ None)
      × (known_as name outer ≡ None)
  IsTold r (named.Local x) =
      (k : Known) × (k.at ≡ x) × Q k.name k.at × ((closed_meaning r k.name all ≡ Some k)
      ⊎ ((closed_meaning r k.name all ≡ None) × (known_as k.name outer ≡ Some k)))

  -- a variable has this name
  abbrev pub HasName : List ℕ → Variable → Type 0
  HasName name (named.Global n) = global_as name globals ≡ Some n
  HasName name (named.Local x) = Q name x

  -- the value of an original goes into its copy, which the name means already
  abbrev pub IsCopied : ℕ → Variable → Type 0
  IsCopied r x =
      (copy : LocalVariable) × HasName copy.name x × Q copy.name copy.at
      × (closed_meaning r copy.name all ≡ Some (known_scalar copy))
      × Stands (r + 1) (i.Serial (serials.Store (place at (named.Local copy.at)) false))

  -- a bound reads the variable of its own loop
  abbrev pub IsEarly : ℕ → Variable → Type 0
  IsEarly r (named.Global n) = ⊥
  IsEarly r (named.Local x) =
      (name : List ℕ) × Q name x × (g e : ℕ) × (r < g) × Stands g (i.Sharing (sharings.Iterate (slot_of at.slots x) e))

  abbrev pub Meant : ℕ → Place → Type 0
  Meant r pl = (x : Variable) × (pl ≡ place at x) × (IsTold r x ⊎ (IsCopied r x ⊎ IsEarly r x))

  abbrev pub Fine : ℕ → Type 0
  Fine r = (line : Line) → slice_get at.code r ≡ Some line → IfSome (named_place line.instruction) (Meant r)

  -- ---- in scope of these variables of the body

  abbrev pub Seen : List Known → Variable → Type 0
  Seen own x = IsSeen globals (own ++ outer) x

  abbrev pub Ran : List Known → (p n q : ℕ) → Type 0
  Ran own p n q = Runs at.code (Named at (Seen own)) p n q

  abbrev pub Fitting : (own out : List Known) → (p q : ℕ) → Found → Type 0
  Fitting own out p q f = Fit all Fine own out p q f

  abbrev pub Coding : List Known → (p q : ℕ) → Type 0
  Coding own p q = Code all Fine own p q

  pub told_seen : (own : List Known) → AreOf Q (own ++ outer) → (r : ℕ) (name : List ℕ) (x : Variable)
      → IsSeenAs globals (own ++ outer) name x → closed_meaning r name all ≡ known_as name own → IsTold r x
  told_seen own of r name (named.Global n) s m =
      by (known_as name own) refl (sym (known_both name own outer) ∙ s.1)
    where
      by : (o : Option Known) → known_as name own ≡ o → option_or o (known_as name outer) ≡ None
          → IsTold r (named.Global n)
      by None e none = (name, s.0, m ∙ e, none)
      by (Some k) e none = absurd cc
  told_seen own of r name (named.Local x) s m =
      let k = s.0 in
      let found : known_as k.name (own ++ outer) ≡ Some k = ap (λ z. known_as z (own ++ outer)) s.2 ∙ s.3 in
      by (known_as k.name own) refl (sym (known_both k.name own outer) ∙ found)
      (found_of Q k.name (own ++ outer) k of found)
      (ap (λ z. closed_meaning r z all) s.2 ∙ m ∙ ap (λ z. known_as z own) (sym s.2))
    where
      by : (o : Option Known) → known_as s.0.name own ≡ o → option_or o (known_as s.0.name outer) ≡ Some s.0
          → Q s.0.name s.0.at → closed_meaning r s.0.name all ≡ known_as s.0.name own → IsTold r (named.Local x)
      by None e found q here = (s.0, s.1, q, inr (here ∙ e, found))
      by (Some j) e found q here = (s.0, s.1, q, inl (here ∙ e ∙ found))

  -- at this instruction a name means what it means among those
  abbrev pub HereMeans : List Known → ℕ → List ℕ → Type 0
  HereMeans own r name = closed_meaning r name all ≡ known_as name own

  pub plain_here : (own : List Known) (p q r : ℕ) (name : List ℕ) → Sits all own p q nothing → p ≤ r → r < q
      → HereMeans own r name
  plain_here own p q r name s lo hi = sits_plain all own p q r name s lo hi

  pub code_ran : (own : List Known) → AreOf Q (own ++ outer) → (p n q : ℕ) → Ran own p n q → Coding own p q
  code_ran own of p n q run =
      let long = run.long in
      record {
        long = omega (arith, long);
        fine = λ s r lo hi line is.
            if_some (named_place line.instruction) (run.by r lo hi line is)
            (λ pl h. (h.0, h.1, inl (told_seen own of r h.2.0 h.0 h.2.1 (sits_plain all own p q r h.2.0 s lo hi))));
      }

  -- an instruction that names no variable
  pub code_ins : (own : List Known) → AreOf Q (own ++ outer) → (p l : ℕ) (x : Instr)
      → slice_get at.code p ≡ Some (record { instruction = x; line = l }) → named_place x ≡ None
      → Coding own p (p + 1)
  code_ins own of p l x e none =
      code_ran own of p 1 (p + 1) (runs_one e (subst (λ z. IfSome z (Named at (Seen own))) (sym none) tt))

  pub code_none : (own : List Known) → (p : ℕ) → Coding own p p
  code_none own p = record { long = omega arith; fine = λ s r lo hi. absurd (omega (arith, lo, hi)) }

  pub same_end : (own : List Known) (p n q q' : ℕ) → Ran own p n q → Ran own p n q' → q' ≡ q
  same_end own p n q q' a b = let x = a.long in let y = b.long in omega (arith, x, y)

  -- ---- a part by its code, and by its scopes

  abbrev pub Meets : (own out : List Known) → (p q q' : ℕ) → Found → Type 0
  Meets own out p q q' f = (q' ≡ q) × Fitting own out p q f

  pub meets_plain : (own : List Known) (p q q' : ℕ) (f : Found) → q' ≡ q → Coding own p q → f ≡ nothing
      → Meets own own p q q' f
  meets_plain own p q q' f same c e =
      (same, subst (λ z. Fitting own own p q z) (sym e) (fit_code all Fine own p q c))

  pub leaf : (own : List Known) → AreOf Q (own ++ outer) → (p n q q' : ℕ) (f : Found) → Ran own p n q → Ran own p n q'
      → f ≡ nothing → Meets own own p q q' f
  leaf own of p n q q' f a b e = meets_plain own p q q' f (same_end own p n q q' a b) (code_ran own of p n q a) e

  pub meets_both : (own mid out : List Known) (p m q m' q' : ℕ) (f1 f2 f : Found) (S : Scoping)
      → Meets own mid p m m' f1 → S m' q' f2
      → ((q'' : ℕ) (g : Found) → S m q'' g → Meets mid out m q q'' g) → f ≡ (f1 then f2) → Meets own out p q q' f
  meets_both own mid out p m q m' q' f1 f2 f S first s k e =
      let second = k q' f2 (subst (λ z. S z q' f2) first.0 s) in (
        second.0,
        subst (λ z. Fitting own out p q z) (sym e)
            (fit_both all Fine own mid out p m q f1 f2 first.1 second.1),
      )

  pub meets_after : (own out : List Known) (p m q m' q' : ℕ) (f : Found) (S : Scoping)
      → m' ≡ m → Coding own p m → S m' q' f
      → ((q'' : ℕ) (g : Found) → S m q'' g → Meets own out m q q'' g) → Meets own out p q q' f
  meets_after own out p m q m' q' f S same c s k =
      let second = k q' f (subst (λ z. S z q' f) same s) in
      (second.0, fit_after all Fine own out p m q f c second.1)

  pub meets_before : (own out : List Known) (p m q m' q' : ℕ) (f : Found) (R : Row)
      → Meets own out p m m' f → R m' q' → ((q'' : ℕ) → R m q'' → q'' ≡ q) → Coding out m q → Meets own out p q q' f
  meets_before own out p m q m' q' f R first r k c = (
    k q' (subst (λ z. R z q') first.0 r),
    fit_before all Fine own out p m q f first.1 c,
  )

  pub meets_block : (own out : List Known) (p q q' : ℕ) (f g : Found) → Meets own out p q q' f → g ≡ ending q' f
      → Meets own own p q q' g
  meets_block own out p q q' f g x e = (
    x.0,
    subst (λ z. Fitting own own p q z) (sym (e ∙ ap (λ z. ending z f) x.0)) (fit_block all Fine own out p q f x.1),
  )

  -- ---- declarations

  abbrev pub declared_size : Option ResolvedExpressionTree → ℕ
  declared_size None = 1
  declared_size (Some e) = value_size e + 1

  declared_ran : (own : List Known) (l : ℕ) (x : LocalVariable) (e : Option ResolvedExpressionTree)
      → Seen own (named.Local x.at) → EachUseIfAny (Seen own) e → (p q : ℕ) → declared at l x e p q → Ran own p
      (declared_size e) q
  declared_ran own l x None h u p q r = runs_ins r (this at (Seen own) (named.Local x.at) h) runs_end
  declared_ran own l x (Some e) h u p q r =
      runs_part r (value_ran at (Seen own) l e u p)
      (λ m r. runs_ins r (this at (Seen own) (named.Local x.at) h) runs_end)

  -- code with which a scope begins
  pub opened_here : (own : List Known) (k : Known) (p q q' : ℕ) (v : VariableScope) (f : Found)
      → meanings.known_scope v ≡ k → v.from ≡ p → q' ≡ q → Coding (k ∷ own) p q → f ≡ opening (v ∷ [])
      → Meets own (k ∷ own) p q q' f
  opened_here own k p q q' v f is from same c e = (
    same,
    subst (λ z. Fitting own (k ∷ own) p q z) (sym e)
        (subst (λ z. Fitting own (z ∷ own) p q (opening (v ∷ []))) is
        (fit_open all Fine own p q v from (subst (λ z. Coding (z ∷ own) p q) (sym is) c))),
  )

  pub none_here : (own : List Known) (p q q' : ℕ) (f : Found) → p ≡ q → p ≡ q' → f ≡ nothing → Meets own own p q q' f
  none_here own p q q' f r s e =
      meets_plain own p q q' f (sym s ∙ r) (subst (λ z. Coding own p z) r (code_none own p)) e

  pub declarators_fit : (ds : List ResolvedDeclaratorTree) (own : List Known) → AreOf Q (own ++ outer)
      → DeclaratorsSee globals (own ++ outer) ds → PlacesOf Q (map declarator_place ds) → (l p q q' : ℕ) (f : Found)
      → each (declarator at l) ds p q → each_scope (declarator_scope at l) ds p q' f
      → Meets own (after_declarators own ds) p q q' f
  declarators_fit [] own of u h l p q q' f r s = none_here own p q q' f r s.0 s.1
  declarators_fit (d ∷ ds) own of u h l p q q' f r s =
      let k = known_of d in
      let seen : Seen (k ∷ own) (named.Local k.at) = (k.name, seen_first globals k (own ++ outer)) in
      let run = declared_ran (k ∷ own) l d.variable d.initial seen u.0 in
      let n = declared_size d.initial in
      meets_both own (k ∷ own) (after_declarators (k ∷ own) ds) p r.0 q s.0 q' s.1 s.2 f
      (each_scope (declarator_scope at l) ds)
      (opened_here own k p r.0 s.0 (opened_with d.length p d.variable) s.1 refl refl
      (same_end (k ∷ own) p n r.0 s.0 (run p r.0 r.1) (run p s.0 s.3.0))
      (code_ran (k ∷ own) (h.0, of) p n r.0 (run p r.0 r.1)) s.3.1)
      s.4 (λ q'' g t. declarators_fit ds (k ∷ own) (h.0, of) u.1 h.1 l r.0 q q'' g r.2 t) s.5

  pub start_fit : (start : ResolvedStartTree) (own : List Known) → AreOf Q (own ++ outer)
      → StartSees globals (own ++ outer) start → PlacesOf Q (start_places start) → (l p q q' : ℕ) (f : Found)
      → statements.start at l start p q → start_scopes at l start p q' f → Meets own (after_start own start) p q q' f
  start_fit StartNothing own of u h l p q q' f r s = none_here own p q q' f r s.0 s.1
  start_fit (StartExpression e) own of u h l p q q' f r s =
      leaf own of p (effect_size e) q q' f (effect_ran at (Seen own) l e u p q r)
      (effect_ran at (Seen own) l e u p q' s.0) s.1
  start_fit (StartDeclaration ds) own of u h l p q q' f r s = declarators_fit ds own of u h l p q q' f r s

  -- ---- copies

  -- the original of each copy that begins with its value has the name of the copy
  abbrev pub CopyNamed : CopyKind → Variable → LocalVariable → Type 0
  CopyNamed copies.Private x copy = Unit {0}
  CopyNamed copies.Firstprivate x copy = HasName copy.name x
  CopyNamed (copies.Reduction o) x copy = Unit {0}

  abbrev pub CopiesNamed : List ResolvedClauseTree → Type 0
  CopiesNamed [] = Unit {0}
  CopiesNamed (ClauseValue kind e ∷ cs) = CopiesNamed cs
  CopiesNamed (Shared v ∷ cs) = CopiesNamed cs
  CopiesNamed (Copied kind x copy ∷ cs) = CopyNamed kind x copy × CopiesNamed cs

  named_as : (ks : List Known) → AreOf Q ks → (name : List ℕ) (x : Variable) → IsSeenAs globals ks name x
      → HasName name x
  named_as ks of name (named.Global n) s = s.0
  named_as ks of name (named.Local x) s =
      subst (λ z. Q z x) s.2 (subst (λ z. Q s.0.name z) s.1 (found_of Q name ks s.0 of s.3))

  copy_named : (ks : List Known) → AreOf Q ks → (kind : CopyKind) (x : Variable) (copy : LocalVariable)
      → CopySees globals ks kind x copy → CopyNamed kind x copy
  copy_named ks of copies.Private x copy u = tt
  copy_named ks of copies.Firstprivate x copy u = named_as ks of copy.name x u
  copy_named ks of (copies.Reduction o) x copy u = tt

  pub copies_named : (cs : List ResolvedClauseTree) (ks : List Known) → AreOf Q ks → ClausesSee globals ks cs
      → CopiesNamed cs
  copies_named [] ks of u = tt
  copies_named (ClauseValue kind e ∷ cs) ks of u = copies_named cs ks of u.1
  copies_named (Shared v ∷ cs) ks of u = copies_named cs ks of u.1
  copies_named (Copied kind x copy ∷ cs) ks of u = (copy_named ks of kind x copy u.0, copies_named cs ks of u.1)

  -- the load of an original, in front of the store into its copy
  code_copied : (own : List Known) (p l : ℕ) (x : Variable) (copy : LocalVariable) → HasName copy.name x
      → Q copy.name copy.at
      → slice_get at.code p ≡ Some (record { instruction = i.Serial (serials.Load (place at x)); line = l })
      → slice_get at.code (p + 1)
      ≡ Some (record { instruction = i.Serial (serials.Store (place at (named.Local copy.at)) false); line = l })
      → Coding (known_scalar copy ∷ own) p (p + 1)
  code_copied own p l x copy has q load store = record {
    long = omega arith;
    fine = λ s r lo hi line is.
        let here : r ≡ p = omega (arith, lo, hi) in
        let same : record { instruction = i.Serial (serials.Load (place at x)); line = l } ≡ line =
        cc (load, ap (λ z. slice_get at.code z) here, is) in
        subst (λ (z : Line). IfSome (named_place z.instruction) (Meant r)) same (
          x,
          refl,
          inr (inl (
            copy,
            has,
            q,
            sits_plain all (known_scalar copy ∷ own) p (p + 1) r copy.name s lo hi
                ∙ known_first (known_scalar copy) own,
            (l, ap (λ z. slice_get at.code (z + 1)) here ∙ store),
          )),
        );
  }

  abbrev pub copy_size : CopyKind → ℕ
  copy_size copies.Private = 1
  copy_size copies.Firstprivate = 2
  copy_size (copies.Reduction o) = 2

  pub copy_long : (l : ℕ) (kind : CopyKind) (x : Variable) (copy : LocalVariable) (p q : ℕ)
      → copy_start at l kind x copy p q → q ≡ p + copy_size kind
  copy_long l copies.Private x copy p q r = let e : p + 1 ≡ q = r.1 in omega (arith, e)
  copy_long l copies.Firstprivate x copy p q r = let e : p + 1 + 1 ≡ q = r.1.1 in omega (arith, e)
  copy_long l (copies.Reduction o) x copy p q r = let e : p + 1 + 1 ≡ q = r.1.1 in omega (arith, e)

  copy_coded : (own : List Known) → AreOf Q (own ++ outer) → (l : ℕ) (kind : CopyKind) (x : Variable)
      (copy : LocalVariable) → CopyNamed kind x copy → Q copy.name copy.at → (p q : ℕ)
      → copy_start at l kind x copy p q → Coding (known_scalar copy ∷ own) p q
  copy_coded own of l copies.Private x copy has q p end r =
      let k = known_scalar copy in
      code_ran (k ∷ own) (q, of) p 1 end
      (runs_ins r (this at (Seen (k ∷ own)) (named.Local copy.at) (k.name, seen_first globals k (own ++ outer)))
      runs_end)
  copy_coded own of l copies.Firstprivate x copy has q p end r =
      let k = known_scalar copy in
      code_both all Fine (k ∷ own) p (p + 1) end (code_copied own p l x copy has q r.0 r.1.0)
      (code_ran (k ∷ own) (q, of) (p + 1) 1 end
      (runs_ins r.1 (this at (Seen (k ∷ own)) (named.Local copy.at) (k.name, seen_first globals k (own ++ outer)))
      runs_end))
  copy_coded own of l (copies.Reduction o) x copy has q p end r =
      let k = known_scalar copy in
      code_ran (k ∷ own) (q, of) p 2 end
      (runs_ins r tt (λ r. runs_ins r
      (this at (Seen (k ∷ own)) (named.Local copy.at) (k.name, seen_first globals k (own ++ outer))) runs_end))

  pub clauses_fit : (cs : List ResolvedClauseTree) (own : List Known) → AreOf Q (own ++ outer) → CopiesNamed cs
      → PlacesOf Q (flat_map clause_places cs) → (l p q q' : ℕ) (f : Found) → starts at l cs p q
      → each_scope (clause_scope at l) cs p q' f → Meets own (with_copies own cs) p q q' f
  clauses_fit [] own of has h l p q q' f r s = none_here own p q q' f r s.0 s.1
  clauses_fit (ClauseValue kind e ∷ cs) own of has h l p q q' f r s =
      meets_both own own (with_copies own cs) p r.0 q s.0 q' s.1 s.2 f (each_scope (clause_scope at l) cs)
      (none_here own p r.0 s.0 s.1 r.1 s.3.0 s.3.1) s.4
      (λ q'' g t. clauses_fit cs own of has h l r.0 q q'' g r.2 t) s.5
  clauses_fit (Shared v ∷ cs) own of has h l p q q' f r s =
      meets_both own own (with_copies own cs) p r.0 q s.0 q' s.1 s.2 f (each_scope (clause_scope at l) cs)
      (none_here own p r.0 s.0 s.1 r.1 s.3.0 s.3.1) s.4
      (λ q'' g t. clauses_fit cs own of has h l r.0 q q'' g r.2 t) s.5
  clauses_fit (Copied kind x copy ∷ cs) own of has h l p q q' f r s =
      let k = known_scalar copy in
      let long = copy_long l kind x copy p r.0 r.1 in
      let other = copy_long l kind x copy p s.0 s.3.0 in
      meets_both own (k ∷ own) (with_copies (k ∷ own) cs) p r.0 q s.0 q' s.1 s.2 f (each_scope (clause_scope at l) cs)
      (opened_here own k p r.0 s.0 (opened_with None p copy) s.1 refl refl (omega (arith, long, other))
      (copy_coded own of l kind x copy has.0 h.0 p r.0 r.1) s.3.1)
      s.4 (λ q'' g t. clauses_fit cs (k ∷ own) (h.0, of) has.1 h.1 l r.0 q q'' g r.2 t) s.5

-- Races that are noted.
use Rattle.std.proofs.Common.{◌≡◌, refl, sym, ◌∙◌, ap, subst, ℕ, ◌<◌, Bool, true, false, cond, not, nat_eq, nat_lt}
use Rattle.std.proofs.Common.{◌&&◌, ◌||◌, Option, None, Some, is_some, List, [], ◌∷◌, map, arith}
use Rattle.std.proofs.Common.{⊎_elim, ◌⊎◌, inl, inr}
use Rattle.std.specs.Prelude.{Contains}
use Rattle.std.proofs.lemmas.Bool.Decides.{nat_tests, Decides-eqb}
use Rattle.std.proofs.lemmas.List.Elements.{All-contains, Contains-append_right, Contains-append_cases}
use Rattle.std.proofs.lemmas.List.Elements.{Contains-push_cases}
use Rattle.om_code.specs.declared.raw.Raw.{Raw}
use Rattle.om_foot.specs.declared.footprint.Access.{Access}
use Rattle.om_foot.specs.declared.footprint.Mode.{Mode}
use Rattle.om_foot.specs.declared.footprint.Mode.TheVariants as mode
use Rattle.om_foot.specs.declared.object.Obj.{Obj}
use Rattle.om_foot.specs.Footprint.{obj_eq, modes_conflict}
use Rattle.om_foot.specs.Objects.{obj_eq-true, obj_eq-same}
use Rattle.om_foot.specs.Below.{two_true, both_true}
use Rattle.om_state.specs.declared.step.Entry.{Entry}
use Rattle.om_state.specs.declared.step.Label.{Label}
use Rattle.om_state.specs.Rules.{next_state, step_at}
use Rattle.om_state.specs.State.{State}
use Rattle.om_undo.specs.Machines.{MachineView, rules_for, state_in}
use Rattle.om_undo_history.specs.Runs.{label_of}
use Rattle.lab_explore_closed.specs.declared.found.Atomicity.{Atomicity}
use Rattle.lab_explore_closed.specs.declared.found.Atomicity.TheVariants.{Atomic, Plain, Reduction}
use Rattle.lab_explore_closed.specs.declared.found.FoundRace.{FoundRace}
use Rattle.lab_explore_closed.specs.declared.found.Pair.{Pair}
use Rattle.lab_explore_closed.specs.declared.found.Place.{Place}
use Rattle.lab_explore_closed.specs.declared.found.Racer.{Racer}
use Rattle.lab_explore_closed.specs.Endings.{control_at}
use Rattle.lab_explore_closed.specs.Explored.{IsPossibleRace, pair_of_found}
use Rattle.lab_explore_closed.specs.Races.{IsRace, Accesses, is_data, is_atomic, is_combining, are_atomic_together}
use Rattle.lab_explore_closed.specs.Races.{atomicity_of, kind_number, place_at, pair_of}
use Rattle.lab_explore_closed.specs.Races.{pair_at, is_behind, racer_at}
use Rattle.lab_explore_closed.specs.Runs.{Leads, IsEnd}
use Rattle.lab_explore_moves.specs.declared.possible.PossibleStep.{PossibleStep}
use Rattle.lab_explore_moves.specs.Possible.{IsPossible, ArePossible, label_of_possible}
use Rattle.lab_explore_notes.specs.Notes.{AreRaces, Adds, IsOnWay, IsRaceNoted, AreConflictsNoted, AreMeetingsNoted}
use Rattle.lab_explore_notes.specs.Notes.{AreNotedOf, AreAllNoted, can_race, meet, are_racing}

-- more races

pub adds_none : (m : MachineView) (fs : List FoundRace) → AreRaces m.program m.workers fs → Adds m fs fs
adds_none m fs h = record { right = h; keeps = λ k at. at }

pub adds_on : (m : MachineView) (a b c : List FoundRace) → Adds m a b → Adds m b c → Adds m a c
adds_on m a b c f g = record { right = g.right; keeps = λ k at. g.keeps k (f.keeps k at) }

pub race_on : (m : MachineView) (a b : List FoundRace) (l k : Label) (x y : Access) → Adds m a b
    → IsRaceNoted m a l k x y → IsRaceNoted m b l k x y
race_on m a b l k x y adds h race order = adds.keeps (pair_at m.program (state_in m) l k x y) (h race order)

pub conflicts_on : (m : MachineView) (a b : List FoundRace) (l k : Label) (x : Access) (ys : List Access) → Adds m a b
    → AreConflictsNoted m a l k x ys → AreConflictsNoted m b l k x ys
conflicts_on m a b l k x ys adds h y at = race_on m a b l k x y adds (h y at)

pub meetings_on : (m : MachineView) (a b : List FoundRace) (l k : Label) (xs ys : List Access) → Adds m a b
    → AreMeetingsNoted m a l k xs ys → AreMeetingsNoted m b l k xs ys
meetings_on m a b l k xs ys adds h x at = conflicts_on m a b l k x ys adds (h x at)

pub steps_on : (m : MachineView) (a b : List FoundRace) (p : PossibleStep) (qs : List PossibleStep) → Adds m a b
    → AreNotedOf m a p qs → AreNotedOf m b p qs
steps_on m a b p qs adds h q at = meetings_on m a b p.label q.label p.accesses q.accesses adds (h q at)

-- two steps that can't race

pub no_race : (m : MachineView) (p q : PossibleStep) (x y : Access) → can_race p q ≡ false
    → ¬ IsRace m.program m.workers (state_in m) p.label q.label x y
no_race m p q x y h race = go (nat_eq p.label.worker q.label.worker) refl h
  where
    go : (a : Bool) → nat_eq p.label.worker q.label.worker ≡ a → not a ≡ false → ⊥
    go true e f = race.others ((Decides-eqb p.label.worker q.label.worker).0 e)
    go false e f = cc

-- two accesses that race, and two that don't

atomic_at : (m : MachineView) (p q : PossibleStep) (x y : Access) → IsPossible m p → IsPossible m q
    → are_atomic_together p.atomicity x.mode q.atomicity y.mode
    ≡ are_atomic_together (atomicity_of m.program (control_at (state_in m) p.label.worker) p.label.choice) x.mode
    (atomicity_of m.program (control_at (state_in m) q.label.worker) q.label.choice) y.mode
atomic_at m p q x y p_is q_is = λ i. are_atomic_together (p_is.atomicity i) x.mode (q_is.atomicity i) y.mode

pub can_be : (m : MachineView) (p q : PossibleStep) (x y : Access) → IsPossible m p → IsPossible m q
    → can_race p q ≡ true → Contains p.accesses x → Contains q.accesses y → are_racing p x q y ≡ true
    → IsRace m.program m.workers (state_in m) p.label q.label x y
can_be m p q x y p_is q_is can x_at y_at h =
    let t = two_true (meet x y) (not (are_atomic_together p.atomicity x.mode q.atomicity y.mode)) h in
    let u = two_true (is_data x.object) (obj_eq x.object y.object && modes_conflict x.mode y.mode) t.0 in
    let v = two_true (obj_eq x.object y.object) (modes_conflict x.mode y.mode) u.1 in
    record {
      others = λ is. same_not (nat_eq p.label.worker q.label.worker) can ((Decides-eqb p.label.worker
          q.label.worker).1 is);
      first = record {
        possible = p_is.possible;
        touches = subst (λ xs. Contains xs x) p_is.accesses x_at;
      };
      second = record {
        possible = q_is.possible;
        touches = subst (λ xs. Contains xs y) q_is.accesses y_at;
      };
      same = obj_eq-true x.object y.object v.0;
      variable = u.0;
      conflict = v.1;
      plain = sym (atomic_at m p q x y p_is q_is)
          ∙ not_true (are_atomic_together p.atomicity x.mode q.atomicity y.mode) t.1;
    }
  where
    same_not : (b : Bool) → not b ≡ true → b ≡ true → ⊥
    same_not true h g = cc
    same_not false h g = cc

    not_true : (b : Bool) → not b ≡ true → b ≡ false
    not_true true h = cc
    not_true false h = refl

pub no_conflict : (m : MachineView) (p q : PossibleStep) (x y : Access) → IsPossible m p → IsPossible m q
    → are_racing p x q y ≡ false → ¬ IsRace m.program m.workers (state_in m) p.label q.label x y
no_conflict m p q x y p_is q_is h race =
    let yes : are_racing p x q y ≡ true =
    both_true (meet x y) (not (are_atomic_together p.atomicity x.mode q.atomicity y.mode))
    (both_true (is_data x.object) (obj_eq x.object y.object && modes_conflict x.mode y.mode) race.variable
    (both_true (obj_eq x.object y.object) (modes_conflict x.mode y.mode)
    (subst (λ q. obj_eq x.object q ≡ true) race.same (obj_eq-same x.object)) race.conflict))
    (ap not (atomic_at m p q x y p_is q_is ∙ race.plain)) in
    let no : true ≡ false = sym yes ∙ h in bad no
  where
    bad : true ≡ false → ⊥
    bad h = cc

-- a race that is noted

pub in_order_pair : (p q : Place) (object : Obj) → is_behind p q ≡ false
    → pair_of p q object ≡ record { first = p; second = q; object = object }
in_order_pair p q object h =
    ap (λ b. cond b (let z : Pair = record { first = q; second = p; object = object } in z)
    (record { first = p; second = q; object = object })) h

pub is_race : (m : MachineView) (path : List Entry) (pair : Pair) (first second : Racer) (a b : Label) (x y : Access)
    → IsOnWay m → path ≡ m.history.entries → a.worker < m.workers → b.worker < m.workers
    → IsRace m.program m.workers (state_in m) a b x y
    → is_behind (place_at m.program (state_in m) a x) (place_at m.program (state_in m) b y) ≡ false
    → pair ≡ pair_at m.program (state_in m) a b x y → first ≡ racer_at m.program (state_in m) a
    → second ≡ racer_at m.program (state_in m) b
    → IsPossibleRace m.program m.workers (record { path = path; pair = pair; first = first; second = second })
is_race m path pair first second a b x y way is own others race order pair_is first_is second_is = record {
  state = state_in m;
  leads = subst (λ es. Leads (rules_for m) m.workers (map label_of es) (state_in m)) (sym is) way;
  a = a;
  b = b;
  x = x;
  y = y;
  first_is = own;
  second_is = others;
  race = race;
  in_order = order;
  pair = pair_is;
  first = first_is;
  second = second_is;
}

-- the same race the other way round

modes_turned : (a b : Mode) → modes_conflict a b ≡ modes_conflict b a
modes_turned mode.Read mode.Read = refl
modes_turned mode.Read mode.Write = refl
modes_turned mode.Read mode.Add = refl
modes_turned mode.Write mode.Read = refl
modes_turned mode.Write mode.Write = refl
modes_turned mode.Write mode.Add = refl
modes_turned mode.Add mode.Read = refl
modes_turned mode.Add mode.Write = refl
modes_turned mode.Add mode.Add = refl

and_turned : (a b : Bool) → (a && b) ≡ (b && a)
and_turned true true = refl
and_turned true false = refl
and_turned false true = refl
and_turned false false = refl

atomic_turned : (a b : Atomicity) (m n : Mode) → are_atomic_together a m b n ≡ are_atomic_together b n a m
atomic_turned a b m n =
    λ i. and_turned (is_atomic a) (is_atomic b) i || and_turned (is_combining a m) (is_combining b n) i

turned : (program : Raw) (workers : ℕ) (s : State) (a b : Label) (x y : Access) → IsRace program workers s a b x y
    → IsRace program workers s b a y x
turned program workers s a b x y h = record {
  others = λ is. h.others (sym is);
  first = h.second;
  second = h.first;
  same = sym h.same;
  variable = subst (λ q. is_data q ≡ true) h.same h.variable;
  conflict = modes_turned y.mode x.mode ∙ h.conflict;
  plain = atomic_turned (atomicity_of program (control_at s b.worker) b.choice)
      (atomicity_of program (control_at s a.worker) a.choice) y.mode x.mode ∙ h.plain;
}

not_both : (a b c d : ℕ) → (nat_lt b a || (nat_eq b a && nat_lt d c)) ≡ true
    → (nat_lt a b || (nat_eq a b && nat_lt c d)) ≡ false
not_both a b c d h = grind (arith, nat_tests)

pair_turned : (p q : Place) (object other : Obj) → object ≡ other → is_behind p q ≡ true
    → pair_of q p other ≡ pair_of p q object
pair_turned p q object other same h =
    in_order_pair q p other (not_both p.line q.line (kind_number p.kind) (kind_number q.kind) h)
    ∙ (λ i. record { first = q; second = p; object = sym same i })
    ∙ sym (ap (λ b. cond b (let z : Pair = record { first = q; second = p; object = object } in z)
    (record { first = p; second = q; object = object })) h)

-- all races are noted

found_in : (ps : List PossibleStep) (l : Label) → Contains (map label_of_possible ps) l
    → (p : PossibleStep) × Contains ps p × (p.label ≡ l)
found_in [] l at = absurd (omega (arith, at.1))
found_in (p ∷ ps) l at =
    ⊎_elim (λ is. (p, (0, omega arith, refl), is))
    (λ rest. let q = found_in ps l rest in (q.0, Contains-append_right (p ∷ []) ps q.0 q.1, q.2))
    (cases p.label (map label_of_possible ps) l at)
  where
    cases : (x : Label) (xs : List Label) (y : Label) → Contains (x ∷ xs) y → (x ≡ y) ⊎ Contains xs y
    cases x xs y h = ⊎_elim
        (λ one. ⊎_elim (λ none. absurd (omega (arith, none.1))) (λ is. inl is) (Contains-push_cases [] x y one))
        (λ rest. inr rest) (Contains-append_cases (x ∷ []) xs y h)

possible_to : (o : Option State) → is_some o ≡ true → (t : State) × (o ≡ Some t)
possible_to None h = cc
possible_to (Some t) h = (t, refl)

module _ (m : MachineView) (ps : List PossibleStep) (fs : List FoundRace) (possible : ArePossible m ps)
    (noted : AreAllNoted m fs ps ps)
  where
    step_of : (a : Label) (x : Access) → a.worker < m.workers → Accesses (rules_for m) (state_in m) a x
        → (p : PossibleStep) × Contains ps p × (p.label ≡ a) × Contains p.accesses x
    step_of a x own h =
        let t = possible_to (next_state (rules_for m) (state_in m) a) h.possible in
        let p = found_in ps a (possible.all a t.0 own t.1) in
        let is : IsPossible m p.0 = All-contains (IsPossible m) ps p.0 possible.each p.1 in (
          p.0,
          p.1,
          p.2,
          subst (λ xs. Contains xs x)
              (sym (is.accesses ∙ ap (λ l. (step_at (rules_for m) (state_in m) l).footprint) p.2)) h.touches,
        )

    first_way : (a b : Label) (x y : Access) → a.worker < m.workers → b.worker < m.workers
        → IsRace m.program m.workers (state_in m) a b x y
        → is_behind (place_at m.program (state_in m) a x) (place_at m.program (state_in m) b y) ≡ false
        → Contains (map pair_of_found fs) (pair_at m.program (state_in m) a b x y)
    first_way a b x y own others race order =
        let p = step_of a x own race.first in
        let q = step_of b y others race.second in
        subst (λ (l : Label). IsRaceNoted m fs l b x y) p.2
        (subst (λ (l : Label). IsRaceNoted m fs p.0.label l x y) q.2 (noted p.0 p.1 q.0 q.1 x p.3 y q.3)) race order

    pub all_noted : (a b : Label) (x y : Access) → a.worker < m.workers → b.worker < m.workers
        → IsRace m.program m.workers (state_in m) a b x y
        → Contains (map pair_of_found fs) (pair_at m.program (state_in m) a b x y)
    all_noted a b x y own others race =
        go (is_behind (place_at m.program (state_in m) a x) (place_at m.program (state_in m) b y)) refl
      where
        go : (c : Bool) → is_behind (place_at m.program (state_in m) a x) (place_at m.program (state_in m) b y) ≡ c
            → Contains (map pair_of_found fs) (pair_at m.program (state_in m) a b x y)
        go false e = first_way a b x y own others race e
        go true e =
            let p : Place = place_at m.program (state_in m) a x in
            let q : Place = place_at m.program (state_in m) b y in
            subst (λ k. Contains (map pair_of_found fs) k) (pair_turned p q x.object y.object race.same e)
            (first_way b a y x others own (turned m.program m.workers (state_in m) a b x y race)
            (not_both p.line q.line (kind_number p.kind) (kind_number q.kind) e))

-- where no step can be made

pub end_where_none : (m : MachineView) (ps : List PossibleStep) → ArePossible m ps → ps ≡ []
    → IsEnd (rules_for m) m.workers (state_in m)
end_where_none m ps possible none l own = go (next_state (rules_for m) (state_in m) l) refl
  where
    go : (o : Option State) → next_state (rules_for m) (state_in m) l ≡ o → o ≡ None
    go None e = refl
    go (Some t) e =
        let at : Contains [] l = subst (λ qs. Contains (map label_of_possible qs) l) none (possible.all l t own e) in
        absurd (omega (arith, at.1))

pub none_at_end : (m : MachineView) (ps : List PossibleStep) → ArePossible m ps
    → IsEnd (rules_for m) m.workers (state_in m) → ps ≡ []
none_at_end m [] possible end = refl
none_at_end m (p ∷ ps) possible end =
    let is : IsPossible m p = possible.each 0 p (omega arith) in
    let none : is_some (next_state (rules_for m) (state_in m) p.label) ≡ false = ap is_some (end p.label is.worker) in
    let no : true ≡ false = sym is.possible ∙ none in absurd (bad no)
  where
    bad : true ≡ false → ⊥
    bad h = cc

pub clash : true ≡ false → ⊥
clash h = cc

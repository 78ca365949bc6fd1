-- The clock of a step has for each worker the last of its steps that happens before.
use Rattle.std.proofs.Common.{◌≡◌, refl, sym, ◌∙◌, ap, subst, ℕ, ◌<◌, ◌≤◌, Bool, true, false, cond, nat_eq, get_or}
use Rattle.std.proofs.Common.{List, [], ◌∷◌, ◌++◌, ◌⊎◌, inl, inr, ⊎_elim, arith}
use Rattle.std.specs.Prelude.{Contains, max, filter}
use Rattle.std.specs.List.{list_any}
use Rattle.std.proofs.Math.Nat.{le-max_left, le-max_right, max-eq_left, max-eq_right}
use Rattle.std.proofs.lemmas.Bool.{cases_lt, cases_order}
use Rattle.std.proofs.lemmas.Bool.Decides.{Decides-eqb}
use Rattle.std.proofs.lemmas.List.Elements.{Contains-append_left, Contains-push_cases, Contains-push}
use Rattle.om_foot.specs.declared.footprint.Access.{Access}
use Rattle.om_foot.specs.declared.footprint.Mode.{Mode}
use Rattle.om_foot.specs.declared.footprint.Mode.TheVariants as mode
use Rattle.om_foot.specs.declared.object.Obj.{Obj}
use Rattle.om_foot.specs.declared.object.Obj.TheVariants as object
use Rattle.om_foot.specs.Cells.{cells_listed}
use Rattle.om_foot.specs.Footprint.{modes_conflict, obj_eq}
use Rattle.om_foot.specs.Objects.{obj_eq-true, obj_eq-same}
use Rattle.om_foot.specs.Below.{two_true, both_true}
use Rattle.lab_races.specs.declared.made.Made.{Made}
use Rattle.lab_races.specs.declared.strands.Strands.{Strands}
use Rattle.lab_races.specs.Orders.{orders_by, ordering_of, Follows, HappensBefore, itself, further}
use Rattle.lab_races.specs.Races.{RiseFrom, mode_eq}
use Rattle.lab_races.specs.Sweeps.{strand, meeting_by, meeting, meetings, own_serial, AreMet, is_named_by, AreNoted}
use Rattle.lab_races.specs.Sweeps.{IsKnown, IsDone, IsStrand}
use Rattle.lab_races.proofs.Members.{Contains-none, Contains-cases, Contains-first, Contains-rest, Contains-middle, One, any_of, one_of}
use Rattle.lab_races.proofs.Rising.{above, earlier, stands_before, one_serial}

pub mode_eq-true : (a b : Mode) → mode_eq a b ≡ true → a ≡ b
mode_eq-true mode.Read mode.Read h = refl
mode_eq-true mode.Read mode.Write h = cc
mode_eq-true mode.Read mode.Add h = cc
mode_eq-true mode.Write mode.Read h = cc
mode_eq-true mode.Write mode.Write h = refl
mode_eq-true mode.Write mode.Add h = cc
mode_eq-true mode.Add mode.Read h = cc
mode_eq-true mode.Add mode.Write h = cc
mode_eq-true mode.Add mode.Add h = refl

pub mode_eq-same : (a : Mode) → mode_eq a a ≡ true
mode_eq-same mode.Read = refl
mode_eq-same mode.Write = refl
mode_eq-same mode.Add = refl

-- ---- steps of one worker

-- a step that happens before another one stands in the history
pub stands : (h : List Made) (a b : Made) → HappensBefore h a b → Contains h b
stands h a b (itself c at is) = at
stands h a b (further c d one follows) = follows.second

pub then_before : (h : List Made) (a b c : Made) → HappensBefore h a b → HappensBefore h b c → HappensBefore h a c
then_before h a b c one (itself d at is) = subst (HappensBefore h a) is one
then_before h a b c one (further d e two follows) = further d c (then_before h a b d one two) follows

abbrev control : ℕ → Access
control w = record { object = object.Control w; mode = mode.Write }

has_control : (m : Made) → Contains (ordering_of m) (control m.worker)
has_control m = Contains-first (control m.worker)
    (filter (orders_by m.manner) (m.first.now ++ (cells_listed m.cells.now ++ m.last.now)))

-- a worker's steps are ordered
own_order : (h : List Made) (a c : Made) → Contains h a → Contains h c → a.worker ≡ c.worker → a.serial < c.serial
    → Follows h a c
own_order h a c first second own less = record {
  first = first;
  second = second;
  later = less;
  ordered = record {
    one = control a.worker;
    other = control c.worker;
    first = has_control a;
    second = has_control c;
    same = ap (λ w. object.Control w) own;
    conflict = refl;
  };
}

-- ---- the greatest serial at what conflicts

pub is_at_most : (s : Strands) (q : Obj) (m n : Mode) (w : ℕ) → modes_conflict m n ≡ true
    → strand s q m w ≤ meeting_by s q n w
is_at_most s q mode.Read mode.Read w h = cc
is_at_most s q mode.Read mode.Add w h = le-max_right (strand s q mode.Write w) (strand s q mode.Read w)
is_at_most s q mode.Read mode.Write w h =
    let one : strand s q mode.Read w ≤ max (strand s q mode.Write w) (strand s q mode.Read w) =
    le-max_right (strand s q mode.Write w) (strand s q mode.Read w) in
    let two : max (strand s q mode.Write w) (strand s q mode.Read w) ≤ meeting_by s q mode.Write w =
    le-max_left (max (strand s q mode.Write w) (strand s q mode.Read w)) (strand s q mode.Add w) in
    omega (arith, one, two)
is_at_most s q mode.Add mode.Read w h = le-max_right (strand s q mode.Write w) (strand s q mode.Add w)
is_at_most s q mode.Add mode.Add w h = cc
is_at_most s q mode.Add mode.Write w h =
    le-max_right (max (strand s q mode.Write w) (strand s q mode.Read w)) (strand s q mode.Add w)
is_at_most s q mode.Write mode.Read w h = le-max_left (strand s q mode.Write w) (strand s q mode.Add w)
is_at_most s q mode.Write mode.Add w h = le-max_left (strand s q mode.Write w) (strand s q mode.Read w)
is_at_most s q mode.Write mode.Write w h =
    let one : strand s q mode.Write w ≤ max (strand s q mode.Write w) (strand s q mode.Read w) =
    le-max_left (strand s q mode.Write w) (strand s q mode.Read w) in
    let two : max (strand s q mode.Write w) (strand s q mode.Read w) ≤ meeting_by s q mode.Write w =
    le-max_left (max (strand s q mode.Write w) (strand s q mode.Read w)) (strand s q mode.Add w) in
    omega (arith, one, two)

pub one_of_two : (a b : ℕ) → (max a b ≡ a) ⊎ (max a b ≡ b)
one_of_two a b = ⊎_elim (λ less. inr (max-eq_right (omega (arith, less)))) (λ over. inl (max-eq_left over)) (cases_lt a b)

-- a serial at what an access conflicts with
record IsMeeting (s : Strands) (x : Access) (w n : ℕ) : Type 0 where
  at : Mode
  conflict : modes_conflict at x.mode ≡ true
  is : n ≡ strand s x.object at w

is_one : (s : Strands) (q : Obj) (m : Mode) (w : ℕ) → IsMeeting s (record { object = q; mode = m }) w (meeting_by s q m w)
is_one s q mode.Read w =
    ⊎_elim (λ e. record { at = mode.Write; conflict = refl; is = e }) (λ e. record { at = mode.Add; conflict = refl; is = e })
    (one_of_two (strand s q mode.Write w) (strand s q mode.Add w))
is_one s q mode.Add w =
    ⊎_elim (λ e. record { at = mode.Write; conflict = refl; is = e })
    (λ e. record { at = mode.Read; conflict = refl; is = e })
    (one_of_two (strand s q mode.Write w) (strand s q mode.Read w))
is_one s q mode.Write w =
    ⊎_elim
    (λ e. ⊎_elim (λ f. record { at = mode.Write; conflict = refl; is = e ∙ f })
    (λ f. record { at = mode.Read; conflict = refl; is = e ∙ f })
    (one_of_two (strand s q mode.Write w) (strand s q mode.Read w)))
    (λ e. record { at = mode.Add; conflict = refl; is = e })
    (one_of_two (max (strand s q mode.Write w) (strand s q mode.Read w)) (strand s q mode.Add w))

meetings_most : (s : Strands) (xs : List Access) (x : Access) (w : ℕ) → Contains xs x → meeting s x w ≤ meetings s xs w
meetings_most s [] x w at = absurd (Contains-none x at)
meetings_most s (y ∷ ys) x w at =
    ⊎_elim
    (λ is. subst (λ (z : Access). meeting s z w ≤ meetings s (y ∷ ys) w) is
    (le-max_left (meeting s y w) (meetings s ys w)))
    (λ rest. let more : meeting s x w ≤ meetings s ys w = meetings_most s ys x w rest in
    let over : meetings s ys w ≤ meetings s (y ∷ ys) w = le-max_right (meeting s y w) (meetings s ys w) in
    omega (arith, more, over)) (Contains-cases y ys x at)

record IsOneOf (s : Strands) (xs : List Access) (w n : ℕ) : Type 0 where
  access : Access
  among : Contains xs access
  meets : IsMeeting s access w n

meetings_one : (s : Strands) (xs : List Access) (w : ℕ) → (meetings s xs w ≡ 0) ⊎ IsOneOf s xs w (meetings s xs w)
meetings_one s [] w = inl refl
meetings_one s (y ∷ ys) w =
    ⊎_elim
    (λ e. inr (subst (IsOneOf s (y ∷ ys) w) (sym e)
    (record { access = y; among = Contains-first y ys; meets = is_one s y.object y.mode w })))
    (λ e. ⊎_elim (λ none. inl (e ∙ none))
    (λ (one : IsOneOf s ys w (meetings s ys w)). inr (subst (IsOneOf s (y ∷ ys) w) (sym e)
    (record {
      access = one.access;
      among = Contains-rest y ys one.access one.among;
      meets = one.meets;
    }))) (meetings_one s ys w))
    (one_of_two (meeting s y w) (meetings s ys w))

-- ---- the clock of a step behind those that are done

module _ (done : List Made) (b : Made) (later : List Made) (s : Strands) (clock : List ℕ)
    (rise : RiseFrom 0 (done ++ b ∷ later))
    (strands : (q : Obj) (m : Mode) → IsStrand (done ++ b ∷ later) done q m (strand s q m))
    (met : AreMet s (ordering_of b) b clock) where
  abbrev all : List Made
  all = done ++ b ∷ later

  is_own : own_serial b b.worker ≡ b.serial
  is_own = ap (λ t. cond t b.serial 0) ((Decides-eqb b.worker b.worker).1 refl)

  -- it has no less than the serial of each step that happens before
  pub clock_above : (a : Made) → HappensBefore all a b → a.serial ≤ get_or clock a.worker 0
  clock_above a (itself c at is) =
      let own : own_serial b b.worker ≤ max (own_serial b b.worker) (meetings s (ordering_of b) b.worker) =
      le-max_left (own_serial b b.worker) (meetings s (ordering_of b) b.worker) in
      let here : b.serial ≤ get_or clock b.worker 0 = omega (arith, own, is_own, met b.worker) in
      subst (λ (x : Made). x.serial ≤ get_or clock x.worker 0) (sym is) here
  clock_above a (further c d before follows) =
      let w : ℕ = a.worker in
      let front : Contains done c = stands_before 0 done b later c rise follows.first follows.later in
      let x : Access = follows.ordered.one in
      let y : Access = follows.ordered.other in
      let one : a.serial ≤ strand s x.object x.mode w =
      (strands x.object x.mode).above a c (record { made = front; access = follows.ordered.first }) before in
      let two : strand s x.object x.mode w ≤ meeting_by s x.object y.mode w =
      is_at_most s x.object x.mode y.mode w follows.ordered.conflict in
      let here : meeting_by s x.object y.mode w ≡ meeting s y w =
      ap (λ q. meeting_by s q y.mode w) follows.ordered.same in
      let three : meeting s y w ≤ meetings s (ordering_of b) w =
      meetings_most s (ordering_of b) y w follows.ordered.second in
      let four : meetings s (ordering_of b) w ≤ max (own_serial b w) (meetings s (ordering_of b) w) =
      le-max_right (own_serial b w) (meetings s (ordering_of b) w) in
      omega (arith, one, two, here, three, four, met w)

  -- and has 0, or the serial of one that does
  pub clock_known : (w : ℕ) → (get_or clock w 0 ≡ 0) ⊎ IsKnown all w (get_or clock w 0) b
  clock_known w =
      ⊎_elim (λ e. own (nat_eq b.worker w) refl (met w ∙ e)) (λ e. others (met w ∙ e))
      (one_of_two (own_serial b w) (meetings s (ordering_of b) w))
    where
      own : (t : Bool) → nat_eq b.worker w ≡ t → get_or clock w 0 ≡ own_serial b w
          → (get_or clock w 0 ≡ 0) ⊎ IsKnown all w (get_or clock w 0) b
      own false is e = inl (e ∙ ap (λ t. cond t b.serial 0) is)
      own true is e = inr (record {
        a = b;
        first = Contains-middle done b later;
        own = (Decides-eqb b.worker w).0 is;
        is = sym (e ∙ ap (λ t. cond t b.serial 0) is);
        before = itself b (Contains-middle done b later) refl;
      })

      behind : (x : Access) (m : Mode) → Contains (ordering_of b) x → modes_conflict m x.mode ≡ true
          → (c : Made) → IsDone done x.object m c → IsKnown all w (strand s x.object m w) c
          → IsKnown all w (strand s x.object m w) b
      behind x m at conflict c is known = record {
        a = known.a;
        first = known.first;
        own = known.own;
        is = known.is;
        before = further c b known.before (record {
          first = Contains-append_left done (b ∷ later) c is.made;
          second = Contains-middle done b later;
          later = earlier 0 done b later c rise is.made;
          ordered = record {
            one = record { object = x.object; mode = m };
            other = x;
            first = is.access;
            second = at;
            same = refl;
            conflict = conflict;
          };
        });
      }

      others : get_or clock w 0 ≡ meetings s (ordering_of b) w
          → (get_or clock w 0 ≡ 0) ⊎ IsKnown all w (get_or clock w 0) b
      others e =
          ⊎_elim (λ none. inl (e ∙ none))
          (λ (one : IsOneOf s (ordering_of b) w (meetings s (ordering_of b) w)).
          let x : Access = one.access in
          let m : Mode = one.meets.at in
          let is : get_or clock w 0 ≡ strand s x.object m w = e ∙ one.meets.is in
          ⊎_elim (λ none. inl (is ∙ none))
          (λ known. inr (subst (λ n. IsKnown all w n b) (sym is)
          (behind x m one.among one.meets.conflict known.0 known.1 known.2)))
          ((strands x.object m).met w)) (meetings_one s (ordering_of b) w)

  -- so a step that does not happen before has a greater serial than it
  pub is_unordered : (a : Made) → Contains all a → ¬ HappensBefore all a b → get_or clock a.worker 0 < a.serial
  is_unordered a at free =
      ⊎_elim (λ none. let one : 0 < a.serial = above 0 all a rise at in omega (arith, one, none))
      (λ (known : IsKnown all a.worker (get_or clock a.worker 0) b). less known (cases_order known.a.serial a.serial))
      (clock_known a.worker)
    where
      less : (known : IsKnown all a.worker (get_or clock a.worker 0) b)
          → (known.a.serial ≡ a.serial) ⊎ ((known.a.serial < a.serial) ⊎ (a.serial < known.a.serial))
          → get_or clock a.worker 0 < a.serial
      less known (inr (inl under)) = omega (arith, under, known.is)
      less known (inl same) =
          absurd (free (subst (λ x. HappensBefore all x b)
          (one_serial 0 all known.a a rise known.first at same) known.before))
      less known (inr (inr over)) =
          absurd (free (then_before all a known.a b
          (further a known.a (itself a at refl) (own_order all a known.a at known.first (sym known.own) over))
          known.before))

  -- ---- what is noted of it

  module _ (t : Strands) (noted : AreNoted s t (ordering_of b) clock) where
    kept : (q : Obj) (m : Mode) (w : ℕ) → strand s q m w ≤ strand t q m w
    kept q m w = go (list_any (is_named_by q m) (ordering_of b)) refl
      where
        go : (x : Bool) → list_any (is_named_by q m) (ordering_of b) ≡ x → strand s q m w ≤ strand t q m w
        go true e =
            let same : strand t q m w ≡ max (strand s q m w) (get_or clock w 0) =
            noted q m w ∙ ap (λ x. cond x (max (strand s q m w) (get_or clock w 0)) (strand s q m w)) e in
            let more : strand s q m w ≤ max (strand s q m w) (get_or clock w 0) =
            le-max_left (strand s q m w) (get_or clock w 0) in omega (arith, same, more)
        go false e =
            let same : strand t q m w ≡ strand s q m w =
            noted q m w ∙ ap (λ x. cond x (max (strand s q m w) (get_or clock w 0)) (strand s q m w)) e in
            omega (arith, same)

    named : (q : Obj) (m : Mode) → Contains (ordering_of b) (record { object = q; mode = m })
        → list_any (is_named_by q m) (ordering_of b) ≡ true
    named q m at = any_of (is_named_by q m) (ordering_of b) (record { object = q; mode = m }) at
        (both_true (obj_eq q q) (mode_eq m m) (obj_eq-same q) (mode_eq-same m))

    its_access : (q : Obj) (m : Mode) → list_any (is_named_by q m) (ordering_of b) ≡ true
        → Contains (ordering_of b) (record { object = q; mode = m })
    its_access q m h =
        let one : One (is_named_by q m) (ordering_of b) = one_of (is_named_by q m) (ordering_of b) h in
        let x : Access = one.item in
        let two = two_true (obj_eq x.object q) (mode_eq x.mode m) one.holds in
        let is : x ≡ record { object = q; mode = m } =
        λ i. record { object = obj_eq-true x.object q two.0 i; mode = mode_eq-true x.mode m two.1 i } in
        subst (Contains (ordering_of b)) is one.among

    at_b : (q : Obj) (m : Mode) (a : Made) → Contains (ordering_of b) (record { object = q; mode = m })
        → HappensBefore all a b → a.serial ≤ strand t q m a.worker
    at_b q m a at before =
        let w : ℕ = a.worker in
        let same : strand t q m w ≡ max (strand s q m w) (get_or clock w 0) =
        noted q m w ∙ ap (λ x. cond x (max (strand s q m w) (get_or clock w 0)) (strand s q m w)) (named q m at) in
        let more : get_or clock w 0 ≤ max (strand s q m w) (get_or clock w 0) =
        le-max_right (strand s q m w) (get_or clock w 0) in
        let own : a.serial ≤ get_or clock w 0 = clock_above a before in omega (arith, same, more, own)

    done_more : (q : Obj) (m : Mode) (c : Made) → IsDone done q m c → IsDone (done ++ b ∷ []) q m c
    done_more q m c is = record { made = Contains-append_left done (b ∷ []) c is.made; access = is.access }

    pub strands_more : (q : Obj) (m : Mode) → IsStrand all (done ++ b ∷ []) q m (strand t q m)
    strands_more q m = record {
      above = λ a c is before. ⊎_elim
          (λ old. let one : a.serial ≤ strand s q m a.worker =
          (strands q m).above a c (record { made = old; access = is.access }) before in
          let two : strand s q m a.worker ≤ strand t q m a.worker = kept q m a.worker in omega (arith, one, two))
          (λ same. at_b q m a (subst (λ (x : Made). Contains (ordering_of x) (record { object = q; mode = m })) (sym same) is.access)
          (subst (HappensBefore all a) (sym same) before))
          (Contains-push_cases done b c is.made);
      met = λ w. go w (list_any (is_named_by q m) (ordering_of b)) refl;
    }
      where
        Met : ℕ → ℕ → Type 0
        Met w n = (n ≡ 0) ⊎ ((c : Made) × IsDone (done ++ b ∷ []) q m c × IsKnown all w n c)

        old : (w : ℕ) → Met w (strand s q m w)
        old w = ⊎_elim (λ none. inl none) (λ known. inr (known.0, done_more q m known.0 known.1, known.2))
            ((strands q m).met w)

        new : (w : ℕ) → Contains (ordering_of b) (record { object = q; mode = m }) → Met w (get_or clock w 0)
        new w at = ⊎_elim (λ none. inl none)
            (λ known. inr (b, record { made = Contains-push done b; access = at }, known)) (clock_known w)

        go : (w : ℕ) (x : Bool) → list_any (is_named_by q m) (ordering_of b) ≡ x → Met w (strand t q m w)
        go w false e =
            subst (Met w) (sym (noted q m w
            ∙ ap (λ x. cond x (max (strand s q m w) (get_or clock w 0)) (strand s q m w)) e)) (old w)
        go w true e =
            subst (Met w) (sym (noted q m w
            ∙ ap (λ x. cond x (max (strand s q m w) (get_or clock w 0)) (strand s q m w)) e))
            (⊎_elim (λ f. subst (Met w) (sym f) (old w)) (λ f. subst (Met w) (sym f) (new w (its_access q m e)))
            (one_of_two (strand s q m w) (get_or clock w 0)))

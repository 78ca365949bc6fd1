-- The races that are told, behind one more step and behind all.
use Rattle.std.proofs.Common.{◌≡◌, refl, sym, ◌∙◌, ap, subst, ℕ, ◌<◌, ◌≤◌, Bool, true, false, cond, not, ◌&&◌, ◌||◌}
use Rattle.std.proofs.Common.{nat_eq, nat_lt, get_or, List, [], ◌∷◌, ◌++◌, ⊎_elim, arith}
use Rattle.std.specs.Prelude.{Contains, All, AllPairs, Vec}
use Rattle.std.specs.declared.alloc.Global.{Global}
use Rattle.std.proofs.lemmas.Bool.Decides.{Decides-eqb, Decides-ltb}
use Rattle.std.proofs.lemmas.List.Elements.{All-contains, All-push, All-weaker, Contains-append_left, Contains-get_or}
use Rattle.std.proofs.lemmas.List.Elements.{Contains-push, Contains-push_cases}
use Rattle.std.proofs.lemmas.List.Folds.{list_any-append}
use Rattle.std.proofs.lemmas.List.Quantifiers.{all_pairs_push}
use Rattle.om_foot.specs.declared.footprint.Access.{Access}
use Rattle.om_foot.specs.declared.object.Obj.{Obj}
use Rattle.om_foot.specs.Footprint.{modes_conflict, obj_eq}
use Rattle.om_foot.specs.Objects.{obj_eq-same}
use Rattle.om_foot.specs.Below.{two_true, both_true}
use Rattle.lab_races.specs.declared.made.Made.{Made}
use Rattle.lab_races.specs.declared.made.Race.{Race}
use Rattle.lab_races.specs.declared.made.Side.{Side}
use Rattle.lab_races.specs.declared.sweep.Sweep.{Sweep}
use Rattle.lab_races.specs.Races.{are_atomic_together, data_of, is_same_race, is_same_side, is_told, race_of, side_of}
use Rattle.lab_races.specs.Races.{AreRaces, IsFound, IsRace, RiseFrom}
use Rattle.lab_races.specs.Sweeps.{items_at, do_race, race_at, with_race, with_races, with_all, Advances, IsOfStep}
use Rattle.lab_races.specs.Sweeps.{IsNotedBy, IsSwept, with_sides}
use Rattle.lab_races.proofs.Knowing.{clock_above, is_unordered, strands_more}
use Rattle.lab_races.proofs.Members.{Contains-none, Contains-cases, Contains-first, Contains-rest, Contains-middle, any_of}
use Rattle.lab_races.proofs.Members.{none_of, or_left}
use Rattle.lab_races.proofs.Noting.{AreAlike, reads_so, same_side, again_is, kept_noted, put_noted, put_sound, still_of}
use Rattle.lab_races.proofs.Rising.{earlier, stands_before}

-- ---- lists of races

same_race : (r : Race) → is_same_race r r ≡ true
same_race r =
    both_true (obj_eq r.object r.object)
    ((is_same_side r.earlier r.earlier && is_same_side r.later r.later)
    || (is_same_side r.earlier r.later && is_same_side r.later r.earlier)) (obj_eq-same r.object)
    (or_left (is_same_side r.earlier r.earlier && is_same_side r.later r.later)
    (is_same_side r.earlier r.later && is_same_side r.later r.earlier)
    (both_true (is_same_side r.earlier r.earlier) (is_same_side r.later r.later) (same_side r.earlier)
    (same_side r.later)))

-- these are races that are found, and no two of them read the same
record AreFound (history : List Made) (races : List Race) : Type 0 where
  found : All (IsFound history) races
  once : AllPairs (λ r s. is_same_race r s ≡ false) races

-- more races are told
record Adds (history : List Made) (old new : List Race) : Type 0 where
  right : AreFound history new
  keeps : (r : Race) → is_told old r ≡ true → is_told new r ≡ true

on : (history : List Made) (a b c : List Race) → Adds history a b → Adds history b c → Adds history a c
on history a b c f g = record { right = g.right; keeps = λ r h. g.keeps r (f.keeps r h) }

none_more : (history : List Made) (races : List Race) → AreFound history races → Adds history races races
none_more history races h = record { right = h; keeps = λ r e. e }

pushed : (history : List Made) (races : List Race) (r : Race) → AreFound history races → IsFound history r
    → is_told races r ≡ false → Adds history races (races ++ r ∷ [])
pushed history races r h is new = record {
  right = record {
    found = All-push (IsFound history) races r h.found is;
    once = all_pairs_push (λ s t. is_same_race s t ≡ false) races r h.once
        (λ k d less. none_of (λ s. is_same_race s r) races (get_or races k d) new (Contains-get_or races k d less));
  };
  keeps = λ s e. list_any-append (λ t. is_same_race t s) races (r ∷ [])
      ∙ or_left (is_told races s) (is_told (r ∷ []) s) e;
}

added : (history : List Made) (races : List Race) (r : Race) → AreFound history races → IsFound history r
    → Adds history races (with_race races r)
added history races r h is = go (is_told races r) refl
  where
    go : (b : Bool) → is_told races r ≡ b → Adds history races (cond b races (races ++ r ∷ []))
    go true e = none_more history races h
    go false e = pushed history races r h is e

told_now : (races : List Race) (r : Race) → is_told (with_race races r) r ≡ true
told_now races r = go (is_told races r) refl
  where
    go : (b : Bool) → is_told races r ≡ b → is_told (cond b races (races ++ r ∷ [])) r ≡ true
    go true e = e
    go false e = any_of (λ s. is_same_race s r) (races ++ r ∷ []) r (Contains-push races r) (same_race r)

-- ---- an access, and those that were noted

module _ (history : List Made) (q : Obj) (b : Side) (clock : List ℕ) where
  abbrev AllRace : List Side → Type 0
  AllRace sides = (a : Side) → Contains sides a → do_race a b clock ≡ true → IsFound history (race_at q a b)

  with_one : (races : List Race) (a : Side) → AreFound history races
      → (do_race a b clock ≡ true → IsFound history (race_at q a b))
      → Adds history races (cond (do_race a b clock) (with_race races (race_at q a b)) races)
  with_one races a h is = go (do_race a b clock) refl
    where
      go : (t : Bool) → do_race a b clock ≡ t → Adds history races (cond t (with_race races (race_at q a b)) races)
      go true e = added history races (race_at q a b) h (is e)
      go false e = none_more history races h

  with_sides_add : (sides : List Side) (races : List Race) → AreFound history races → AllRace sides
      → Adds history races (with_races sides q b clock races)
  with_sides_add [] races h is = none_more history races h
  with_sides_add (a ∷ rest) races h is =
      let more : Adds history races (cond (do_race a b clock) (with_race races (race_at q a b)) races) =
      with_one races a h (is a (Contains-first a rest)) in
      on history races (cond (do_race a b clock) (with_race races (race_at q a b)) races)
      (with_races (a ∷ rest) q b clock races) more
      (with_sides_add rest (cond (do_race a b clock) (with_race races (race_at q a b)) races) more.right
      (λ x at. is x (Contains-rest a rest x at)))

  -- each of them that races is told
  told_with : (sides : List Side) (races : List Race) (a : Side) → AreFound history races → AllRace sides
      → Contains sides a → do_race a b clock ≡ true
      → is_told (with_races sides q b clock races) (race_at q a b) ≡ true
  told_with [] races a h is at race = absurd (Contains-none a at)
  told_with (x ∷ rest) races a h is at race =
      let more : Adds history races (cond (do_race x b clock) (with_race races (race_at q x b)) races) =
      with_one races x h (is x (Contains-first x rest)) in
      let next : List Race = cond (do_race x b clock) (with_race races (race_at q x b)) races in
      ⊎_elim
      (λ same. (with_sides_add rest next more.right (λ y among. is y (Contains-rest x rest y among))).keeps
      (race_at q a b)
      (subst (λ (z : Side). is_told (cond (do_race z b clock) (with_race races (race_at q z b)) races) (race_at q a b) ≡ true)
      (sym same)
      (ap (λ t. is_told (cond t (with_race races (race_at q a b)) races) (race_at q a b)) race
      ∙ told_now races (race_at q a b))))
      (λ there. told_with rest next a more.right (λ y among. is y (Contains-rest x rest y among)) there race)
      (Contains-cases x rest a at)

-- ---- the accesses of a step

module _ (history : List Made) (notes : List (Obj × Vec Side Global)) (m : Made) (clock : List ℕ) where
  abbrev EachRace : List Access → Type 0
  EachRace ys = (y : Access) → Contains ys y
      → AllRace history y.object (side_of m y.mode) clock (items_at notes y.object)

  all_add : (ys : List Access) (races : List Race) → AreFound history races → EachRace ys
      → Adds history races (with_all ys notes m clock races)
  all_add [] races h is = none_more history races h
  all_add (y ∷ ys) races h is =
      let next : List Race = with_races (items_at notes y.object) y.object (side_of m y.mode) clock races in
      let more : Adds history races next =
      with_sides_add history y.object (side_of m y.mode) clock (items_at notes y.object) races h
      (is y (Contains-first y ys)) in
      on history races next (with_all ys notes m clock next) more
      (all_add ys next more.right (λ z at. is z (Contains-rest y ys z at)))

  told_all : (ys : List Access) (races : List Race) (y : Access) (a : Side) → AreFound history races → EachRace ys
      → Contains ys y → Contains (items_at notes y.object) a → do_race a (side_of m y.mode) clock ≡ true
      → is_told (with_all ys notes m clock races) (race_at y.object a (side_of m y.mode)) ≡ true
  told_all [] races y a h is at among race = absurd (Contains-none y at)
  told_all (x ∷ ys) races y a h is at among race =
      let next : List Race = with_races (items_at notes x.object) x.object (side_of m x.mode) clock races in
      let more : Adds history races next =
      with_sides_add history x.object (side_of m x.mode) clock (items_at notes x.object) races h
      (is x (Contains-first x ys)) in
      ⊎_elim
      (λ same. (all_add ys next more.right (λ z there. is z (Contains-rest x ys z there))).keeps
      (race_at y.object a (side_of m y.mode))
      (subst (λ (z : Access).
      is_told (with_races (items_at notes z.object) z.object (side_of m z.mode) clock races)
      (race_at y.object a (side_of m y.mode)) ≡ true) (sym same)
      (told_with history y.object (side_of m y.mode) clock (items_at notes y.object) races a h
      (is y at) among race)))
      (λ rest. told_all ys next y a more.right (λ z there. is z (Contains-rest x ys z there)) rest among race)
      (Contains-cases x ys y at)

-- ---- by the clock

is_false : (b : Bool) → not b ≡ true → b ≡ false
is_false true h = cc
is_false false h = refl

is_not : (b : Bool) → b ≡ false → not b ≡ true
is_not b h = ap not h

-- a race is told by one that reads the same in its earlier side
told_so : (races : List Race) (q : Obj) (n a b : Side) → AreAlike n a → is_told races (race_at q n b) ≡ true
    → is_told races (race_at q a b) ≡ true
told_so [] q n a b h e = cc
told_so (r ∷ rs) q n a b h e =
    ap (λ t. t || is_told rs (race_at q a b)) (sym here)
    ∙ go (is_same_race r (race_at q n b)) refl (told_so rs q n a b h)
  where
    here : is_same_race r (race_at q n b) ≡ is_same_race r (race_at q a b)
    here = λ i. obj_eq r.object q
        && ((reads_so r.earlier n a h i && is_same_side r.later b)
        || (is_same_side r.earlier b && reads_so r.later n a h i))

    go : (t : Bool) → is_same_race r (race_at q n b) ≡ t
        → (is_told rs (race_at q n b) ≡ true → is_told rs (race_at q a b) ≡ true)
        → t || is_told rs (race_at q a b) ≡ true
    go true f rest = refl
    go false f rest = rest (ap (λ t. t || is_told rs (race_at q n b)) (sym f) ∙ e)

module _ (done : List Made) (b : Made) (later : List Made) (old new : Sweep) (rise : RiseFrom 0 (done ++ b ∷ later))
    (swept : IsSwept (done ++ b ∷ later) done old) (advances : Advances b old new) where
  abbrev all : List Made
  all = done ++ b ∷ later

  abbrev clock : List ℕ
  clock = advances.clock

  -- a noted access that races by the clock is of a race
  races_found : (y : Access) → Contains (data_of b) y
      → AllRace all y.object (side_of b y.mode) clock (items_at old.notes.entries y.object)
  races_found y at n among race =
      let of : IsOfStep done y.object n =
      All-contains (IsOfStep done y.object) (items_at old.notes.entries y.object) n (swept.sound y.object) among in
      let a : Made = of.made in
      let x : Access = of.access in
      let t = two_true (not (nat_eq n.worker b.worker)) (modes_conflict n.mode y.mode
      && (not (are_atomic_together n.manner n.mode b.manner y.mode) && nat_lt (get_or clock n.worker 0) n.serial)) race in
      let u = two_true (modes_conflict n.mode y.mode)
      (not (are_atomic_together n.manner n.mode b.manner y.mode) && nat_lt (get_or clock n.worker 0) n.serial) t.1 in
      let v = two_true (not (are_atomic_together n.manner n.mode b.manner y.mode)) (nat_lt (get_or clock n.worker 0) n.serial) u.1 in
      let less : get_or clock n.worker 0 < n.serial = (Decides-ltb (get_or clock n.worker 0) n.serial).0 v.1 in
      let serial : n.serial ≡ a.serial = ap (λ (s : Side). s.serial) of.is in
      let worker : n.worker ≡ a.worker = ap (λ (s : Side). s.worker) of.is in
      let wait : get_or clock a.worker 0 < a.serial =
      omega (arith, less, serial, ap (λ w. get_or clock w 0) worker) in record {
        a = a;
        b = b;
        x = x;
        y = y;
        race = record {
          first = Contains-append_left done (b ∷ later) a of.stands;
          second = Contains-middle done b later;
          later = earlier 0 done b later a rise of.stands;
          others = λ same. both (is_false (nat_eq n.worker b.worker) t.0)
              ((Decides-eqb n.worker b.worker).1 (worker ∙ same));
          one = of.accesses;
          other = at;
          same = of.at;
          conflict = ap (λ (s : Side). modes_conflict s.mode y.mode) (sym of.is) ∙ u.0;
          plain = ap (λ (s : Side). are_atomic_together s.manner s.mode b.manner y.mode) (sym of.is)
              ∙ is_false (are_atomic_together n.manner n.mode b.manner y.mode) v.0;
          unordered = λ before.
              let over : a.serial ≤ get_or clock a.worker 0 =
              clock_above done b later old.strands clock rise swept.strands advances.met a before in
              omega (arith, over, wait);
        };
        is = ap (λ s. race_at y.object s (side_of b y.mode)) of.is;
      }
    where
      both : {t : Bool} → t ≡ false → t ≡ true → ⊥
      both e f = cc

  -- and each race of the step is told
  races_told : (a : Made) (x y : Access) → IsRace all a b x y → is_told new.races.items (race_of a b x y) ≡ true
  races_told a x y race =
      let stands : Contains done a = stands_before 0 done b later a rise race.first race.later in
      let by : IsNotedBy (items_at old.notes.entries x.object) (side_of a x.mode) = swept.noted a x stands race.one in
      let n : Side = by.by in
      let same = again_is n (side_of a x.mode) by.again in
      let wait : get_or clock a.worker 0 < a.serial =
      is_unordered done b later old.strands clock rise swept.strands advances.met a race.first race.unordered in
      let less : get_or clock n.worker 0 < n.serial =
      omega (arith, wait, by.later, ap (λ w. get_or clock w 0) same.0) in
      let others : nat_eq n.worker b.worker ≡ false = apart (nat_eq n.worker b.worker)
      (λ e. race.others (sym same.0 ∙ (Decides-eqb n.worker b.worker).0 e)) in
      let meets : do_race n (side_of b y.mode) clock ≡ true =
      both_true (not (nat_eq n.worker b.worker)) (modes_conflict n.mode y.mode
      && (not (are_atomic_together n.manner n.mode b.manner y.mode) && nat_lt (get_or clock n.worker 0) n.serial))
      (is_not (nat_eq n.worker b.worker) others)
      (both_true (modes_conflict n.mode y.mode)
      (not (are_atomic_together n.manner n.mode b.manner y.mode) && nat_lt (get_or clock n.worker 0) n.serial)
      (ap (λ m. modes_conflict m y.mode) same.1.mode ∙ race.conflict)
      (both_true (not (are_atomic_together n.manner n.mode b.manner y.mode)) (nat_lt (get_or clock n.worker 0) n.serial)
      (is_not (are_atomic_together n.manner n.mode b.manner y.mode)
      ((λ i. are_atomic_together (same.1.manner i) (same.1.mode i) b.manner y.mode) ∙ race.plain))
      ((Decides-ltb (get_or clock n.worker 0) n.serial).1 less))) in
      let at : Contains (items_at old.notes.entries y.object) n =
      subst (λ q. Contains (items_at old.notes.entries q) n) race.same by.noted in
      told_so new.races.items y.object n (side_of a x.mode) (side_of b y.mode) same.1
      (ap (λ rs. is_told rs (race_at y.object n (side_of b y.mode))) advances.raced
      ∙ told_all all old.notes.entries b clock (data_of b) old.races.items y n right races_found race.other at meets)
    where
      apart : (t : Bool) → (t ≡ true → ⊥) → t ≡ false
      apart true h = absurd (h refl)
      apart false h = refl

      right : AreFound all old.races.items
      right = record { found = swept.found; once = swept.once }

  adds : Adds all old.races.items new.races.items
  adds = subst (Adds all old.races.items) (sym advances.raced)
      (all_add all old.notes.entries b clock (data_of b) old.races.items
      (record { found = swept.found; once = swept.once }) races_found)

  pub swept_more : IsSwept all (done ++ b ∷ []) new
  swept_more = record {
    strands = strands_more done b later old.strands clock rise swept.strands advances.met new.strands advances.noted;
    sound = λ q. subst (All (IsOfStep (done ++ b ∷ []) q)) (sym (advances.put q))
        (put_sound (done ++ b ∷ []) b q (data_of b) (items_at old.notes.entries q) (Contains-push done b) (λ x at. at)
        (All-weaker (IsOfStep done q) (IsOfStep (done ++ b ∷ []) q) (still_of done b q) (items_at old.notes.entries q)
        (swept.sound q)));
    noted = λ a x made at. subst (λ sides. IsNotedBy sides (side_of a x.mode)) (sym (advances.put x.object))
        (⊎_elim
        (λ stands. let less : a.serial < b.serial = earlier 0 done b later a rise stands in
        kept_noted (data_of b) b x.object (items_at old.notes.entries x.object) (side_of a x.mode)
        (swept.noted a x stands at) (omega (arith, less)))
        (λ same. subst (λ (z : Made).
        IsNotedBy (with_sides (data_of b) b x.object (items_at old.notes.entries x.object)) (side_of z x.mode)) same
        (put_noted (data_of b) b x (items_at old.notes.entries x.object)
        (subst (λ (z : Made). Contains (data_of z) x) (sym same) at)))
        (Contains-push_cases done b a made));
    found = adds.right.found;
    all = λ a c x y made race. ⊎_elim
        (λ stands. adds.keeps (race_of a c x y) (swept.all a c x y stands race))
        (λ same. subst (λ (z : Made). is_told new.races.items (race_of a z x y) ≡ true) same
        (races_told a x y (subst (λ (z : Made). IsRace all a z x y) (sym same) race)))
        (Contains-push_cases done b c made);
    once = adds.right.once;
  }

-- ---- behind all steps, and before the first

pub all_told : (history : List Made) (sweep : Sweep) → IsSwept history history sweep
    → AreRaces history sweep.races.items
all_told history sweep h = record {
  found = h.found;
  all = λ a b x y race. h.all a b x y race.second race;
  once = h.once;
}

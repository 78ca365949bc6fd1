-- The last accesses of variables, behind one more step.
use Rattle.std.proofs.Common.{◌≡◌, refl, sym, ◌∙◌, ap, subst, ◌≤◌, Bool, true, false, cond, not, ◌&&◌, nat_eq}
use Rattle.std.proofs.Common.{List, [], ◌∷◌, ◌++◌, ⊎_elim, arith}
use Rattle.std.specs.Prelude.{Contains, All, filter}
use Rattle.std.proofs.lemmas.Bool.Decides.{Decides-eqb}
use Rattle.std.proofs.lemmas.List.Elements.{All-filter, All-push, Contains-append_left, Contains-push}
use Rattle.om_foot.specs.declared.footprint.Access.{Access}
use Rattle.om_foot.specs.declared.object.Obj.{Obj}
use Rattle.om_foot.specs.Footprint.{obj_eq}
use Rattle.om_foot.specs.Objects.{obj_eq-true, obj_eq-same}
use Rattle.om_foot.specs.Below.{two_true, both_true}
use Rattle.lab_races.specs.declared.made.Made.{Made}
use Rattle.lab_races.specs.declared.made.Manner.{Manner}
use Rattle.lab_races.specs.declared.made.Manner.TheVariants as manner
use Rattle.lab_races.specs.declared.made.Side.{Side}
use Rattle.lab_races.specs.Races.{data_of, is_same_side, manner_eq, mode_eq, side_of}
use Rattle.lab_races.specs.Sweeps.{is_again, with_side, with_sides, IsOfStep, IsNotedBy}
use Rattle.lab_races.proofs.Knowing.{mode_eq-true, mode_eq-same}
use Rattle.lab_races.proofs.Members.{Contains-none, Contains-cases, Contains-first, Contains-rest, Contains-filter}

manner_eq-true : (a b : Manner) → manner_eq a b ≡ true → a ≡ b
manner_eq-true manner.Plain manner.Plain h = refl
manner_eq-true manner.Atomic manner.Atomic h = refl
manner_eq-true manner.Reduction manner.Reduction h = refl
manner_eq-true manner.Ending manner.Ending h = refl
manner_eq-true _ _ h = cc

manner_eq-same : (a : Manner) → manner_eq a a ≡ true
manner_eq-same manner.Plain = refl
manner_eq-same manner.Atomic = refl
manner_eq-same manner.Reduction = refl
manner_eq-same manner.Ending = refl

-- what two sides that read the same share
pub record AreAlike (a b : Side) : Type 0 where
  pub line : a.line ≡ b.line
  pub manner : a.manner ≡ b.manner
  pub mode : a.mode ≡ b.mode

pub alike : (a b : Side) → is_same_side a b ≡ true → AreAlike a b
alike a b h =
    let one = two_true (nat_eq a.line b.line) (manner_eq a.manner b.manner && mode_eq a.mode b.mode) h in
    let two = two_true (manner_eq a.manner b.manner) (mode_eq a.mode b.mode) one.1 in record {
      line = (Decides-eqb a.line b.line).0 one.0;
      manner = manner_eq-true a.manner b.manner two.0;
      mode = mode_eq-true a.mode b.mode two.1;
    }

pub same_side : (a : Side) → is_same_side a a ≡ true
same_side a = both_true (nat_eq a.line a.line) (manner_eq a.manner a.manner && mode_eq a.mode a.mode)
    ((Decides-eqb a.line a.line).1 refl)
    (both_true (manner_eq a.manner a.manner) (mode_eq a.mode a.mode) (manner_eq-same a.manner) (mode_eq-same a.mode))

-- a side reads as one that reads the same as another one
pub reads_so : (t a b : Side) → AreAlike a b → is_same_side t a ≡ is_same_side t b
reads_so t a b h = λ i. nat_eq t.line (h.line i)
    && (manner_eq t.manner (h.manner i) && mode_eq t.mode (h.mode i))

pub again_is : (a b : Side) → is_again a b ≡ true → (a.worker ≡ b.worker) × AreAlike a b
again_is a b h =
    let two = two_true (nat_eq a.worker b.worker) (is_same_side a b) h in
    ((Decides-eqb a.worker b.worker).0 two.0, alike a b two.1)

pub again_itself : (a : Side) → is_again a a ≡ true
again_itself a = both_true (nat_eq a.worker a.worker) (is_same_side a a) ((Decides-eqb a.worker a.worker).1 refl) (same_side a)

-- what one repeats another one repeats that is repeated by both
pub again_both : (n s t : Side) → is_again n s ≡ true → is_again n t ≡ true → is_again t s ≡ true
again_both n s t one two =
    let a = again_is n s one in
    let b = again_is n t two in
    let alike_too : AreAlike t s = record {
      line = sym b.1.line ∙ a.1.line;
      manner = sym b.1.manner ∙ a.1.manner;
      mode = sym b.1.mode ∙ a.1.mode;
    } in
    both_true (nat_eq t.worker s.worker) (is_same_side t s) ((Decides-eqb t.worker s.worker).1 (sym b.0 ∙ a.0))
    (sym (reads_so t t s alike_too) ∙ same_side t)

-- ---- one access more

abbrev others : Side → Side → Bool
others side s = not (is_again s side)

kept_by : (sides : List Side) (side s : Side) → IsNotedBy sides s → s.serial ≤ side.serial
    → IsNotedBy (with_side sides side) s
kept_by sides side s h less = go (is_again h.by side) refl
  where
    go : (b : Bool) → is_again h.by side ≡ b → IsNotedBy (with_side sides side) s
    go true e = record {
      by = side;
      noted = Contains-push (filter (others side) sides) side;
      again = again_both h.by s side h.again e;
      later = less;
    }
    go false e = record {
      by = h.by;
      noted = Contains-append_left (filter (others side) sides) (side ∷ []) h.by
          (Contains-filter (others side) sides h.by h.noted (ap not e));
      again = h.again;
      later = h.later;
    }

-- what is noted stays so, where the accesses of a later step are put
pub kept_noted : (xs : List Access) (m : Made) (q : Obj) (sides : List Side) (s : Side) → IsNotedBy sides s
    → s.serial ≤ m.serial → IsNotedBy (with_sides xs m q sides) s
kept_noted [] m q sides s h less = h
kept_noted (x ∷ xs) m q sides s h less =
    kept_noted xs m q (cond (obj_eq x.object q) (with_side sides (side_of m x.mode)) sides) s
    (go (obj_eq x.object q)) less
  where
    go : (b : Bool) → IsNotedBy (cond b (with_side sides (side_of m x.mode)) sides) s
    go true = kept_by sides (side_of m x.mode) s h less
    go false = h

-- each access that is put is noted
pub put_noted : (xs : List Access) (m : Made) (x : Access) (sides : List Side) → Contains xs x
    → IsNotedBy (with_sides xs m x.object sides) (side_of m x.mode)
put_noted [] m x sides at = absurd (Contains-none x at)
put_noted (y ∷ ys) m x sides at =
    ⊎_elim
    (λ same. kept_noted ys m x.object (next y) (side_of m x.mode)
    (subst (λ (z : Access). IsNotedBy (next z) (side_of m x.mode)) (sym same) here) (omega arith))
    (λ rest. put_noted ys m x (next y) rest) (Contains-cases y ys x at)
  where
    next : Access → List Side
    next z = cond (obj_eq z.object x.object) (with_side sides (side_of m z.mode)) sides

    here : IsNotedBy (next x) (side_of m x.mode)
    here = subst (λ b. IsNotedBy (cond b (with_side sides (side_of m x.mode)) sides) (side_of m x.mode))
        (sym (obj_eq-same x.object)) (record {
          by = side_of m x.mode;
          noted = Contains-push (filter (others (side_of m x.mode)) sides) (side_of m x.mode);
          again = again_itself (side_of m x.mode);
          later = omega arith;
        })

-- and each noted access is of a step that is done
pub put_sound : (done : List Made) (m : Made) (q : Obj) (xs : List Access) (sides : List Side) → Contains done m
    → ((x : Access) → Contains xs x → Contains (data_of m) x) → All (IsOfStep done q) sides
    → All (IsOfStep done q) (with_sides xs m q sides)
put_sound done m q [] sides made among h = h
put_sound done m q (x ∷ xs) sides made among h =
    put_sound done m q xs (cond (obj_eq x.object q) (with_side sides (side_of m x.mode)) sides) made
    (λ y at. among y (Contains-rest x xs y at)) (go (obj_eq x.object q) refl)
  where
    go : (b : Bool) → obj_eq x.object q ≡ b
        → All (IsOfStep done q) (cond b (with_side sides (side_of m x.mode)) sides)
    go true e = All-push (IsOfStep done q) (filter (others (side_of m x.mode)) sides) (side_of m x.mode)
        (All-filter (others (side_of m x.mode)) (IsOfStep done q) sides h) (record {
          made = m;
          access = x;
          stands = made;
          accesses = among x (Contains-first x xs);
          at = obj_eq-true x.object q e;
          is = refl;
        })
    go false e = h

pub still_of : (done : List Made) (m : Made) (q : Obj) (s : Side) → IsOfStep done q s → IsOfStep (done ++ m ∷ []) q s
still_of done m q s h = record {
  made = h.made;
  access = h.access;
  stands = Contains-append_left done (m ∷ []) h.made h.stands;
  accesses = h.accesses;
  at = h.at;
  is = h.is;
}

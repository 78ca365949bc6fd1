-- The list of arrows has exactly the arrows.
use Rattle.std.proofs.Common.{◌≡◌, ◌≢◌, refl, sym, ◌∙◌, ap, subst, ℕ, zero, suc, ◌+◌, ◌<◌, ◌≤◌, ◌==◌, ◌&&◌, Bool, true, false, cond}
use Rattle.std.proofs.Common.{Option, None, Some, List, [], ◌∷◌, ◌++◌, ⊎_elim, append_assoc, ◌↔◌, arith}
use Rattle.std.specs.Prelude.{is_some, Contains}
use Rattle.std.specs.List.{AllByRecursion}
use Rattle.std.specs.Option.{option_or}
use Rattle.std.proofs.lemmas.Bool.Decides.{Decides-eqb}
use Rattle.std.proofs.lemmas.List.{append-nil}
use Rattle.std.proofs.lemmas.List.Elements.{Contains-append_left, Contains-append_right, Contains-append_cases}
use Rattle.std.proofs.lemmas.List.Elements.{Contains-push, Contains-push_cases}
use Rattle.om_foot.specs.declared.object.Obj.{Obj}
use Rattle.om_foot.specs.Footprint.{conflict_of}
use Rattle.lab_graph.specs.declared.traced.Traced.{Traced}
use Rattle.lab_graph.specs.declared.picture.Arrow.{Arrow}
use Rattle.lab_graph.specs.Pictures.{end_of, touched, meets_from, last_meeting, arrow_at, arrow_if, arrow_to}
use Rattle.lab_graph.specs.Pictures.{arrow_from, arrows_from, lanes, arrows_behind, arrows_of, variable_of, IsFreeOf, IsArrow}

-- ---- the last step of a worker that conflicts with a later one

free : (p : Bool) (o : Option Obj) → p && is_some o ≡ false → p ≡ true → o ≡ None
free true None h e = refl
free true (Some q) h e = cc
free false o h e = cc

free_of : (w : ℕ) (c b : Traced) → meets_from w c b ≡ false → IsFreeOf w b c
free_of w c b h e = free (c.entry.worker == w) (conflict_of (touched c) (touched b)) h
    ((Decides-eqb c.entry.worker w).1 e)

no_meeting : (p : Bool) (o : Option Obj) → (p ≡ true → o ≡ None) → p && is_some o ≡ false
no_meeting true None h = refl
no_meeting true (Some q) h = cc (h refl)
no_meeting false o h = refl

meets_not : (w : ℕ) (c b : Traced) → IsFreeOf w b c → meets_from w c b ≡ false
meets_not w c b h = no_meeting (c.entry.worker == w) (conflict_of (touched c) (touched b))
    (λ e. h ((Decides-eqb c.entry.worker w).0 e))

neither : (o : Option Traced) (m : Bool) (c : Traced) → option_or o (cond m (Some c) None) ≡ None
    → (o ≡ None) × (m ≡ false)
neither None false c h = (refl, refl)
neither None true c h = cc
neither (Some x) m c h = cc

none_meets : (w : ℕ) (us : List Traced) (b : Traced) → last_meeting w us b ≡ None → AllByRecursion (IsFreeOf w b) us
none_meets w [] b h = tt
none_meets w (c ∷ rest) b h =
    let both = neither (last_meeting w rest b) (meets_from w c b) c h in
    (free_of w c b both.1, none_meets w rest b both.0)

not_met : (w : ℕ) (us : List Traced) (b : Traced) → AllByRecursion (IsFreeOf w b) us → last_meeting w us b ≡ None
not_met w [] b h = refl
not_met w (c ∷ rest) b h =
    (λ i. option_or (not_met w rest b h.1 i) (cond (meets_not w c b h.0 i) (Some c) None))

-- where the last one stands
record Meeting (w : ℕ) (us : List Traced) (b a : Traced) : Type 0 where
  before : List Traced
  between : List Traced
  place : us ≡ before ++ a ∷ between
  met : meets_from w a b ≡ true
  last : AllByRecursion (IsFreeOf w b) between

meeting : (w : ℕ) (us : List Traced) (b a : Traced) → last_meeting w us b ≡ Some a → Meeting w us b a
meeting w [] b a h = cc
meeting w (c ∷ rest) b a h =
    go (last_meeting w rest b) (meets_from w c b) refl refl (meeting w rest b a) h
  where
    go : (o : Option Traced) (m : Bool) → last_meeting w rest b ≡ o → meets_from w c b ≡ m
        → (last_meeting w rest b ≡ Some a → Meeting w rest b a) → option_or o (cond m (Some c) None) ≡ Some a
        → Meeting w (c ∷ rest) b a
    go (Some x) m is met later e =
        let more : Meeting w rest b a = later (is ∙ e) in
        record {
          before = c ∷ more.before;
          between = more.between;
          place = ap (λ l. c ∷ l) more.place;
          met = more.met;
          last = more.last;
        }
    go None true is met later e =
        let same : c ≡ a = cc in
        record {
          before = [];
          between = rest;
          place = ap (λ (x : Traced). x ∷ rest) same;
          met = subst (λ (x : Traced). meets_from w x b ≡ true) same met;
          last = none_meets w rest b is;
        }
    go None false is met later e = cc

meets_there : (w : ℕ) (before : List Traced) (a : Traced) (between : List Traced) (b : Traced)
    → meets_from w a b ≡ true → AllByRecursion (IsFreeOf w b) between
    → last_meeting w (before ++ a ∷ between) b ≡ Some a
meets_there w [] a between b met last =
    (λ i. option_or (not_met w between b last i) (cond (met i) (Some a) None))
meets_there w (c ∷ cs) a between b met last =
    ap (λ o. option_or o (cond (meets_from w c b) (Some c) None)) (meets_there w cs a between b met last)

-- ---- the arrow from the steps of a worker

is_false : (p : Bool) → (p ≡ true → ⊥) → p ≡ false
is_false true h = absurd (h refl)
is_false false h = refl

both_ways : (p : Bool) → p ≡ false → p ≡ true → ⊥
both_ways p a b = cc

first_true : (p q : Bool) → p && q ≡ true → p ≡ true
first_true true q h = refl
first_true false q h = cc

both_true : (p q : Bool) → p ≡ true → q ≡ true → p && q ≡ true
both_true p q a b = (λ i. a i && b i)

-- an arrow into a step from one of those before it
record IsInto (us : List Traced) (b : Traced) (x : Arrow) : Type 0 where
  before : List Traced
  a : Traced
  between : List Traced
  place : us ≡ before ++ a ∷ between
  other_worker : a.entry.worker ≢ b.entry.worker
  conflict : conflict_of (touched a) (touched b) ≡ Some x.object
  last : AllByRecursion (IsFreeOf a.entry.worker b) between
  from_is : x.from ≡ end_of a
  to_is : x.to ≡ end_of b
  variable_is : x.variable ≡ variable_of a b

nothing : {X : Type 0} (x : X) → Contains [] x → ⊥
nothing x h = omega (arith, h.1)

only : {X : Type 0} (y x : X) → Contains (y ∷ []) x → y ≡ x
only y x h = ⊎_elim (λ n. absurd (nothing x n)) (λ e. e) (Contains-push_cases [] y x h)

between_by : (w : ℕ) (us : List Traced) (a b : Traced) (x : Arrow) (o : Option Obj)
    → conflict_of (touched a) (touched b) ≡ o → Meeting w us b a → b.entry.worker == w ≡ false
    → Contains (arrow_if a b o) x → IsInto us b x
between_by w us a b x None e m other h = absurd (nothing x h)
between_by w us a b x (Some q) e m other h =
    let is = only _ x h in
    let own : a.entry.worker ≡ w =
    (Decides-eqb a.entry.worker w).0
    (first_true (a.entry.worker == w) (is_some (conflict_of (touched a) (touched b))) m.met) in
    record {
      before = m.before;
      a = a;
      between = m.between;
      place = m.place;
      other_worker = (λ same. both_ways _ other ((Decides-eqb b.entry.worker w).1 (sym same ∙ own)));
      conflict = e ∙ ap (λ (y : Arrow). Some y.object) is;
      last = subst (λ n. AllByRecursion (IsFreeOf n b) m.between) (sym own) m.last;
      from_is = sym (ap (λ (y : Arrow). y.from) is);
      to_is = sym (ap (λ (y : Arrow). y.to) is);
      variable_is = sym (ap (λ (y : Arrow). y.variable) is);
    }

to_sound : (w : ℕ) (us : List Traced) (b : Traced) (x : Arrow) (o : Option Traced) → last_meeting w us b ≡ o
    → b.entry.worker == w ≡ false → Contains (arrow_to b o) x → IsInto us b x
to_sound w us b x None e other h = absurd (nothing x h)
to_sound w us b x (Some a) e other h =
    between_by w us a b x (conflict_of (touched a) (touched b)) refl (meeting w us b a e) other h

from_sound : (w : ℕ) (us : List Traced) (b : Traced) (x : Arrow) → Contains (arrow_from w us b) x → IsInto us b x
from_sound w us b x h = go (b.entry.worker == w) refl h
  where
    go : (p : Bool) → b.entry.worker == w ≡ p → Contains (cond p [] (arrow_to b (last_meeting w us b))) x
        → IsInto us b x
    go true e h = absurd (nothing x h)
    go false e h = to_sound w us b x (last_meeting w us b) refl e h

into_sound : (w n : ℕ) (us : List Traced) (b : Traced) (x : Arrow) → Contains (arrows_from w n us b) x → IsInto us b x
into_sound w zero us b x h = absurd (nothing x h)
into_sound w (suc n) us b x h =
    ⊎_elim (λ l. from_sound w us b x l) (λ r. into_sound (w + 1) n us b x r)
    (Contains-append_cases (arrow_from w us b) (arrows_from (w + 1) n us b) x h)

arrow_there : (a b : Traced) (x : Arrow) → x.from ≡ end_of a → x.to ≡ end_of b → x.variable ≡ variable_of a b
    → Contains (arrow_if a b (Some x.object)) x
arrow_there a b x from_is to_is variable_is =
    let is : arrow_at a b x.object ≡ x =
    λ i. record { from = sym from_is i; to = sym to_is i; object = x.object; variable = sym variable_is i } in
    subst (λ y. Contains (y ∷ []) x) (sym is) (Contains-push [] x)

from_complete : (us : List Traced) (b : Traced) (x : Arrow) (y : IsInto us b x)
    → Contains (arrow_from y.a.entry.worker us b) x
from_complete us b x y =
    let w : ℕ = y.a.entry.worker in
    let other : b.entry.worker == w ≡ false =
    is_false _ (λ e. y.other_worker (sym ((Decides-eqb b.entry.worker w).0 e))) in
    let met : meets_from w y.a b ≡ true =
    both_true (w == w) (is_some (conflict_of (touched y.a) (touched b))) ((Decides-eqb w w).1 refl)
    (ap is_some y.conflict) in
    let there : last_meeting w us b ≡ Some y.a =
    ap (λ l. last_meeting w l b) y.place ∙ meets_there w y.before y.a y.between b met y.last in
    let is : arrow_from w us b ≡ arrow_if y.a b (Some x.object) =
    (λ i. cond (other i) [] (arrow_to b (there i))) ∙ ap (arrow_if y.a b) y.conflict in
    subst (λ l. Contains l x) (sym is) (arrow_there y.a b x y.from_is y.to_is y.variable_is)

into_complete : (w n : ℕ) (us : List Traced) (b : Traced) (x : Arrow) (y : IsInto us b x) → w ≤ y.a.entry.worker
    → y.a.entry.worker < w + n → Contains (arrows_from w n us b) x
into_complete w zero us b x y low high = absurd (omega (arith, low, high))
into_complete w (suc n) us b x y low high =
    go (y.a.entry.worker == w) refl (λ more. into_complete (w + 1) n us b x y more (omega (arith, high)))
  where
    go : (p : Bool) → y.a.entry.worker == w ≡ p
        → (w + 1 ≤ y.a.entry.worker → Contains (arrows_from (w + 1) n us b) x)
        → Contains (arrows_from w (suc n) us b) x
    go true e later =
        Contains-append_left (arrow_from w us b) (arrows_from (w + 1) n us b) x
        (subst (λ k. Contains (arrow_from k us b) x) ((Decides-eqb y.a.entry.worker w).0 e) (from_complete us b x y))
    go false e later =
        let other : y.a.entry.worker ≢ w = λ same. both_ways _ e ((Decides-eqb y.a.entry.worker w).1 same) in
        Contains-append_right (arrow_from w us b) (arrows_from (w + 1) n us b) x (later (omega (arith, low, other)))

-- ---- the arrows into all steps

record IsBehind (front rest : List Traced) (x : Arrow) : Type 0 where
  mid : List Traced
  b : Traced
  later : List Traced
  place : rest ≡ mid ++ b ∷ later
  into : IsInto (front ++ mid) b x

next_behind : (front : List Traced) (b : Traced) (rest : List Traced) (x : Arrow) → IsBehind (front ++ b ∷ []) rest x
    → IsBehind front (b ∷ rest) x
next_behind front b rest x y = record {
  mid = b ∷ y.mid;
  b = y.b;
  later = y.later;
  place = ap (λ l. b ∷ l) y.place;
  into = subst (λ l. IsInto l y.b x) (append_assoc front (b ∷ []) y.mid) y.into;
}

behind_sound : (n : ℕ) (front rest : List Traced) (x : Arrow) → Contains (arrows_behind n front rest) x
    → IsBehind front rest x
behind_sound n front [] x h = absurd (nothing x h)
behind_sound n front (b ∷ rest) x h =
    ⊎_elim (λ l. record {
      mid = [];
      b = b;
      later = rest;
      place = refl;
      into = subst (λ us. IsInto us b x) (sym (append-nil front)) (into_sound 0 n front b x l);
    })
    (λ r. next_behind front b rest x (behind_sound n (front ++ b ∷ []) rest x r))
    (Contains-append_cases (arrows_from 0 n front b) (arrows_behind n (front ++ b ∷ []) rest) x h)

-- an arrow into a step from one of a worker below a number
abbrev IsIntoBelow : ℕ → List Traced → Traced → Arrow → Type 0
IsIntoBelow n us b x = (y : IsInto us b x) × (y.a.entry.worker < n)

behind_at : (n : ℕ) (front mid : List Traced) (b : Traced) (later : List Traced) (x : Arrow)
    → IsIntoBelow n (front ++ mid) b x → Contains (arrows_behind n front (mid ++ b ∷ later)) x
behind_at n front [] b later x h =
    let here : IsIntoBelow n front b x = subst (λ us. IsIntoBelow n us b x) (append-nil front) h in
    Contains-append_left (arrows_from 0 n front b) (arrows_behind n (front ++ b ∷ []) later) x
    (into_complete 0 n front b x here.0 (omega arith) (omega (arith, here.1)))
behind_at n front (m ∷ ms) b later x h =
    Contains-append_right (arrows_from 0 n front m) (arrows_behind n (front ++ m ∷ []) (ms ++ b ∷ later)) x
    (behind_at n (front ++ m ∷ []) ms b later x
    (subst (λ us. IsIntoBelow n us b x) (sym (append_assoc front (m ∷ []) ms)) h))

sound : (ts : List Traced) (x : Arrow) → Contains (arrows_of ts) x → IsArrow ts x
sound ts x h =
    let y : IsBehind [] ts x = behind_sound (lanes ts) [] ts x h in
    let z : IsInto y.mid y.b x = y.into in
    record {
      before = z.before;
      a = z.a;
      between = z.between;
      b = y.b;
      later = y.later;
      place = y.place ∙ ap (λ us. us ++ y.b ∷ y.later) z.place;
      other_worker = z.other_worker;
      conflict = z.conflict;
      last = z.last;
      from_is = z.from_is;
      to_is = z.to_is;
      variable_is = z.variable_is;
    }

-- the worker of each step has a lane
has_lane : (before : List Traced) (a : Traced) (rest : List Traced) → a.entry.worker < lanes (before ++ a ∷ rest)
has_lane [] a rest = omega arith
has_lane (c ∷ cs) a rest = let more : a.entry.worker < lanes (cs ++ a ∷ rest) = has_lane cs a rest in omega (arith, more)

complete : (ts : List Traced) (x : Arrow) → IsArrow ts x → Contains (arrows_of ts) x
complete ts x y =
    let front : List Traced = y.before ++ y.a ∷ y.between in
    let lane : y.a.entry.worker < lanes (front ++ y.b ∷ y.later) =
    subst (λ l. y.a.entry.worker < lanes l) (sym (append_assoc y.before (y.a ∷ y.between) (y.b ∷ y.later)))
    (has_lane y.before y.a (y.between ++ y.b ∷ y.later)) in
    let into : IsInto front y.b x = record {
      before = y.before;
      a = y.a;
      between = y.between;
      place = refl;
      other_worker = y.other_worker;
      conflict = y.conflict;
      last = y.last;
      from_is = y.from_is;
      to_is = y.to_is;
      variable_is = y.variable_is;
    } in
    subst (λ l. Contains (arrows_of l) x) (sym y.place)
    (behind_at (lanes (front ++ y.b ∷ y.later)) [] front y.b y.later x (into, lane))

-- what the list has is an arrow, and each arrow is in the list
pub exactly : (ts : List Traced) (x : Arrow) → Contains (arrows_of ts) x ↔ IsArrow ts x
exactly ts x = (sound ts x, complete ts x)

-- The touches of a worker's steps, and what a search in them finds.
use Rattle.std.proofs.Common.{◌≡◌, refl, sym, ◌∙◌, ap, subst, Bool, true, false, cond, ◌&&◌, ◌==◌, nat_eq, ℕ, zero, suc, ◌+◌, ◌-◌, ◌<◌, ◌≤◌}
use Rattle.std.proofs.Common.{arith, Option, None, Some, List, [], ◌∷◌, ◌++◌, ◌⊎◌, inl, inr, ⊎_elim, length, drop, get_or, max, Bor}
use Rattle.std.proofs.Common.{drop-cons, length-append, length-drop}
use Rattle.std.specs.Prelude.{is_some, nat_le, nat_lt, slice_get, IfSome}
use Rattle.std.specs.Option.{option_copied, option_or}
use Rattle.std.proofs.lemmas.Bool.{true≢false}
use Rattle.std.proofs.lemmas.Bool.Decides.{Decides-eqb}
use Rattle.std.proofs.lemmas.Option.{slice_get-get_or, slice_get_past, slice_get_read}
use Rattle.om_foot.specs.declared.object.Obj.{Obj}
use Rattle.om_foot.specs.declared.footprint.Mode.{Mode}
use Rattle.om_foot.specs.declared.footprint.Access.{Access}
use Rattle.om_foot.specs.Firsts.{IsFirst}
use Rattle.om_foot.specs.Footprint.{conflict_of}
use Rattle.om_undo_touches.specs.declared.touches.TouchLists.{TouchLists}
use Rattle.om_undo_touches.specs.Searches.{IsFirst-same, conflict-mutual, meets-alike, meets-named, meets-none}
use Rattle.om_undo_touches.specs.Touches.{names, has_touch, meets, AreWith}
use Rattle.lab_graph.specs.declared.traced.Traced.{Traced}
use Rattle.lab_graph.specs.Ranks.{touches_at, listed, AreTouches, AreFrom, FindsLast, Notes}
use Rattle.lab_graph.specs.Pictures.{lanes, last_meeting, meets_from, touched}

nat_self : (x : ℕ) → nat_eq x x ≡ true
nat_self x = (Decides-eqb x x).1 refl

nat_other : (x y : ℕ) → (x ≡ y → ⊥) → nat_eq x y ≡ false
nat_other x y h = go (nat_eq x y) refl
  where
    go : (b : Bool) → nat_eq x y ≡ b → b ≡ false
    go false e = refl
    go true e = absurd (h ((Decides-eqb x y).0 e))

-- ---- one step more

pub note_next : (w i : ℕ) (ts : List Traced) (t : Traced) (rank : ℕ) (old new : TouchLists) → 0 < i → i ≤ length ts
    → t ≡ get_or ts (i - 1) t → rank ≡ length ts - (i - 1) → AreTouches w (drop i ts) old → Notes w t rank old new
    → AreTouches w (drop (i - 1) ts) new
note_next w i ts t rank old new some within is ranked are notes o m s =
    notes o m s
    ∙ ap (cond (touches_at w t rank o m s) true) (are o m s)
    ∙ ap (λ n. cond (touches_at w t n o m s) true (listed w (drop i ts) o m s)) rank_is
    ∙ ap (λ xs. listed w xs o m s) (sym step)
  where
    next : suc (i - 1) ≡ i
    next = omega (arith, some)

    step : drop (i - 1) ts ≡ t ∷ drop i ts
    step = drop-cons ts (i - 1) t (omega (arith, some, within)) ∙ ap (λ x. x ∷ drop (suc (i - 1)) ts) (sym is)
        ∙ ap (λ n. t ∷ drop n ts) next

    rank_is : rank ≡ length (drop i ts) + 1
    rank_is = omega (arith, some, within, ranked, length-drop i ts)

-- ---- what is listed at a rank

no_touch : (p n b : Bool) → cond (p && (false && n)) true b ≡ b
no_touch true n b = refl
no_touch false n b = refl

-- nothing is listed at a rank that no step has
beyond : (w : ℕ) (ts : List Traced) (o : Obj) (m : Mode) (s : ℕ) → length ts < s → listed w ts o m s ≡ false
beyond w [] o m s h = refl
beyond w (t ∷ ts) o m s h =
    ap (λ e. cond ((t.entry.worker == w) && (e && names o m (touched t))) true (listed w ts o m s))
    (nat_other (length ts + 1) s (λ e. omega (arith, h, e)))
    ∙ no_touch (t.entry.worker == w) (names o m (touched t)) (listed w ts o m s)
    ∙ beyond w ts o m s (omega (arith, h))

-- below the rank of the first step the others are listed
lower : (w : ℕ) (t : Traced) (ts : List Traced) (o : Obj) (m : Mode) (s : ℕ) → s ≤ length ts
    → listed w (t ∷ ts) o m s ≡ listed w ts o m s
lower w t ts o m s h =
    ap (λ e. cond ((t.entry.worker == w) && (e && names o m (touched t))) true (listed w ts o m s))
    (nat_other (length ts + 1) s (λ e. omega (arith, h, e)))
    ∙ no_touch (t.entry.worker == w) (names o m (touched t)) (listed w ts o m s)

-- at its rank the first step is
first : (w : ℕ) (t : Traced) (ts : List Traced) (o : Obj) (m : Mode)
    → listed w (t ∷ ts) o m (length ts + 1) ≡ (t.entry.worker == w) && names o m (touched t)
first w t ts o m =
    (λ j. cond ((t.entry.worker == w) && (nat_self (length ts + 1) j && names o m (touched t))) true
    (beyond w ts o m (length ts + 1) (omega arith) j))
    ∙ either (t.entry.worker == w) (names o m (touched t))
  where
    either : (p n : Bool) → cond (p && (true && n)) true false ≡ p && n
    either true true = refl
    either true false = refl
    either false n = refl

-- what a footprint meets there

meets_beyond : (w : ℕ) (ts : List Traced) (fs : List Access) (s : ℕ) → length ts < s
    → meets (listed w ts) fs s ≡ false
meets_beyond w ts fs s h = meets-none (listed w ts) fs s (λ o m. beyond w ts o m s h)

meets_lower : (w : ℕ) (t : Traced) (ts : List Traced) (fs : List Access) (s : ℕ) → s ≤ length ts
    → meets (listed w (t ∷ ts)) fs s ≡ meets (listed w ts) fs s
meets_lower w t ts fs s h = meets-alike (listed w (t ∷ ts)) (listed w ts) fs s s (λ o m. lower w t ts o m s h)

meets_first : (w : ℕ) (t : Traced) (ts : List Traced) (b : Traced)
    → meets (listed w (t ∷ ts)) (touched b) (length ts + 1) ≡ meets_from w t b
meets_first w t ts b =
    meets-alike (listed w (t ∷ ts)) (λ o m s. (t.entry.worker == w) && names o m (touched t)) (touched b)
    (length ts + 1) 0 (λ o m. first w t ts o m)
    ∙ of_worker (t.entry.worker == w)
  where
    of_worker : (p : Bool) → meets (λ o m s. p && names o m (touched t)) (touched b) 0
        ≡ p && is_some (conflict_of (touched t) (touched b))
    of_worker true = meets-named (touched b) (touched t) ∙ conflict-mutual (touched b) (touched t)
    of_worker false = meets-none (λ o m s. false) (touched b) 0 (λ o m. refl)

-- ---- what a search finds

-- the step that a search has found among those before another one, which has this rank
abbrev pub picked : List Traced → ℕ → Option ℕ → Option Traced
picked before rank None = None
picked before rank (Some t) = slice_get before (length before - (t - rank))

either_way : (x y : ℕ) → (x ≤ y) ⊎ (y < x)
either_way x y = go (nat_le x y) refl
  where
    go : (b : Bool) → nat_le x y ≡ b → (x ≤ y) ⊎ (y < x)
    go true e = inl (grind (arith, e))
    go false e = inr (grind (arith, e))

-- where the first of some steps is not found, the search in the others finds nothing else
no_more : (w : ℕ) (t : Traced) (ts : List Traced) (fs : List Access) (rank : ℕ)
    → ((s : ℕ) → rank < s → s ≤ length ts → meets (listed w (t ∷ ts)) fs s ≡ false)
    → IsFirst (meets (listed w ts) fs) rank None
no_more w t ts fs rank h s above =
    ⊎_elim (λ within. sym (meets_lower w t ts fs s within) ∙ h s above within)
    (λ out. meets_beyond w ts fs s out) (either_way s (length ts))

-- the steps before: the first of them, and the others
none_first : (w : ℕ) (t : Traced) (us : List Traced) (b : Traced) → None ≡ last_meeting w us b
    → meets_from w t b ≡ false → None ≡ last_meeting w (t ∷ us) b
none_first w t us b none free = (λ j. option_or (none j) (cond (sym free j) (Some t) None))

this_first : (w : ℕ) (t : Traced) (us : List Traced) (b : Traced) → None ≡ last_meeting w us b
    → meets_from w t b ≡ true → Some t ≡ last_meeting w (t ∷ us) b
this_first w t us b none met = (λ j. option_or (none j) (cond (sym met j) (Some t) None))

later_first : (w : ℕ) (t x : Traced) (us : List Traced) (b : Traced) → Some x ≡ last_meeting w us b
    → Some x ≡ last_meeting w (t ∷ us) b
later_first w t x us b is = ap (λ o. option_or o (cond (meets_from w t b) (Some t) None)) is

pub finds : (w : ℕ) (before rest : List Traced) (b : Traced) (found : Option ℕ)
    → IsFirst (meets (listed w (before ++ rest)) (touched b)) (length rest) found
    → picked before (length rest) found ≡ last_meeting w before b
finds w [] rest b None h = refl
finds w [] rest b (Some t) h =
    absurd (true≢false (sym h.1 ∙ meets_beyond w rest (touched b) t h.0))
finds w (a ∷ us) rest b None h =
    none_first w a us b
    (finds w us rest b None (no_more w a (us ++ rest) (touched b) (length rest) (λ s above within. h s above)))
    (sym (meets_first w a (us ++ rest) b)
    ∙ h (length (us ++ rest) + 1) (omega (arith, length-append us rest)))
finds w (a ∷ us) rest b (Some t) h =
    ⊎_elim
    (λ within.
    let less : t - length rest ≤ length us = omega (arith, within, length-append us rest) in
    let at : ℕ = length us - (t - length rest) in
    let there : slice_get us at ≡ Some (get_or us at a) = slice_get-get_or us at a (omega (arith, h.0, less)) in
    let index : suc (length us) - (t - length rest) ≡ suc at = omega (arith, less) in
    let ih : slice_get us at ≡ last_meeting w us b =
    finds w us rest b (Some t) (
      h.0,
      sym (meets_lower w a (us ++ rest) (touched b) t within) ∙ h.1,
      λ s above below. sym (meets_lower w a (us ++ rest) (touched b) s (omega (arith, below, within)))
          ∙ h.2 s above below,
    ) in
    ap (slice_get (a ∷ us)) index ∙ there ∙ later_first w a (get_or us at a) us b (sym there ∙ ih))
    (λ out.
    let top : t ≡ length (us ++ rest) + 1 = rank_of out in
    let index : suc (length us) - (t - length rest) ≡ zero = omega (arith, top, length-append us rest) in
    let none : None ≡ last_meeting w us b =
    finds w us rest b None (no_more w a (us ++ rest) (touched b) (length rest)
    (λ s above within. h.2 s above (omega (arith, within, out)))) in
    ap (slice_get (a ∷ us)) index
    ∙ this_first w a us b none
    (sym (meets_first w a (us ++ rest) b)
    ∙ ap (meets (listed w (a ∷ us ++ rest)) (touched b)) (sym top) ∙ h.1))
    (either_way t (length (us ++ rest)))
  where
    rank_of : length (us ++ rest) < t → t ≡ length (us ++ rest) + 1
    rank_of out =
        ⊎_elim (λ within. omega (arith, within, out))
        (λ more. absurd (true≢false (sym h.1 ∙ meets_beyond w (a ∷ us ++ rest) (touched b) t (omega (arith, more)))))
        (either_way t (length (us ++ rest) + 1))

-- a search in the touches of a worker's steps finds the last one before a step
pub finds_last : (touches : TouchLists) (before : List Traced) (later : Traced) (rank : ℕ) (o : Option ℕ)
    (found : Option Traced) → IsFirst (meets (has_touch touches) (touched later)) rank o
    → found ≡ picked before rank o → FindsLast before later rank touches found
finds_last touches before later rank o found first is w rest are ranked =
    is ∙ ap (λ n. picked before n o) ranked
    ∙ finds w before rest later o
    (subst (λ n. IsFirst (meets (listed w (before ++ rest)) (touched later)) n o) ranked
    (IsFirst-same (meets (has_touch touches) (touched later)) (meets (listed w (before ++ rest)) (touched later)) rank o
    (λ t. meets-alike (has_touch touches) (listed w (before ++ rest)) (touched later) t t (λ p m. are p m t)) first))

-- ---- the touches of each worker's steps

pub from-push : (w n : ℕ) (ts : List Traced) (all : List TouchLists) (more : TouchLists) → n ≡ w + length all
    → AreFrom w ts all → AreTouches n ts more → AreFrom w ts (all ++ more ∷ [])
from-push w n ts [] more at h are = (subst (λ k. AreTouches k ts more) (omega (arith, at)) are, tt)
from-push w n ts (x ∷ xs) more at h are = (h.0, from-push (w + 1) n ts xs more (omega (arith, at)) h.1 are)

pub all_more : (n : ℕ) (ts : List Traced) (all : List TouchLists) (more : TouchLists) → length all ≡ n
    → AreFrom 0 ts all → AreTouches n ts more
    → (length (all ++ more ∷ []) ≡ n + 1) × AreFrom 0 ts (all ++ more ∷ [])
all_more n ts all more count h are =
    (omega (arith, count, length-append all (more ∷ [])), from-push 0 n ts all more (omega (arith, count)) h are)

-- the touches of one of these workers
pub from_at : (w : ℕ) (ts : List Traced) (all : List TouchLists) (i : ℕ) (d : TouchLists) → i < length all
    → AreFrom w ts all → AreTouches (w + i) ts (get_or all i d)
from_at w ts [] i d less h = absurd (omega (arith, less))
from_at w ts (x ∷ xs) zero d less h = let e : w ≡ w + 0 = omega arith in subst (λ n. AreTouches n ts x) e h.0
from_at w ts (x ∷ xs) (suc i) d less h =
    let e : w + 1 + i ≡ w + suc i = omega arith in
    subst (λ n. AreTouches n ts (get_or xs i d)) e (from_at (w + 1) ts xs i d (omega (arith, less)) h.1)

-- ---- the touches of a step, where it is of the worker, and of another one

pub own_noted : (w : ℕ) (t : Traced) (rank : ℕ) (old new : TouchLists) → t.entry.worker == w ≡ true
    → AreWith (touched t) rank old new → Notes w t rank old new
own_noted w t rank old new own more o m s =
    more o m s ∙ ap (λ p. cond (p && (nat_eq rank s && names o m (touched t))) true (has_touch old o m s)) (sym own)

pub others_noted : (w : ℕ) (t : Traced) (rank : ℕ) (lists : TouchLists) → t.entry.worker == w ≡ false
    → Notes w t rank lists lists
others_noted w t rank lists other o m s =
    sym (ap (λ p. cond (p && (nat_eq rank s && names o m (touched t))) true (has_touch lists o m s)) other)

-- the touches at an index are those of the worker
pub lane_at : (ts : List Traced) (all : List TouchLists) (i : ℕ) (touches : TouchLists) → i < length all
    → touches ≡ get_or all i touches → AreFrom 0 ts all → AreTouches i ts touches
lane_at ts all i touches less is h =
    let e : 0 + i ≡ i = omega arith in
    subst (λ x. AreTouches i ts x) (sym is)
    (subst (λ n. AreTouches n ts (get_or all i touches)) e (from_at 0 ts all i touches less h))

-- ---- how many lanes there are

pub next_lane_count : (ts : List Traced) (i : ℕ) (t : Traced) (n k all : ℕ) → i < length ts → t ≡ get_or ts i t
    → k ≡ max n (t.entry.worker + 1) → max n (lanes (drop i ts)) ≡ all → max k (lanes (drop (i + 1) ts)) ≡ all
next_lane_count ts i t n k all less is more so_far =
    omega (arith, more, sym so_far ∙ ap (λ l. max n (lanes l)) step)
  where
    next : suc i ≡ i + 1
    next = omega arith

    step : drop i ts ≡ t ∷ drop (i + 1) ts
    step = drop-cons ts i t less ∙ ap (λ x. x ∷ drop (suc i) ts) (sym is) ∙ ap (λ m. t ∷ drop m ts) next

-- ---- what is read at an index

pub looked_up : (xs : List Traced) (i : ℕ) (o : Option (Bor Traced)) → is_some o ≡ nat_lt i (length xs)
    → IfSome o (λ x. x.now ≡ get_or xs i x.now) → option_copied o ≡ slice_get xs i
looked_up xs i None is read = sym (slice_get_past xs i (grind (arith, is)))
looked_up xs i (Some x) is read = sym (slice_get_read xs (length xs) i x.now refl (grind (arith, is)) read)

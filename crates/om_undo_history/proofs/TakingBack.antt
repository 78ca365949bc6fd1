-- Updates taken back along a footprint, by what a small record holds of them and by the trails.
use Rattle.std.proofs.Common.{◌≡◌, refl, sym, ◌∙◌, ap, subst, List, [], ◌∷◌, ℕ, zero, suc, ◌-◌, ◌≤◌, ◌<◌, length}
use Rattle.std.proofs.Common.{take, get_or, arith, cond, pos, ◌+ℤ◌}
use Rattle.std.specs.Prelude.{min, FitsSigned}
use Rattle.std.specs.Int.{w128}
use Rattle.std.proofs.lemmas.Int.{ints}
use Rattle.om_foot.specs.declared.footprint.Mode.{Mode}
use Rattle.om_foot.specs.declared.footprint.Mode.TheVariants as mode
use Rattle.om_foot.specs.declared.footprint.Access.{Access}
use Rattle.om_foot.specs.Objects.{obj_eq-same}
use Rattle.om_state.specs.declared.value.Val.{Val}
use Rattle.om_state.specs.declared.value.Val.TheVariants.{Count}
use Rattle.om_state.specs.declared.step.Update.{Update}
use Rattle.om_state.specs.declared.step.Update.TheVariants as update
use Rattle.om_state.specs.State.{State, value_after, undo_of, state_after, state_before, updated, undo_record}
use Rattle.om_state.specs.State.{taken_back}
use Rattle.om_undo_history.specs.Bounds.{FitsAt, FitsAll, FitsAtBack, FitsBack}
use Rattle.om_memory.specs.Memories.{Pasts}
use Rattle.om_undo_history.specs.Shapes.{AreShaped}
use Rattle.om_undo_history.specs.Fills.{popped, filled_at, popped_all, filled, small_record, noted_all}
use Rattle.om_undo_history.specs.Fills.{IfControl, AreMarked, HavePasts, CanTakeBack}
use Rattle.om_undo_history.proofs.Back.{taken_back-updated}
use Rattle.om_undo_history.proofs.Fills.{filled-noted}
use Rattle.om_undo_history.proofs.Marks.{steps_mark, marks_have_pasts}

-- the last of the first updates is taken back first

popped_all-more : (i : ℕ) (footprint : List Access) (us : List Update) (ps : Pasts) (da : Access) (du : Update)
    → i < length footprint → i < length us
    → popped_all (take (suc i) footprint) (take (suc i) us) ps ≡ popped_all (take i footprint) (take i us)
    (popped (get_or footprint i da) (get_or us i du) ps)
popped_all-more i [] us ps da du h k = absurd (omega arith)
popped_all-more i (a ∷ rest) [] ps da du h k = absurd (omega arith)
popped_all-more zero (a ∷ rest) (u ∷ us) ps da du h k = refl
popped_all-more (suc i) (a ∷ rest) (u ∷ us) ps da du h k =
    ap (popped a u) (popped_all-more i rest us ps da du (omega arith) (omega arith))

back-more : (i : ℕ) (footprint : List Access) (us : List Update) (s : State) (ps : Pasts) (da : Access) (du : Update)
    → i < length footprint → i < length us
    → taken_back (take (suc i) footprint) (filled (take (suc i) footprint) (take (suc i) us) ps) s
    ≡ taken_back (take i footprint)
    (filled (take i footprint) (take i us) (popped (get_or footprint i da) (get_or us i du) ps))
    (state_before (get_or footprint i da) (filled_at (get_or footprint i da) (get_or us i du) ps) s)
back-more i [] us s ps da du h k = absurd (omega arith)
back-more i (a ∷ rest) [] s ps da du h k = absurd (omega arith)
back-more zero (a ∷ rest) (u ∷ us) s ps da du h k = refl
back-more (suc i) (a ∷ rest) (u ∷ us) s ps da du h k =
    λ j. state_before a (filled_at a u (popped_all-more i rest us ps da du (omega arith) (omega arith) j))
    (back-more i rest us s ps da du (omega arith) (omega arith) j)

AreMarked-more : (i : ℕ) (footprint : List Access) (us : List Update) (da : Access) (du : Update)
    → i < length footprint → i < length us → AreMarked (take (suc i) footprint) (take (suc i) us)
    → IfControl (get_or footprint i da) (get_or us i du ≡ update.Keep) × AreMarked (take i footprint) (take i us)
AreMarked-more i [] us da du h k f = absurd (omega arith)
AreMarked-more i (a ∷ rest) [] da du h k f = absurd (omega arith)
AreMarked-more zero (a ∷ rest) (u ∷ us) da du h k f = (f.0, tt)
AreMarked-more (suc i) (a ∷ rest) (u ∷ us) da du h k f =
    let more = AreMarked-more i rest us da du (omega arith) (omega arith) f.1 in
    (more.0, (f.0, more.1))

HavePasts-more : (i : ℕ) (footprint : List Access) (us : List Update) (ps : Pasts) (da : Access) (du : Update)
    → i < length footprint → i < length us → HavePasts (take (suc i) footprint) (take (suc i) us) ps
    → IfControl (get_or footprint i da) (0 < length (ps (get_or footprint i da).object)) × HavePasts (take i footprint)
    (take i us) (popped (get_or footprint i da) (get_or us i du) ps)
HavePasts-more i [] us ps da du h k f = absurd (omega arith)
HavePasts-more i (a ∷ rest) [] ps da du h k f = absurd (omega arith)
HavePasts-more zero (a ∷ rest) (u ∷ us) ps da du h k f = (f.0, tt)
HavePasts-more (suc i) (a ∷ rest) (u ∷ us) ps da du h k f =
    let more = HavePasts-more i rest us ps da du (omega arith) (omega arith) f.1 in (
      more.0,
      (
        subst (λ (qs : Pasts). IfControl a (0 < length (qs a.object)))
            (popped_all-more i rest us ps da du (omega arith) (omega arith)) f.0,
        more.1,
      ),
    )

FitsBack-more : (i : ℕ) (footprint : List Access) (us : List Update) (s : State) (ps : Pasts) (da : Access)
    (du : Update) → i < length footprint → i < length us
    → FitsBack (take (suc i) footprint) (filled (take (suc i) footprint) (take (suc i) us) ps) s
    → FitsAtBack (get_or footprint i da).mode (filled_at (get_or footprint i da) (get_or us i du) ps)
    (s (get_or footprint i da).object) × FitsBack (take i footprint)
    (filled (take i footprint) (take i us) (popped (get_or footprint i da) (get_or us i du) ps))
    (state_before (get_or footprint i da) (filled_at (get_or footprint i da) (get_or us i du) ps) s)
FitsBack-more i [] us s ps da du h k f = absurd (omega arith)
FitsBack-more i (a ∷ rest) [] s ps da du h k f = absurd (omega arith)
FitsBack-more zero (a ∷ rest) (u ∷ us) s ps da du h k f = (f.0, tt)
FitsBack-more (suc i) (a ∷ rest) (u ∷ us) s ps da du h k f =
    let more = FitsBack-more i rest us s ps da du (omega arith) (omega arith) f.1 in
    let less = popped_all-more i rest us ps da du (omega arith) (omega arith) in
    let back = back-more i rest us s ps da du (omega arith) (omega arith) in (
      more.0,
      (
        subst (λ (t : State). FitsAtBack a.mode
            (filled_at a u (popped_all (take i rest) (take i us) (popped (get_or rest i da) (get_or us i du) ps)))
            (t a.object)) back
            (subst (λ (qs : Pasts). FitsAtBack a.mode (filled_at a u qs)
            (taken_back (take (suc i) rest) (filled (take (suc i) rest) (take (suc i) us) ps) s a.object)) less f.0),
        more.1,
      ),
    )

-- one turn: of i updates the last is taken back, and j are left
pub record BackTurn (i j : ℕ) (footprint : List Access) (us : List Update) (s : State) (ps : Pasts) (a : Access)
    (u : Update) : Type 0 where
  pub marked : IfControl a (u ≡ update.Keep)
  pub past : IfControl a (0 < length (ps a.object))
  pub fits : FitsAtBack a.mode (filled_at a u ps) (s a.object)
  pub can : CanTakeBack (take j footprint) (take j us) (state_before a (filled_at a u ps) s) (popped a u ps)
  pub state : taken_back (take i footprint) (filled (take i footprint) (take i us) ps) s
      ≡ taken_back (take j footprint) (filled (take j footprint) (take j us) (popped a u ps))
      (state_before a (filled_at a u ps) s)
  pub pasts : popped_all (take i footprint) (take i us) ps ≡ popped_all (take j footprint) (take j us) (popped a u ps)

back_turn-suc : (i : ℕ) (footprint : List Access) (us : List Update) (s : State) (ps : Pasts) (da : Access)
    (du : Update) → i < length footprint → i < length us
    → CanTakeBack (take (suc i) footprint) (take (suc i) us) s ps
    → BackTurn (suc i) i footprint us s ps (get_or footprint i da) (get_or us i du)
back_turn-suc i footprint us s ps da du h k f =
    let marked = AreMarked-more i footprint us da du h k f.marked in
    let past = HavePasts-more i footprint us ps da du h k f.pasts in
    let fits = FitsBack-more i footprint us s ps da du h k f.fits in
    record {
      marked = marked.0;
      past = past.0;
      fits = fits.0;
      can = record { marked = marked.1; pasts = past.1; fits = fits.1 };
      state = back-more i footprint us s ps da du h k;
      pasts = popped_all-more i footprint us ps da du h k;
    }

pub back_turn : (i : ℕ) (footprint : List Access) (us : List Update) (s : State) (ps : Pasts) (a : Access) (u : Update)
    → 0 < i → i ≤ length footprint → i ≤ length us → a ≡ get_or footprint (i - 1) a → u ≡ get_or us (i - 1) u
    → CanTakeBack (take i footprint) (take i us) s ps → BackTurn i (i - 1) footprint us s ps a u
back_turn i footprint us s ps a u more h k e_a e_u f =
    let up : i ≡ suc (i - 1) = omega arith in
    subst (λ n. BackTurn n (i - 1) footprint us s ps a u) (sym up)
    (subst (λ b. BackTurn (suc (i - 1)) (i - 1) footprint us s ps b u) (sym e_a)
    (subst (λ w. BackTurn (suc (i - 1)) (i - 1) footprint us s ps (get_or footprint (i - 1) a) w) (sym e_u)
    (back_turn-suc (i - 1) footprint us s ps a u (omega arith) (omega arith)
    (subst (λ n. CanTakeBack (take n footprint) (take n us) s ps) up f))))

-- what is beyond the shorter list takes nothing back

popped_all-front : (i : ℕ) (footprint : List Access) (us : List Update) (ps : Pasts)
    → min (length footprint) (length us) ≤ i → popped_all (take i footprint) (take i us) ps ≡ popped_all footprint us ps
popped_all-front zero [] us ps h = refl
popped_all-front zero (a ∷ rest) [] ps h = refl
popped_all-front zero (a ∷ rest) (u ∷ us) ps h = absurd (omega arith)
popped_all-front (suc i) [] us ps h = refl
popped_all-front (suc i) (a ∷ rest) [] ps h = refl
popped_all-front (suc i) (a ∷ rest) (u ∷ us) ps h = ap (popped a u) (popped_all-front i rest us ps (omega arith))

back-front : (i : ℕ) (footprint : List Access) (us : List Update) (s : State) (ps : Pasts)
    → min (length footprint) (length us) ≤ i
    → taken_back (take i footprint) (filled (take i footprint) (take i us) ps) s
    ≡ taken_back footprint (filled footprint us ps) s
back-front zero [] us s ps h = refl
back-front zero (a ∷ rest) [] s ps h = refl
back-front zero (a ∷ rest) (u ∷ us) s ps h = absurd (omega arith)
back-front (suc i) [] us s ps h = refl
back-front (suc i) (a ∷ rest) [] s ps h = refl
back-front (suc i) (a ∷ rest) (u ∷ us) s ps h =
    λ j. state_before a (filled_at a u (popped_all-front i rest us ps (omega arith) j))
    (back-front i rest us s ps (omega arith) j)

AreMarked-front : (i : ℕ) (footprint : List Access) (us : List Update) → AreMarked footprint us
    → AreMarked (take i footprint) (take i us)
AreMarked-front zero footprint us f = tt
AreMarked-front (suc i) [] us f = tt
AreMarked-front (suc i) (a ∷ rest) [] f = tt
AreMarked-front (suc i) (a ∷ rest) (u ∷ us) f = (f.0, AreMarked-front i rest us f.1)

HavePasts-front : (i : ℕ) (footprint : List Access) (us : List Update) (ps : Pasts)
    → min (length footprint) (length us) ≤ i → HavePasts footprint us ps → HavePasts (take i footprint) (take i us) ps
HavePasts-front zero footprint us ps h f = tt
HavePasts-front (suc i) [] us ps h f = tt
HavePasts-front (suc i) (a ∷ rest) [] ps h f = tt
HavePasts-front (suc i) (a ∷ rest) (u ∷ us) ps h f = (
  subst (λ (qs : Pasts). IfControl a (0 < length (qs a.object)))
      (sym (popped_all-front i rest us ps (omega arith))) f.0,
  HavePasts-front i rest us ps (omega arith) f.1,
)

FitsBack-front : (i : ℕ) (footprint : List Access) (us : List Update) (s : State) (ps : Pasts)
    → min (length footprint) (length us) ≤ i → FitsBack footprint (filled footprint us ps) s
    → FitsBack (take i footprint) (filled (take i footprint) (take i us) ps) s
FitsBack-front zero footprint us s ps h f = tt
FitsBack-front (suc i) [] us s ps h f = tt
FitsBack-front (suc i) (a ∷ rest) [] s ps h f = tt
FitsBack-front (suc i) (a ∷ rest) (u ∷ us) s ps h f = (
  subst (λ (t : State). FitsAtBack a.mode (filled_at a u (popped_all (take i rest) (take i us) ps)) (t a.object))
      (sym (back-front i rest us s ps (omega arith)))
      (subst (λ (qs : Pasts). FitsAtBack a.mode (filled_at a u qs) (taken_back rest (filled rest us ps) s a.object))
      (sym (popped_all-front i rest us ps (omega arith))) f.0),
  FitsBack-front i rest us s ps (omega arith) f.1,
)

-- all of a footprint, by as many as it has
pub record BackWhole (i : ℕ) (footprint : List Access) (us : List Update) (s : State) (ps : Pasts) : Type 0 where
  pub can : CanTakeBack (take i footprint) (take i us) s ps
  pub state : taken_back (take i footprint) (filled (take i footprint) (take i us) ps) s
      ≡ taken_back footprint (filled footprint us ps) s
  pub pasts : popped_all (take i footprint) (take i us) ps ≡ popped_all footprint us ps

pub back_whole : (i : ℕ) (footprint : List Access) (us : List Update) (s : State) (ps : Pasts)
    → min (length footprint) (length us) ≤ i → CanTakeBack footprint us s ps → BackWhole i footprint us s ps
back_whole i footprint us s ps h f = record {
  can = record {
    marked = AreMarked-front i footprint us f.marked;
    pasts = HavePasts-front i footprint us ps h f.pasts;
    fits = FitsBack-front i footprint us s ps h f.fits;
  };
  state = back-front i footprint us s ps h;
  pasts = popped_all-front i footprint us ps h;
}

-- what was made can be taken back

undo_fits : (m : Mode) (u : Update) (v : Val) → FitsAt m u v → FitsAtBack m (undo_of m u v) (value_after m u v)
undo_fits mode.Add (update.Add d) (Count n) h = let before : FitsSigned w128 (n +ℤ pos 0) = h.0 in omega (arith, ints)
undo_fits mode.Add (update.Add d) _ h = tt
undo_fits mode.Write (update.Put x) v h = tt
undo_fits mode.Write (update.Append x) v h = tt
undo_fits _ _ v h = tt

FitsBack-made : (footprint : List Access) (us : List Update) (s : State) → FitsAll footprint us s
    → FitsBack footprint (undo_record footprint us s) (updated footprint us s)
FitsBack-made [] us s f = tt
FitsBack-made (a ∷ rest) [] s f = tt
FitsBack-made (a ∷ rest) (u ∷ us) s f = (
  subst (λ (t : State). FitsAtBack a.mode (undo_of a.mode u (s a.object)) (t a.object))
      (sym (taken_back-updated rest us (state_after a u s)))
      (subst (λ v. FitsAtBack a.mode (undo_of a.mode u (s a.object)) v)
      (ap (λ b. cond b (value_after a.mode u (s a.object)) (s a.object)) (sym (obj_eq-same a.object)))
      (undo_fits a.mode u (s a.object) f.0)),
  FitsBack-made rest us (state_after a u s) f.1,
)

pub made_back : (footprint : List Access) (us : List Update) (s : State) (ps : Pasts) → AreShaped footprint us
    → FitsAll footprint us s
    → CanTakeBack footprint (small_record footprint us s) (updated footprint us s) (noted_all footprint us s ps)
made_back footprint us s ps shaped f =
    let small : List Update = small_record footprint us s in
    let then : Pasts = noted_all footprint us s ps in
    let marked : AreMarked footprint small = steps_mark footprint us s shaped in
    let is : filled footprint small then ≡ undo_record footprint us s = filled-noted footprint us s ps shaped in
    record {
      marked = marked;
      pasts = marks_have_pasts footprint us small s then shaped marked is;
      fits = subst (λ ws. FitsBack footprint ws (updated footprint us s)) (sym is) (FitsBack-made footprint us s f);
    }

pub taken_back-made : (footprint : List Access) (us : List Update) (s : State) (ps : Pasts) → AreShaped footprint us
    → taken_back footprint (filled footprint (small_record footprint us s) (noted_all footprint us s ps))
    (updated footprint us s) ≡ s
taken_back-made footprint us s ps shaped =
    ap (λ ws. taken_back footprint ws (updated footprint us s)) (filled-noted footprint us s ps shaped)
    ∙ taken_back-updated footprint us s

-- the first access takes back what all take back, where there is one update alone
pub record OneBack (footprint : List Access) (a : Access) (u : Update) (s : State) (ps : Pasts) : Type 0 where
  pub marked : IfControl a (u ≡ update.Keep)
  pub past : IfControl a (0 < length (ps a.object))
  pub fits : FitsAtBack a.mode (filled_at a u ps) (s a.object)
  pub state : state_before a (filled_at a u ps) s ≡ taken_back footprint (filled footprint (u ∷ []) ps) s
  pub pasts : popped a u ps ≡ popped_all footprint (u ∷ []) ps

pub front_back : (a : Access) (rest : List Access) (u : Update) (s : State) (ps : Pasts)
    → CanTakeBack (a ∷ rest) (u ∷ []) s ps → OneBack (a ∷ rest) a u s ps
front_back a [] u s ps can = record {
  marked = can.marked.0;
  past = can.pasts.0;
  fits = can.fits.0;
  state = refl;
  pasts = refl;
}
front_back a (b ∷ bs) u s ps can = record {
  marked = can.marked.0;
  past = can.pasts.0;
  fits = can.fits.0;
  state = refl;
  pasts = refl;
}

abbrev pub one_back : (footprint : List Access) (a : Access) (rest : List Access) (u : Update) (s : State) (ps : Pasts)
    → footprint ≡ a ∷ rest → CanTakeBack footprint (u ∷ []) s ps → OneBack footprint a u s ps
one_back footprint a rest u s ps is can =
    subst (λ xs. OneBack xs a u s ps) (sym is)
    (front_back a rest u s ps (subst (λ xs. CanTakeBack xs (u ∷ []) s ps) is can))

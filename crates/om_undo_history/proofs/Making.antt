-- Updates made along a footprint, each exchanged for what a small record holds of it.
use Rattle.std.proofs.Common.{◌≡◌, refl, sym, ◌∙◌, ap, subst, List, [], ◌∷◌, ◌++◌, ℕ, zero, suc, ◌≤◌, ◌<◌, ◌+◌, length}
use Rattle.std.proofs.Common.{take, drop, get_or, set, arith, add-one}
use Rattle.std.specs.Prelude.{min}
use Rattle.std.proofs.lemmas.List.{take-append-drop}
use Rattle.om_foot.specs.declared.footprint.Access.{Access}
use Rattle.om_state.specs.declared.step.Update.{Update}
use Rattle.om_state.specs.State.{State, state_after, updated}
use Rattle.om_undo_history.specs.Bounds.{FitsAt, FitsAll}
use Rattle.om_memory.specs.Memories.{Pasts, is_trailed}
use Rattle.om_undo_history.specs.Shapes.{IsShapedAt, AreShaped}
use Rattle.om_undo_history.specs.Fills.{small_at, noted, small_record, noted_all}

-- one more of the first updates

updated-more : (i : ℕ) (footprint : List Access) (us : List Update) (s : State) (da : Access) (du : Update)
    → i < length footprint → i < length us
    → updated (take (suc i) footprint) (take (suc i) us) s ≡ state_after (get_or footprint i da) (get_or us i du)
    (updated (take i footprint) (take i us) s)
updated-more i [] us s da du h k = absurd (omega arith)
updated-more i (a ∷ rest) [] s da du h k = absurd (omega arith)
updated-more zero (a ∷ rest) (u ∷ us) s da du h k = refl
updated-more (suc i) (a ∷ rest) (u ∷ us) s da du h k =
    updated-more i rest us (state_after a u s) da du (omega arith) (omega arith)

noted_all-more : (i : ℕ) (footprint : List Access) (us : List Update) (s : State) (ps : Pasts) (da : Access)
    (du : Update) → i < length footprint → i < length us
    → noted_all (take (suc i) footprint) (take (suc i) us) s ps ≡ noted (get_or footprint i da) (get_or us i du)
    (updated (take i footprint) (take i us) s) (noted_all (take i footprint) (take i us) s ps)
noted_all-more i [] us s ps da du h k = absurd (omega arith)
noted_all-more i (a ∷ rest) [] s ps da du h k = absurd (omega arith)
noted_all-more zero (a ∷ rest) (u ∷ us) s ps da du h k = refl
noted_all-more (suc i) (a ∷ rest) (u ∷ us) s ps da du h k =
    noted_all-more i rest us (state_after a u s) (noted a u s ps) da du (omega arith) (omega arith)

-- the first updates, exchanged, and the others as they were
exchanged_at : (i : ℕ) (footprint : List Access) (us : List Update) (s : State) (du : Update)
    → i < length footprint → i < length us
    → get_or (small_record (take i footprint) (take i us) s ++ drop i us) i du ≡ get_or us i du
exchanged_at i [] us s du h k = absurd (omega arith)
exchanged_at i (a ∷ rest) [] s du h k = absurd (omega arith)
exchanged_at zero (a ∷ rest) (u ∷ us) s du h k = refl
exchanged_at (suc i) (a ∷ rest) (u ∷ us) s du h k =
    exchanged_at i rest us (state_after a u s) du (omega arith) (omega arith)

exchanged-more : (i : ℕ) (footprint : List Access) (us : List Update) (s : State) (da : Access) (du w : Update)
    → i < length footprint → i < length us
    → w ≡ small_at (get_or footprint i da) (get_or us i du) (updated (take i footprint) (take i us) s)
    → set (small_record (take i footprint) (take i us) s ++ drop i us) i w
    ≡ small_record (take (suc i) footprint) (take (suc i) us) s ++ drop (suc i) us
exchanged-more i [] us s da du w h k e = absurd (omega arith)
exchanged-more i (a ∷ rest) [] s da du w h k e = absurd (omega arith)
exchanged-more zero (a ∷ rest) (u ∷ us) s da du w h k e = ap (λ x. x ∷ us) e
exchanged-more (suc i) (a ∷ rest) (u ∷ us) s da du w h k e =
    ap (λ xs. small_at a u s ∷ xs) (exchanged-more i rest us (state_after a u s) da du w (omega arith) (omega arith) e)

pub exchanged_front : (i : ℕ) (footprint : List Access) (us : List Update) (s : State)
    → i < length footprint → i < length us
    → take i (small_record (take i footprint) (take i us) s ++ drop i us) ≡ small_record (take i footprint)
    (take i us) s
exchanged_front i [] us s h k = absurd (omega arith)
exchanged_front i (a ∷ rest) [] s h k = absurd (omega arith)
exchanged_front zero (a ∷ rest) (u ∷ us) s h k = refl
exchanged_front (suc i) (a ∷ rest) (u ∷ us) s h k =
    ap (λ xs. small_at a u s ∷ xs) (exchanged_front i rest us (state_after a u s) (omega arith) (omega arith))

-- all of them

updated-whole : (i : ℕ) (footprint : List Access) (us : List Update) (s : State)
    → min (length footprint) (length us) ≤ i → updated (take i footprint) (take i us) s ≡ updated footprint us s
updated-whole zero [] us s h = refl
updated-whole zero (a ∷ rest) [] s h = refl
updated-whole zero (a ∷ rest) (u ∷ us) s h = absurd (omega arith)
updated-whole (suc i) [] us s h = refl
updated-whole (suc i) (a ∷ rest) [] s h = refl
updated-whole (suc i) (a ∷ rest) (u ∷ us) s h = updated-whole i rest us (state_after a u s) (omega arith)

noted_all-whole : (i : ℕ) (footprint : List Access) (us : List Update) (s : State) (ps : Pasts)
    → min (length footprint) (length us) ≤ i
    → noted_all (take i footprint) (take i us) s ps ≡ noted_all footprint us s ps
noted_all-whole zero [] us s ps h = refl
noted_all-whole zero (a ∷ rest) [] s ps h = refl
noted_all-whole zero (a ∷ rest) (u ∷ us) s ps h = absurd (omega arith)
noted_all-whole (suc i) [] us s ps h = refl
noted_all-whole (suc i) (a ∷ rest) [] s ps h = refl
noted_all-whole (suc i) (a ∷ rest) (u ∷ us) s ps h =
    noted_all-whole i rest us (state_after a u s) (noted a u s ps) (omega arith)

exchanged-whole : (i : ℕ) (footprint : List Access) (us : List Update) (s : State)
    → min (length footprint) (length us) ≤ i
    → small_record (take i footprint) (take i us) s ++ drop i us ≡ small_record footprint us s
exchanged-whole zero [] us s h = refl
exchanged-whole zero (a ∷ rest) [] s h = refl
exchanged-whole zero (a ∷ rest) (u ∷ us) s h = absurd (omega arith)
exchanged-whole (suc i) [] us s h = take-append-drop (suc i) us
exchanged-whole (suc i) (a ∷ rest) [] s h = refl
exchanged-whole (suc i) (a ∷ rest) (u ∷ us) s h =
    ap (λ xs. small_at a u s ∷ xs) (exchanged-whole i rest us (state_after a u s) (omega arith))

-- what holds of all updates holds of the first ones, and of each at its turn

pub FitsAll-front : (i : ℕ) (footprint : List Access) (us : List Update) (s : State) → FitsAll footprint us s
    → FitsAll (take i footprint) (take i us) s
FitsAll-front zero footprint us s f = tt
FitsAll-front (suc i) [] us s f = tt
FitsAll-front (suc i) (a ∷ rest) [] s f = tt
FitsAll-front (suc i) (a ∷ rest) (u ∷ us) s f = (f.0, FitsAll-front i rest us (state_after a u s) f.1)

pub AreShaped-front : (i : ℕ) (footprint : List Access) (us : List Update) → AreShaped footprint us
    → AreShaped (take i footprint) (take i us)
AreShaped-front zero footprint us f = tt
AreShaped-front (suc i) [] us f = tt
AreShaped-front (suc i) (a ∷ rest) [] f = tt
AreShaped-front (suc i) (a ∷ rest) (u ∷ us) f = (f.0, AreShaped-front i rest us f.1)

FitsAll-at : (i : ℕ) (footprint : List Access) (us : List Update) (s : State) (da : Access) (du : Update)
    → i < length footprint → i < length us → FitsAll footprint us s
    → FitsAt (get_or footprint i da).mode (get_or us i du) (updated (take i footprint) (take i us) s
    (get_or footprint i da).object)
FitsAll-at i [] us s da du h k f = absurd (omega arith)
FitsAll-at i (a ∷ rest) [] s da du h k f = absurd (omega arith)
FitsAll-at zero (a ∷ rest) (u ∷ us) s da du h k f = f.0
FitsAll-at (suc i) (a ∷ rest) (u ∷ us) s da du h k f =
    FitsAll-at i rest us (state_after a u s) da du (omega arith) (omega arith) f.1

AreShaped-at : (i : ℕ) (footprint : List Access) (us : List Update) (da : Access) (du : Update)
    → i < length footprint → i < length us → AreShaped footprint us
    → IsShapedAt (get_or footprint i da).mode (get_or us i du) (is_trailed (get_or footprint i da).object)
AreShaped-at i [] us da du h k f = absurd (omega arith)
AreShaped-at i (a ∷ rest) [] da du h k f = absurd (omega arith)
AreShaped-at zero (a ∷ rest) (u ∷ us) da du h k f = f.0
AreShaped-at (suc i) (a ∷ rest) (u ∷ us) da du h k f = AreShaped-at i rest us da du (omega arith) (omega arith) f.1

-- so many updates us were made from s and ps, and vs are left in their place
pub record IsMade (i : ℕ) (footprint : List Access) (us : List Update) (s : State) (ps : Pasts)
    (vs : List Update) (now : State) (pasts : Pasts) : Type 0 where
  pub state : now ≡ updated (take i footprint) (take i us) s
  pub small : vs ≡ small_record (take i footprint) (take i us) s ++ drop i us
  pub pasts_are : pasts ≡ noted_all (take i footprint) (take i us) s ps

pub none_made : (footprint : List Access) (us : List Update) (s : State) (ps : Pasts)
    → IsMade 0 footprint us s ps us s ps
none_made footprint us s ps = record { state = refl; small = refl; pasts_are = refl }

module _ (i : ℕ) (footprint : List Access) (us : List Update) (s : State) (ps : Pasts) (vs : List Update) (now : State)
    (pasts : Pasts) (a : Access) (u : Update) (h : i < length footprint) (k : i < length us)
    (e_a : a ≡ get_or footprint i a) (e_u : u ≡ get_or vs i u)
    (is : IsMade i footprint us s ps vs now pasts) where
  own : u ≡ get_or us i u
  own = e_u ∙ ap (λ xs. get_or xs i u) is.small ∙ exchanged_at i footprint us s u h k

  pub fits_at : FitsAll footprint us s → FitsAt a.mode u (now a.object)
  fits_at f = subst (λ (t : State). FitsAt a.mode u (t a.object)) (sym is.state)
      (subst (λ x. FitsAt a.mode x (updated (take i footprint) (take i us) s a.object)) (sym own)
      (subst (λ (b : Access). FitsAt b.mode (get_or us i u) (updated (take i footprint) (take i us) s b.object))
      (sym e_a) (FitsAll-at i footprint us s a u h k f)))

  pub shaped_at : AreShaped footprint us → IsShapedAt a.mode u (is_trailed a.object)
  shaped_at f = subst (λ x. IsShapedAt a.mode x (is_trailed a.object)) (sym own)
      (subst (λ (b : Access). IsShapedAt b.mode (get_or us i u) (is_trailed b.object)) (sym e_a)
      (AreShaped-at i footprint us a u h k f))

  pub one_more : (w : Update) (next : State) (noteds : Pasts) → w ≡ small_at a u now → next ≡ state_after a u now
      → noteds ≡ noted a u now pasts → IsMade (i + 1) footprint us s ps (set vs i w) next noteds
  one_more w next noteds e_w e_s e_p =
      subst (λ n. IsMade n footprint us s ps (set vs i w) next noteds) (sym (add-one i)) (record {
        state = e_s ∙ (λ j. state_after (e_a j) (own j) (is.state j)) ∙ sym (updated-more i footprint us s a u h k);
        small = ap (λ xs. set xs i w) is.small
            ∙ exchanged-more i footprint us s a u w h k (e_w ∙ (λ j. small_at (e_a j) (own j) (is.state j)));
        pasts_are = e_p ∙ (λ j. noted (e_a j) (own j) (is.state j) (is.pasts_are j))
            ∙ sym (noted_all-more i footprint us s ps a u h k);
      })

-- all that a footprint has room for were made
pub record AllMade (footprint : List Access) (us : List Update) (s : State) (ps : Pasts) (vs : List Update)
    (now : State) (pasts : Pasts) : Type 0 where
  pub state : now ≡ updated footprint us s
  pub small : vs ≡ small_record footprint us s
  pub pasts_are : pasts ≡ noted_all footprint us s ps

pub all_made : (i : ℕ) (footprint : List Access) (us : List Update) (s : State) (ps : Pasts) (vs : List Update)
    (now : State) (pasts : Pasts) → min (length footprint) (length us) ≤ i
    → IsMade i footprint us s ps vs now pasts → AllMade footprint us s ps vs now pasts
all_made i footprint us s ps vs now pasts h is = record {
  state = is.state ∙ updated-whole i footprint us s h;
  small = is.small ∙ exchanged-whole i footprint us s h;
  pasts_are = is.pasts_are ∙ noted_all-whole i footprint us s ps h;
}

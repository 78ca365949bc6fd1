-- Taking updates back.
use Rattle.std.proofs.Common.{◌≡◌, refl, sym, ◌∙◌, ap, Bool, true, false, cond, List, [], ◌∷◌, ℤ, pos, ◌+ℤ◌, neg_ℤ}
use Rattle.std.proofs.Common.{arith}
use Rattle.std.proofs.Math.Path.{fun_ext}
use Rattle.std.proofs.lemmas.Int.{ints}
use Rattle.std.proofs.lemmas.List.{take_all, take_at}
use Rattle.om_foot.specs.declared.object.Obj.{Obj}
use Rattle.om_foot.specs.declared.footprint.Mode.{Mode}
use Rattle.om_foot.specs.declared.footprint.Mode.TheVariants as mode
use Rattle.om_foot.specs.declared.footprint.Access.{Access}
use Rattle.om_foot.specs.Footprint.{obj_eq}
use Rattle.om_foot.specs.Objects.{obj_eq-true}
use Rattle.om_state.specs.declared.value.Val.{Val}
use Rattle.om_state.specs.declared.value.Val.TheVariants.{Count, Output, Events}
use Rattle.om_state.specs.declared.step.Tail.{Tail}
use Rattle.om_state.specs.declared.step.Tail.TheVariants.{Bytes}
use Rattle.om_state.specs.declared.step.Tail.TheVariants as tail
use Rattle.om_state.specs.declared.step.Update.{Update}
use Rattle.om_state.specs.declared.step.Update.TheVariants as update
use Rattle.om_state.specs.Values.{value_plus, value_with, value_cut, items_of}
use Rattle.om_state.specs.State.{State, value_after, undo_of, value_before, state_after, state_before, updated}
use Rattle.om_state.specs.State.{undo_record, taken_back}
use Rattle.om_undo_history.specs.Laws.{writes, adds, is_written, sum_added}

value_plus-back : (d : ℤ) (v : Val) → value_plus (neg_ℤ d) (value_plus d v) ≡ v
value_plus-back d (Count n) = ap Count (omega (arith, ints))
value_plus-back d _ = refl

value_plus-sum : (d e : ℤ) (v : Val) → value_plus (neg_ℤ d) (value_plus (neg_ℤ e) v) ≡ value_plus (neg_ℤ (d +ℤ e)) v
value_plus-sum d e (Count n) = ap Count (omega (arith, ints))
value_plus-sum d e _ = refl

value_plus-none : (v : Val) → value_plus (neg_ℤ (pos 0)) v ≡ v
value_plus-none (Count n) = ap Count (omega (arith, ints))
value_plus-none _ = refl

value_cut-value_with : (t : Tail) (v : Val) → value_cut (items_of v) (value_with t v) ≡ v
value_cut-value_with (Bytes bytes) (Output before) = ap Output (take_at before bytes _ refl)
value_cut-value_with (tail.Events records) (Events before) = ap Events (take_at before records _ refl)
value_cut-value_with (Bytes bytes) (Events before) = ap Events (take_all _ before (omega arith))
value_cut-value_with (tail.Events records) (Output before) = ap Output (take_all _ before (omega arith))
value_cut-value_with _ _ = refl

value_before-value_after : (m : Mode) (u : Update) (v : Val) → value_before m (undo_of m u v) (value_after m u v) ≡ v
value_before-value_after mode.Write (update.Append t) v = value_cut-value_with t v
value_before-value_after mode.Add (update.Add d) v = value_plus-back d v
value_before-value_after _ _ v = refl

value_before_after : (m : Mode) (u : Update) (v w : Val) (e : Bool) → (e ≡ true → v ≡ w)
    → cond e (value_before m (undo_of m u v) (cond e (value_after m u w) w)) (cond e (value_after m u w) w) ≡ w
value_before_after m u v w true h = ap (λ x. value_before m (undo_of m u x) (value_after m u w)) (h refl)
    ∙ value_before-value_after m u w
value_before_after m u v w false h = refl

-- an update that is taken back at once leaves the state as it was
pub state_before-state_after : (a : Access) (u : Update) (s : State)
    → state_before a (undo_of a.mode u (s a.object)) (state_after a u s) ≡ s
state_before-state_after a u s = fun_ext λ q. value_before_after a.mode u (s a.object) (s q) (obj_eq a.object q)
    (λ e. ap s (obj_eq-true a.object q e))

-- and so do the updates of a footprint
pub taken_back-updated : (footprint : List Access) (us : List Update) (s : State)
    → taken_back footprint (undo_record footprint us s) (updated footprint us s) ≡ s
taken_back-updated [] us s = refl
taken_back-updated (a ∷ rest) [] s = refl
taken_back-updated (a ∷ rest) (u ∷ us) s =
    ap (state_before a (undo_of a.mode u (s a.object))) (taken_back-updated rest us (state_after a u s))
    ∙ state_before-state_after a u s

-- what is left at an object depends on what it holds alone
taken_back-alike : (footprint : List Access) (us : List Update) (s t : State) (q : Obj) → s q ≡ t q
    → taken_back footprint us s q ≡ taken_back footprint us t q
taken_back-alike [] us s t q h = h
taken_back-alike (a ∷ rest) [] s t q h = h
taken_back-alike (a ∷ rest) (u ∷ us) s t q h = ap (λ x. cond (obj_eq a.object q) (value_before a.mode u x) x)
    (taken_back-alike rest us s t q h)

-- an update that writes nothing, taken back behind others
unwritten_at : (m : Mode) (u : Update) (v w : Val) (sum : ℤ) → writes m u ≡ false
    → value_before m (undo_of m u v) (value_plus (neg_ℤ sum) w) ≡ value_plus (neg_ℤ (adds m u +ℤ sum)) w
unwritten_at mode.Write (update.Put x) v w sum h = cc
unwritten_at mode.Write (update.Append t) v w sum h = cc
unwritten_at mode.Add (update.Add d) v w sum h = value_plus-sum d sum w
unwritten_at _ _ v w sum h = ap (λ x. value_plus (neg_ℤ x) w) (omega (arith, ints))

unwritten_step : (e : Bool) (m : Mode) (u : Update) (rest : Bool) (v w x : Val) (sum : ℤ)
    → cond e (cond (writes m u) true rest) rest ≡ false → (rest ≡ false → x ≡ value_plus (neg_ℤ sum) w)
    → cond e (value_before m (undo_of m u v) x) x ≡ value_plus (neg_ℤ (cond e (adds m u +ℤ sum) sum)) w
unwritten_step true m u rest v w x sum h is =
    let both : (writes m u ≡ false) × (rest ≡ false) = neither (writes m u) rest h in
    ap (value_before m (undo_of m u v)) (is both.1) ∙ unwritten_at m u v w sum both.0
  where
    neither : (a b : Bool) → cond a true b ≡ false → (a ≡ false) × (b ≡ false)
    neither true b e = cc
    neither false b e = (refl, e)
unwritten_step false m u rest v w x sum h is = is h

-- where nothing is written, what was added is taken off
unwritten : (footprint : List Access) (us : List Update) (s t : State) (q : Obj) → is_written footprint us q ≡ false
    → taken_back footprint (undo_record footprint us s) t q ≡ value_plus (neg_ℤ (sum_added footprint us q)) (t q)
unwritten [] us s t q h = sym (value_plus-none (t q))
unwritten (a ∷ rest) [] s t q h = sym (value_plus-none (t q))
unwritten (a ∷ rest) (u ∷ us) s t q h =
    unwritten_step (obj_eq a.object q) a.mode u (is_written rest us q) (s a.object) (t q) _ (sum_added rest us q) h
    (unwritten rest us (state_after a u s) t q)

either_value : (b : Bool) (x v w : Val) → (b ≡ true → x ≡ v) → (b ≡ false → x ≡ w) → x ≡ cond b v w
either_value true x v w h g = h refl
either_value false x v w h g = g refl

-- what is left at each object when updates are taken back from a later state, which holds what they wrote
pub taken_back-at : (footprint : List Access) (us : List Update) (s t : State) (q : Obj)
    → (is_written footprint us q ≡ true → t q ≡ updated footprint us s q)
    → taken_back footprint (undo_record footprint us s) t q ≡ cond (is_written footprint us q) (s q)
    (value_plus (neg_ℤ (sum_added footprint us q)) (t q))
taken_back-at footprint us s t q there =
    either_value (is_written footprint us q) _ (s q) _
    (λ e. taken_back-alike footprint (undo_record footprint us s) t (updated footprint us s) q (there e)
    ∙ ap (λ (x : State). x q) (taken_back-updated footprint us s))
    (unwritten footprint us s t q)

-- What a footprint leaves alone.
use Rattle.std.proofs.Common.{◌≡◌, refl, sym, ◌∙◌, ap, Bool, true, false, cond, List, [], ◌∷◌, ℤ, ◌+ℤ◌}
use Rattle.std.proofs.Math.Path.{fun_ext}
use Rattle.std.proofs.Math.IntN.{+ℤ_assoc, +ℤ_comm}
use Rattle.std.specs.List.{AllByRecursion}
use Rattle.om_foot.specs.declared.footprint.Mode.{Mode}
use Rattle.om_foot.specs.declared.footprint.Access.{Access}
use Rattle.om_foot.specs.Footprint.{obj_eq, modes_conflict}
use Rattle.om_foot.specs.Apart.{IsApart, AllApart, heads, tails}
use Rattle.om_foot.specs.Objects.{obj_eq-true}
use Rattle.om_state.specs.declared.value.Val.{Val}
use Rattle.om_state.specs.declared.value.Val.TheVariants.{Count}
use Rattle.om_state.specs.declared.step.Update.{Update}
use Rattle.om_state.specs.declared.step.Label.{Label}
use Rattle.om_state.specs.Values.{value_plus, items_of}
use Rattle.om_state.specs.State.{State, value_after, undo_of, state_after, updated, undo_record, read_by, values_read}
use Rattle.om_state.specs.Rules.{Rules, control_access, footprint_at, step_at}
use Rattle.om_undo_history.specs.Laws.{IfRead, AgreeAt}
use Rattle.om_foot.specs.declared.footprint.Mode.TheVariants as mode
use Rattle.om_state.specs.declared.step.Update.TheVariants as update

-- dependence

read_by-agree : (m : Mode) (v w : Val) (vs ws : List Val) → IfRead m (v ≡ w) → vs ≡ ws
    → read_by m v vs ≡ read_by m w ws
read_by-agree mode.Add v w vs ws h e = e
read_by-agree mode.Read v w vs ws h e = cc
read_by-agree mode.Write v w vs ws h e = cc

pub values_read-agree : (footprint : List Access) (s t : State) → AgreeAt footprint s t
    → values_read footprint s ≡ values_read footprint t
values_read-agree [] s t h = refl
values_read-agree (a ∷ rest) s t h = read_by-agree a.mode _ _ _ _ h.0 (values_read-agree rest s t h.1)

pub footprint_at-agree : (r : Rules) (s t : State) (l : Label)
    → s (control_access l).object ≡ t (control_access l).object → footprint_at r s l ≡ footprint_at r t l
footprint_at-agree r s t l h = ap (λ v. control_access l ∷ r.further l v) h

pub step_at-agree : (r : Rules) (s t : State) (l : Label) → AgreeAt (step_at r s l).footprint s t
    → step_at r s l ≡ step_at r t l
unfolding step_at
step_at-agree r s t l h =
    let footprint = footprint_at-agree r s t l h.0 in
    let values : values_read (footprint_at r s l) s ≡ values_read (footprint_at r t l) t =
    values_read-agree (footprint_at r s l) s t h ∙ ap (λ ns. values_read ns t) footprint in
    λ i. record { footprint = footprint i; outcome = r.outcome l (values i); line = r.line l (h.0 i) }

-- what is apart stays

-- b is apart from each of the first
abbrev pub Clear : List Access → Access → Type 0
Clear first b = AllByRecursion (λ a. IsApart a b) first

pub IfRead-trans : (m : Mode) (x y z : Val) → IfRead m (x ≡ y) → IfRead m (y ≡ z) → IfRead m (x ≡ z)
IfRead-trans mode.Add x y z p q = tt
IfRead-trans mode.Read x y z p q = p ∙ q
IfRead-trans mode.Write x y z p q = p ∙ q

IfRead-all : (m : Mode) (x y : Val) → x ≡ y → IfRead m (x ≡ y)
IfRead-all mode.Add x y p = tt
IfRead-all mode.Read x y p = p
IfRead-all mode.Write x y p = p

clear_value : (m n : Mode) (u : Update) (v : Val) (e : Bool) → (e ≡ true → modes_conflict n m ≡ false)
    → IfRead m (cond e (value_after n u v) v ≡ v)
clear_value mode.Add n u v e h = tt
clear_value m n u v false h = IfRead-all m v v refl
clear_value mode.Read mode.Read u v true h = refl
clear_value mode.Read mode.Write u v true h = let k = h refl in cc
clear_value mode.Read mode.Add u v true h = let k = h refl in cc
clear_value mode.Write mode.Read u v true h = let k = h refl in cc
clear_value mode.Write mode.Write u v true h = let k = h refl in cc
clear_value mode.Write mode.Add u v true h = let k = h refl in cc

state_after-clear : (a b : Access) (u : Update) (s : State) → IsApart a b
    → IfRead b.mode (state_after a u s b.object ≡ s b.object)
state_after-clear a b u s h = clear_value b.mode a.mode u (s b.object) (obj_eq a.object b.object)
    (λ e. h (obj_eq-true a.object b.object e))

pub updated-clear : (first : List Access) (us : List Update) (s : State) (b : Access) → Clear first b
    → IfRead b.mode (updated first us s b.object ≡ s b.object)
updated-clear [] us s b h = IfRead-all b.mode _ _ refl
updated-clear (a ∷ rest) [] s b h = IfRead-all b.mode _ _ refl
updated-clear (a ∷ rest) (u ∷ us) s b h = IfRead-trans b.mode _ _ _ (updated-clear rest us (state_after a u s) b h.1)
    (state_after-clear a b u s h.0)

pub updated-agree : (first bs : List Access) (us : List Update) (s : State) → AllApart first bs
    → AgreeAt bs (updated first us s) s
updated-agree first [] us s h = tt
updated-agree first (b ∷ bs) us s h =
    (updated-clear first us s b (heads first b bs h), updated-agree first bs us s (tails first b bs h))

-- updates that are apart commute

value_plus-value_plus : (d e : ℤ) (v : Val) → value_plus e (value_plus d v) ≡ value_plus d (value_plus e v)
value_plus-value_plus d e (Count n) =
    ap Count (+ℤ_assoc n d e ∙ ap (λ x. n +ℤ x) (+ℤ_comm d e) ∙ sym (+ℤ_assoc n e d))
value_plus-value_plus d e _ = refl

value_after-value_after : (m n : Mode) (u w : Update) (v : Val) → modes_conflict m n ≡ false
    → value_after n w (value_after m u v) ≡ value_after m u (value_after n w v)
value_after-value_after mode.Read mode.Read u w v h = refl
value_after-value_after mode.Add mode.Add (update.Add d) (update.Add e) v h = value_plus-value_plus d e v
value_after-value_after mode.Add mode.Add _ _ v h = refl
value_after-value_after mode.Read mode.Write u w v h = cc
value_after-value_after mode.Read mode.Add u w v h = cc
value_after-value_after mode.Write mode.Read u w v h = cc
value_after-value_after mode.Write mode.Write u w v h = cc
value_after-value_after mode.Write mode.Add u w v h = cc
value_after-value_after mode.Add mode.Read u w v h = cc
value_after-value_after mode.Add mode.Write u w v h = cc

both_ways : (m n : Mode) (u w : Update) (v : Val) (e f : Bool) → (e ≡ true → f ≡ true → modes_conflict m n ≡ false)
    → cond f (value_after n w (cond e (value_after m u v) v)) (cond e (value_after m u v) v) ≡ cond e
    (value_after m u (cond f (value_after n w v) v)) (cond f (value_after n w v) v)
both_ways m n u w v true true h = value_after-value_after m n u w v (h refl refl)
both_ways m n u w v true false h = refl
both_ways m n u w v false true h = refl
both_ways m n u w v false false h = refl

state_after-state_after : (a b : Access) (u w : Update) (s : State) → IsApart a b
    → state_after b w (state_after a u s) ≡ state_after a u (state_after b w s)
state_after-state_after a b u w s h = fun_ext λ q.
    both_ways a.mode b.mode u w (s q) (obj_eq a.object q) (obj_eq b.object q)
    (λ e f. h (obj_eq-true a.object q e ∙ sym (obj_eq-true b.object q f)))

state_after-updated : (first : List Access) (us : List Update) (b : Access) (w : Update) (s : State) → Clear first b
    → state_after b w (updated first us s) ≡ updated first us (state_after b w s)
state_after-updated [] us b w s h = refl
state_after-updated (a ∷ rest) [] b w s h = refl
state_after-updated (a ∷ rest) (u ∷ us) b w s h = state_after-updated rest us b w (state_after a u s) h.1
    ∙ ap (updated rest us) (state_after-state_after a b u w s h.0)

pub updated-updated : (first bs : List Access) (us ws : List Update) (s : State) → AllApart first bs
    → updated bs ws (updated first us s) ≡ updated first us (updated bs ws s)
updated-updated first [] us ws s h = refl
updated-updated first (b ∷ bs) us [] s h = refl
updated-updated first (b ∷ bs) us (w ∷ ws) s h =
    ap (updated bs ws) (state_after-updated first us b w s (heads first b bs h))
    ∙ updated-updated first bs us ws (state_after b w s) (tails first b bs h)

-- what is kept of an update is the same after updates that are apart

undo_of-agree : (m : Mode) (u : Update) (v w : Val) → IfRead m (v ≡ w) → undo_of m u v ≡ undo_of m u w
undo_of-agree mode.Write (update.Put x) v w h = ap update.Put h
undo_of-agree mode.Write (update.Append t) v w h = ap (λ x. update.Cut (items_of x)) h
undo_of-agree _ _ v w h = refl

pub undo_record-agree : (first bs : List Access) (us ws : List Update) (s : State) → AllApart first bs
    → undo_record bs ws (updated first us s) ≡ undo_record bs ws s
undo_record-agree first [] us ws s h = refl
undo_record-agree first (b ∷ bs) us [] s h = refl
undo_record-agree first (b ∷ bs) us (w ∷ ws) s h =
    let head : undo_of b.mode w (updated first us s b.object) ≡ undo_of b.mode w (s b.object) =
    undo_of-agree b.mode w _ _ (updated-clear first us s b (heads first b bs h)) in
    let rest : undo_record bs ws (state_after b w (updated first us s)) ≡ undo_record bs ws (state_after b w s) =
    ap (undo_record bs ws) (state_after-updated first us b w s (heads first b bs h))
    ∙ undo_record-agree first bs us ws (state_after b w s) (tails first b bs h) in
    λ i. head i ∷ rest i

-- Marks are made by steps, and have their values in the trails.
use Rattle.std.proofs.Common.{◌≡◌, refl, ap, subst, Bool, true, false, cond, List, [], ◌∷◌, ◌<◌, length, drop, arith}
use Rattle.om_foot.specs.declared.footprint.Mode.{Mode}
use Rattle.om_foot.specs.declared.footprint.Mode.TheVariants as mode
use Rattle.om_state.specs.declared.value.Val.{Val}
use Rattle.om_state.specs.declared.step.Update.{Update}
use Rattle.om_state.specs.declared.step.Update.TheVariants as update
use Rattle.om_state.specs.State.{undo_of, state_after}
use Rattle.om_foot.specs.declared.footprint.Access.{Access}
use Rattle.om_state.specs.State.{State, undo_record}
use Rattle.om_memory.specs.Memories.{Pasts, is_trailed}
use Rattle.om_undo_history.specs.Shapes.{IsShapedAt, AreShaped}
use Rattle.om_undo_history.specs.Fills.{is_mark, is_put, first_put, popped_all, filled, small_record}
use Rattle.om_undo_history.specs.Fills.{IfWritten, AreMarked, HavePasts}

mark_made : (t : Bool) (m : Mode) (u : Update) (old : Val) → IsShapedAt m u t
    → IfWritten t m (cond (is_put m u t) update.Keep (undo_of m u old) ≡ update.Keep)
mark_made false m u old h = tt
mark_made true mode.Read u old h = tt
mark_made true mode.Add u old h = absurd h
mark_made true mode.Write (update.Put v) old h = refl
mark_made true mode.Write update.Keep old h = absurd h
mark_made true mode.Write (update.Add d) old h = absurd h
mark_made true mode.Write (update.Append x) old h = absurd h
mark_made true mode.Write (update.Cut n) old h = absurd h

pub steps_mark : (footprint : List Access) (us : List Update) (s : State) → AreShaped footprint us
    → AreMarked footprint (small_record footprint us s)
steps_mark [] us s h = tt
steps_mark (a ∷ rest) [] s h = tt
steps_mark (a ∷ rest) (u ∷ us) s h =
    (mark_made (is_trailed a.object) a.mode u (s a.object) h.0, steps_mark rest us (state_after a u s) h.1)

past_kept : (w : Update) (v : Val) (vs : List Val) → IsShapedAt mode.Write w true
    → first_put update.Keep vs ≡ undo_of mode.Write w v → 0 < length vs
past_kept update.Keep v vs shaped e = absurd shaped
past_kept (update.Add d) v vs shaped e = absurd shaped
past_kept (update.Append x) v vs shaped e = absurd shaped
past_kept (update.Cut n) v vs shaped e = absurd shaped
past_kept (update.Put x) v [] shaped e = cc
past_kept (update.Put x) v (y ∷ ys) shaped e = omega arith

mark_past : (t : Bool) (m : Mode) (u w : Update) (v : Val) (vs : List Val) → IsShapedAt m w t
    → IfWritten t m (u ≡ update.Keep) → cond (is_mark m u t) (first_put u vs) u ≡ undo_of m w v
    → IfWritten t m (0 < length vs)
mark_past false m u w v vs shaped marked e = tt
mark_past true mode.Read u w v vs shaped marked e = tt
mark_past true mode.Add u w v vs shaped marked e = absurd shaped
mark_past true mode.Write u w v vs shaped marked e = past_kept w v vs shaped
    (subst (λ x. cond (is_mark mode.Write x true) (first_put x vs) x ≡ undo_of mode.Write w v) marked e)

head_or : Update → List Update → Update
head_or d [] = d
head_or d (u ∷ us) = u

same_head : (u w : Update) (us ws : List Update) → u ∷ us ≡ w ∷ ws → u ≡ w
unfolding head_or
same_head u w us ws e = ap (head_or u) e

same_rest : (u w : Update) (us ws : List Update) → u ∷ us ≡ w ∷ ws → us ≡ ws
same_rest u w us ws e = ap (drop 1) e

-- where a small record with its marks stands for what takes a step back, each mark has its value
pub marks_have_pasts : (footprint : List Access) (us small : List Update) (s : State) (ps : Pasts)
    → AreShaped footprint us → AreMarked footprint small → filled footprint small ps ≡ undo_record footprint us s
    → HavePasts footprint small ps
marks_have_pasts [] us small s ps shaped marked e = tt
marks_have_pasts (a ∷ rest) us [] s ps shaped marked e = tt
marks_have_pasts (a ∷ rest) [] (u ∷ small) s ps shaped marked e = cc
marks_have_pasts (a ∷ rest) (w ∷ us) (u ∷ small) s ps shaped marked e = (
  mark_past (is_trailed a.object) a.mode u w (s a.object) (popped_all rest small ps a.object) shaped.0 marked.0 (same_head _ _ _ _ e),
  marks_have_pasts rest us small (state_after a w s) ps shaped.1 marked.1 (same_rest _ _ _ _ e),
)

-- what is added to is no control: by the shape of an update
pub added_by_shape : (m : Mode) (u : Update) (t : Bool) → mode.Add ≡ m → IsShapedAt m u t → t ≡ false
added_by_shape m u false e h = refl
added_by_shape mode.Add u true e h = absurd h
added_by_shape mode.Read u true e h = cc
added_by_shape mode.Write u true e h = cc

-- and by what is asked of a mark
pub added_by_mark : (m : Mode) (P : Type 0) (t : Bool) → mode.Add ≡ m → IfWritten t m P → t ≡ false
added_by_mark m P false e h = refl
added_by_mark mode.Add P true e h = absurd h
added_by_mark mode.Read P true e h = cc
added_by_mark mode.Write P true e h = cc

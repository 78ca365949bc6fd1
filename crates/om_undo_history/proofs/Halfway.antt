-- What was made of the updates of a footprint is taken back, where memory ends in mid-step.
use Rattle.std.proofs.Common.{◌≡◌, sym, ◌∙◌, ap, subst, List, ℕ, ◌<◌, length}
use Rattle.std.proofs.Common.{take, set}
use Rattle.std.proofs.lemmas.List.{take-set}
use Rattle.om_foot.specs.declared.footprint.Access.{Access}
use Rattle.om_state.specs.declared.step.Update.{Update}
use Rattle.om_state.specs.State.{State, updated, taken_back}
use Rattle.om_memory.specs.Memories.{Pasts}
use Rattle.om_undo_history.specs.Bounds.{FitsAll}
use Rattle.om_undo_history.specs.Shapes.{AreShaped}
use Rattle.om_undo_history.specs.Fills.{filled, popped_all, small_record, CanTakeBack}
use Rattle.om_undo_history.proofs.Fills.{popped_all-noted}
use Rattle.om_undo_history.proofs.Making.{exchanged_front, FitsAll-front, AreShaped-front, IsMade}
use Rattle.om_undo_history.proofs.TakingBack.{made_back, taken_back-made}

module _ (i : ℕ) (footprint : List Access) (us : List Update) (s : State) (ps : Pasts) (vs : List Update) (now : State)
    (pasts : Pasts) (w : Update) (h : i < length footprint) (k : i < length us)
    (is : IsMade i footprint us s ps vs now pasts) (shaped : AreShaped footprint us) where
  front : take i (set vs i w) ≡ small_record (take i footprint) (take i us) s
  front = take-set vs i w ∙ ap (take i) is.small ∙ exchanged_front i footprint us s h k

  -- the first updates can be taken back, whatever is left of the next one
  pub first_can : FitsAll footprint us s → CanTakeBack (take i footprint) (take i (set vs i w)) now pasts
  first_can f =
      subst (λ xs. CanTakeBack (take i footprint) xs now pasts) (sym front)
      (subst (λ t. CanTakeBack (take i footprint) (small_record (take i footprint) (take i us) s) t pasts) (sym is.state)
      (subst (λ qs. CanTakeBack (take i footprint) (small_record (take i footprint) (take i us) s)
      (updated (take i footprint) (take i us) s) qs) (sym is.pasts_are)
      (made_back (take i footprint) (take i us) s ps (AreShaped-front i footprint us shaped)
      (FitsAll-front i footprint us s f))))

  -- and then all is as before
  pub first_state : taken_back (take i footprint) (filled (take i footprint) (take i (set vs i w)) pasts) now ≡ s
  first_state =
      (λ j. taken_back (take i footprint) (filled (take i footprint) (front j) (is.pasts_are j)) (is.state j))
      ∙ taken_back-made (take i footprint) (take i us) s ps (AreShaped-front i footprint us shaped)

  pub first_pasts : popped_all (take i footprint) (take i (set vs i w)) pasts ≡ ps
  first_pasts =
      (λ j. popped_all (take i footprint) (front j) (is.pasts_are j))
      ∙ popped_all-noted (take i footprint) (take i us) s ps (AreShaped-front i footprint us shaped)

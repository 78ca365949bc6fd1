-- Entries that were made again, and one more.
use Rattle.std.proofs.Common.{◌≡◌, ap, sym, ◌∙◌, List, [], ◌∷◌, ◌++◌, arith, length-append}
use Rattle.std.specs.Prelude.{map}
use Rattle.std.proofs.lemmas.List.{map-append}
use Rattle.om_code.specs.declared.raw.Raw.{Raw}
use Rattle.om_state.specs.declared.step.Entry.{Entry}
use Rattle.om_state.specs.Rules.{Rules}
use Rattle.om_undo_history.specs.declared.history.History as kept
use Rattle.om_undo_history.specs.Cones.{transitions}
use Rattle.om_undo_history.specs.Pasts.{past_in}
use Rattle.om_undo_history.specs.Runs.{label_of}
use Rattle.lab_graph.specs.declared.traced.Traced.{Traced}
use Rattle.lab_replay.specs.Said.{IsSaidOf}
use Rattle.lab_replay.specs.Traces.{transition_of, transition_for, IsLonger, IsRemade}
use Rattle.lab_replay.proofs.Numbers.{said_more}
use Rattle.lab_replay.proofs.Replays.{one_more, state_is}

pub remade_more : (program : Raw) (r : Rules) (old new : kept.History) (done : List Entry) (steps : List Traced) (e : Entry)
    (t : Traced) → IsRemade program r old done steps → transition_of t ≡ transition_for r old e
    → IsSaidOf program r (past_in old).state (label_of e) t → IsLonger r old new (label_of e)
    → IsRemade program r new (done ++ e ∷ []) (steps ++ t ∷ [])
remade_more program r old new done steps e t is noted said more = record {
  held = more.held;
  labels = more.labels ∙ ap (λ ls. ls ++ label_of e ∷ []) is.labels ∙ sym (map-append label_of done (e ∷ []));
  made = omega (arith, more.made, is.made, length-append done (e ∷ []));
  noted = map-append transition_of steps (t ∷ []) ∙ ap (λ ts. ts ++ transition_of t ∷ []) is.noted
      ∙ ap (λ x. transitions r done ++ x ∷ []) noted
      ∙ sym (one_more r r.start (past_in old).state done e (state_is program r old done steps is));
  said = said_more program r r.start (past_in old).state done steps e t (state_is program r old done steps is) is.said said;
}

use Rattle.std.proofs.Common.{◌∙◌, sym, ap, rules}
use Rattle.std.specs.Prelude.{FitsSigned}
use Rattle.std.specs.Int.{w128}
use Rattle.om_foot.specs.declared.footprint.Mode.TheVariants as mode
use Rattle.om_state.specs.State.{state_after}
use Rattle.om_memory.specs.Memories.{state_of}
use Rattle.om_undo_history.proofs.Changes.{added_at}
use Rattle.om_undo_history.proofs.updates.make_addition.Goals as goal

pub returns-in-Add-clause-state : goal.returns-in-Add-clause-state
returns-in-Add-clause-state c =
    let fits : FitsSigned w128 c.in-Add.number = search rules in
    c.add.ensures.state
    ∙ added_at c.args.object.now c.in-Add.number (state_of c.args.store.now) fits
    ∙ ap (λ u. state_after (record { object = c.args.object.now; mode = mode.Add }) u (state_of c.args.store.now))
    (sym c.in-Add.is)

use Rattle.std.proofs.Common.{sym, ◌∙◌, subst, List}
use Rattle.std.specs.Prelude.{Contains}
use Rattle.om_undo.specs.Machines.{state_in}
use Rattle.lab_explore_closed.specs.declared.found.Met.{Met}
use Rattle.lab_explore_notes.proofs.NoteLemmas.{mets_are, all_mets}
use Rattle.lab_explore_notes.proofs.faults.note_faults.Goals as goal

pub note_mets-requires-clause-met : goal.note_mets-requires-clause-met
note_mets-requires-clause-met c = λ m at.
    mets_are c.args.machine.now.program (state_in c.args.machine.now) c.args.machine.now.workers m
    (subst (λ (xs : List Met). Contains xs m) (c.as_slice.ensures.value ∙ c.in_ok-mets.ensures) at)

pub returns-clause-noted : goal.returns-clause-noted
returns-clause-noted c = λ met own is.
    c.in_ok-note_mets.ensures.noted met
    (subst (λ (xs : List Met). Contains xs met) (sym (c.as_slice.ensures.value ∙ c.in_ok-mets.ensures))
    (all_mets c.args.machine.now.program (state_in c.args.machine.now) c.args.machine.now.workers met own is))

use Rattle.std.proofs.Common.{◌∙◌, subst}
use Rattle.std.specs.Prelude.{Some}
use Rattle.om_cells.specs.Places.{PutsAt}
use Rattle.om_cells.proofs.PlaceLemmas.{stays_as}
use Rattle.om_cells.proofs.places.Places.enter.Goals as goal

pub returns-in_err-insert-clause-unchanged_on_error : goal.returns-in_err-insert-clause-unchanged_on_error
returns-in_err-insert-clause-unchanged_on_error c = stays_as _ c.args.self.now c.insert.new.self.entries
    (c.in_err-insert.ensures.err ∙ c.self.view_is)

pub returns-clause-entered : goal.returns-clause-entered
returns-clause-entered c =
    subst (λ es. PutsAt c.args.part (Some c.args.place) es c.insert.new.self.entries) c.self.view_is
    c.in_ok-insert.ensures.updates.0

use Rattle.lab_schedules.proofs.Texts.{appended_two}
use Rattle.lab_schedules.proofs.report.push_from.Goals as goal

pub returns : goal.returns
returns c =
    appended_two _ _ _ _ _ (rw c.from.ensures at c.in_ok-push_numbered.ensures) c.in_ok-extend_from_slice.ensures.items

use Rattle.lab_schedules.proofs.Texts.{appended_two}
use Rattle.lab_schedules.proofs.report.push_not_compared.Goals as goal

pub returns : goal.returns
returns c = appended_two _ _ _ _ _ c.in_ok-extend_from_slice.ensures.items c.in_ok-extend_from_slice-2.ensures.items

use Rattle.lab_schedules.proofs.Texts.{appended_two}
use Rattle.lab_schedules.proofs.report.push_seeds.Goals as goal

pub returns : goal.returns
returns c =
    appended_two _ _ _ _ _ (appended_two _ _ _ _ _ (rw c.saturating_sub.ensures at c.in_ok-push_count.ensures)
    c.in_ok-push_first_seed.ensures) c.in_ok-extend_from_slice.ensures.items

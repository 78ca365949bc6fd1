use Rattle.lab_schedules.proofs.Texts.{appended_two}
use Rattle.lab_schedules.proofs.report.push_nothing.Goals as goal

pub returns : goal.returns
returns c = appended_two _ _ _ _ _ (appended_two _ _ _ _ _ (appended_two _ _ _ _ _ c.in_ok-push_seeds.ensures
    c.in_ok-push_compared.ensures) c.in_ok-push_unconfirmed.ensures) c.in_ok-push_limits.ensures

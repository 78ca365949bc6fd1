use Rattle.lab_schedules.proofs.Texts.{appended_two}
use Rattle.lab_schedules.proofs.report.push_words.Goals as goal

pub returns : goal.returns
returns c = appended_two _ _ _ _ _ (appended_two _ _ _ _ _ (appended_two _ _ _ _ _ (appended_two _ _ _ _ _
    c.in_ok-push_first.ensures c.in_ok-extend_from_slice.ensures.items)
    (rw c.as_slice.ensures.value at c.in_ok-push_length.ensures)) c.in_ok-push_threads.ensures)
    c.in_ok-push_unconfirmed.ensures

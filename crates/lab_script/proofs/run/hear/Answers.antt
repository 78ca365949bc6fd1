use Rattle.lab_script.proofs.RunLaws.{Run_of}
use Rattle.lab_script.proofs.run.hear.Goals as goal

pub returns-in_ok-turned_down-in-Ok : goal.returns-in_ok-turned_down-in-Ok
returns-in_ok-turned_down-in-Ok g c = rw c.into_text.ensures
    (Run_of _ _ _ _ _ _ _ (rw (c.new-reader.ensures, c.new-answers.ensures) at c.in-Ok.ensures.runs_to_end))

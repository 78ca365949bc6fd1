use Rattle.lab_script.proofs.RunLaws.{Run_of}
use Rattle.lab_script.proofs.run.run_over.Goals as goal

pub returns-in-Ok : goal.returns-in-Ok
returns-in-Ok g c = Run_of _ _ _ _ _ _ _ (rw c.new-text.ensures.items at c.in-Ok.ensures.runs_to_end)

use Rattle.std.proofs.lemmas.Result.{IfOk-weaker}
use Rattle.om_shell.proofs.RunLaws.{Runs_whole}
use Rattle.om_shell.proofs.shell.run.Goals as goal

pub returns-clause-writes_the_script : goal.returns-clause-writes_the_script
returns-clause-writes_the_script g c = IfOk-weaker c.run_by.result _ _ (λ ended ran. Runs_whole _ _ _ _ _ _ _ _ ran)
    c.run_by.ensures.to_end

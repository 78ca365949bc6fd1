use Rattle.om_shell.specs.Script.{source_of, commands_of}
use Rattle.om_shell.proofs.OneScripts.{one_transcript, one_script}
use Rattle.om_shell.proofs.laws.one_script.Goals as goal

pub returns-clause-by_verdict : goal.returns-clause-by_verdict
returns-clause-by_verdict c = λ verdict workers runs given input h. one_transcript verdict workers runs
    (source_of given input) (commands_of given input) h

pub returns-clause-of_input : goal.returns-clause-of_input
returns-clause-of_input c = one_script c.one_verdict.ensures

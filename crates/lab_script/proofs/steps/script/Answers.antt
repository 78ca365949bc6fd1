use Rattle.std.proofs.lemmas.Result.{IfOk-weaker}
use Rattle.std.specs.Option.{option_copied}
use Rattle.lab_script.specs.Sessions.{IsScriptFor}
use Rattle.lab_script.proofs.RunLaws.{Script_of, of_reader}
use Rattle.lab_script.proofs.steps.script.Goals as goal

pub returns : goal.returns
returns g c =
    let given = option_copied c.args.options.source in
    let source = rw c.deref.ensures.value at c.session_in-session.ensures.source in
    let commands = rw c.deref.ensures.value at c.session_in-session.ensures.commands in
    IfOk-weaker c.script_of.result _ _
    (λ s over. of_reader _ _ _ (λ input. IsScriptFor c.args.options.workers given input s) c.in_ok-input.ensures
    (Script_of _ given _ _ _ s source commands over))
    c.script_of.ensures

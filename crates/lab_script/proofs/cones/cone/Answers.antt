use Rattle.std.proofs.lemmas.Result.{IfOk-weaker}
use Rattle.std.specs.Option.{option_copied}
use Rattle.lab_script.specs.Sessions.{IsConeFor}
use Rattle.lab_script.proofs.RunLaws.{Cone_of, of_reader}
use Rattle.lab_script.proofs.cones.cone.Goals as goal

pub returns : goal.returns
returns g c =
    let given = option_copied c.args.options.source in
    let source = rw c.deref.ensures.value at c.session_in-session.ensures.source in
    let commands = rw c.deref.ensures.value at c.session_in-session.ensures.commands in
    IfOk-weaker c.cone_of.result _ _
    (λ s over. of_reader _ _ _ (λ input. IsConeFor c.args.options.workers given input c.args.serial s)
    c.in_ok-input.ensures (Cone_of _ given _ _ _ c.args.serial s source commands over))
    c.cone_of.ensures

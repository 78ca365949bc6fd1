use Rattle.std.proofs.Common.{◌++◌, ◌-◌, length, drop, take, ap, ap₂, ◌∙◌, arith, drop-drop, length-take-le}
use Rattle.std.proofs.lemmas.List.{drop_at}
use Rattle.om_shell_commands.proofs.step.put.Goals as goal

pub returns-clause-written : goal.returns-clause-written
returns-clause-written c =
    let old = c.args.line.now in
    let start = c.args.end - length c.args.bytes.now in
    drop_at (take start old) _ start (length-take-le start old (omega arith))
    ∙ ap₂ ◌++◌ c.copy_from_slice.ensures.after (drop-drop _ start old ∙ ap (λ n. drop n old) (omega arith))

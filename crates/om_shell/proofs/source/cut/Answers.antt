use Rattle.std.proofs.Common.{sym, ap, ◌∙◌, drop, take-append-drop}
use Rattle.om_shell.specs.Lines.{parts_of, source_in, kept}
use Rattle.om_shell.proofs.source.cut.Goals as goal

pub returns-in-Some-clause-source : goal.returns-in-Some-clause-source
returns-in-Some-clause-source c =
    let input = c.args.input.now in
    let mark = rw c.in-Some.is at c.scan-at.ensures.marked in
    c.kept.ensures
    ∙ ap kept (sym (mark.source (drop c.in-Some.after input))
    ∙ ap (λ l. source_in (parts_of l)) (take-append-drop c.in-Some.after input))

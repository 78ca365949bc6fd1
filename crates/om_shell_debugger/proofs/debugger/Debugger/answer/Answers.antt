use Rattle.std.proofs.Common.{◌≡◌, ◌∙◌, ◌∷◌, [], rules}
use Rattle.om_shell_commands.specs.Commands.{request_of}
use Rattle.om_shell_debugger.specs.Freed.{free_said, no_run}
use Rattle.om_shell_debugger.specs.Views.{answer_to}
use Rattle.om_shell_debugger.specs.Answering.{answered_free, answered_plain}
use Rattle.om_shell_debugger.proofs.debugger.Debugger.answer.Goals as goal

pub returns-in-Some : goal.returns-in-Some
returns-in-Some g c =
    let d = c.args.self.now in
    let asked : c.in_ok-request.request ≡ request_of d.book.start.workers c.args.line.now = search rules in
    let run = c.in_ok-free-in-Some.ensures.0 in (
      (free_said run d.book).text,
      search rules,
      record {
        runs = run ∷ [];
        is = λ later. answered_free d c.args.line.now c.in_ok-request.request c.in-Some.rounds run later asked
            (search rules) ∙ search rules;
      },
    )

pub returns : goal.returns
returns g c =
    let d = c.args.self.now in
    let asked : c.in_ok-request.request ≡ request_of d.book.start.workers c.args.line.now = search rules in (
      (answer_to d no_run c.in_ok-request.request).text,
      search rules,
      record {
        runs = [];
        is = λ later. answered_plain d c.args.line.now c.in_ok-request.request later asked (search rules)
            ∙ search rules;
      },
    )

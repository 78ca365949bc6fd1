use Rattle.std.specs.Prelude.{is_some}
use Rattle.std.proofs.Common.{◌∙◌, ap}
use Rattle.om_shell_debugger.proofs.Undone.{some_undone}
use Rattle.om_shell_debugger.proofs.moves.is_undone.Goals as goal

pub returns : goal.returns
returns c = c.is_some.ensures ∙ ap is_some c.undone.ensures ∙ some_undone c.args.reply.now

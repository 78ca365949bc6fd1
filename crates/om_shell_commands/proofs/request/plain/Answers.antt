use Rattle.om_shell_commands.proofs.Endings.{slice_to_end}
use Rattle.om_shell_commands.proofs.PlainLines.{plain_step, plain_undo}
use Rattle.om_shell_commands.proofs.request.plain.Goals as goal

pub returns-then-d-eq112-clause-asked : goal.returns-then-d-eq112-clause-asked
returns-then-d-eq112-clause-asked c =
    let spelled = rw (slice_to_end c.args.line.now 5) at c.in-Some.ensures.named in
    plain_step c.args.workers c.in-Some.worker c.args.line.now (
      c.in-len5-up.len_at_least,
      c.if-a-eq115.true,
      c.if-b-eq116.true,
      c.if-c-eq101.true,
      c.if-d-eq112.true,
      c.if-space-ne32.false,
    ) spelled

pub returns-then-d-eq111-clause-asked : goal.returns-then-d-eq111-clause-asked
returns-then-d-eq111-clause-asked c =
    let spelled = rw (slice_to_end c.args.line.now 5) at c.in-Some.ensures.named in
    plain_undo c.args.workers c.in-Some.worker c.args.line.now (
      c.in-len5-up.len_at_least,
      c.if-a-eq117.true,
      c.if-b-eq110.true,
      c.if-c-eq100.true,
      c.if-d-eq111.true,
      c.if-space-ne32.false,
    ) spelled

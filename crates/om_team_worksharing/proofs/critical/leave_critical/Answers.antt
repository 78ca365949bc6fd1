use Rattle.std.proofs.Common.{◌∙◌, ap, sym}
use Rattle.om_memory.specs.Plain.{plain_context}
use Rattle.om_team_serial.specs.Objects.{innermost}
use Rattle.om_team_serial.specs.Rows.{answered}
use Rattle.om_team_worksharing.proofs.Tables.{unlocked}
use Rattle.om_team_worksharing.proofs.critical.leave_critical.Goals as goal

pub returns : goal.returns
returns c = λ s. rw (c.in_ok-names.ensures, c.in_ok-row.ensures) (ap (λ asked. answered asked s)
    (sym (unlocked c.args.at.worker c.args.at.to c.args.number c.args.name.now
    (innermost (plain_context c.args.context.now).constructs)
    (sym c.is_critical.ensures ∙ c.if-not-is_critical.false))))

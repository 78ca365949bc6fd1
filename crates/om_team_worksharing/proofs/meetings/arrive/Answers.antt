use Rattle.std.proofs.Common.{◌≡◌, ◌∙◌, sym, subst, IfOk, if◌then◌else◌}
use Rattle.om_code.specs.declared.frame.Fault.TheVariants as fault
use Rattle.om_memory.specs.Plain.{plain_context}
use Rattle.om_team_serial.specs.declared.row.Row.TheVariants.{Faults}
use Rattle.om_team_serial.specs.Rows.{answered, decided}
use Rattle.om_team_worksharing.specs.Rows.{reached_row}
use Rattle.om_team_worksharing.proofs.meetings.arrive.Goals as goal

pub returns : goal.returns
returns c = λ s. subst
    (λ b. IfOk c.reached.result (λ answer. answer ≡ answered (if b then decided (Faults fault.Nesting) else
    reached_row c.args.at.worker c.args.at.to c.args.barrier (plain_context c.args.context.now)) s))
    (sym c.if-is_misplaced_barrier.false ∙ c.is_misplaced_barrier.ensures)
    (c.reached.ensures s)

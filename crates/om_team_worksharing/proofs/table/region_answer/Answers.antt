use Rattle.std.proofs.Common.{◌∙◌, ap, sym}
use Rattle.om_memory.specs.Memories.{state_of}
use Rattle.om_code.specs.Frames.{int_at}
use Rattle.om_team_serial.specs.Objects.{innermost}
use Rattle.om_state.specs.declared.control.Context.{Context}
use Rattle.om_team_worksharing.specs.Rows.{ask_critical_row, leave_critical_row, masked_row}
use Rattle.om_team_serial.specs.Sites.{site_of}
use Rattle.om_team_serial.specs.AtStates.{to_same}
use Rattle.om_team_worksharing.specs.Table.{region_rows}
use Rattle.om_team_worksharing.proofs.table.region_answer.Goals as goal

pub returns-in-AskCritical : goal.returns-in-AskCritical
returns-in-AskCritical c =
    to_same c.ask_critical.result _ _ (state_of c.args.here.now.store.now)
    ((λ i. ask_critical_row c.args.here.now.worker (c.next-to.ensures i) (c.lock_name.ensures i)) ∙ ap (region_rows (site_of c.args.here.now)) (sym c.in-AskCritical.is))
    (c.ask_critical.ensures (state_of c.args.here.now.store.now))

pub returns-in-Masked : goal.returns-in-Masked
returns-in-Masked c =
    let number = c.int_at-number.ensures ∙ ap (int_at 0) c.operands.ensures in
    to_same c.masked.result _ _ (state_of c.args.here.now.store.now)
    ((λ i. masked_row c.args.here.now.worker (c.next-to.ensures i) c.in-Masked.otherwise (c.context-context.ensures i) (number i)) ∙ ap (region_rows (site_of c.args.here.now)) (sym c.in-Masked.is))
    (c.masked.ensures (state_of c.args.here.now.store.now))

pub returns-in-LeaveCritical : goal.returns-in-LeaveCritical
returns-in-LeaveCritical c =
    let regions = ap (λ (k : Context). k.constructs) c.context-context.ensures in
    to_same c.leave_critical.result _ _ (state_of c.args.here.now.store.now)
    ((λ i. leave_critical_row c.args.here.now.worker (c.next-to.ensures i) c.in-LeaveCritical.lock
    (c.lock_name-in-LeaveCritical.ensures i) (innermost (regions i))) ∙ ap (region_rows (site_of c.args.here.now)) (sym c.in-LeaveCritical.is))
    (c.leave_critical.ensures (state_of c.args.here.now.store.now))

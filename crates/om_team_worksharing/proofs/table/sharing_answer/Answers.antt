use Rattle.std.proofs.Common.{◌∙◌, ap, sym}
use Rattle.om_memory.specs.Memories.{state_of}
use Rattle.om_code.specs.Frames.{int_at}
use Rattle.om_team_worksharing.specs.Rows.{share_in, loop_row, iterate_row, pick_row}
use Rattle.om_team_serial.specs.Sites.{site_of}
use Rattle.om_team_serial.specs.AtStates.{to_same}
use Rattle.om_team_worksharing.specs.Table.{sharing_rows}
use Rattle.om_team_worksharing.proofs.table.sharing_answer.Goals as goal

pub returns-in-Loop : goal.returns-in-Loop
returns-in-Loop c =
    let lower = c.int_at.ensures ∙ ap (int_at 1) c.operands.ensures in
    let upper = c.int_at-in-Loop.ensures ∙ ap (int_at 0) c.operands.ensures in
    to_same c.open_loop.result _ _ (state_of c.args.here.now.store.now)
    ((λ i. loop_row c.args.here.now.worker (c.next-to.ensures i) (c.context-context.ensures i) c.in-Loop.form (lower i) (upper i)) ∙ ap (sharing_rows (site_of c.args.here.now)) (sym c.in-Loop.is))
    (c.open_loop.ensures (state_of c.args.here.now.store.now))

pub returns-in-Iterate : goal.returns-in-Iterate
returns-in-Iterate c =
    to_same c.iterate.result _ _ (state_of c.args.here.now.store.now)
    ((λ i. iterate_row (c.next-to.ensures i) c.in-Iterate.otherwise (c.context-context.ensures i) c.in-Iterate.slot (share_in (c.context-context.ensures i))) ∙ ap (sharing_rows (site_of c.args.here.now)) (sym c.in-Iterate.is))
    (c.iterate.ensures (state_of c.args.here.now.store.now))

pub returns-in-Pick : goal.returns-in-Pick
returns-in-Pick c =
    to_same c.pick.result _ _ (state_of c.args.here.now.store.now)
    ((λ i. pick_row (c.targets.ensures i) (share_in (c.context-context.ensures i))) ∙ ap (sharing_rows (site_of c.args.here.now)) (sym c.in-Pick.is))
    (c.pick.ensures (state_of c.args.here.now.store.now))

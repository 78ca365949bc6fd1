use Rattle.std.proofs.Common.{◌∙◌, ap, sym}
use Rattle.om_memory.specs.Memories.{state_of}
use Rattle.om_code.specs.Printing.{ints_on}
use Rattle.om_team_serial.specs.SerialRows.{call_row}
use Rattle.om_team_serial.specs.Sites.{site_of, launch}
use Rattle.om_team_serial.specs.AtStates.{to_same}
use Rattle.om_team_serial.specs.Table.{function_rows}
use Rattle.om_team_serial.proofs.table.function_answer.Goals as goal

pub returns-in_ok-ints-in-Call : goal.returns-in_ok-ints-in-Call
returns-in_ok-ints-in-Call c =
    let begun = c.launch-launch.ensures ∙ ap (λ n. launch (site_of c.args.here.now) n c.in-Call.body) c.from-in-Call.ensures in
    let ints = c.in_ok-ints-in-Call.ensures ∙ (λ i. ints_on (c.from.ensures i) (c.operands.ensures i)) in
    to_same c.call.result _ _ (state_of c.args.here.now.store.now)
    ((λ i. call_row (begun i) (c.body.ensures i) (c.context-context.ensures i) (ints i)) ∙ ap (function_rows (site_of c.args.here.now)) (sym c.in-Call.is))
    (c.call.ensures (state_of c.args.here.now.store.now))

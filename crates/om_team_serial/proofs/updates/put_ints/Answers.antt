use Rattle.std.proofs.Common.{rules, ◌∙◌, ap, arith, ◌++◌, ◌+◌, drop, pos}
use Rattle.om_team_serial.specs.Objects.{puts}
use Rattle.om_team_serial.proofs.Lists.{puts_past}
use Rattle.om_team_serial.proofs.updates.put_ints.Goals as goal

pub loop-value-preserved : goal.loop-value-preserved
loop-value-preserved c =
    ap (λ us. us ++ puts (drop (c.loop-value.value-index + 1) c.args.ints.now)) c.in_ok-put_cell.ensures
    ∙ puts_past c.loop-value.updates c.args.ints.now c.loop-value.value-index _ (pos 0) (omega arith) (search rules)
    ∙ c.loop-value.invariant

use Rattle.std.proofs.Common.{◌^◌, sym, subst}
use Rattle.om_team.specs.Counters.{ValueWithin}
use Rattle.gate_rows.proofs.held.held_at.Goals as goal

pub put-requires-clause-value : goal.put-requires-clause-value
put-requires-clause-value c = subst (ValueWithin (2 ^ 63)) (sym c.in_ok-value.ensures) (c.requires _)

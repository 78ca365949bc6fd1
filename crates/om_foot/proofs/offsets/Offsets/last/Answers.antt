use Rattle.std.proofs.Common.{sym, subst, Some}
use Rattle.om_foot.specs.Offsets.{has_offset}
use Rattle.om_foot.specs.Firsts.{IsGreatest}
use Rattle.om_foot.proofs.OffsetLemmas.{last-greatest}
use Rattle.om_foot.proofs.offsets.Offsets.last.Goals as goal

pub returns-clause-last : goal.returns-clause-last
returns-clause-last c = subst (λ n. IsGreatest (has_offset n) (Some c.from.result)) c.self.view_is
    (subst (λ r. IsGreatest (has_offset c.self.inside.bits) (Some r)) (sym c.from.ensures)
    (last-greatest c.self.inside.bits c.ilog2.result c.ilog2.ensures.power_le c.ilog2.ensures.next_power_gt))

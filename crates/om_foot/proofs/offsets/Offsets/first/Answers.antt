use Rattle.std.proofs.Common.{◌≡◌, sym, subst, true, false, ◌<◌}
use Rattle.om_foot.specs.Offsets.{has_offset}
use Rattle.om_foot.proofs.OffsetLemmas.{first-there, first-none}
use Rattle.om_foot.proofs.offsets.Offsets.first.Goals as goal

pub returns-clause-there : goal.returns-clause-there
returns-clause-there c = subst (λ n. has_offset n c.from.result ≡ true) c.self.view_is
    (subst (λ r. has_offset c.self.inside.bits r ≡ true) (sym c.from.ensures)
    (first-there c.self.inside.bits c.self.invariant.0 c.self.invariant.1))

pub returns-clause-first : goal.returns-clause-first
returns-clause-first c k below = subst (λ n. has_offset n k ≡ false) c.self.view_is
    (first-none c.self.inside.bits c.self.invariant.0 c.self.invariant.1 k
    (subst (λ r. k < r) c.from.ensures below))

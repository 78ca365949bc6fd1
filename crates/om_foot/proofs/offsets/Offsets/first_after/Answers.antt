use Rattle.std.proofs.Common.{sym, subst, ◌+◌, ◌<◌, None, Some}
use Rattle.om_foot.specs.Offsets.{has_offset}
use Rattle.om_foot.specs.Firsts.{IsFirst}
use Rattle.om_foot.proofs.OffsetLemmas.{later-none, later-first, later-within, above_zero}
use Rattle.om_foot.proofs.offsets.Offsets.first_after.Goals as goal

pub returns-then-later-eq0-clause-first : goal.returns-then-later-eq0-clause-first
returns-then-later-eq0-clause-first c = subst (λ n. IsFirst (has_offset n) c.args.offset None) c.self.view_is
    (later-none c.self.inside.bits c.args.offset c.if-later-eq0.true)

pub returns-else-later-eq0-clause-at : goal.returns-else-later-eq0-clause-at
returns-else-later-eq0-clause-at c = subst (λ r. c.args.offset + 1 + r < 64) (sym c.from.ensures)
    (later-within c.self.inside.bits c.args.offset c.self.invariant.1 (above_zero _ c.if-later-eq0.false))

pub returns-else-later-eq0-clause-first : goal.returns-else-later-eq0-clause-first
returns-else-later-eq0-clause-first c = subst (λ n. IsFirst (has_offset n) c.args.offset (Some (c.args.offset + 1 + c.from.result))) c.self.view_is
    (subst (λ r. IsFirst (has_offset c.self.inside.bits) c.args.offset (Some (c.args.offset + 1 + r))) (sym c.from.ensures)
    (later-first c.self.inside.bits c.args.offset c.self.invariant.1 (above_zero _ c.if-later-eq0.false)))

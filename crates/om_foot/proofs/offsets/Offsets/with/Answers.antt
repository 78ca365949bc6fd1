use Rattle.std.proofs.Common.{◌≡◌, subst, cond, true, nat_eq, bit_or, ◌*◌, ◌^◌, ◌%◌}
use Rattle.std.proofs.Common.{arith}
use Rattle.std.proofs.lemmas.Nat.{or_lt, one_shl}
use Rattle.om_foot.specs.Offsets.{has_offset}
use Rattle.om_foot.proofs.OffsetLemmas.{added, still_some}
use Rattle.om_foot.proofs.offsets.Offsets.with.Goals as goal

pub invariant_of-result : goal.invariant_of-result
invariant_of-result c = (
  still_some c.self.inside.bits c.args.offset c.requires,
  or_lt 64 c.self.inside.bits _ c.self.invariant.1 (omega (arith, one_shl c.args.offset 64 c.requires)),
)

pub returns : goal.returns
returns c k below = subst
    (λ n. has_offset (bit_or c.self.inside.bits (1 * 2 ^ c.args.offset % 18446744073709551616)) k ≡ cond (nat_eq c.args.offset k) true (has_offset n k))
    c.self.view_is (added c.self.inside.bits c.args.offset k c.requires)

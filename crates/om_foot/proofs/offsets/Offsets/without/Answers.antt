use Rattle.std.proofs.Common.{◌≡◌, ◌∙◌, sym, ap, subst, cond, false, nat_eq, bit_and, ◌-◌, ◌*◌, ◌^◌, ◌%◌}
use Rattle.om_foot.specs.Offsets.{has_offset}
use Rattle.om_foot.proofs.OffsetLemmas.{cleared, none_of}
use Rattle.om_foot.proofs.offsets.Offsets.without.Goals as goal

pub returns-then-bits-eq0-clause-none : goal.returns-then-bits-eq0-clause-none
returns-then-bits-eq0-clause-none c k below =
    subst (λ n. cond (nat_eq c.args.offset k) false (has_offset n k) ≡ false) c.self.view_is
    (sym (cleared c.self.inside.bits c.args.offset k c.requires below) ∙ ap (λ n. has_offset n k) c.if-bits-eq0.true
    ∙ none_of k)

pub returns-else-bits-eq0-clause-some : goal.returns-else-bits-eq0-clause-some
returns-else-bits-eq0-clause-some c k below =
    subst (λ n. has_offset (bit_and c.self.inside.bits (18446744073709551615 - 1 * 2 ^ c.args.offset % 18446744073709551616)) k ≡ cond (nat_eq c.args.offset k) false (has_offset n k))
    c.self.view_is (cleared c.self.inside.bits c.args.offset k c.requires below)

-- What a copy's original is in a body is what the construct of the copy uses of it there.
use Rattle.std.proofs.Common.{◌≡◌, refl}
use Rattle.om_scope_tree.specs.declared.resolved.CopyKind.{CopyKind}
use Rattle.om_scope_tree.specs.declared.resolved.CopyKind.TheVariants as copies
use Rattle.om_scope_tree.specs.declared.resolved.Variable.{Variable}
use Rattle.om_scope_tree.specs.Captures.{combined_uses, copy_uses}
use Rattle.om_lower_rules.specs.Slots.{combined_sights, original_sights}

pub original_seen : (kind : CopyKind) (original : Variable) → copy_uses kind original ≡ original_sights kind original
original_seen copies.Private original = refl
original_seen copies.Firstprivate original = refl
original_seen (copies.Reduction o) original = refl

pub combined_seen : (kind : CopyKind) (original : Variable) → combined_uses kind original ≡ combined_sights kind original
combined_seen copies.Private original = refl
combined_seen copies.Firstprivate original = refl
combined_seen (copies.Reduction o) original = refl

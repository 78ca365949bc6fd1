use Rattle.std.proofs.Common.{◌≡◌, rules, refl}
use Rattle.om_undo_touches.proofs.Forgetting.{forgotten}
use Rattle.om_undo_touches.proofs.objects.ObjectTouches.forget.Goals as goal

pub returns : goal.returns
returns c =
    forgotten _ (λ f. f.0 ≡ c.args.serial) c.args.serial (λ g k v b w g' i t. search rules) _ c.args.self.now.objects.entries
    c.retain.new.self.entries refl c.retain.ensures.filtered

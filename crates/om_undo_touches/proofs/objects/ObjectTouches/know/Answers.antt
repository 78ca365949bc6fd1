use Rattle.std.proofs.Common.{◌≡◌, ◌∙◌, sym, ap, subst, true, None}
use Rattle.std.specs.Prelude.{is_some}
use Rattle.std.specs.Map.{lookup}
use Rattle.om_foot.specs.Footprint.{obj_eq}
use Rattle.om_foot.specs.Objects.{lookup-is_at}
use Rattle.om_undo_touches.specs.Lists.{absent_at, known_same, known_there}
use Rattle.om_undo_touches.proofs.objects.ObjectTouches.know.Goals as goal

pub returns-then-contains_key-clause-known : goal.returns-then-contains_key-clause-known
returns-then-contains_key-clause-known c = ap is_some
    (sym (lookup-is_at c.args.object.now c.args.self.now.objects.entries)) ∙ sym c.contains_key.ensures
    ∙ c.if-contains_key.true

pub returns-clause-same : goal.returns-clause-same
returns-clause-same c =
    let es = c.args.self.now.objects.entries in
    known_same es c.insert.new.self.entries c.in_ok-key.key c.new.result
    (subst (λ o. lookup (obj_eq o) es ≡ None) (sym c.in_ok-key.ensures)
    (absent_at es c.args.object.now (sym c.contains_key.ensures ∙ c.if-contains_key.false)))
    c.in_ok-insert.ensures.updates.0 c.new.ensures

pub returns-clause-known : goal.returns-clause-known
returns-clause-known c =
    let fs = c.insert.new.self.entries in
    subst (λ o. is_some (lookup (obj_eq o) fs) ≡ true) c.in_ok-key.ensures
    (known_there c.args.self.now.objects.entries fs c.in_ok-key.key c.new.result c.in_ok-insert.ensures.updates.0)

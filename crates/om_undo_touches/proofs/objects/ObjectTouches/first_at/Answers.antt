use Rattle.std.proofs.Common.{◌≡◌, sym, ap, subst, Some, None}
use Rattle.std.specs.Map.{lookup}
use Rattle.om_foot.specs.Footprint.{obj_eq}
use Rattle.om_undo_touches.specs.Touches.{has_in, has_object_touch, meets_at}
use Rattle.om_foot.specs.Firsts.{IsFirst}
use Rattle.om_undo_touches.specs.Lists.{known_at, unknown_at}
use Rattle.om_undo_touches.specs.Searches.{meets_at_none}
use Rattle.om_undo_touches.proofs.objects.ObjectTouches.first_at.Goals as goal

pub returns-in-Some : goal.returns-in-Some
returns-in-Some c =
    let es = c.args.self.now.objects.entries in
    let there : lookup (obj_eq c.args.access.now.object) es ≡ Some c.in-Some.touches.now =
    subst (λ o. lookup (obj_eq o) es ≡ Some c.in-Some.touches.now) c.object.ensures
    (known_at es c.object.result.now c.in-Some.touches.now c.in-Some.ensures.value) in
    subst (λ o. IsFirst (meets_at (λ m s. has_in o m s) c.args.access.now.mode) c.args.serial c.first_conflict.result)
    (sym there)
    (subst (λ n. IsFirst (meets_at (λ m s. has_in (Some c.in-Some.touches.now) m s) n) c.args.serial
    c.first_conflict.result) c.mode.ensures c.first_conflict.ensures)

pub returns-in-None : goal.returns-in-None
returns-in-None c s above =
    let es = c.args.self.now.objects.entries in
    let none : lookup (obj_eq c.args.access.now.object) es ≡ None =
    subst (λ o. lookup (obj_eq o) es ≡ None) c.object.ensures
    (unknown_at es c.object.result.now c.in-None.ensures.value) in
    meets_at_none (has_object_touch c.args.self.now c.args.access.now.object) c.args.access.now.mode s
    (λ m. ap (λ o. has_in o m s) none)

use Rattle.std.proofs.Common.{◌≡◌, ◌∙◌, ap, subst, false, None}
use Rattle.std.specs.Map.{lookup}
use Rattle.om_foot.specs.declared.footprint.Access.{Access}
use Rattle.om_foot.specs.Footprint.{obj_eq}
use Rattle.om_undo_touches.specs.Touches.{has_in, ObjectsWithout}
use Rattle.om_undo_touches.specs.Lists.{known_at, is_known, unknown_at, set_touches, unset_unknown}
use Rattle.om_undo_touches.proofs.objects.ObjectTouches.remove.Goals as goal

pub returns-in-Some : goal.returns-in-Some
returns-in-Some c =
    let es = c.args.self.now.objects.entries in
    let k = c.object.result.now in
    let w = c.remove.new.self in
    let old = c.in-Some.touches.now in
    let a : Access = record { object = k; mode = c.mode.result } in
    let is : a ≡ c.args.access.now = λ i. record { object = c.object.ensures i; mode = c.mode.ensures i } in
    subst (λ x. ObjectsWithout x c.args.serial c.args.self.now (record { objects = c.get_mut.follows.lender w })) is
    (set_touches false es (c.get_mut.follows.lender w).entries a c.args.serial old w
    (known_at es k old c.in-Some.ensures.value)
    ((c.get_mut.follows.holds w).3 (is_known es k old c.in-Some.ensures.value)).0
    c.remove.ensures)

pub returns-in-None : goal.returns-in-None
returns-in-None c q m s =
    let es = c.args.self.now.objects.entries in
    ap (λ x. has_in (lookup (obj_eq q) x.entries) m s) c.get_mut.follows.holds-at-none
    ∙ unset_unknown es c.args.access.now c.args.serial
    (subst (λ o. lookup (obj_eq o) es ≡ None) c.object.ensures
    (unknown_at es c.object.result.now c.in-None.ensures.value)) q m s

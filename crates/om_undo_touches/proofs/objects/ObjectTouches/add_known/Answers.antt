use Rattle.std.proofs.Common.{◌≡◌, true, sym, subst}
use Rattle.std.specs.Map.{lookup}
use Rattle.std.specs.Prelude.{is_some}
use Rattle.om_foot.specs.declared.footprint.Access.{Access}
use Rattle.om_foot.specs.Footprint.{obj_eq}
use Rattle.om_undo_touches.specs.Touches.{ObjectsWith}
use Rattle.om_undo_touches.specs.Lists.{known_at, is_known, not_known, set_touches, same_touches, on_ok, on_err}
use Rattle.om_undo_touches.proofs.objects.ObjectTouches.add_known.Goals as goal

pub unreachable-requires : goal.unreachable-requires
unreachable-requires c =
    let es = c.args.self.now.objects.entries in
    not_known es c.object.result.now c.get_mut.result c.get_mut.ensures.value c.in-None.is
    (subst (λ o. is_some (lookup (obj_eq o) es) ≡ true) (sym c.object.ensures) c.requires)

pub returns-clause-added : goal.returns-clause-added
returns-clause-added c =
    let es = c.args.self.now.objects.entries in
    let k = c.object.result.now in
    let w = c.add.new.self in
    let old = c.in-Some.touches.now in
    let a : Access = record { object = k; mode = c.mode.result } in
    let is : a ≡ c.args.access.now = λ i. record { object = c.object.ensures i; mode = c.mode.ensures i } in
    on_ok c.add.result
    (λ added. subst (λ x. ObjectsWith x c.args.serial c.args.self.now (record { objects = c.get_mut.follows.lender w })) is
    (set_touches true es (c.get_mut.follows.lender w).entries a c.args.serial old w
    (known_at es k old c.in-Some.ensures.value)
    ((c.get_mut.follows.holds w).3 (is_known es k old c.in-Some.ensures.value)).0 added))
    c.add.ensures.added

pub returns-clause-unchanged_on_error : goal.returns-clause-unchanged_on_error
returns-clause-unchanged_on_error c =
    let es = c.args.self.now.objects.entries in
    let k = c.object.result.now in
    let w = c.add.new.self in
    let old = c.in-Some.touches.now in
    on_err c.add.result
    (same_touches es (c.get_mut.follows.lender w).entries k old w
    (known_at es k old c.in-Some.ensures.value)
    ((c.get_mut.follows.holds w).3 (is_known es k old c.in-Some.ensures.value)).0)
    c.add.ensures.unchanged_on_error

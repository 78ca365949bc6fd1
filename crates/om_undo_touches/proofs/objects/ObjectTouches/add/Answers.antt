use Rattle.std.proofs.Common.{◌≡◌, true, subst}
use Rattle.om_foot.specs.declared.footprint.Access.{Access}
use Rattle.om_undo_touches.specs.Touches.{ObjectsWith}
use Rattle.om_undo_touches.specs.Lists.{known_at, is_known, set_touches, same_touches, on_ok, on_err}
use Rattle.om_undo_touches.proofs.objects.ObjectTouches.add.Goals as goal

pub returns-in-Some-clause-added : goal.returns-in-Some-clause-added
returns-in-Some-clause-added c =
    let es = c.args.self.now.objects.entries in
    let k = c.object.result.now in
    let w = c.add.new.self in
    let old = c.in-Some.touches.now in
    let a : Access = record { object = k; mode = c.mode.result } in
    let is : a ≡ c.args.access.now = λ i. record { object = c.object.ensures i; mode = c.mode.ensures i } in
    on_ok c.add.result
    (λ added. subst (λ x. ObjectsWith x c.args.serial c.args.self.now (record { objects = c.get_mut.follows.lender w })) is
    (set_touches true es (c.get_mut.follows.lender w).entries a c.args.serial old w
    (known_at es k old c.in-Some.ensures.value)
    ((c.get_mut.follows.holds w).3 (is_known es k old c.in-Some.ensures.value)).0 added))
    c.add.ensures.added

pub returns-in-Some-clause-unchanged_on_error : goal.returns-in-Some-clause-unchanged_on_error
returns-in-Some-clause-unchanged_on_error c =
    let es = c.args.self.now.objects.entries in
    let k = c.object.result.now in
    let w = c.add.new.self in
    let old = c.in-Some.touches.now in
    on_err c.add.result
    (same_touches es (c.get_mut.follows.lender w).entries k old w
    (known_at es k old c.in-Some.ensures.value)
    ((c.get_mut.follows.holds w).3 (is_known es k old c.in-Some.ensures.value)).0)
    c.add.ensures.unchanged_on_error

use Rattle.std.proofs.Common.{◌≡◌, sym, subst, true}
use Rattle.std.specs.Prelude.{All}
use Rattle.om_foot.specs.declared.footprint.Access.{Access}
use Rattle.om_memory.specs.Memories.{is_kept}
use Rattle.om_undo_history.specs.Backs.{GoAlong}
use Rattle.om_undo_history.proofs.steps.make.Goals as goal

pub make_changes-requires-clause-room : goal.make_changes-requires-clause-room
make_changes-requires-clause-room c =
    subst (All (λ (a : Access). is_kept c.planned.new.store a.object ≡ true)) (sym c.in_ok-making.ensures.footprint)
    c.in_ok-making.ensures.kept

pub of-requires : goal.of-requires
of-requires c = c.in_place.ensures.along c.make_changes.new.making.footprint
    (subst (λ f. GoAlong f c.make_changes.new.making.back) (sym c.make_changes.ensures.same_footprint)
    c.in_ok-make_changes.ensures.along)

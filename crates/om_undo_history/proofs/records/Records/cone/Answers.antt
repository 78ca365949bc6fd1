use Rattle.std.proofs.Common.{◌∙◌, ap}
use Rattle.std.specs.Prelude.{reverse}
use Rattle.std.specs.Map.{values_of}
use Rattle.om_undo_history.specs.Cones.{cone}
use Rattle.om_undo_history.specs.Records.{transitions_of}
use Rattle.om_undo_history.proofs.Members.{reverse-map}
use Rattle.om_undo_history.proofs.records.Records.cone.Goals as goal

pub returns : goal.returns
returns c = rw (← c.self.view_is) (c.reverse.ensures.items ∙ ap reverse c.in_ok-names.ensures
    ∙ reverse-map (cone c.args.serial (transitions_of (values_of c.self.inside.kept))))

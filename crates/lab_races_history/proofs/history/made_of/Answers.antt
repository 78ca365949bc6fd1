use Rattle.std.proofs.Common.{◌≡◌, refl, sym, ◌∙◌, ap, ◌∷◌, ◌++◌}
use Rattle.om_foot.specs.Cells.{cells_listed}
use Rattle.om_undo_touches.specs.Accesses.{control_write}
use Rattle.lab_races_history.proofs.history.made_of.Goals as goal

pub returns : goal.returns
returns c = record {
  serial = refl;
  worker = refl;
  line = refl;
  manner = refl;
  touches = sym (c.parts.ensures.all
      ∙ ap (λ w. control_write w ∷ (c.parts.result.0.now ++ (cells_listed c.parts.result.1.now ++ c.parts.result.2.now)))
      c.requires);
}

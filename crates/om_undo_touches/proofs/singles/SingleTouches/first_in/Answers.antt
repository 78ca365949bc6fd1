use Rattle.std.proofs.Common.{sym, refl}
use Rattle.om_foot.specs.Cells.{cells_of}
use Rattle.om_undo_touches.specs.Touches.{meets, has_object_touch, has_single_touch}
use Rattle.om_undo_touches.specs.Searches.{IsFirst-same}
use Rattle.om_undo_touches.proofs.CellLemmas.{meets_alike}
use Rattle.om_undo_touches.proofs.singles.SingleTouches.first_in.Goals as goal

pub returns : goal.returns
returns c =
    let cells = c.args.cells.now in
    let singles = c.args.self.now in
    IsFirst-same (meets (has_object_touch singles.objects) (cells_of cells)) (meets (has_single_touch singles) (cells_of cells))
    c.args.serial c.first_in.result
    (λ s. meets_alike (has_object_touch singles.objects) (has_single_touch singles) cells s (λ i m. refl))
    c.first_in.ensures

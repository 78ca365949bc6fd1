-- An access meets the cell of its own index, or none.
use Rattle.std.proofs.Common.{◌≡◌, sym, ◌∙◌, ap, ◌&&◌}
use Rattle.std.proofs.lemmas.Bool.{le-ltb}
use Rattle.om_foot.specs.declared.object.Obj.{Obj}
use Rattle.om_foot.specs.declared.footprint.Access.{Access}
use Rattle.om_foot.specs.declared.footprint.Mode.TheVariants.{Write}
use Rattle.om_foot.specs.Footprint.{obj_eq, modes_conflict}
use Rattle.om_undo_touches.proofs.ConflictLemmas.{no_spot, met_at_index, met_behind, no_cell_met}
use Rattle.om_undo_touches.proofs.conflicts.meets_slot.Goals as goal

pub returns-in_default : goal.returns-in_default
returns-in_default c = sym (no_cell_met c.args.access.now c.args.cells.now
    (sym c.spot_of.ensures ∙ no_spot c.spot_of.result c.in_default.not-Some))

pub returns-then-index-cells : goal.returns-then-index-cells
returns-then-index-cells c = let a : Access = c.args.access.now in
    c.is_in_conflict.ensures
    ∙ ap (λ (q : Obj). obj_eq a.object q && modes_conflict a.mode Write) c.cell.ensures
    ∙ sym (met_at_index a c.args.cells.now c.in-Some.field-0-0 c.in-Some.index
    (sym c.spot_of.ensures ∙ c.in-Some.is) c.if-index-cells.true)

pub returns-else-index-cells : goal.returns-else-index-cells
returns-else-index-cells c = le-ltb c.in-Some.index c.args.cells.now.count c.if-index-cells.false
    ∙ sym (met_behind c.args.access.now c.args.cells.now c.in-Some.field-0-0 c.in-Some.index
    (sym c.spot_of.ensures ∙ c.in-Some.is) c.if-index-cells.false)

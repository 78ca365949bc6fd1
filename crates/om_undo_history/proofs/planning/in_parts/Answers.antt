use Rattle.std.proofs.Common.{◌≡◌, true}
use Rattle.std.proofs.lemmas.List.Elements.{All-weaker}
use Rattle.om_foot.specs.declared.object.Obj.{Obj}
use Rattle.om_foot.specs.declared.object.Obj.TheVariants as obj
use Rattle.om_foot.specs.declared.footprint.Access.{Access}
use Rattle.om_foot.specs.Cells.{cells_listed}
use Rattle.om_undo_touches.specs.Accesses.{control_write}
use Rattle.om_memory.specs.Memories.{is_kept}
use Rattle.om_undo_history.proofs.CellParts.{All-three}
use Rattle.om_undo_history.proofs.planning.in_parts.Goals as goal

pub returns-clause-kept : goal.returns-clause-kept
returns-clause-kept c =
    let last : (q : Obj) → is_kept c.keep_cells.new.store q ≡ true → is_kept c.keep_each-2.new.store q ≡ true =
    c.keep_each-2.ensures.others_kept in
    let behind : (q : Obj) → is_kept c.keep_each.new.store q ≡ true → is_kept c.keep_each-2.new.store q ≡ true =
    λ q h. last q (c.keep_cells.ensures.others_kept q h) in
    All-three (λ (a : Access). is_kept c.keep_each-2.new.store a.object ≡ true) (control_write c.args.worker)
    c.args.names.now c.parts.result.0.now (cells_listed c.parts.result.1.now) c.parts.result.2.now c.parts.ensures
    (behind (obj.Control c.args.worker) (c.keep_each.ensures.others_kept (obj.Control c.args.worker) c.requires))
    (All-weaker (λ (a : Access). is_kept c.keep_each.new.store a.object ≡ true)
    (λ (a : Access). is_kept c.keep_each-2.new.store a.object ≡ true) (λ a h. behind a.object h)
    c.parts.result.0.now c.in_ok-keep_each.ensures.kept)
    (All-weaker (λ (a : Access). is_kept c.keep_cells.new.store a.object ≡ true)
    (λ (a : Access). is_kept c.keep_each-2.new.store a.object ≡ true) (λ a h. last a.object h)
    (cells_listed c.parts.result.1.now) c.in_ok-cells.ensures.kept)
    c.in_ok-keep_each-2.ensures.kept

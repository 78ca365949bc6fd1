use Rattle.std.proofs.Common.{◌≡◌, ◌∙◌, sym, ap, subst, true, ◌++◌, ◌∷◌, [], take, ◌+◌}
use Rattle.std.specs.Prelude.{All}
use Rattle.std.proofs.lemmas.List.{take_more}
use Rattle.std.proofs.lemmas.List.Elements.{All-weaker, All-append}
use Rattle.om_foot.specs.declared.footprint.Access.{Access}
use Rattle.om_foot.specs.declared.object.Cells.{Cells}
use Rattle.om_foot.specs.Cells.{cells_of, cells_listed}
use Rattle.om_memory.specs.Memories.{is_kept}
use Rattle.om_undo_history.proofs.CellParts.{cells_listed-more}
use Rattle.om_undo_history.proofs.updates.keep_cells.Goals as goal

pub loop-cells-preserved : goal.loop-cells-preserved
loop-cells-preserved c =
    let all = c.args.all.now in
    let i = c.loop-cells.cells-index in
    let a : Cells = c.cells-item.result in
    let more : take (i + 1) all ≡ take i all ++ a ∷ [] =
    take_more all i a c.loop-cells-test.true ∙ ap (λ x. take i all ++ x ∷ []) (sym c.cells-item.is) in
    let x = c.loop-cells.invariant in
    record {
      shared = c.in_ok-push.ensures.added
          ∙ (λ j. x.shared j ++ c.in_ok-keep_cells.ensures.shared j ∷ [])
          ∙ sym more;
      same = c.keep_cells.ensures.state ∙ x.same;
      same_pasts = c.keep_cells.ensures.pasts ∙ x.same_pasts;
      kept = subst (All (λ (b : Access). is_kept c.keep_cells.new.self b.object ≡ true))
          (sym (ap cells_listed more ∙ cells_listed-more (take i all) a))
          (All-append (λ (b : Access). is_kept c.keep_cells.new.self b.object ≡ true)
          (cells_listed (take i all)) (cells_of a)
          (All-weaker (λ (b : Access). is_kept c.loop-cells.store b.object ≡ true)
          (λ (b : Access). is_kept c.keep_cells.new.self b.object ≡ true)
          (λ b h. c.keep_cells.ensures.others_kept b.object h) (cells_listed (take i all)) x.kept)
          c.in_ok-keep_cells.ensures.kept);
      others_kept = λ q h. c.keep_cells.ensures.others_kept q (x.others_kept q h);
    }

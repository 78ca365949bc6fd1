use Rattle.std.proofs.Common.{◌≡◌, Some, sym, ap, ◌∙◌, slice_get}
use Rattle.std.proofs.lemmas.Option.{slice_get-get_or}
use Rattle.om_undo.specs.Machines.{state_in}
use Rattle.lab_explore_rows.specs.RowFacts.{extends_then}
use Rattle.lab_explore_states.specs.Touched.{start_at}
use Rattle.lab_explore_states.proofs.TouchedLemmas.{placed_at, placed_stay, row_next}
use Rattle.lab_explore_states.proofs.touched.put_touched.Goals as goal

pub entry_of-requires-clause-placed : goal.entry_of-requires-clause-placed
entry_of-requires-clause-placed c =
    let there : slice_get c.args.touched.now c.loop-one.one-index ≡ Some c.one-item.result =
    slice_get-get_or c.args.touched.now c.loop-one.one-index c.one-item.result c.loop-one-test.true
    ∙ ap Some (sym c.one-item.is) in
    placed_at c.loop-one.tables c.args.touched.now c.loop-one.one-index c.one-item.result there
    c.loop-one.invariant.placed

pub loop-one-preserved : goal.loop-one-preserved
loop-one-preserved c =
    let there : slice_get c.args.touched.now c.loop-one.one-index ≡ Some c.one-item.result =
    slice_get-get_or c.args.touched.now c.loop-one.one-index c.one-item.result c.loop-one-test.true
    ∙ ap Some (sym c.one-item.is) in
    record {
      by_start = c.in_ok-entry.ensures.by_start;
      extends = extends_then c.args.tables.now c.loop-one.tables c.entry_of.new.tables c.loop-one.invariant.extends
          c.in_ok-entry.ensures.extends;
      placed = placed_stay c.loop-one.tables c.entry_of.new.tables c.args.touched.now c.in_ok-entry.ensures.extends
          c.loop-one.invariant.placed;
      row = row_next c.distinct_objects.ensures c.loop-one.tables c.entry_of.new.tables
          (start_at c.args.machine.now) (state_in c.args.machine.now) c.args.touched.now c.loop-one.one-index
          c.one-item.result c.in_ok-entry.entry c.loop-one.row c.put.new.self there c.in_ok-entry.ensures.extends
          c.in_ok-entry.ensures.objects
          (placed_at c.loop-one.tables c.args.touched.now c.loop-one.one-index c.one-item.result there
          c.loop-one.invariant.placed)
          c.in_ok-entry.ensures.entry c.in_ok-put.ensures c.loop-one.invariant.row;
    }

use Rattle.std.proofs.Common.{◌≡◌, Some, sym, ap, ◌∙◌, slice_get}
use Rattle.std.proofs.lemmas.Option.{slice_get-get_or}
use Rattle.om_undo.specs.Machines.{state_in}
use Rattle.lab_explore_rows.specs.RowFacts.{extends_then}
use Rattle.lab_explore_states.specs.Touched.{objects_of, start_at}
use Rattle.lab_explore_states.proofs.TouchedLemmas.{covered_next, start_stays}
use Rattle.lab_explore_states.proofs.touched.touched_by.Goals as goal

pub note-requires-clause-start : goal.note-requires-clause-start
note-requires-clause-start c =
    start_stays (start_at c.args.machine.now) c.args.tables.now c.loop-access.tables (state_in c.args.machine.now)
    c.loop-access.invariant.extends c.requires.start

pub loop-access-preserved : goal.loop-access-preserved
loop-access-preserved c =
    let there : slice_get c.args.accesses.now c.loop-access.access-index ≡ Some c.access-item.result =
    slice_get-get_or c.args.accesses.now c.loop-access.access-index c.access-item.result c.loop-access-test.true
    ∙ ap Some (sym c.access-item.is) in
    record {
      by_start = c.in_ok-note.ensures.by_start;
      extends = extends_then c.args.tables.now c.loop-access.tables c.note.new.tables c.loop-access.invariant.extends
          c.in_ok-note.ensures.extends;
      placed = c.in_ok-note.ensures.placed;
      covers = covered_next c.args.accesses.now c.loop-access.access-index c.access-item.result
          (objects_of c.loop-access.touched.items) (objects_of c.note.new.touched.items) there
          c.in_ok-note.ensures.notes c.loop-access.invariant.covers;
    }

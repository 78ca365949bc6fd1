use Rattle.std.proofs.Common.{◌≡◌, None, sym, ◌∙◌}
use Rattle.lab_explore_rows.specs.Tables.{place_of}
use Rattle.lab_explore_states.specs.Touched.{start_at}
use Rattle.lab_explore_states.proofs.touched.placed.Goals as goal

pub returns-in_ok-start-in-None-clause-by_start : goal.returns-in_ok-start-in-None-clause-by_start
returns-in_ok-start-in-None-clause-by_start c =
    let none : place_of c.args.tables.now c.args.object.now ≡ None = cc (c.in_ok-place.ensures, c.in-None.is) in
    record {
      tables = c.know.ensures.numbered c.requires.by_start.tables;
      starts = c.know.ensures.starts (start_at c.args.machine.now)
          (sym (c.requires.start c.args.object.now none) ∙ sym c.in_ok-start-in-None.ensures)
          c.requires.by_start.starts;
    }

use Rattle.std.proofs.Common.{sym, subst}
use Rattle.om_undo.specs.Machines.{state_in}
use Rattle.lab_explore_rows.specs.Rows.{IsRow}
use Rattle.lab_explore_states.specs.Touched.{start_at}
use Rattle.lab_explore_states.proofs.stored.followed.Goals as goal

pub returns-clause-there : goal.returns-clause-there
returns-clause-there c =
    subst (λ m. IsRow c.put_touched.new.tables (start_at c.args.machine.now) c.put_touched.new.row (state_in m))
    (sym c.of.ensures) c.in_ok-put_touched.ensures.row

use Rattle.lab_explore_rows.proofs.RowLemmas.{tell_apart}
use Rattle.lab_explore_rows.proofs.laws.rows_tell_apart.Goals as goal

pub returns : goal.returns
returns c = tell_apart c.distinct_values.ensures

use Rattle.std.proofs.Common.{subst}
use Rattle.lab_explore_rows.specs.Rows.{IsEntry}
use Rattle.lab_explore_states.specs.Touched.{start_at}
use Rattle.lab_explore_states.proofs.TouchedLemmas.{by_start_stays}
use Rattle.lab_explore_states.proofs.touched.entry_of.Goals as goal

pub returns-in_err-entry-clause-by_start : goal.returns-in_err-entry-clause-by_start
returns-in_err-entry-clause-by_start c =
    by_start_stays (start_at c.args.machine.now) c.args.tables.now c.entry.new.self c.in_err-entry.ensures.extends
    c.in_err-entry.ensures.objects c.in_err-entry.ensures.starts c.requires.by_start

pub returns-clause-entry : goal.returns-clause-entry
returns-clause-entry c =
    let start = start_at c.args.machine.now in
    subst (λ v. IsEntry c.entry.new.self.values c.in_ok-entry.entry v (start c.args.one.now.object))
    c.in_ok-value.ensures
    (c.in_ok-entry.ensures.entry start c.args.one.now.object c.requires.by_start.starts c.requires.placed)

pub returns-clause-by_start : goal.returns-clause-by_start
returns-clause-by_start c =
    by_start_stays (start_at c.args.machine.now) c.args.tables.now c.entry.new.self c.in_ok-entry.ensures.extends
    c.in_ok-entry.ensures.objects c.in_ok-entry.ensures.starts c.requires.by_start

use Rattle.std.proofs.Common.{sym, ◌∙◌, ap, subst, rules}
use Rattle.std.proofs.lemmas.Fn.{filter_same}
use Rattle.om_undo_history.specs.Rows.{entries_in, AreRising, LastStands}
use Rattle.om_undo_history.proofs.Rows.{has_record, tidied}
use Rattle.om_undo_history.proofs.by_serial.close_gaps.Goals as goal

pub returns-then-has_gaps-clause-same : goal.returns-then-has_gaps-clause-same
returns-then-has_gaps-clause-same c =
    let rows = c.args.rows.now.items in
    ap entries_in (filter_same _ has_record _ (λ x b f k. search rules) rows _ c.retain.ensures.filtered)
    ∙ (tidied 0 rows c.requires.rising).same

pub returns-then-has_gaps-clause-rising : goal.returns-then-has_gaps-clause-rising
returns-then-has_gaps-clause-rising c =
    let rows = c.args.rows.now.items in
    subst (AreRising 0) (sym (filter_same _ has_record _ (λ x b f k. search rules) rows _ c.retain.ensures.filtered))
    (tidied 0 rows c.requires.rising).rising

pub returns-then-has_gaps-clause-last : goal.returns-then-has_gaps-clause-last
returns-then-has_gaps-clause-last c =
    let rows = c.args.rows.now.items in
    subst LastStands (sym (filter_same _ has_record _ (λ x b f k. search rules) rows _ c.retain.ensures.filtered))
    (tidied 0 rows c.requires.rising).last

-- A record that is met is the first of those that are left.
use Rattle.std.proofs.Common.{◌≡◌, ◌∙◌, sym, ap, ◌∷◌, [], ◌++◌, ◌+◌, drop, drop-cons, add-one, append_assoc, suc}
use Rattle.std.specs.Map.{values_of}
use Rattle.om_undo_history.specs.Records.{entries_of}
use Rattle.om_undo_history.specs.Rows.{entries_in}
use Rattle.om_undo_history.proofs.Rows.{entries-one}
use Rattle.om_undo_history.proofs.records.Records.entries.Goals as goal

pub loop-row-preserved : goal.loop-row-preserved
loop-row-preserved c =
    let rows = c.rows-row-items.result.now in
    let i = c.loop-row.row-index in
    let row = c.row-item.result in
    let k = c.in-Some.made in
    let so_far = c.loop-row.entries.items in
    let rest = entries_of (values_of (entries_in (drop (i + 1) rows))) in
    let step : drop i rows ≡ row ∷ drop (i + 1) rows =
    drop-cons rows i row c.loop-row-test.true ∙ ap (λ r. r ∷ drop (suc i) rows) (sym c.row-item.is)
    ∙ ap (λ n. row ∷ drop n rows) (sym (add-one i)) in
    let one = ap entries_of (entries-one (drop i rows) (drop (i + 1) rows) row k step c.in-Some.is) in
    ap (λ es. es ++ rest) c.in_ok-push.ensures.items
    ∙ (λ j. (so_far ++ record {
      serial = c.serial.ensures j;
      worker = c.worker.ensures j;
      choice = c.choice-choice.ensures j;
      line = c.line.ensures j;
    } ∷ []) ++ rest)
    ∙ append_assoc so_far (k.entry ∷ []) rest
    ∙ ap (λ es. so_far ++ es) (sym one)
    ∙ c.loop-row.invariant

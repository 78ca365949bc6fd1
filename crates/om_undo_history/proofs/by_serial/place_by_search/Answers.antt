use Rattle.std.proofs.Common.{◌≡◌, ◌≤◌, sym, ◌∙◌, ap, subst, None, Some, nat_lt, nat_eq, length, refl, rules, arith, false}
use Rattle.std.specs.Prelude.{slice_get, is_some, IfSome, IfNone}
use Rattle.std.specs.Ordering.{nat_cmp}
use Rattle.std.specs.BTreeMap.{is_at}
use Rattle.std.specs.Map.{lookup}
use Rattle.std.proofs.lemmas.List.Sorted.{IsPartitionPoint-from_clause}
use Rattle.std.proofs.lemmas.Option.{slice_get_past, slice_get_read}
use Rattle.om_undo_history.specs.declared.by_serial.Row.{Row}
use Rattle.om_undo_history.specs.Rows.{entries_in}
use Rattle.om_undo_history.proofs.Rows.{parted, missing, same_row, if_none, chosen, unchosen}
use Rattle.om_undo_history.proofs.by_serial.place_by_search.Goals as goal

pub returns-in_err-row-clause-none : goal.returns-in_err-row-clause-none
returns-in_err-row-clause-none c =
    let rows = c.args.rows.now in
    let at = c.partition_point-place.result in
    let past : nat_lt at (length rows) ≡ false = sym c.get.ensures.lookup.0 ∙ ap is_some c.in_err-row.was in
    let behind : length rows ≤ at = grind (arith, past) in
    let none : slice_get rows at ≡ None = slice_get_past rows at behind in
    if_none c.from_residual.result (lookup (is_at (nat_cmp c.args.serial)) (entries_in rows) ≡ None)
    (missing 0 c.args.serial rows at c.requires
    (IsPartitionPoint-from_clause (λ (r : Row). nat_lt r.serial c.args.serial) rows at
    c.partition_point-place.ensures.partitioned (parted 0 c.args.serial rows c.requires) (λ a r q k. search rules))
    (λ r found same. let no : None ≡ Some r = sym none ∙ found in cc))

there : (c : goal.After-then_some) → slice_get c.args.rows.now c.partition_point-place.result ≡ Some c.in_ok-row.row.now
there c =
    let rows = c.args.rows.now in
    let is = c.in_ok-row.ensures.lookup in
    slice_get_read rows (length rows) c.partition_point-place.result c.in_ok-row.row.now refl is.3.0 is.1

pub returns-clause-found : goal.returns-clause-found
returns-clause-found c =
    let row = c.in_ok-row.row.now in
    let at = c.partition_point-place.result in
    subst (λ o. IfSome o (λ i. (r : Row) × (slice_get c.args.rows.now i ≡ Some r) × (r.serial ≡ c.args.serial)))
    (sym c.then_some.ensures)
    (chosen (nat_eq row.serial c.args.serial) at
    (λ i. (r : Row) × (slice_get c.args.rows.now i ≡ Some r) × (r.serial ≡ c.args.serial))
    (λ is. let same : row.serial ≡ c.args.serial = grind (arith, is) in (row, there c, same)))

pub returns-clause-none : goal.returns-clause-none
returns-clause-none c =
    let rows = c.args.rows.now in
    let row = c.in_ok-row.row.now in
    let at = c.partition_point-place.result in
    let missed = lookup (is_at (nat_cmp c.args.serial)) (entries_in rows) ≡ None in
    subst (λ o. IfNone o missed) (sym c.then_some.ensures)
    (unchosen (nat_eq row.serial c.args.serial) at missed
    (λ is. missing 0 c.args.serial rows at c.requires
    (IsPartitionPoint-from_clause (λ (r : Row). nat_lt r.serial c.args.serial) rows at
    c.partition_point-place.ensures.partitioned (parted 0 c.args.serial rows c.requires) (λ a r q k. search rules))
    (λ r found same.
    let here : row.serial ≡ c.args.serial = ap (λ (y : Row). y.serial) (same_row row r (sym (there c) ∙ found)) ∙ same in
    grind (arith, is, here))))

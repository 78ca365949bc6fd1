use Rattle.std.proofs.Common.{◌≡◌, sym, subst, Some, nat_eq, length, refl, arith}
use Rattle.std.specs.Prelude.{slice_get, IfSome}
use Rattle.std.proofs.lemmas.Option.{slice_get_read}
use Rattle.om_undo_history.specs.declared.by_serial.Row.{Row}
use Rattle.om_undo_history.proofs.Rows.{chosen}
use Rattle.om_undo_history.proofs.by_serial.place_from_end.Goals as goal

pub returns : goal.returns
returns c =
    let rows = c.args.rows.now in
    let row = c.in_ok-row.row.now in
    let at = c.saturating_sub-place.result in
    let is = c.in_ok-row.ensures.lookup in
    let there : slice_get rows at ≡ Some row = slice_get_read rows (length rows) at row refl is.3.0 is.1 in
    subst (λ o. IfSome o (λ i. (r : Row) × (slice_get rows i ≡ Some r) × (r.serial ≡ c.args.serial)))
    (sym c.then_some.ensures)
    (chosen (nat_eq row.serial c.args.serial) at
    (λ i. (r : Row) × (slice_get rows i ≡ Some r) × (r.serial ≡ c.args.serial))
    (λ is. let same : row.serial ≡ c.args.serial = grind (arith, is) in (row, there, same)))

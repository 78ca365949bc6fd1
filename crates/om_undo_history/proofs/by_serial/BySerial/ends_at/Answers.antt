use Rattle.std.proofs.Common.{◌≡◌, ◌<◌, ◌≤◌, ◌-◌, sym, ◌∙◌, ap, subst, length, Some, arith}
use Rattle.std.specs.Prelude.{slice_get}
use Rattle.std.specs.Ordering.{nat_cmp}
use Rattle.std.specs.BTreeMap.{is_at}
use Rattle.std.specs.Map.{lookup}
use Rattle.om_undo_history.proofs.Rows.{missing-behind}
use Rattle.om_undo_history.proofs.by_serial.BySerial.ends_at.Goals as goal

pub returns : goal.returns
returns c = λ yes t behind.
    let rows = c.self.inside.rows.items in
    let row = c.in-Some.row.now in
    let there : slice_get rows (length rows - 1) ≡ Some row =
    subst (λ xs. slice_get xs (length xs - 1) ≡ Some row) c.deref.ensures.value (sym c.in-Some.ensures.value) in
    let some : 0 < length rows = subst (λ xs. 0 < length xs) c.deref.ensures.value c.in-Some.ensures.item.3.0 in
    let le : row.serial ≤ c.args.serial = grind (arith, yes) in
    ap (lookup (is_at (nat_cmp t))) (sym c.self.view_is)
    ∙ missing-behind 0 c.args.serial t rows (length rows - 1) row c.self.invariant there (omega (arith, some)) le behind

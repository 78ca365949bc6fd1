use Rattle.std.proofs.Common.{◌≡◌, sym, ◌∙◌, ap, subst, Some}
use Rattle.std.specs.Prelude.{slice_get}
use Rattle.std.specs.Ordering.{nat_cmp}
use Rattle.std.specs.BTreeMap.{is_at}
use Rattle.std.specs.Map.{lookup}
use Rattle.std.specs.Option.{option_copied}
use Rattle.std.proofs.lemmas.Option.{get_or_from_slice_get}
use Rattle.om_undo_history.specs.declared.by_serial.Row.{Row}
use Rattle.om_undo_history.proofs.Rows.{found-at, told-lent, untold-lent}
use Rattle.om_undo_history.proofs.by_serial.BySerial.get.Goals as goal

found : (c : goal.After-as_ref) → lookup (is_at (nat_cmp c.args.serial)) c.args.self.now ≡ option_copied c.as_ref.result
found c =
    let rows = c.self.inside.rows.items in
    let i = c.in_ok-at.at in
    let r : Row = c.in_ok-at.ensures.found.0 in
    let there : slice_get rows i ≡ Some r =
    subst (λ xs. slice_get xs i ≡ Some r) c.as_slice.ensures.value c.in_ok-at.ensures.found.1 in
    ap (lookup (is_at (nat_cmp c.args.serial))) (sym c.self.view_is)
    ∙ found-at 0 c.args.serial rows i r c.self.invariant there c.in_ok-at.ensures.found.2
    ∙ sym (ap (λ (y : Row). y.kept) (c.index.ensures ∙ get_or_from_slice_get rows i r c.index.result.now there))
    ∙ sym c.as_ref.ensures.value

pub returns-clause-found : goal.returns-clause-found
returns-clause-found c = told-lent _ c.as_ref.result (found c)

pub returns-clause-none : goal.returns-clause-none
returns-clause-none c = untold-lent _ c.as_ref.result (found c)

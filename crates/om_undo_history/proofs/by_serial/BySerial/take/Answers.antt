use Rattle.std.proofs.Common.{◌≡◌, ◌<◌, sym, ◌∙◌, ap, subst, Some}
use Rattle.std.specs.Prelude.{slice_get}
use Rattle.std.specs.Ordering.{nat_cmp}
use Rattle.std.specs.BTreeMap.{is_at}
use Rattle.std.specs.Map.{lookup, remove_entry}
use Rattle.std.proofs.lemmas.Option.{get_or_from_slice_get, slice_get_within}
use Rattle.om_undo_history.specs.declared.by_serial.Row.{Row}
use Rattle.om_undo_history.specs.Rows.{entries_in}
use Rattle.om_undo_history.proofs.Rows.{found-at, taken-at, rising-set, remove_missing, told, untold}
use Rattle.om_undo_history.proofs.by_serial.BySerial.take.Goals as goal

there : (c : goal.After-drop_gone) → slice_get c.self.inside.rows.items c.in_ok-at.at ≡ Some c.in_ok-at.ensures.found.0
there c = subst (λ xs. slice_get xs c.in_ok-at.at ≡ Some c.in_ok-at.ensures.found.0) c.as_slice.ensures.value
    c.in_ok-at.ensures.found.1

row_is : (c : goal.After-drop_gone) → c.index_mut.result.now ≡ c.in_ok-at.ensures.found.0
row_is c = c.index_mut.ensures.value
    ∙ get_or_from_slice_get c.self.inside.rows.items c.in_ok-at.at c.in_ok-at.ensures.found.0 c.index_mut.result.now (there c)

found : (c : goal.After-drop_gone) → lookup (is_at (nat_cmp c.args.serial)) c.args.self.now ≡ c.take-kept.result
found c =
    ap (lookup (is_at (nat_cmp c.args.serial))) (sym c.self.view_is)
    ∙ found-at 0 c.args.serial c.self.inside.rows.items c.in_ok-at.at c.in_ok-at.ensures.found.0 c.self.invariant (there c)
    c.in_ok-at.ensures.found.2
    ∙ sym (ap (λ (y : Row). y.kept) (row_is c)) ∙ sym c.take-kept.ensures.value

pub drop_gone-requires : goal.drop_gone-requires
drop_gone-requires c =
    let there = subst (λ xs. slice_get xs c.in_ok-at.at ≡ Some c.in_ok-at.ensures.found.0) c.as_slice.ensures.value
    c.in_ok-at.ensures.found.1 in
    rising-set 0 c.self.inside.rows.items c.in_ok-at.at c.in_ok-at.ensures.found.0
    (record { serial = c.index_mut.result.now.serial; kept = c.take-kept.new.self }) c.self.invariant there
    (ap (λ (y : Row). y.serial) (c.index_mut.ensures.value
    ∙ get_or_from_slice_get c.self.inside.rows.items c.in_ok-at.at c.in_ok-at.ensures.found.0 c.index_mut.result.now
    there))

pub returns-clause-taken : goal.returns-clause-taken
returns-clause-taken c =
    c.drop_gone.ensures.same
    ∙ taken-at 0 c.args.serial c.self.inside.rows.items c.in_ok-at.at c.in_ok-at.ensures.found.0
    (record { serial = c.index_mut.result.now.serial; kept = c.take-kept.new.self }) c.self.invariant (there c)
    c.in_ok-at.ensures.found.2 c.take-kept.ensures.after
    ∙ ap (remove_entry (is_at (nat_cmp c.args.serial))) c.self.view_is

pub returns-clause-found : goal.returns-clause-found
returns-clause-found c = told _ c.take-kept.result (found c)

pub returns-clause-none : goal.returns-clause-none
returns-clause-none c = untold _ c.take-kept.result (found c)

pub returns-in_err-at-clause-taken : goal.returns-in_err-at-clause-taken
returns-in_err-at-clause-taken c = sym (remove_missing (is_at (nat_cmp c.args.serial)) c.args.self.now
    (ap (lookup (is_at (nat_cmp c.args.serial))) (sym c.self.view_is ∙ sym (ap entries_in c.as_slice.ensures.value))
    ∙ c.in_err-at.ensures.none))

pub index_mut-requires : goal.index_mut-requires
index_mut-requires c = subst (λ n. c.in_ok-at.at < n) c.as_slice.ensures.len
    (slice_get_within c.as_slice.result.now c.in_ok-at.at c.in_ok-at.ensures.found.0 c.in_ok-at.ensures.found.1)

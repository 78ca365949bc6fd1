use Rattle.std.proofs.Common.{◌≡◌, sym, ◌∙◌, ap, subst, length, ◌-◌, ◌<◌, arith, get_or, Some}
use Rattle.std.specs.Prelude.{slice_get}
use Rattle.std.proofs.lemmas.Option.{get_or_from_slice_get}
use Rattle.om_undo_history.proofs.Rows.{last-stands, popped}
use Rattle.om_undo_history.proofs.by_serial.drop_gone.Goals as goal

pub returns-then-is_some-clause-last : goal.returns-then-is_some-clause-last
returns-then-is_some-clause-last c =
    let rows = c.loop-row.rows.items in
    let row = c.in-Some.row.now in
    let there : slice_get rows (length rows - 1) ≡ Some row =
    subst (λ xs. slice_get xs (length xs - 1) ≡ Some row) c.deref.ensures.value (sym c.in-Some.ensures.value) in
    let some : 0 < length rows = subst (λ xs. 0 < length xs) c.deref.ensures.value c.in-Some.ensures.item.3.0 in
    last-stands rows (length rows - 1) row there (omega (arith, some)) (sym c.is_some.ensures ∙ c.if-is_some.true)

pub loop-row-preserved : goal.loop-row-preserved
loop-row-preserved c =
    let rows = c.loop-row.rows.items in
    let row = c.in-Some.row.now in
    let there : slice_get rows (length rows - 1) ≡ Some row =
    subst (λ xs. slice_get xs (length xs - 1) ≡ Some row) c.deref.ensures.value (sym c.in-Some.ensures.value) in
    let some : 0 < length rows = subst (λ xs. 0 < length xs) c.deref.ensures.value c.in-Some.ensures.item.3.0 in
    let left = popped 0 rows c.pop.new.self.items row c.pop.result c.pop.ensures.items
    (c.pop.ensures.value row (subst (λ n. 0 < n) c.deref.ensures.len c.in-Some.ensures.item.3.0)
    ∙ ap (λ n. Some (get_or rows (n - 1) row)) (sym c.deref.ensures.len ∙ ap length c.deref.ensures.value)
    ∙ ap Some (get_or_from_slice_get rows (length rows - 1) row row there))
    (sym c.is_some.ensures ∙ c.if-is_some.false) c.loop-row.invariant.1 in
    (left.0 ∙ c.loop-row.invariant.0, left.1)

use Rattle.std.proofs.Common.{◌≡◌, ◌<◌, IfSome, Some, length, map, slice_get, sym, subst}
use Rattle.om_lower.specs.Inputs.{tree_of}
use Rattle.om_lower.specs.Limits.{IsTooMany}
use Rattle.om_lower.specs.Made.{IsOverAt}
use Rattle.om_scope_tree.specs.ResolvedView as view
use Rattle.om_lower.proofs.Items.{item_at}
use Rattle.om_lower.proofs.Refusing.{refused}
use Rattle.om_lower.proofs.lowering.within_limits.Goals as goal

pub returns-clause-refused : goal.returns-clause-refused
returns-clause-refused c =
    let tree = tree_of c.args.input.now in
    let placed = c.args.placed.now in
    let items = c.args.input.now.resolved.now.functions.items in
    let index = c.in-Some.index in
    let function = view.function c.index-as_slice-index.result in
    let within = subst (λ found.
    IfSome found (λ index. index < length items)) c.in-Some.is c.in_ok-index.ensures.within in
    let at = subst (λ all.
    slice_get (map view.function all) index ≡ Some function) c.as_slice.ensures.value
    (item_at view.function c.as_slice.result.now index c.index-as_slice-index.result
    (subst (λ all. index < length all) (sym c.as_slice.ensures.value) within) c.index-as_slice-index.is) in
    let over = subst (λ found.
    IsOverAt placed.picks placed.functions placed.is_whole found) c.in-Some.is c.in_ok-index.ensures.over in
    λ other. subst (λ fault. IsTooMany tree fault) (sym c.too_many.ensures)
    (refused tree placed.picks placed.functions placed.is_whole index function c.requires.lowered over at)

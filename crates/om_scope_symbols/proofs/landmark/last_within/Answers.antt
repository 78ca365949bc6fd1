use Rattle.std.proofs.Common.{◌≡◌, ap, subst, sym, ◌∙◌, arith, slice_get}
use Rattle.om_scope_symbols.specs.Landmarks.{IsCountWithin}
use Rattle.om_scope_symbols.proofs.Landmarks.{last-found, lent, none-found}
use Rattle.om_scope_symbols.proofs.landmark.last_within.Goals as goal

pub returns-in_err-last : goal.returns-in_err-last
returns-in_err-last c =
    let landmarks = c.args.landmarks.now in
    let none : c.count_within.result ≡ 0 = omega (arith, c.in_err-last.ensures) in
    c.from_residual.ensures
    ∙ sym (none-found landmarks c.args.depth (subst (IsCountWithin landmarks c.args.depth) none
    c.count_within.ensures.place))

pub returns : goal.returns
returns c =
    let landmarks = c.args.landmarks.now in
    let count = c.count_within.result in
    let found = c.in_ok-last.ensures in
    c.copied.ensures ∙ lent landmarks c.in_ok-last.last c.get.result c.get.ensures.lookup
    ∙ ap (slice_get landmarks) found.1
    ∙ last-found landmarks count c.args.depth c.count_within.ensures.place (omega (arith, found.0))
    c.count_within.ensures.bound

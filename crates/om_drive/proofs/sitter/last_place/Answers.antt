use Rattle.std.proofs.Common.{◌≡◌, ◌-◌, length, slice_get, Some, sym, arith}
use Rattle.std.proofs.lemmas.Option.{slice_get_within}
use Rattle.om_drive.proofs.Places.{last_at}
use Rattle.om_drive.proofs.sitter.last_place.Goals as goal

pub returns : goal.returns
returns c =
    let rs = c.args.receipts.now in
    let got : slice_get rs (length rs - 1) ≡ Some c.in_ok-last.last.now = sym c.in_ok-last.ensures.value in
    sym (last_at rs (length rs - 1) c.in_ok-last.last.now
    (omega (arith, slice_get_within rs (length rs - 1) c.in_ok-last.last.now got)) got)

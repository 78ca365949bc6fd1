use Rattle.std.proofs.Common.{false, ◌∙◌, ap, sym, Some, arith, nat_eq}
use Rattle.std.proofs.lemmas.Option.{slice_get-get_or}
use Rattle.om_undo_touches.specs.Touches.{is_in}
use Rattle.om_undo_touches.specs.Workers.{kept-set}
use Rattle.om_undo_touches.proofs.own.OwnEntries.remove_known.Goals as goal

pub index_mut-requires : goal.index_mut-requires
index_mut-requires c = omega (arith, c.requires, c.args.self.now.workers.ok)

pub returns : goal.returns
returns c w s =
    let ss = c.args.self.now.workers.items in
    kept-set false (nat_eq c.args.serial s) (λ o. is_in o s) ss c.args.worker c.index_mut.result.now c.take.new.self
    (slice_get-get_or ss c.args.worker _ c.requires ∙ ap Some (sym c.index_mut.ensures.value)) (c.take.ensures s) w

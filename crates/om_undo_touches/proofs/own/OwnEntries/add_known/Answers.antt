use Rattle.std.proofs.Common.{true, ◌∙◌, ap, sym, Some, arith, nat_eq}
use Rattle.std.proofs.lemmas.Option.{slice_get-get_or}
use Rattle.om_undo_touches.specs.Touches.{is_in}
use Rattle.om_undo_touches.specs.Lists.{on_ok, on_err}
use Rattle.om_undo_touches.specs.Workers.{kept-set, kept-same}
use Rattle.om_undo_touches.proofs.own.OwnEntries.add_known.Goals as goal

pub index_mut-requires : goal.index_mut-requires
index_mut-requires c = omega (arith, c.requires, c.args.self.now.workers.ok)

pub returns-clause-added : goal.returns-clause-added
returns-clause-added c =
    let ss = c.args.self.now.workers.items in
    let at = slice_get-get_or ss c.args.worker _ c.requires ∙ ap Some (sym c.index_mut.ensures.value) in
    on_ok c.put.result
    (λ added w s. kept-set true (nat_eq c.args.serial s) (λ o. is_in o s) ss c.args.worker c.index_mut.result.now
    c.put.new.self at (added s) w)
    c.put.ensures.added

pub returns-clause-unchanged_on_error : goal.returns-clause-unchanged_on_error
returns-clause-unchanged_on_error c =
    let ss = c.args.self.now.workers.items in
    let at = slice_get-get_or ss c.args.worker _ c.requires ∙ ap Some (sym c.index_mut.ensures.value) in
    on_err c.put.result
    (λ same w s. kept-same (λ o. is_in o s) ss c.args.worker c.index_mut.result.now c.put.new.self at (same s) w)
    c.put.ensures.unchanged_on_error

-- What stands by serial is found among the records.
use Rattle.std.proofs.Common.{◌∙◌, ◌≡◌, sym, ap, subst, Some, None}
use Rattle.std.specs.Prelude.{IfSome, IfNone}
use Rattle.om_undo_history.specs.Records.{record_with}
use Rattle.om_undo_history.proofs.Indexed.{look-up}
use Rattle.om_undo_history.proofs.records.Records.get.Goals as goal

pub returns-clause-found : goal.returns-clause-found
returns-clause-found c =
    subst (λ o. IfSome c.get.result (λ k. o ≡ Some k.now))
    (look-up 0 c.self.inside.kept c.args.serial c.self.invariant.by_serial
    ∙ ap (record_with c.args.serial) c.self.view_is) c.get.ensures.found

pub returns-clause-none : goal.returns-clause-none
returns-clause-none c =
    subst (λ o. IfNone c.get.result (o ≡ None))
    (look-up 0 c.self.inside.kept c.args.serial c.self.invariant.by_serial
    ∙ ap (record_with c.args.serial) c.self.view_is) c.get.ensures.none

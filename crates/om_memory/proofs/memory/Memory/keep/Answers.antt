use Rattle.std.proofs.Common.{◌∙◌, sym, ap}
use Rattle.std.proofs.lemmas.Result.{on_ok_weaker}
use Rattle.om_memory.specs.Memories.{is_kept}
use Rattle.om_memory.proofs.Values.{untrailed, is_control}
use Rattle.om_memory.proofs.memory.Memory.keep.Goals as goal

pub returns-in_ok-know_control-in-Some-clause-kept : goal.returns-in_ok-know_control-in-Some-clause-kept
returns-in_ok-know_control-in-Some-clause-kept c = on_ok_weaker c.keep_value.result
    (λ kept. c.keep_value.ensures.others_kept c.args.access.now.object
    (ap (is_kept c.know_control.new.self)
    (is_control c.args.access.now.object _ (sym c.worker_of.ensures ∙ c.in-Some.is))
    ∙ c.in_ok-know_control-in-Some.ensures.kept))
    c.keep_value.ensures.kept

pub returns-in-None-clause-kept : goal.returns-in-None-clause-kept
returns-in-None-clause-kept c = on_ok_weaker c.keep_value-in-None.result
    (λ kept. kept (untrailed c.args.access.now.object (sym c.worker_of.ensures ∙ c.in-None.is)))
    c.keep_value-in-None.ensures.kept

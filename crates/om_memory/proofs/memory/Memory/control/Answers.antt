use Rattle.std.proofs.Common.{◌∙◌, ap, sym, refl, length}
use Rattle.std.proofs.lemmas.Option.{slice_get_read, slice_get_past}
use Rattle.std.specs.Option.{option_copied}
use Rattle.std.specs.Prelude.{slice_get}
use Rattle.om_memory.specs.Memories.{state_of, plain_or_idle, trail_now}
use Rattle.om_memory.proofs.memory.Memory.control.Goals as goal

pub returns : goal.returns
unfolding state_of
returns c =
    let ts = c.deref.result.now in
    let at = slice_get_read ts (length ts) c.args.worker c.in_ok-trail.trail.now refl c.in_ok-trail.ensures.lookup.3.0
    c.in_ok-trail.ensures.lookup.1 in
    c.control.ensures ∙ ap trail_now (sym at ∙ ap (λ l. slice_get l c.args.worker) c.deref.ensures.value)

pub returns-in_err-trail : goal.returns-in_err-trail
unfolding state_of
returns-in_err-trail c =
    let past = slice_get_past c.deref.result.now c.args.worker c.in_err-trail.ensures.lookup.3 in
    ap (λ r. plain_or_idle (option_copied r)) c.from_residual.ensures
    ∙ ap trail_now (sym past ∙ ap (λ l. slice_get l c.args.worker) c.deref.ensures.value)

-- The items of each tape are those of the plain pile, turned twice.
use Rattle.std.proofs.Common.{◌∙◌, sym, ap, reverse, map}
use Rattle.om_memory.specs.Plain.{plain_box, plain_frame}
use Rattle.om_memory.proofs.Tapes.{map_reversed}
use Rattle.om_memory.proofs.copy.plain_context_of.Goals as goal

pub returns : goal.returns
returns c =
    let k = c.args.context.now in
    let constructs = c.in_ok-constructs.ensures ∙ ap reverse c.in_ok-shares.ensures ∙ c.as_slice.ensures in
    let callers =
    c.in_ok-callers.ensures
    ∙ sym (map_reversed plain_box c.as_slice-2.result.now)
    ∙ ap (map plain_box) c.as_slice-2.ensures in
    let frame = c.in_ok-frame.ensures ∙ ap plain_frame c.deref.ensures in
    let ties = c.in_ok-ties.ensures in
    λ i. record {
      task = (ties i).task;
      kind = k.kind;
      team = (ties i).team;
      phase = k.phase;
      births = k.births;
      regions = k.regions;
      frames = k.frames;
      group = (ties i).group;
      constructs = constructs i;
      frame = frame i;
      callers = callers i;
    }

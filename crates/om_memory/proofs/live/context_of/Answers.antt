-- The items of each pile are those of the plain one, turned twice.
use Rattle.std.proofs.Common.{◌∙◌, ap, reverse, map}
use Rattle.om_memory.specs.Plain.{plain_box, plain_context}
use Rattle.om_memory.proofs.Tapes.{map_reversed}
use Rattle.om_memory.proofs.live.context_of.Goals as goal

pub returns : goal.returns
returns c =
    let p = c.args.plain.now in
    let constructs = ap (λ t. t.items) c.of.ensures ∙ ap reverse c.in_ok-constructs.ensures ∙ c.as_slice.ensures
    ∙ c.shares.ensures in
    let callers =
    ap (λ t. map plain_box t.items) c.of-2.ensures
    ∙ map_reversed plain_box c.in_ok-callers.callers.items
    ∙ ap reverse c.in_ok-callers.ensures
    ∙ c.as_slice-2.ensures
    ∙ c.shares-2.ensures in
    let ties = c.in_ok-ties.ensures in
    ap plain_context c.in_ok-new.ensures.ok
    ∙ (λ i. record {
      task = (ties i).task;
      kind = p.kind;
      team = (ties i).team;
      phase = p.phase;
      births = p.births;
      regions = p.regions;
      frames = p.frames;
      group = (ties i).group;
      constructs = constructs i;
      frame = c.in_ok-frame.ensures i;
      callers = callers i;
    })

use Rattle.std.proofs.Common.{map, ap, subst, ◌∙◌}
use Rattle.std.proofs.lemmas.Result.{IfOk-weaker}
use Rattle.om_lower.specs.Frames.{FitsFrame}
use Rattle.om_lower.specs.Inputs.{seen_body}
use Rattle.om_lower_rules.specs.Code.{captures_of, slots_of}
use Rattle.om_lower_rules.specs.Mentions.{extents_of}
use Rattle.om_lower_rules.specs.Slots.{slot_with}
use Rattle.om_lower.proofs.SlotTables.{slots_same}
use Rattle.om_lower.proofs.bodies.frame_in.Goals as goal

pub returns : goal.returns
returns c =
    let seen = c.args.seen.now in
    let b = seen_body seen in
    let extents = extents_of b.function in
    let variables = seen.variables.now in
    let captures = c.captures_in-captures.result.now in
    let same = slots_same seen.known.now.extents.now extents b.outer captures variables c.requires.seen.ready.cells
    ∙ ap (λ taken. map (slot_with extents b.outer taken) variables) c.captures_in-captures.ensures
    ∙ ap (λ all. map (slot_with extents b.outer (captures_of b.tree)) all) c.requires.seen.variables in
    IfOk-weaker c.frame_of.result _ _
    (λ frame fits. subst (λ all. FitsFrame all (slots_of b) frame) c.requires.seen.variables
    (subst (λ slots. FitsFrame variables slots frame) same fits)) c.frame_of.ensures

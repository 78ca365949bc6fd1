use Rattle.std.proofs.Common.{◌∙◌, sym, arith}
use Rattle.std.proofs.lemmas.Int.{ints}
use Rattle.om_memory.specs.Plain.{plain_context}
use Rattle.om_team_worksharing.specs.Iterations.{opened_ints}
use Rattle.om_team_worksharing.proofs.Tables.{carried, loop_opened}
use Rattle.om_team_worksharing.proofs.shares.open_loop.Goals as goal

pub open_share-requires : goal.open_share-requires
open_share-requires c =
    opened_ints c.loop_of-share.result _ c.args.form _ _ c.loop_of-share.ensures
    (sym c.is_right_form.ensures ∙ c.if-not-is_right_form.false) (omega (arith, ints)) (omega (arith, ints))

pub returns : goal.returns
returns c = λ s. carried _ _ _ s
    (loop_opened c.args.at.worker c.args.at.to (plain_context c.args.context.now) c.args.form c.args.bounds.lower
    c.args.bounds.upper c.in-Some.lower c.in-Some-upper.upper _ _ c.loop_of-share.result _
    c.in-Some.is c.in-Some-upper.is c.is_right_form.ensures c.if-not-is_right_form.false c.loop_of-share.ensures
    (omega (arith, ints)) (omega (arith, ints)))
    c.open_share.ensures

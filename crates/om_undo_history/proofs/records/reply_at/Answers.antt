use Rattle.std.proofs.Common.{◌∙◌, ap}
use Rattle.om_undo_history.specs.declared.reply.UndoReply.TheVariants.{Undone}
use Rattle.om_undo_history.proofs.Indexed.{conflicts_there, reply_free, reply_refused, not_missing}
use Rattle.om_undo_history.proofs.records.reply_at.Goals as goal

pub refusal_by-requires : goal.refusal_by-requires
refusal_by-requires c = conflicts_there c.args.kept.now c.args.lists.now c.in-Some.undone.now c.args.serial
    c.in-Some-first_conflict.first c.requires.by_serial c.requires.lists c.in-Some-first_conflict.ensures

pub returns-in-Some-first_conflict : goal.returns-in-Some-first_conflict
returns-in-Some-first_conflict c = λ i k at is.
    reply_refused c.args.kept.now c.args.lists.now i c.args.serial c.in-Some-first_conflict.first k
    c.in-Some.undone.now c.refusal_by.result c.requires.by_serial c.requires.lists at is c.in-Some.ensures.found
    c.in-Some-first_conflict.ensures c.refusal_by.ensures

pub returns-in-None-first_conflict : goal.returns-in-None-first_conflict
returns-in-None-first_conflict c = λ i k at is.
    ap (λ n. Undone c.args.serial n) c.line.ensures
    ∙ reply_free c.args.kept.now c.args.lists.now i c.args.serial k c.in-Some.undone.now
    c.requires.by_serial c.requires.lists at is c.in-Some.ensures.found c.in-None-first_conflict.ensures

pub unreachable-requires : goal.unreachable-requires
unreachable-requires c =
    let there = c.requires.there in
    not_missing c.args.kept.now there.0 c.args.serial there.1 c.requires.by_serial there.2 there.3
    c.in-None.ensures.none

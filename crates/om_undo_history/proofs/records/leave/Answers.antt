use Rattle.std.proofs.Common.{◌∙◌, sym, ap, subst}
use Rattle.std.specs.Map.{values_of}
use Rattle.om_undo_history.specs.Touches.{IsIndexed}
use Rattle.om_undo_history.proofs.Indexed.{only_of, indexed_without, left_by, found_by, not_missing}
use Rattle.om_undo_history.proofs.Removed.{same_record}
use Rattle.om_undo_history.proofs.records.leave.Goals as goal

pub forget-requires : goal.forget-requires
forget-requires c = only_of c.args.kept.now c.args.serial c.in-Some.made c.args.lists.now c.args.own.now
    c.requires.indexed c.in-Some.ensures.found

pub returns-clause-indexed : goal.returns-clause-indexed
returns-clause-indexed c = subst (λ es. IsIndexed es c.forget.new.lists c.forget.new.own)
    (sym c.take.ensures.taken)
    (indexed_without c.args.kept.now c.args.serial c.in-Some.made c.args.lists.now c.forget.new.lists
    c.args.own.now c.forget.new.own c.requires.indexed c.in-Some.ensures.found c.forget.ensures.lists
    c.forget.ensures.own)

pub returns-clause-left : goal.returns-clause-left
returns-clause-left c = λ i k at is. ap values_of c.take.ensures.taken
    ∙ left_by c.args.kept.now i k c.args.serial c.requires.indexed.by_serial at is

pub returns-clause-returned : goal.returns-clause-returned
returns-clause-returned c = λ i k at is. same_record c.in-Some.made k (sym c.in-Some.ensures.found
    ∙ found_by c.args.kept.now i k c.args.serial c.requires.indexed.by_serial at is)

pub unreachable-requires : goal.unreachable-requires
unreachable-requires c =
    let there = c.requires.there in
    not_missing c.args.kept.now there.0 c.args.serial there.1 c.requires.indexed.by_serial there.2 there.3
    c.in-None.ensures.none

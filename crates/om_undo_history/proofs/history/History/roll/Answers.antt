-- What the loop found is the cone; without a member nothing is left to take out.
use Rattle.std.proofs.Common.{◌∙◌, sym, ap, refl, subst}
use Rattle.om_undo_history.specs.Cones.{rolled}
use Rattle.om_undo_history.specs.Commands.{TakesCone}
use Rattle.om_undo_history.specs.declared.reply.RollReply.TheVariants.{Rolled}
use Rattle.om_undo_history.specs.Pasts.{past_in, history_in}
use Rattle.om_undo_history.specs.Records.{transitions_of}
use Rattle.om_undo_history.proofs.Holding.{transitions-are}
use Rattle.om_undo_history.proofs.Rolling.{no_items, some_items, rolled-some, taken_by-is, none_taken-is, takes-is}
use Rattle.om_undo_history.proofs.Rolling.{unrolled-is}
use Rattle.om_undo_history.proofs.history.History.roll.Goals as goal

pub returns-then-is_empty-clause-reply : goal.returns-then-is_empty-clause-reply
returns-then-is_empty-clause-reply c = λ r held.
    let members = c.in_ok-taken.ensures
    ∙ taken_by-is r (past_in c.args.self.now) c.args.serial (transitions_of c.args.self.now.records) held.past
    (transitions-are c.args.self.now) in
    let empty = no_items c.in_ok-taken.taken.len c.in_ok-taken.taken.items c.is_empty.result c.in_ok-taken.taken.ok.0
    c.is_empty.ensures c.if-is_empty.true in
    ap rolled (sym empty ∙ members)

pub returns-then-is_empty-clause-after : goal.returns-then-is_empty-clause-after
returns-then-is_empty-clause-after c = λ r held.
    let members = c.in_ok-taken.ensures
    ∙ taken_by-is r (past_in c.args.self.now) c.args.serial (transitions_of c.args.self.now.records) held.past
    (transitions-are c.args.self.now) in
    let empty = no_items c.in_ok-taken.taken.len c.in_ok-taken.taken.items c.is_empty.result c.in_ok-taken.taken.ok.0
    c.is_empty.ensures c.if-is_empty.true in (
      sym (unrolled-is r (past_in c.args.self.now) c.args.serial held.past
          ((none_taken-is r (past_in c.args.self.now) c.args.serial held.past).0 (sym members ∙ empty))),
      held,
    )

pub returns-then-is_empty-clause-no_entry : goal.returns-then-is_empty-clause-no_entry
returns-then-is_empty-clause-no_entry c =
    let members = c.in_ok-taken.ensures
    ∙ taken_by-is c.requires.0 (past_in c.args.self.now) c.args.serial (transitions_of c.args.self.now.records) c.requires.1.past
    (transitions-are c.args.self.now) in
    let empty = no_items c.in_ok-taken.taken.len c.in_ok-taken.taken.items c.is_empty.result c.in_ok-taken.taken.ok.0
    c.is_empty.ensures c.if-is_empty.true in (
      λ _. (none_taken-is c.requires.0 (past_in c.args.self.now) c.args.serial c.requires.1.past).0
          (sym members ∙ empty),
      λ _. refl,
    )

pub returns-then-is_empty-clause-takes_cone : goal.returns-then-is_empty-clause-takes_cone
returns-then-is_empty-clause-takes_cone c = λ r held.
    let members = c.in_ok-taken.ensures
    ∙ taken_by-is r (past_in c.args.self.now) c.args.serial (transitions_of c.args.self.now.records) held.past
    (transitions-are c.args.self.now) in
    let empty = no_items c.in_ok-taken.taken.len c.in_ok-taken.taken.items c.is_empty.result c.in_ok-taken.taken.ok.0
    c.is_empty.ensures c.if-is_empty.true in
    subst (TakesCone r (history_in c.args.self.now) c.args.serial)
    (unrolled-is r (past_in c.args.self.now) c.args.serial held.past
    ((none_taken-is r (past_in c.args.self.now) c.args.serial held.past).0 (sym members ∙ empty)))
    (takes-is r (past_in c.args.self.now) c.args.serial held.past)

pub returns-clause-reply : goal.returns-clause-reply
returns-clause-reply c = λ r held.
    let members = c.in_ok-taken.ensures
    ∙ taken_by-is r (past_in c.args.self.now) c.args.serial (transitions_of c.args.self.now.records) held.past
    (transitions-are c.args.self.now) in
    let filled = some_items c.in_ok-taken.taken.len c.in_ok-taken.taken.items c.is_empty.result
    c.in_ok-taken.taken.ok.0 c.is_empty.ensures c.if-is_empty.false in
    ap Rolled c.of.ensures ∙ rolled-some c.in_ok-taken.taken.items filled ∙ ap rolled members

pub returns-clause-after : goal.returns-clause-after
returns-clause-after c = λ r held.
    let members = c.in_ok-taken.ensures
    ∙ taken_by-is r (past_in c.args.self.now) c.args.serial (transitions_of c.args.self.now.records) held.past
    (transitions-are c.args.self.now) in
    c.take_out.ensures.cone c.args.serial r held (c.as_slice.ensures.value ∙ members)

pub returns-clause-no_entry : goal.returns-clause-no_entry
returns-clause-no_entry c =
    let members = c.in_ok-taken.ensures
    ∙ taken_by-is c.requires.0 (past_in c.args.self.now) c.args.serial (transitions_of c.args.self.now.records) c.requires.1.past
    (transitions-are c.args.self.now) in
    let filled = some_items c.in_ok-taken.taken.len c.in_ok-taken.taken.items c.is_empty.result
    c.in_ok-taken.taken.ok.0 c.is_empty.ensures c.if-is_empty.false in (
      λ e. cc,
      λ gone. absurd
          (filled (members ∙ (none_taken-is c.requires.0 (past_in c.args.self.now) c.args.serial c.requires.1.past).1
          gone)),
    )

pub returns-clause-takes_cone : goal.returns-clause-takes_cone
returns-clause-takes_cone c = λ r held.
    let members = c.in_ok-taken.ensures
    ∙ taken_by-is r (past_in c.args.self.now) c.args.serial (transitions_of c.args.self.now.records) held.past
    (transitions-are c.args.self.now) in
    subst (TakesCone r (history_in c.args.self.now) c.args.serial)
    (sym (c.take_out.ensures.cone c.args.serial r held (c.as_slice.ensures.value ∙ members)).0)
    (takes-is r (past_in c.args.self.now) c.args.serial held.past)

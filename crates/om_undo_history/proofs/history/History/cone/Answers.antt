use Rattle.std.proofs.Common.{◌∙◌, sym, refl}
use Rattle.std.proofs.lemmas.Bool.{true≢false}
use Rattle.om_undo_history.specs.Pasts.{past_in}
use Rattle.om_undo_history.specs.Records.{transitions_of}
use Rattle.om_undo_history.proofs.Holding.{transitions-are}
use Rattle.om_undo_history.proofs.Rolling.{no_items, some_items, taken_by-is, none_taken-is}
use Rattle.om_undo_history.proofs.history.History.cone.Goals as goal

pub returns-then-is_empty-clause-none : goal.returns-then-is_empty-clause-none
returns-then-is_empty-clause-none c =
    let members = c.in_ok-taken.ensures
    ∙ taken_by-is c.requires.0 (past_in c.args.self.now) c.args.serial (transitions_of c.args.self.now.records) c.requires.1.past
    (transitions-are c.args.self.now) in
    let empty = no_items c.in_ok-taken.taken.len c.in_ok-taken.taken.items c.is_empty.result c.in_ok-taken.taken.ok.0
    c.is_empty.ensures c.if-is_empty.true in (
      λ _. (none_taken-is c.requires.0 (past_in c.args.self.now) c.args.serial c.requires.1.past).0
          (sym members ∙ empty),
      λ _. refl,
    )

pub returns-else-is_empty-clause-none : goal.returns-else-is_empty-clause-none
returns-else-is_empty-clause-none c =
    let members = c.in_ok-taken.ensures
    ∙ taken_by-is c.requires.0 (past_in c.args.self.now) c.args.serial (transitions_of c.args.self.now.records) c.requires.1.past
    (transitions-are c.args.self.now) in
    let filled = some_items c.in_ok-taken.taken.len c.in_ok-taken.taken.items c.is_empty.result
    c.in_ok-taken.taken.ok.0 c.is_empty.ensures c.if-is_empty.false in (
      λ e. absurd (true≢false e),
      λ gone. absurd
          (filled (members ∙ (none_taken-is c.requires.0 (past_in c.args.self.now) c.args.serial c.requires.1.past).1
          gone)),
    )

pub returns-else-is_empty-clause-members : goal.returns-else-is_empty-clause-members
returns-else-is_empty-clause-members c = λ r held. c.in_ok-taken.ensures
    ∙ taken_by-is r (past_in c.args.self.now) c.args.serial (transitions_of c.args.self.now.records) held.past (transitions-are c.args.self.now)

use Rattle.std.proofs.Common.{◌≡◌, sym, ◌∙◌, ap, subst, ◌++◌, ◌∷◌, ◌<◌, [], Some}
use Rattle.om_undo_history.specs.declared.by_serial.Row.{Row}
use Rattle.om_undo_history.specs.Rows.{entries_in, AreRising, IsAboveAll}
use Rattle.om_undo_history.proofs.Rows.{entries-append, rising-push}
use Rattle.om_undo_history.proofs.by_serial.BySerial.push.Goals as goal

same : (c : goal.After-push_reserved) → entries_in c.make_room.new.rows.items ≡ c.args.self.now
same c = c.make_room.ensures.same ∙ c.drop_gone.ensures.same ∙ c.self.view_is

abbrev row : (c : goal.After-push_reserved) → Row
row c = record { serial = c.serial.result; kept = Some c.args.made }

rising : (c : goal.After-push_reserved) → AreRising 0 (c.make_room.new.rows.items ++ row c ∷ [])
rising c = rising-push 0 c.make_room.new.rows.items (row c) c.make_room.ensures.rising c.make_room.ensures.last
    (subst (λ n. IsAboveAll n (entries_in c.make_room.new.rows.items)) (sym c.serial.ensures)
    (subst (IsAboveAll c.args.made.entry.serial) (sym (same c)) c.requires.latest))
    (subst (λ n. 0 < n) (sym c.serial.ensures) c.requires.some)

pushed : (c : goal.After-push_reserved) → entries_in (c.make_room.new.rows.items ++ row c ∷ [])
    ≡ c.args.self.now ++ (c.args.made.entry.serial, c.args.made) ∷ []
pushed c = entries-append c.make_room.new.rows.items (row c ∷ [])
    ∙ ap (λ es. es ++ (c.serial.result, c.args.made) ∷ []) (same c)
    ∙ ap (λ n. c.args.self.now ++ (n, c.args.made) ∷ []) c.serial.ensures

pub invariant_of-self-2 : goal.invariant_of-self-2
invariant_of-self-2 c = subst (AreRising 0) (sym c.push_reserved.ensures.items) (rising c)

pub returns-clause-pushed : goal.returns-clause-pushed
returns-clause-pushed c = ap entries_in c.push_reserved.ensures.items ∙ pushed c

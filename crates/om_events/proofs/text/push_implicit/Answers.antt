use Rattle.om_events.proofs.text.push_implicit.Goals as goal

pub returns-clause-appended : goal.returns-clause-appended
returns-clause-appended c =
    rw (← c.number.ensures, ← c.from.ensures, ← c.from-2.ensures, ← c.number-2.ensures) c.push_words.ensures.appended

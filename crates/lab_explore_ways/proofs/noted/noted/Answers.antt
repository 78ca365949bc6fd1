use Rattle.lab_explore_ways.proofs.noted.noted.Goals as goal

pub note-requires-clause-sound : goal.note-requires-clause-sound
note-requires-clause-sound c =
    c.new-notes.ensures c.args.machine.now.program c.args.machine.now.workers

pub returns-then-not-are_own : goal.returns-then-not-are_own
returns-then-not-are_own c =
    c.new-notes.ensures c.args.machine.now.program c.args.machine.now.workers

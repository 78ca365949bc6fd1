use Rattle.std.proofs.Common.{rules, subst}
use Rattle.om_book_journal.specs.Journals.{IsSound}
use Rattle.om_book.proofs.book.append_call.Goals as goal

-- With an answer here, the prover refuses a mistake in this function without a search for further ones.
pub of-requires : goal.of-requires
of-requires c = tt

-- the machine and its journal are still those at the call
pub answered-requires-clause-sound : goal.answered-requires-clause-sound
answered-requires-clause-sound c = (
  c.requires.sound.0,
  subst (λ journal. IsSound c.args.machine.now c.requires.sound.0 journal) (search rules) c.requires.sound.1,
)

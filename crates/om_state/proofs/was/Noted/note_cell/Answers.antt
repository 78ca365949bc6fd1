use Rattle.std.proofs.Common.{rules}
use Rattle.om_state.proofs.WasLemmas.{run_more}
use Rattle.om_state.proofs.WasLemmas.{run_next}
use Rattle.om_state.proofs.was.Noted.note_cell.Goals as goal

pub returns-then-self-lt4294967295 : goal.returns-then-self-lt4294967295
returns-then-self-lt4294967295 c = search (rules, run_more, run_next)

pub returns : goal.returns
returns c = search (rules, run_more, run_next)

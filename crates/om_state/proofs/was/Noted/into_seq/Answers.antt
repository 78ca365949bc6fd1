use Rattle.std.proofs.Common.{rules}
use Rattle.om_state.proofs.WasLemmas.{run_last}
use Rattle.om_state.proofs.was.Noted.into_seq.Goals as goal

pub returns : goal.returns
returns c = search (rules, run_last)

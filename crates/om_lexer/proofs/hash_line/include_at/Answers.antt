use Rattle.std.proofs.Common.{inr}
use Rattle.om_lexer.proofs.HashLines.{bad_include}
use Rattle.om_lexer.proofs.hash_line.include_at.Goals as goal

pub returns-in-None-clause-fault : goal.returns-in-None-clause-fault
returns-in-None-clause-fault c = λ macros.
    inr (
      c.bad_hash_line.ensures.at,
      rw c.bad_hash_line.ensures.code (bad_include c.args.source.now macros c.args.at
          _ _ _ c.requires.begins.1 c.gap_end-header.ensures.gap c.in-None.ensures.none),
    )

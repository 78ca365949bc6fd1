-- For proofs: what the laws say of reading the block of a function.
use Rattle.std.specs.Prelude.{◌≡◌, ℕ, ◌≤◌, List, ◌++◌, Err, false, true}
use Rattle.om_lexer.specs.declared.fault.SourceFault.{SourceFault}
use Rattle.om_lexer.specs.declared.token.Token.{Token}
use Rattle.om_parser_parts.specs.Laws.{IsAnswer, IsSound, Stops}
use Rattle.om_parser_parts.specs.Local.{IsLocal, pair}
use Rattle.om_parser.specs.BlockFaults.{IsStopped}
use Rattle.om_parser.specs.StatementReading.{block_at}
use Rattle.om_parser_tree.specs.Formed.{AreStatements}
use Rattle.om_parser_tree.specs.Limits.{Limits}
use Rattle.om_parser_tree.specs.Places.{IsOverInBlock}
use Rattle.om_parser_tree.specs.Sizes.{HasBlockRoom, HaveForms}
use Rattle.om_parser_tree.specs.Spelling.{block_spelling}
use Rattle.om_parser_tree.specs.Tree.{BlockTree, StatementsTree, statements}

-- a block of a function that is well-formed and keeps the limits
pub record IsGoodBlock (l : Limits) (room blocks_left : ℕ) (b : BlockTree) : Type 0 where
  pub formed : AreStatements (statements b.items)
  pub room_for : HasBlockRoom l room blocks_left b
  pub forms : HaveForms l.checked (statements b.items)

abbrev pub BlocksAreSound : Type 0
BlocksAreSound = (l : Limits) → 1 ≤ l.nested → IsSound block_spelling (IsGoodBlock l l.statements l.blocks) (block_at l)

-- what is asked of a block that is well-formed
abbrev pub IsKeptBlock : (l : Limits) (room blocks_left : ℕ) → BlockTree → Type 0
IsKeptBlock l room blocks_left b = HasBlockRoom l room blocks_left b × HaveForms l.checked (statements b.items)

abbrev pub BlocksAreReadAgain : Type 0
BlocksAreReadAgain = (l : Limits) → 1 ≤ l.nested → (b : BlockTree) (rest : List Token)
    → AreStatements (statements b.items)
    → IsAnswer (IsKeptBlock l l.statements l.blocks b) (block_at l (block_spelling b ++ rest)) (b, rest)

-- no form is asked of an `atomic` that is not checked
abbrev pub UncheckedHaveForms : Type 0
UncheckedHaveForms = (ss : StatementsTree) → HaveForms false ss

abbrev pub BlocksStopSo : Type 0
BlocksStopSo = (l : Limits) → 1 ≤ l.nested → (ts : List Token) (f : SourceFault) → block_at l ts ≡ Err f → Stops f
    → IsStopped block_spelling (λ b. AreStatements (statements b.items)) (IsOverInBlock l) l ts f

-- nothing behind the token at which it stops, or which stands behind a block, changes how a block is read
abbrev pub BlocksAreLocal : Type 0
BlocksAreLocal = (l : Limits) → 1 ≤ l.nested → (m n : ℕ) → IsLocal m pair (λ j. block_at l)
    (record { beyond = 0; turns = n; lines = true })

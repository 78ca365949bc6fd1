-- Where an `atomic` of a source is refused.
use Rattle.std.specs.Prelude.{ℕ, List}
use Rattle.om_parser.specs.BlockFaults as blocks
use Rattle.om_lexer.specs.declared.token.Token.{Token}

-- The tokens have an `atomic` with its word at this place, and its statement is none of its forms (OpenMP 5.2
-- section 4.3.1.3).
abbrev pub IsBadAtomic : List Token → ℕ → Type 0
IsBadAtomic = blocks.IsBadAtomic

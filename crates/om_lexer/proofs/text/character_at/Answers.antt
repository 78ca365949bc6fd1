use Rattle.std.proofs.Common.{sym, ◌∙◌, arith}
use Rattle.om_lexer.proofs.Quotes.{escaped_letter}
use Rattle.om_lexer.proofs.text.character_at.Goals as goal

pub returns-then-byte-eq92-clause-inside : goal.returns-then-byte-eq92-clause-inside
returns-then-byte-eq92-clause-inside c =
    let inside = c.byte_at.ensures.inside (escaped_letter c.byte_at.result c.in_ok-character.character
    (sym c.escaped.ensures ∙ c.in_ok-character.was)) in
    omega (arith, inside)

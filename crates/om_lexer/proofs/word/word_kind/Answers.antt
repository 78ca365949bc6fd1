use Rattle.std.proofs.Common.{sym, ◌∙◌, inr, refl}
use Rattle.om_lexer.proofs.Words.{long_word_spells_nothing}
use Rattle.om_lexer.proofs.word.word_kind.Goals as goal

pub returns-then-text-gt-LONGEST_NAME-clause-fault : goal.returns-then-text-gt-LONGEST_NAME-clause-fault
returns-then-text-gt-LONGEST_NAME-clause-fault c =
    inr (
      refl,
      long_word_spells_nothing _ c.requires (sym c.is_ascii_digit.ensures.value
          ∙ c.if-is_ascii_digit.false) c.in_default.ensures.none c.if-text-gt-LONGEST_NAME.true,
    )

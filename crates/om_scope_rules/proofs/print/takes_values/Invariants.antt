use Rattle.std.proofs.Common.{◌≡◌, drop, fold}
use Rattle.om_scope_rules.specs.Formats.{after_character}
use Rattle.om_scope_rules.specs.declared.print.Reading.TheVariants as readings
use Rattle.om_scope_rules.proofs.print.takes_values.Given as goal

-- reading what is left gives what reading all gives
abbrev pub invariant-loop-character : goal.invariant-loop-character
invariant-loop-character l = fold after_character l.reading (drop l.character-index l.format) ≡ fold after_character
    (readings.Text l.count) l.format

use Rattle.std.proofs.Common.{take}
use Rattle.std.specs.List.{AllZip}
use Rattle.om_lower_rules.specs.Mentions.{IsTextOf}
use Rattle.om_lower.proofs.program.texts_of.Given as goal

abbrev pub invariant-loop-number : goal.invariant-loop-number
invariant-loop-number l = AllZip IsTextOf (take l.number l.formats) l.texts.items

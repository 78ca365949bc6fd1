-- The readers of the parts of statements look no further than at the token at which they stop.
use Rattle.std.proofs.Common.{◌-◌}
use Rattle.om_parser_parts.specs.Local.{PartsAreLocal}
use Rattle.om_parser_parts.specs.PartReading.{parts}
use Rattle.om_parser_parts.proofs.DeclarationLocal.{local_local}
use Rattle.om_parser_parts.proofs.ExpressionLocal.{whole_local}
use Rattle.om_parser_parts.proofs.LineAnswers.{LineLaws, HasOneExpression}
use Rattle.om_parser_parts.proofs.LineLocal.{line_before, line_halts}

pub parts_local : LineLaws → HasOneExpression → PartsAreLocal
unfolding parts
parts_local laws few l one = record {
  expression = whole_local l l.nested;
  enclosed = whole_local l (l.nested - 1);
  declaration = local_local l l.nested;
  enclosed_declaration = local_local l (l.nested - 1);
  line_before = line_before laws few l one;
  line_halts = line_halts laws l;
}

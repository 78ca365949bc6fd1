use Rattle.om_parser_parts.proofs.DeclarationSound.{signed_leaves}
use Rattle.om_parser_parts.proofs.part.global_declaration.Goals as goal

pub declaration_after-requires : goal.declaration_after-requires
declaration_after-requires c = signed_leaves

use Rattle.om_parser_tree.specs.Limits.{accepted}
use Rattle.om_parser_parts.proofs.DeclarationSound.{whole_leaves}
use Rattle.om_parser_parts.proofs.declaration.local_declaration.Goals as goal

pub declaration_after-requires : goal.declaration_after-requires
declaration_after-requires c = whole_leaves accepted c.args.room

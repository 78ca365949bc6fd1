use Rattle.om_scope_tree.specs.Beside.{TreeCopiesBehind}
use Rattle.om_scope_rules.specs.UnitResolution.{resolution_of}
use Rattle.om_scope_rules.proofs.Steps.{if_given}
use Rattle.om_scope_rules.proofs.laws.sources_have_copies_behind.Goals as goal

pub returns : goal.returns
returns c = λ source tokens unit resolved lexed spelled resolves.
    if_given TreeCopiesBehind (resolution_of unit) resolved
    (c.copies_stand_behind.ensures unit (c.names_stand_behind.ensures source tokens unit lexed spelled)) resolves

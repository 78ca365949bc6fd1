use Rattle.std.proofs.Common.{sym, ap, subst, ◌∙◌}
use Rattle.std.specs.List.{IsDistinct, position}
use Rattle.std.specs.Str.{bytes_eq}
use Rattle.om_scope_rules.specs.NameKeys.{at_name, no_names}
use Rattle.om_scope_rules.specs.NameLists.{same_name}
use Rattle.om_scope_rules.proofs.Texts.{texts_of}
use Rattle.om_scope_rules.proofs.names.Names.new.Goals as goal

pub invariant_of-result : goal.invariant_of-result
invariant_of-result c = (
  subst (IsDistinct same_name) (sym c.new.ensures.items) no_names,
  λ name. ap (at_name name) c.new-2.ensures.empty
      ∙ sym (ap (λ names. position (bytes_eq name) (texts_of names)) c.new.ensures.items),
)

use Rattle.std.proofs.Common.{ap, ◌∙◌}
use Rattle.std.specs.List.{position}
use Rattle.std.specs.Str.{bytes_eq}
use Rattle.om_scope_rules.proofs.names.Names.position.Goals as goal

pub returns : goal.returns
returns c =
    let name = c.args.name.now in
    c.copied.ensures ∙ c.get.ensures.value ∙ c.self.invariant.1 name
    ∙ ap (λ names. position (bytes_eq name) names) c.self.view_is

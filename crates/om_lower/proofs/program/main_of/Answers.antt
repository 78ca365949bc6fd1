use Rattle.std.proofs.Common.{sym, ap, ◌∙◌}
use Rattle.std.specs.Prelude.{position}
use Rattle.om_scope_tree.specs.ResolvedView as view
use Rattle.om_scope_tree.specs.Uses.{is_main_function}
use Rattle.om_lower.proofs.Searches.{position_map, position_none}
use Rattle.std.proofs.Common.{rules}
use Rattle.om_lower.proofs.program.main_of.Goals as goal

pub unreachable-requires : goal.unreachable-requires
unreachable-requires c =
    position_none is_main_function (view.resolved c.args.resolved.now).functions c.requires
    (position_map is_main_function view.function c.args.resolved.now.functions.items
    ∙ ap (λ fs. position (λ f. is_main_function (view.function f)) fs) (sym c.as_slice.ensures.value)
    ∙ sym c.index_of_main.ensures ∙ c.in-None.is)

pub returns : goal.returns
returns c = search (rules, position_none, position_map)

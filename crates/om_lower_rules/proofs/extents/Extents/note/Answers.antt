use Rattle.std.proofs.Common.{◌≡◌, ◌++◌, ◌∷◌, [], false, true, sym, ap, subst, is_some, ◌∙◌}
use Rattle.std.specs.List.{list_any}
use Rattle.om_lower_rules.specs.Slots.{Extent}
use Rattle.om_lower_rules.specs.Extents.{extents_in, is_extent_of, with_extent}
use Rattle.om_lower_rules.specs.Indexes.{AreAlike}
use Rattle.om_lower_rules.proofs.Cells.{noted_known, noted_new, none-is_some, there}
use Rattle.om_lower_rules.proofs.Indexes.{alike-push}
use Rattle.om_lower_rules.proofs.extents.Extents.note.Goals as goal

pub returns-then-contains_key : goal.returns-then-contains_key
returns-then-contains_key c =
    let declared = c.self.inside.declared.items in
    let extent : Extent = record { variable = c.args.variable; cells = c.args.cells } in
    let known : list_any (is_extent_of c.args.variable) (extents_in declared) ≡ true =
    there c.args.variable declared ∙ ap is_some (sym (c.self.invariant c.args.variable))
    ∙ sym c.contains_key.ensures ∙ c.if-contains_key.true in
    sym c.self.view_is ∙ noted_known (extents_in declared) extent known ∙ ap (λ extents. with_extent extents extent)
    c.self.view_is

pub invariant_of-self-2 : goal.invariant_of-self-2
invariant_of-self-2 c =
    let absent = none-is_some _ (sym c.contains_key.ensures ∙ c.if-contains_key.false) in
    let added = c.push_reserved.ensures.items ∙ ap (λ l. l ++ (c.args.variable, c.args.cells) ∷ [])
    c.reserve.ensures.items in
    subst (λ table. AreAlike table c.insert.new.self.entries) (sym added)
    (alike-push c.self.inside.declared.items c.self.inside.cells.entries c.insert.new.self.entries c.args.variable
    c.args.cells c.self.invariant absent c.in_ok-insert.ensures.updates.0)

pub returns : goal.returns
returns c =
    let declared = c.self.inside.declared.items in
    let variable = c.args.variable in
    let cells = c.args.cells in
    let unknown : list_any (is_extent_of variable) (extents_in declared) ≡ false =
    there variable declared ∙ ap is_some (sym (c.self.invariant variable))
    ∙ sym c.contains_key.ensures ∙ c.if-contains_key.false in
    ap extents_in (c.push_reserved.ensures.items ∙ ap (λ l. l ++ (variable, cells) ∷ []) c.reserve.ensures.items)
    ∙ noted_new declared variable cells unknown
    ∙ ap (λ extents. with_extent extents (record { variable = variable; cells = cells })) c.self.view_is

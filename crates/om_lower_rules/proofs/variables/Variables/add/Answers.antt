use Rattle.std.proofs.Common.{◌≡◌, ◌++◌, ◌∷◌, [], false, true, sym, ap, subst, length, nat_eq, is_some, ◌∙◌}
use Rattle.std.specs.List.{list_any}
use Rattle.om_lower_rules.specs.Indexes.{AreNumbers}
use Rattle.om_lower_rules.specs.Tables.{with_sight}
use Rattle.om_lower_rules.proofs.Cells.{none-is_some}
use Rattle.om_lower_rules.proofs.Indexes.{found-is_some, found-none, numbers-push, with_known, with_new}
use Rattle.om_lower_rules.proofs.variables.Variables.add.Goals as goal

pub returns-then-contains_key : goal.returns-then-contains_key
returns-then-contains_key c =
    let variable = c.args.variable in
    let seen = c.self.inside.seen.items in
    let known : list_any (nat_eq variable) seen ≡ true =
    sym (found-is_some (nat_eq variable) seen) ∙ ap is_some (sym (c.self.invariant variable))
    ∙ sym c.contains_key.ensures ∙ c.if-contains_key.true in
    sym c.self.view_is ∙ with_known nat_eq seen variable known ∙ ap (λ all. with_sight nat_eq all variable) c.self.view_is

pub invariant_of-self-2 : goal.invariant_of-self-2
invariant_of-self-2 c =
    let absent = none-is_some _ (sym c.contains_key.ensures ∙ c.if-contains_key.false) in
    let counted = c.len.ensures ∙ c.reserve.new.self.ok.0 ∙ ap length c.reserve.ensures.items in
    let added = c.push_reserved.ensures.items ∙ ap (λ l. l ++ c.args.variable ∷ []) c.reserve.ensures.items in
    subst (λ table. AreNumbers table c.insert.new.self.entries) (sym added)
    (numbers-push c.self.inside.seen.items c.self.inside.slots.entries c.insert.new.self.entries c.args.variable
    c.len.result c.self.invariant absent counted c.in_ok-insert.ensures.updates.0)

pub returns : goal.returns
returns c =
    let variable = c.args.variable in
    let seen = c.self.inside.seen.items in
    let absent = none-is_some _ (sym c.contains_key.ensures ∙ c.if-contains_key.false) in
    let none : list_any (nat_eq variable) seen ≡ false =
    found-none (nat_eq variable) seen (sym (c.self.invariant variable) ∙ absent) in
    c.push_reserved.ensures.items ∙ ap (λ l. l ++ variable ∷ []) c.reserve.ensures.items
    ∙ with_new nat_eq seen variable none ∙ ap (λ all. with_sight nat_eq all variable) c.self.view_is

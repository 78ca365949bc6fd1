use Rattle.std.proofs.Common.{sym, ◌∙◌, arith}
use Rattle.om_pragma.proofs.Fillings.{first_ends, first_found, first_goes_on, item_shorter}
use Rattle.om_pragma.proofs.tree.first_expression.Goals as goal

pub returns-in_default : goal.returns-in_default
returns-in_default g c = sym (first_ends c.items.rest.now (sym c.in_default.ensures)) ∙ c.items.invariant

pub returns-in-Some-expression : goal.returns-in-Some-expression
returns-in-Some-expression g c = sym (first_found c.items.rest.now c.in-Some.item.now c.in-Some.behind.now
    c.in-Some-expression.expression.now (sym c.in-Some.ensures) (sym c.in-Some-expression.ensures)) ∙ c.items.invariant

pub items-preserved : goal.items-preserved
items-preserved g c = first_goes_on c.items.rest.now c.in-Some.item.now c.in-Some.behind.now (sym c.in-Some.ensures)
    (sym c.in_default-expression.ensures) ∙ c.items.invariant

pub items-smaller : goal.items-smaller
items-smaller g c = omega (
  arith,
  item_shorter c.items.rest.now c.in-Some.item.now c.in-Some.behind.now
      (sym c.in-Some.ensures),
)

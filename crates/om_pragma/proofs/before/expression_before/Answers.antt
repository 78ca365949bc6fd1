use Rattle.std.proofs.Common.{◌≡◌, Some, None, sym, ◌∙◌}
use Rattle.om_pragma.proofs.Closings.{before_ends, before_found, before_goes_on, first_shorter}
use Rattle.om_pragma.proofs.Values.{is_first, is_absent}
use Rattle.om_pragma.proofs.before.expression_before.Goals as goal

some_is_not : {A : Type 0} {x : A} → Some x ≡ None → ⊥
some_is_not e = absurd cc

pub returns-in_default : goal.returns-in_default
returns-in_default c =
    let none = sym (before_ends c.args.place c.tokens.rest.now (sym c.in_default.ensures)) ∙ c.tokens.invariant in
    record { found = tt; absent = λ is. is_absent c.args.place c.args.tokens.now (sym none) }

pub returns-in-Some-expression_at : goal.returns-in-Some-expression_at
returns-in-Some-expression_at c =
    let found = sym (before_found c.args.place c.tokens.rest.now c.in-Some.first.now c.in-Some.behind.now
    c.in-Some-expression_at.expression.now (sym c.in-Some.ensures) (sym c.in-Some-expression_at.ensures))
    ∙ c.tokens.invariant in
    record {
      found = is_first c.args.place c.args.tokens.now c.in-Some-expression_at.expression.now (sym found);
      absent = λ none. absurd (some_is_not none);
    }

pub tokens-preserved : goal.tokens-preserved
tokens-preserved c = before_goes_on c.args.place c.tokens.rest.now c.in-Some.first.now c.in-Some.behind.now
    (sym c.in-Some.ensures) (sym c.in_default-expression_at.ensures) ∙ c.tokens.invariant

pub tokens-smaller : goal.tokens-smaller
tokens-smaller c = first_shorter c.tokens.rest.now c.in-Some.first.now c.in-Some.behind.now (sym c.in-Some.ensures)

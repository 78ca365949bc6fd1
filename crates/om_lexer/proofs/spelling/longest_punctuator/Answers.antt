use Rattle.std.proofs.Common.{◌≡◌, ◌≤◌, refl, sym, ap, ◌∙◌, arith, below_more, length, nat_eq, subst, true, ⊎_elim}
use Rattle.std.specs.List.{starts_with}
use Rattle.std.proofs.lemmas.Bool.{both_ways, cases_lt}
use Rattle.om_lexer.specs.Spellings.{punctuator_text}
use Rattle.om_lexer.proofs.Tables.{all_punctuators, punctuator_at, punctuator_stands, wide_first}
use Rattle.om_lexer.proofs.spelling.longest_punctuator.Goals as goal

pub loop-punctuator-init : goal.loop-punctuator-init
unfolding all_punctuators
loop-punctuator-init c = record { table = refl; passed = λ k below. absurd (omega arith) }

pub returns-then-starts_with-clause-longest : goal.returns-then-starts_with-clause-longest
unfolding all_punctuators
returns-then-starts_with-clause-longest c = λ q begins.
    let stands = punctuator_stands q in
    let begins_there : starts_with nat_eq c.args.bytes.now (punctuator_text (punctuator_at stands.index)) ≡ true =
    ap (λ p. starts_with nat_eq c.args.bytes.now (punctuator_text p)) stands.there ∙ begins in
    ⊎_elim
    (λ passed. absurd (both_ways _ (c.loop-punctuator.invariant.passed stands.index passed) begins_there))
    (λ later.
    let wide = wide_first c.loop-punctuator.punctuator-index stands.index later stands.inside in
    subst (λ p. length (punctuator_text p) ≤ length
    (punctuator_text (punctuator_at c.loop-punctuator.punctuator-index))) stands.there wide)
    (cases_lt stands.index c.loop-punctuator.punctuator-index)

pub loop-punctuator-preserved : goal.loop-punctuator-preserved
unfolding all_punctuators
loop-punctuator-preserved c =
    let read : c.punctuator_text.result.now ≡ punctuator_text (punctuator_at c.loop-punctuator.punctuator-index) =
    c.punctuator_text.ensures in
    record {
      table = refl;
      passed = below_more _ _ c.loop-punctuator.invariant.passed
          (ap (starts_with nat_eq c.args.bytes.now) (sym read) ∙ sym c.starts_with.ensures.value
          ∙ c.if-starts_with.false);
    }

pub returns-clause-none : goal.returns-clause-none
returns-clause-none c = λ q.
    let stands = punctuator_stands q in
    ap (λ p. starts_with nat_eq c.args.bytes.now (punctuator_text p)) (sym stands.there)
    ∙ c.loop-punctuator.invariant.passed stands.index (omega (arith, stands.inside))

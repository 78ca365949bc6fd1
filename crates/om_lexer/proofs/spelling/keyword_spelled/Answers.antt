use Rattle.std.proofs.Common.{◌≡◌, refl, sym, ap, ◌∙◌, arith, below_more}
use Rattle.std.proofs.lemmas.Bool.{both_ways}
use Rattle.std.proofs.lemmas.Bool.Decides.{Decides-eqb}
use Rattle.std.proofs.lemmas.Slice.Eq.{slice_eq-Decides}
use Rattle.om_lexer.specs.Spellings.{keyword_text}
use Rattle.om_lexer.proofs.Tables.{all_keywords, keyword_at, keyword_stands}
use Rattle.om_lexer.proofs.spelling.keyword_spelled.Goals as goal

pub loop-keyword-init : goal.loop-keyword-init
unfolding all_keywords
loop-keyword-init c = record { table = refl; passed = λ k below same. absurd (omega arith) }

pub loop-keyword-preserved : goal.loop-keyword-preserved
unfolding all_keywords
loop-keyword-preserved c =
    let read : c.keyword_text.result.now ≡ keyword_text (keyword_at c.loop-keyword.keyword-index) =
    c.keyword_text.ensures in
    record {
      table = refl;
      passed = below_more _ _ c.loop-keyword.invariant.passed (λ same.
          both_ways _ c.if-eq.false ((slice_eq-Decides Decides-eqb _ _ _ c.eq.ensures).1 (read ∙ sym same)));
    }

pub returns-clause-none : goal.returns-clause-none
returns-clause-none c = λ k same.
    let stands = keyword_stands k in
    c.loop-keyword.invariant.passed stands.index (omega (arith, stands.inside))
    (same ∙ ap keyword_text (sym stands.there))

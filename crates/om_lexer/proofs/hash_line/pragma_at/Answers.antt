use Rattle.std.proofs.Common.{codes, refl}
use Rattle.std.proofs.lemmas.Bool.{both_ways, ltb-true}
use Rattle.om_lexer.proofs.HashLines.{word_there, other_pragma}
use Rattle.om_lexer.proofs.hash_line.pragma_at.Goals as goal

pub returns-then-is_same : goal.returns-then-is_same
returns-then-is_same c = λ macros at begins. record {
  pragma_end = c.args.end;
  begins = begins;
  gap = c.gap_end-omp.ensures.gap;
  is_omp = word_there _ _ _ (codes "omp") c.word_end-omp_end.ensures.run (ltb-true 0 3 refl)
      (c.is_same.ensures.0 c.if-is_same.true);
}

pub returns-else-is_same : goal.returns-else-is_same
returns-else-is_same c = λ macros at begins. other_pragma c.args.source.now at _ _ _ _ begins
    c.gap_end-omp.ensures.gap c.word_end-omp_end.ensures.run (λ same. both_ways _ c.if-is_same.false
    (c.is_same.ensures.1 same))

use Rattle.std.proofs.Common.{codes, refl, inr}
use Rattle.std.proofs.lemmas.Bool.{both_ways, ltb-true}
use Rattle.om_lexer.proofs.HashLines.{hash_word_there, other_word}
use Rattle.om_lexer.proofs.hash_line.hash_line_at.Goals as goal

pub include_at-requires-clause-begins : goal.include_at-requires-clause-begins
include_at-requires-clause-begins c = (
  c.gap_end-word.result,
  hash_word_there _ _ _ _ (codes "include")
      c.requires.hash c.gap_end-word.ensures.gap c.word_end-end.ensures.run (ltb-true 0 7 refl)
      (c.is_same.ensures.0 c.if-is_same.true),
)

pub define_at-requires-clause-begins : goal.define_at-requires-clause-begins
define_at-requires-clause-begins c = (
  c.gap_end-word.result,
  hash_word_there _ _ _ _ (codes "define")
      c.requires.hash c.gap_end-word.ensures.gap c.word_end-end.ensures.run (ltb-true 0 6 refl)
      (c.is_same-2.ensures.0 c.if-is_same-2.true),
)

pub returns-then-is_same-clause-line : goal.returns-then-is_same-clause-line
returns-then-is_same-clause-line c = c.include_at.ensures.line c.args.macros.now

pub returns-then-is_same-clause-fault : goal.returns-then-is_same-clause-fault
returns-then-is_same-clause-fault c = c.include_at.ensures.fault c.args.macros.now

pub returns-then-is_same-3-clause-line : goal.returns-then-is_same-3-clause-line
returns-then-is_same-3-clause-line c =
    c.pragma_at.ensures c.args.macros.now c.args.at
    (hash_word_there _ _ _ _ (codes "pragma") c.requires.hash c.gap_end-word.ensures.gap c.word_end-end.ensures.run
    (ltb-true 0 6 refl) (c.is_same-3.ensures.0 c.if-is_same-3.true))

pub returns-clause-fault : goal.returns-clause-fault
returns-clause-fault c =
    inr (
      c.bad_hash_line.ensures.at,
      rw c.bad_hash_line.ensures.code (other_word c.args.source.now c.args.macros.now c.args.at _ _
          c.gap_end-word.ensures.gap c.word_end-end.ensures.run
          (λ same. both_ways _ c.if-is_same.false (c.is_same.ensures.1 same))
          (λ same. both_ways _ c.if-is_same-2.false (c.is_same-2.ensures.1 same))
          (λ same. both_ways _ c.if-is_same-3.false (c.is_same-3.ensures.1 same))),
    )

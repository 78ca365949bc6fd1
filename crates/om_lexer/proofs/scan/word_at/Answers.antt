use Rattle.std.proofs.Common.{◌≡◌, ◌<◌, arith, ap, inl, ◌∙◌, ⊎_elim, slice_index}
use Rattle.std.proofs.lemmas.Bool.{both_ways, cases_lt}
use Rattle.std.proofs.lemmas.Result.{err_from_is_err_and}
use Rattle.om_lexer.specs.Characters.{is_word_byte}
use Rattle.om_lexer.proofs.Longest.{run_is_longest}
use Rattle.om_lexer.proofs.Wrong.{wrong_word}
use Rattle.om_lexer.proofs.scan.word_at.Goals as goal
use Rattle.om_lexer.proofs.scan.word_at.Goals.{After-word_end-end}

-- the word has a byte
begins : (c : After-word_end-end) → c.args.at < c.word_end-end.result
begins c =
    let run = c.word_end-end.ensures.run in
    ⊎_elim (λ below. below) (λ above.
    let same : c.word_end-end.result ≡ c.args.at = omega (arith, above, run.behind) in
    absurd (both_ways _ (run.ends (omega (arith, same, c.requires.inside)))
    (ap (λ k. is_word_byte (slice_index c.args.source.now k)) same ∙ c.requires.word)))
    (cases_lt c.args.at c.word_end-end.result)

pub returns-in_err-kind-clause-fault : goal.returns-in_err-kind-clause-fault
returns-in_err-kind-clause-fault c =
    let p = err_from_is_err_and c.from_residual.result c.from_residual.ensures.1 in
    let longest = run_is_longest _ _ _ (begins (goal.at.returns-in_err-kind-clause-fault c).After-word_end-end)
    c.word_end-end.ensures.run in
    rw (p.1, p.2) (wrong_word _ _ _ c.requires.word longest _ c.in_err-kind.ensures.fault)

pub returns-clause-token : goal.returns-clause-token
returns-clause-token c = inl (record {
  longest = run_is_longest _ _ _ (begins (goal.at.returns-clause-token c).After-word_end-end)
      c.word_end-end.ensures.run;
  spelled = c.in_ok-kind.ensures.kind;
})

use Rattle.om_events.proofs.WordLemmas.{front_of, next_word, on_error}
use Rattle.om_events.proofs.words.push_spaced.Goals as goal

pub returns-in_err-push_spaced_one-clause-front_stays :
    goal.returns-in_err-push_spaced_one-clause-front_stays
returns-in_err-push_spaced_one-clause-front_stays c =
    on_error _ (front_of _ _ _ _ c.loop-word.invariant c.in_err-push_spaced_one.ensures.front_stays)

pub loop-word-preserved : goal.loop-word-preserved
loop-word-preserved c =
    next_word _ _ _ _ _ _ c.loop-word-test.true c.word-item.is c.loop-word.invariant
    c.in_ok-push_spaced_one.ensures.appended

use Rattle.std.proofs.Common.{◌∙◌}
use Rattle.lab_replay.proofs.Entries.{all_replay}
use Rattle.lab_replay.proofs.replay.trace.Goals as goal

pub retraced-requires-clause-replayed : goal.retraced-requires-clause-replayed
retraced-requires-clause-replayed c =
    all_replay c.args.machine.now c.deref.result.now (c.deref.ensures.value ∙ c.in_ok-entries.ensures.entries)
    c.history.ensures.headline.replayed

-- Which seeds schedules are of.
use Rattle.std.specs.Prelude.{◌<◌, ◌≤◌, ℕ}
use Rattle.lab_play.specs.declared.seeds.Schedule.{Schedule}

-- the schedule is of a later seed than this one
abbrev pub LiesAfter : ℕ → Schedule → Type 0
LiesAfter seed schedule = seed < schedule.seed

-- the schedule is of no later seed than the last one
abbrev pub LiesWithin : ℕ → Schedule → Type 0
LiesWithin last schedule = schedule.seed ≤ last

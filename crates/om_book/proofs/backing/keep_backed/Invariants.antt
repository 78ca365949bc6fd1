use Rattle.std.proofs.Common.{◌≡◌, ◌≤◌, ◌-◌, false, length, vec_len}
use Rattle.om_book.specs.Backing.{in_turns, turns, IsUnderway}
use Rattle.om_book.proofs.backing.keep_backed.Given as goal

abbrev pub invariant-loop-round : goal.invariant-loop-round
invariant-loop-round g l = record {
  underway : IsUnderway (in_turns (λ o. o.items) l.rows.seats.now l.rows.orders.now)
      (turns (λ o. o.items) l.round (l.most - l.round) l.rows.seats.now l.rows.orders.now)
      l.initial.walk.answers.items 0 l.walk.answers.items l.walk.at;
  within : l.walk.at ≤ vec_len l.walk.answers;
  same : l.walk.strange ≡ false → l.walk.answers.items ≡ l.initial.walk.answers.items;
  marks : length l.marks ≡ length l.rows.seats.now;
}

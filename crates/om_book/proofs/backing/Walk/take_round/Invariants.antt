use Rattle.std.proofs.Common.{◌≡◌, ◌≤◌, false, length, drop, vec_len}
use Rattle.om_book.specs.Backing.{turns_at, IsUnderway}
use Rattle.om_book.proofs.backing.Walk.take_round.Given as goal

abbrev pub invariant-loop-i : goal.invariant-loop-i
invariant-loop-i g l = record {
  underway : IsUnderway (turns_at (λ o. o.items) l.round l.rows.seats.now l.rows.orders.now)
      (turns_at (λ o. o.items) l.round (drop l.i l.rows.seats.now) (drop l.i l.rows.orders.now))
      l.initial.self.answers.items l.initial.self.at l.self.answers.items l.self.at;
  within : l.self.at ≤ vec_len l.self.answers;
  same : l.self.strange ≡ false → (l.initial.self.strange ≡ false)
      × (l.self.answers.items ≡ l.initial.self.answers.items);
  marks : length l.marks ≡ length l.initial.marks;
}

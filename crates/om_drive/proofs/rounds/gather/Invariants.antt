use Rattle.std.proofs.Common.{◌≡◌, vec_len, map, take}
use Rattle.om_book.specs.Rounds.{answer_number}
use Rattle.om_drive.proofs.rounds.gather.Given as goal

abbrev pub invariant-loop-i : goal.invariant-loop-i
invariant-loop-i g l = record {
  many : vec_len l.answers ≡ l.i;
  numbers : map answer_number l.answers.items
      ≡ take l.i l.numbers;
}

use Rattle.lab_port_calls.proofs.written.+rounds.Given as goal

abbrev pub decreases-rounds : goal.decreases-rounds
decreases-rounds l = l.left

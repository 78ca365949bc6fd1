use Rattle.std.proofs.Common.{◌≡◌, ◌++◌, drop}
use Rattle.lab_port_names.specs.Macros.{body_text}
use Rattle.lab_port_names.proofs.macros.body_text.Given as goal

abbrev pub invariant-loop-piece : goal.invariant-loop-piece
invariant-loop-piece l = l.text.items ++ body_text l.names (drop l.piece-index l.body) ≡ body_text l.names l.body

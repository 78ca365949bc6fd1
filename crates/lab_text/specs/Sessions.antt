-- Bytes that are read line by line.
use Rattle.std.specs.Prelude.{ℕ, List, ◌++◌}
use Rattle.lab_text.specs.declared.line_by_line.LineByLine.{LineByLine}

-- the bytes that are left: of the line that was begun, and of later ones
abbrev pub left_of : LineByLine → List ℕ
left_of lines = lines.line.now ++ lines.later.now

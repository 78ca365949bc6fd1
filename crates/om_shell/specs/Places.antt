-- Lines and columns of a place in a source.
use Rattle.std.specs.Prelude.{ℕ, ◌+◌, List, ◌++◌, ◌==◌, if◌then◌else◌, codes, decimal, count_by, take}
use Rattle.std.specs.List.{fold}
use Rattle.om_lexer.specs.declared.fault.SourceFault.{SourceFault}
use Rattle.om_lexer.specs.Faults.{number_of}

-- the line of the byte behind these, counted from 1
abbrev pub line_after : List ℕ → ℕ
line_after front = count_by (λ byte. byte == 10) front + 1

-- its column, counted in bytes from 1
abbrev pub column_after : List ℕ → ℕ
column_after front = fold (λ column byte. if byte == 10 then 1 else column + 1) 1 front

-- the one line that is written for a source that is refused
unfoldable pub refusal_text : List ℕ → SourceFault → List ℕ
refusal_text source fault =
    let front = take fault.at source in
    codes "refused S" ++ decimal (number_of fault.code) ++ codes " line " ++ decimal (line_after front)
    ++ codes " column " ++ decimal (column_after front) ++ codes "\n"

-- The list of changes, of their warnings, and of tokens without a form, in lines.
use Rattle.std.specs.Prelude.{ℕ, List, [], ◌∷◌, ◌++◌, ◌+◌, codes, decimal, flat_map, map, Option, None, Some}
use Rattle.lab_port_rules.specs.declared.rule.Rule.{Rule}
use Rattle.lab_port.specs.declared.ported.Change.{Change}
use Rattle.lab_port.specs.declared.ported.Ported.{Ported}
use Rattle.lab_port.specs.declared.ported.Refusal.{Refusal}
use Rattle.lab_port_words.specs.declared.class.Lack.{Lack}
use Rattle.lab_port.specs.declared.words.Kind.{Kind}
use Rattle.lab_port.specs.Texts.{flat_byte}
use Rattle.lab_port.specs.Places.{line_of, front_of, place_in, excerpt}
use Rattle.lab_port.specs.Warnings.{warning_of}
use Rattle.lab_port.specs.Names.{name_of, kind_name, warning_words, lack_words, lack_help}

-- `FILE:LINE: `
abbrev pub place_words : List ℕ → ℕ → List ℕ
place_words file line = file ++ codes ":" ++ decimal line ++ codes ": "

-- what stands in place of the old bytes
abbrev pub becomes : List ℕ → List ℕ
becomes [] = codes " is left out\n"
becomes (byte ∷ rest) = codes " is " ++ (byte ∷ rest) ++ codes "\n"

abbrev pub change_line : List ℕ → ℕ → Change → List ℕ
change_line file line change =
    place_words file line ++ codes "changed: " ++ name_of change.rule ++ codes ": "
    ++ map flat_byte change.old ++ becomes change.new

-- how a change may change what a program does
abbrev pub kind_words : Kind → List ℕ
kind_words kind = codes "warning: " ++ kind_name kind ++ codes ": "

-- the name of a rule, and what its warning says
abbrev pub rule_words : Rule → List ℕ
rule_words rule = name_of rule ++ codes ": " ++ warning_words rule ++ codes "\n"

abbrev pub warning_by : Option Kind → List ℕ → ℕ → Rule → List ℕ
warning_by None file line rule = []
warning_by (Some kind) file line rule = place_words file line ++ kind_words kind ++ rule_words rule

-- the line of a change, and that of its warning
abbrev pub change_lines : List ℕ → ℕ → Change → List ℕ
change_lines file line change =
    change_line file line change ++ warning_by (warning_of change.rule) file line change.rule

-- `:LINE:COLUMN` of a place, before which so many bytes stand on its line
abbrev pub column_words : ℕ → ℕ → List ℕ
column_words line front = codes ":" ++ decimal line ++ codes ":" ++ decimal (front + 1)

-- `FILE:LINE:COLUMN: error: port: `, and why the token has no form
abbrev pub refusal_head : List ℕ → List ℕ → ℕ → Lack → List ℕ
refusal_head file source at lack =
    file ++ column_words (line_of source at) (front_of source at) ++ codes ": error: port: " ++ lack_words lack
    ++ codes "\n"

-- what to write for it
abbrev pub help_line : Lack → List ℕ
help_line lack = codes "help: " ++ lack_help lack ++ codes "\n"

-- why the token has no form, its line with a caret under it, and what to write
abbrev pub refusal_lines : List ℕ → List ℕ → ℕ → Lack → List ℕ
refusal_lines file source at lack = refusal_head file source at lack ++ excerpt source at ++ help_line lack

abbrev pub changes_part : List ℕ → List ℕ → List Change → List ℕ
changes_part file source changes =
    flat_map (λ change. change_lines file (line_of source (place_in source change.at)) change) changes

abbrev pub refusals_part : List ℕ → List ℕ → List Refusal → List ℕ
refusals_part file source refusals =
    flat_map (λ refusal. refusal_lines file source (place_in source refusal.at) refusal.lack) refusals

-- the lines of the changes, stage by stage
abbrev pub change_list : List ℕ → List ℕ → Ported → List ℕ
change_list file source ported =
    changes_part file source ported.conditions.changes.items
    ++ changes_part file ported.conditions.text.items ported.calls.changes.items
    ++ changes_part file ported.calls.text.items ported.names.changes.items
    ++ changes_part file ported.names.text.items ported.arguments.changes.items
    ++ changes_part file ported.arguments.text.items ported.arrays.changes.items
    ++ changes_part file ported.arrays.text.items ported.lists.changes.items
    ++ changes_part file ported.lists.text.items ported.sizes.changes.items
    ++ changes_part file ported.sizes.text.items ported.texts.changes.items
    ++ changes_part file ported.texts.text.items ported.again.changes.items
    ++ changes_part file ported.again.text.items ported.rules.changes.items

-- the lines of the tokens without a form
abbrev pub refusal_list : List ℕ → Ported → List ℕ
refusal_list file ported = refusals_part file ported.again.text.items ported.refusals.items

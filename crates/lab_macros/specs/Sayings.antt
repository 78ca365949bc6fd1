-- What a line stands for that asks for no machine.
use Rattle.std.specs.Prelude.{ℕ, zero, suc, List, [], ◌∷◌, ◌++◌, Option, None, Some, codes}
use Rattle.lab_macros.specs.declared.said.Said.{Said}
use Rattle.lab_macros.specs.Asked.{count_in}

-- these commands
abbrev pub commands_said : List ℕ → Said
commands_said text = record { commands = text; words = [] }

-- no command, for these words
abbrev pub words_said : List ℕ → Said
words_said text = record { commands = []; words = text }

-- a comment, and a line without a word
abbrev pub nothing_said : Said
nothing_said = commands_said []

-- a command of ompback
abbrev pub plain_said : List ℕ → Said
plain_said line = commands_said (line ++ codes "\n")

-- a text so many times
abbrev pub times : ℕ → List ℕ → List ℕ
times zero text = []
times (suc more) text = text ++ times more text

abbrev pub repeated_by : List ℕ → List ℕ → ℕ → Said
repeated_by verb worker count = commands_said (times count (verb ++ codes " " ++ worker ++ codes "\n"))

abbrev pub wrong_count : Said
wrong_count = words_said (codes "x: H2 bad argument")

abbrev pub repeated_of : List ℕ → List ℕ → Option ℕ → Said
repeated_of verb worker None = wrong_count
repeated_of verb worker (Some count) = repeated_by verb worker count

-- `step 1 x 20`: a command of a worker, so many times
abbrev pub repeated_said : ℕ → List (List ℕ) → Said
repeated_said workers (verb ∷ (worker ∷ (mark ∷ (count ∷ [])))) = repeated_of verb worker (count_in workers count)
repeated_said workers _ = wrong_count

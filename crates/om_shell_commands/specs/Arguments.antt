-- What words behind a command's own may be.
use Rattle.std.specs.Prelude.{ℕ, ◌+◌, ◌*◌, ◌-◌, Bool, ◌&&◌, ◌==◌, nat_lt, nat_le, List, [], ◌∷◌, ◌++◌, if◌then◌else◌}
use Rattle.std.specs.Prelude.{length, take, drop, Option, None, Some, option_map, option_and_then, position}
use Rattle.std.specs.Prelude.{slice_index}
use Rattle.std.specs.List.{slice_split}
use Rattle.om_foot.specs.Names.{name_of}
use Rattle.om_shell_commands.specs.declared.command.Variable.{Variable}

abbrev pub is_digit : ℕ → Bool
is_digit byte = nat_le 48 byte && nat_le byte 57

-- the number that the digits write after those of n; none where a byte is no digit
abbrev pub value_after : ℕ → List ℕ → Option ℕ
value_after n [] = Some n
value_after n (byte ∷ bytes) = if is_digit byte then value_after (n * 10 + (byte - 48)) bytes else None

-- one to ten digits
abbrev pub number_of : List ℕ → Option ℕ
number_of word = if nat_lt 0 (length word) && nat_le (length word) 10 then value_after 0 word else None

abbrev pub below : ℕ → Option ℕ → Option ℕ
below limit None = None
below limit (Some n) = if nat_lt n limit then Some n else None

-- the worker that a word names: a number below that of the workers
abbrev pub worker_of : ℕ → List ℕ → Option ℕ
worker_of workers word = below workers (number_of word)

-- a name with one more number, where the number is there
abbrev pub child_of : List ℕ → Option ℕ → Option (List ℕ)
child_of name number = option_and_then (λ n. name_of (name ++ n ∷ [])) number

-- the name whose numbers are those of a name and then those that the parts spell: at most 64 in all
abbrev pub task_behind : List ℕ → List (List ℕ) → Option (List ℕ)
task_behind name [] = Some name
task_behind name (part ∷ parts) = option_and_then (λ longer. task_behind longer parts) (child_of name (number_of part))

-- the parts of a word, with dots between them
abbrev pub parts_of : List ℕ → List (List ℕ)
parts_of word = slice_split (λ byte. byte == 46) word

-- the task that a word names: numbers with dots between them, as `0.1.0`
abbrev pub task_of : List ℕ → Option (List ℕ)
task_of word = task_behind [] (parts_of word)

-- the index that stands behind a `[` and before the `]` that ends a word
abbrev pub index_of : List ℕ → Option ℕ
index_of rest = if slice_index rest (length rest - 1) == 93 then number_of (take (length rest - 1) rest) else None

-- a name with an index, where the index is one
abbrev pub indexed : List ℕ → Option ℕ → Option Variable
indexed name None = None
indexed name (Some index) = Some (record { name = name; index = Some index })

-- a word whose first `[` stands at a place, if it has one
abbrev pub variable_at : List ℕ → Option ℕ → Option Variable
variable_at word None = Some (record { name = word; index = None })
variable_at word (Some at) = indexed (take at word) (index_of (drop (at + 1) word))

-- the variable that a word names: `x`, or `a[3]`
abbrev pub variable_of : List ℕ → Option Variable
variable_of word = variable_at word (position (λ byte. byte == 91) word)

-- exactly one word
abbrev pub only : {A : Type 0} → (List ℕ → Option A) → List (List ℕ) → Option A
only read [] = None
only read (word ∷ []) = read word
only read (word ∷ (next ∷ more)) = None

abbrev pub one_worker : ℕ → List (List ℕ) → Option ℕ
one_worker workers words = only (worker_of workers) words

abbrev pub one_number : List (List ℕ) → Option ℕ
one_number words = only number_of words

abbrev pub one_variable : List (List ℕ) → Option Variable
one_variable words = only variable_of words

-- a number of steps: 1 to 100,000
abbrev pub count_of : Option ℕ → Option ℕ
count_of None = None
count_of (Some n) = if nat_le 1 n && nat_le n 100000 then Some n else None

abbrev pub one_count : List (List ℕ) → Option ℕ
one_count words = count_of (one_number words)

-- exactly two words, of which the first is a worker
abbrev pub behind_worker : {A : Type 0} → (ℕ → List ℕ → Option A) → ℕ → List (List ℕ) → Option A
behind_worker read workers (first ∷ (second ∷ [])) = option_and_then (λ worker. read worker second)
    (worker_of workers first)
behind_worker read workers _ = None

abbrev pub worker_and_task : ℕ → List (List ℕ) → Option (ℕ × List ℕ)
worker_and_task workers words = behind_worker (λ worker word. option_map (λ task. (worker, task)) (task_of word))
    workers words

-- The words that begin commands.
use Rattle.std.specs.Prelude.{ℕ, List, [], ◌∷◌, if◌then◌else◌, codes, Option, None, Some}
use Rattle.std.specs.Str.{bytes_eq}
use Rattle.om_shell_commands.specs.declared.verb.Verb.{Verb}
use Rattle.om_shell_commands.specs.declared.verb.Verb.TheVariants as verb

-- each of them, and the verb that it is
abbrev pub verbs : List (List ℕ × Verb)
verbs =
    (codes "step", verb.Step)
    ∷ (codes "start", verb.Start)
    ∷ (codes "undo", verb.Undo)
    ∷ (codes "next", verb.Next)
    ∷ (codes "back", verb.Back)
    ∷ (codes "print", verb.Print)
    ∷ (codes "where", verb.Where)
    ∷ (codes "history", verb.History)
    ∷ (codes "events", verb.Events)
    ∷ (codes "output", verb.Output)
    ∷ (codes "tasks", verb.Tasks)
    ∷ (codes "break", verb.Break)
    ∷ (codes "watch", verb.Watch)
    ∷ (codes "delete", verb.Delete)
    ∷ (codes "run", verb.Run)
    ∷ (codes "free", verb.Free)
    ∷ (codes "roll", verb.Roll)
    ∷ (codes "quit", verb.Quit)
    ∷ []

-- the verb of the first row that has this word
abbrev pub verb_in : List (List ℕ × Verb) → List ℕ → Option Verb
verb_in [] word = None
verb_in (row ∷ rows) word = if bytes_eq word row.0 then Some row.1 else verb_in rows word

-- the verb that a word is
abbrev pub verb_of : List ℕ → Option Verb
verb_of word = verb_in verbs word

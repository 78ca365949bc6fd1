-- What the lines of a command file stand for.
use Rattle.std.specs.Prelude.{◌≡◌, ℕ, ◌+◌, List, [], ◌∷◌, ◌++◌, ◌==◌, None, Some, if◌then◌else◌, codes, decimal, length}
use Rattle.std.specs.Str.Lines.{strip_carriage_return}
use Rattle.om_book.specs.Books.{BookView}
use Rattle.om_shell.specs.Lines.{parts_of}
use Rattle.om_shell_commands.specs.Words.{words_of}
use Rattle.lab_script.specs.Runs.{IsRun}
use Rattle.lab_macros.specs.declared.expanded.Expanded.{Expanded}
use Rattle.lab_macros.specs.declared.expanded.Expanded.TheVariants.{Commands, Refused}
use Rattle.lab_macros.specs.declared.expanded.Meant.{Meant}
use Rattle.lab_macros.specs.declared.expanded.Meant.TheVariants as meant
use Rattle.lab_macros.specs.declared.expanded.Place.{Place}
use Rattle.lab_macros.specs.declared.said.Kind.{Kind}
use Rattle.lab_macros.specs.declared.said.Kind.TheVariants as kind
use Rattle.lab_macros.specs.declared.said.Said.{Said}
use Rattle.lab_macros.specs.Kinds.{kind_of}
use Rattle.lab_macros.specs.Sayings.{nothing_said, plain_said, repeated_said}
use Rattle.lab_macros.specs.Untils.{until_said}

-- behind these commands ompback leaves this book, and there an `until` with these words stands for this
pub record IsUntil (p : Place) (before : List ℕ) (words : List (List ℕ)) (said : Said) : Type 0 where
  pub text : List ℕ
  pub book : BookView
  pub leaves : IsRun p.workers p.source.now before text (Some book)
  pub is : said ≡ until_said p.most book words

-- behind these commands, or before any, ompback refuses the source by this line
abbrev pub IsRefusal : Place → List ℕ → List ℕ → Type 0
IsRefusal p before line = IsRun p.workers p.source.now before line None

-- what an `until` stands for behind these commands, or the refusal of the source
abbrev pub StandsBehind : Place → List ℕ → List (List ℕ) → Meant → Type 0
StandsBehind p before words (meant.Said said) = IsUntil p before words said
StandsBehind p before words (meant.Refused line) = IsRefusal p before line.items

-- what this was said to be it is
abbrev pub Says : Said → Meant → Type 0
Says said (meant.Said other) = other ≡ said
Says said (meant.Refused line) = ⊥

-- what a line of a kind stands for behind these commands
abbrev pub StandsBy : Place → List ℕ → List ℕ → List (List ℕ) → Kind → Meant → Type 0
StandsBy p before line words kind.Nothing m = Says nothing_said m
StandsBy p before line words kind.Plain m = Says (plain_said line) m
StandsBy p before line words kind.Repeated m = Says (repeated_said p.workers words) m
StandsBy p before line words kind.Until m = StandsBehind p before words m

-- a line without the carriage return that may end it
abbrev pub words_in : List ℕ → List (List ℕ)
words_in line = words_of (strip_carriage_return line)

-- what a line stands for behind these commands
abbrev pub StandsFor : Place → List ℕ → List ℕ → Meant → Type 0
StandsFor p before line m = StandsBy p before line (words_in line) (kind_of (words_in line)) m

-- the words that tell why the line of a number stands for nothing
abbrev pub told_line : ℕ → List ℕ → List ℕ
told_line number words = codes "line " ++ decimal number ++ codes ": " ++ words ++ codes "\n"

-- nothing is told where there are none
abbrev pub told_at : ℕ → List ℕ → List ℕ
told_at number words = if length words == 0 then [] else told_line number words

-- Lines from the first one on, the commands that they stand for, and what is told of them: each stands for what it does
-- behind the commands of those before it.
pub data Expands (p : Place) : List (List ℕ) → List ℕ → List ℕ → Type 0 where
  no_line : Expands p [] [] []
  one_more : (lines : List (List ℕ)) (commands told line : List ℕ) (said : Said) → Expands p lines commands told
      → StandsFor p commands line (meant.Said said)
      → Expands p (lines ++ line ∷ []) (commands ++ said.commands)
      (told ++ told_at (p.first + length lines) said.words)

-- the lines up to an `until`, at which the source is refused
pub record IsRefusedBehind (p : Place) (line : List ℕ) : Type 0 where
  pub before : List ℕ
  pub refusal : IsRefusal p before line

-- what a command file stands for
abbrev pub IsExpanded : Place → List ℕ → Expanded → Type 0
IsExpanded p file (Commands commands told) = Expands p (parts_of file) commands.items told.items
IsExpanded p file (Refused line) = IsRefusedBehind p line.items

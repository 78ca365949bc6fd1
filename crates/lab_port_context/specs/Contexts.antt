-- What stands before a piece.
use Rattle.std.specs.Prelude.{ℕ, Bool, true, false, ◌+◌, ◌-◌, ◌==◌, ◌||◌, ◌&&◌, not, if◌then◌else◌, nat_lt}
use Rattle.lab_port_words.specs.declared.class.Class.{Class}
use Rattle.lab_port_words.specs.declared.class.Class.TheVariants as classes
use Rattle.lab_port_words.specs.declared.class.Sign.TheVariants as signs
use Rattle.lab_port_words.specs.declared.class.Hash.TheVariants as hashes
use Rattle.lab_port_words.specs.declared.class.Word.TheVariants as words
use Rattle.lab_port_words.specs.declared.class.TypeWord.TheVariants as types
use Rattle.lab_port_words.specs.declared.class.Library.TheVariants as names
use Rattle.lab_port_words.specs.Classes.{is_word}
use Rattle.lab_port_context.specs.declared.context.Line.{Line}
use Rattle.lab_port_context.specs.declared.context.Line.TheVariants as lines
use Rattle.lab_port_context.specs.declared.context.Context.{Context}

-- C17 6.10: a `#` that is the first token of its line begins a `#` line, and the word after it says which
abbrev pub line_behind_hash : Class → Line
line_behind_hash (classes.Hash hashes.Include) = lines.Include
line_behind_hash (classes.Hash hashes.Define) = lines.Define
line_behind_hash (classes.Hash hashes.Pragma) = lines.Pragma
line_behind_hash _ = lines.Other

abbrev pub line_behind_pragma : Class → Line
line_behind_pragma (classes.Hash hashes.Omp) = lines.Omp
line_behind_pragma _ = lines.Ignored

abbrev pub line_behind_first : Class → Line
line_behind_first (classes.Sign signs.Hash) = lines.Hash
line_behind_first _ = lines.Code

-- the line after a token
abbrev pub line_behind : Line → Class → Line
line_behind lines.Fresh class = line_behind_first class
line_behind lines.Hash class = line_behind_hash class
line_behind lines.Pragma class = line_behind_pragma class
line_behind lines.Code class = lines.Code
line_behind lines.Include class = lines.Include
line_behind lines.Define class = lines.Define
line_behind lines.Omp class = lines.Omp
line_behind lines.Ignored class = lines.Ignored
line_behind lines.Other class = lines.Other

-- the tokens of the line are tokens of C, and of no `#` line
abbrev pub is_code : Line → Bool
is_code lines.Fresh = true
is_code lines.Code = true
is_code _ = false

-- one bracket more is open; more than 1,000,000 are not counted
abbrev pub deeper : ℕ → ℕ
deeper depth = if nat_lt depth 1000000 then depth + 1 else depth

abbrev pub braces_behind : ℕ → Class → ℕ
braces_behind depth (classes.Sign signs.OpenBrace) = deeper depth
braces_behind depth (classes.Sign signs.CloseBrace) = depth - 1
braces_behind depth _ = depth

abbrev pub parens_behind : ℕ → Class → ℕ
parens_behind depth (classes.Sign signs.Open) = deeper depth
parens_behind depth (classes.Sign signs.Close) = depth - 1
parens_behind depth _ = depth

-- a word of an arithmetic type of whole numbers
abbrev pub is_whole_type : Class → Bool
is_whole_type (classes.Type types.Void) = false
is_whole_type (classes.Type types.Floating) = false
is_whole_type (classes.Type _) = true
is_whole_type _ = false

abbrev pub is_floating_type : Class → Bool
is_floating_type (classes.Type types.Floating) = true
is_floating_type _ = false

abbrev pub is_main : Class → Bool
is_main (classes.Word words.Main) = true
is_main _ = false

-- the end of what stands at file scope
abbrev pub ends_external : Class → Bool
ends_external (classes.Sign signs.Semicolon) = true
ends_external (classes.Sign signs.CloseBrace) = true
ends_external _ = false

-- whether what follows is in `main`
abbrev pub main_behind : Context → Class → Bool
main_behind context class =
    if not (braces_behind context.braces class == 0) then context.in_main
    else is_main class || (context.in_main && not (ends_external class))

abbrev pub is_abort : Class → Bool
is_abort (classes.Library names.Abort) = true
is_abort _ = false

-- the header that declares `abort`
abbrev pub is_stdlib : Class → Bool
is_stdlib (classes.Hash hashes.Stdlib) = true
is_stdlib _ = false

-- after a token of code
abbrev pub behind_code : Context → Class → Context
behind_code context class = record {
  line = lines.Code;
  braces = braces_behind context.braces class;
  parens = parens_behind context.parens class;
  last = class;
  before = context.last;
  typed = is_word class && (context.typed || is_whole_type class);
  floating = is_word class && (context.floating || is_floating_type class);
  in_main = main_behind context class;
  declared = context.declared || (is_abort class && context.braces == 0);
}

-- after a token of a `#` line, which is this line then
abbrev pub behind_hash : Context → Class → Line → Context
behind_hash context class line = record {
  line = line;
  braces = context.braces;
  parens = parens_behind context.parens class;
  last = class;
  before = context.last;
  typed = false;
  floating = false;
  in_main = context.in_main;
  declared = context.declared || is_stdlib class;
}

-- at the beginning of a source
abbrev pub at_first : Context
at_first = record {
  line = lines.Fresh;
  braces = 0;
  parens = 0;
  last = classes.LineEnd;
  before = classes.LineEnd;
  typed = false;
  floating = false;
  in_main = false;
  declared = false;
}

-- after the end of a `#` line a statement may begin
abbrev pub behind_hash_line : Context → Context
behind_hash_line context = record at_first { braces = context.braces; in_main = context.in_main; declared = context.declared }

-- after the end of a line
abbrev pub behind_line : Context → Context
behind_line context =
    if is_code context.line then record context { line = lines.Fresh } else behind_hash_line context

abbrev pub behind_line_of : Context → Class → Line → Context
behind_line_of context class lines.Code = behind_code context class
behind_line_of context class line = behind_hash context class line

-- after a token
abbrev pub behind_token : Context → Class → Context
behind_token context class =
    behind_line_of context class (line_behind context.line class)

-- after a piece
abbrev pub context_behind : Context → Class → Context
context_behind context classes.Gap = context
context_behind context classes.Join = context
context_behind context classes.LineEnd = behind_line context
context_behind context class = behind_token context class

-- What rules write.
use Rattle.std.specs.Prelude.{ℕ, Bool, true, false, List, [], ◌∷◌, ◌++◌, ◌==◌, ◌||◌, if◌then◌else◌, codes, decimal, map, flat_map}
use Rattle.lab_port_tokens.specs.declared.piece.Piece.{Piece}
use Rattle.lab_port_tokens.specs.declared.piece.PieceKind.{PieceKind}
use Rattle.lab_port_tokens.specs.declared.piece.PieceKind.TheVariants as kinds
use Rattle.lab_port_words.specs.Texts.{without_suffix, plain_format, line_text}
use Rattle.lab_port_arguments.specs.Places.{main_text}
use Rattle.lab_port_calls.specs.Written.{call_text}
use Rattle.lab_port_names.specs.Names.{meaning_of}
use Rattle.lab_port_arrays.specs.Written.{sized_text, index_text}
use Rattle.lab_port_lists.specs.Arrays.{array_text, declarator}
use Rattle.lab_port_sizes.specs.Places.{length_text}
use Rattle.lab_port_prints.specs.Printed.{statement_text}
use Rattle.lab_port_rules.specs.declared.rule.Meaning.{Meaning}
use Rattle.lab_port_rules.specs.declared.rule.Rule.{Rule}
use Rattle.lab_port_rules.specs.declared.rule.Rule.TheVariants as rules

abbrev pub is_text : PieceKind → Bool
is_text kinds.Text = true
is_text _ = false

-- the first text among some pieces
abbrev pub text_among : List Piece → List ℕ
text_among [] = []
text_among (piece ∷ rest) = if is_text piece.kind then piece.text else text_among rest

-- the words that a rule writes for any token
abbrev pub fixed_text : Rule → List ℕ
fixed_text rules.EnumerationType = codes "int"
fixed_text (rules.Type word) = codes "int"
fixed_text rules.One = codes "1"
fixed_text rules.Nought = codes "0"
fixed_text rules.Largest = codes "2147483647"
fixed_text rules.Least = codes "(-2147483647 - 1)"
fixed_text rules.DefineAbort = codes "void abort(void) { while (1/0) ; }"
fixed_text rules.DefineAssert = codes "void assert(int assert__ok) { if (assert__ok == 0) assert__ok = 1/0; }"
fixed_text rules.Exit = codes "return"
fixed_text rules.Zero = codes "0"
fixed_text rules.InParallel = codes "(omp_get_num_threads() > 1)"
fixed_text rules.PrintError = codes "printf("
fixed_text rules.PrintOut = codes "printf("
fixed_text rules.Dynamic = codes "dynamic"
fixed_text rules.Static = codes "static"
fixed_text rules.Plus = codes "+"
fixed_text _ = []

-- a `printf` of a text that ends its line
abbrev pub printed_text : List ℕ → List ℕ
printed_text text = codes "printf(" ++ line_text text ++ codes ")"

-- what a rule writes for a token with these bytes, and the pieces that it takes; a number that stands for a character
-- may follow a word
abbrev pub plain_text : Rule → List ℕ → List Piece → List ℕ
plain_text rules.Suffix text taken = without_suffix text
plain_text rules.UnsignedSuffix text taken = without_suffix text
plain_text (rules.Character number) text taken = 32 ∷ decimal number
plain_text rules.Format text taken = plain_format false text
plain_text rules.Puts text taken = printed_text (text_among taken)
plain_text rules.Main text taken = main_text text
plain_text rule text taken = fixed_text rule

-- the `{` of `main`, and the stores of all arrays that get their values there
abbrev pub filled_text : List Meaning → List ℕ
filled_text names = codes "{" ++ flat_map (λ next. next.text) names

-- what stands for a name, or for one with a list of arguments
abbrev pub used_text : List Meaning → List ℕ → List Piece → List ℕ
used_text names text [] = meaning_of text names
used_text names text (piece ∷ rest) = call_text names text (piece ∷ rest)

-- a number without its suffix, or the number of elements that a `sizeof` asks for
abbrev pub unsigned_text : List Meaning → List ℕ → List Piece → List ℕ
unsigned_text names text [] = without_suffix text
unsigned_text names text (piece ∷ rest) = length_text names (piece ∷ rest)

-- the same where these names stand for texts
abbrev pub new_text : List Meaning → Rule → List ℕ → List Piece → List ℕ
new_text names rules.Use text taken = used_text names text taken
new_text names rules.List text taken = array_text text taken
new_text names rules.FileList text taken = declarator text taken
new_text names rules.Fill text taken = filled_text names
new_text names (rules.Length number) text taken = sized_text text number
new_text names (rules.FlatArray number) text taken = sized_text text number
new_text names (rules.FlatIndex columns) text taken = index_text text columns taken
new_text names rules.UnsignedSuffix text taken = unsigned_text names text taken
new_text names rules.Text text taken = statement_text taken
new_text names rule text taken = plain_text rule text taken

-- a line end is a space
abbrev pub flat_byte : ℕ → ℕ
flat_byte byte = if byte == 10 || byte == 13 then 32 else byte

-- what a rule writes, on one line
abbrev pub flat_text : List Meaning → Rule → List ℕ → List Piece → List ℕ
flat_text names rule text taken = map flat_byte (new_text names rule text taken)

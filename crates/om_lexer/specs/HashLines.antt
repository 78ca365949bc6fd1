-- `#` lines: include, define and pragma (C17 6.10).
use Rattle.std.specs.Prelude.{◌≡◌, ℕ, ◌+◌, ◌<◌, ◌≤◌, ◌⊎◌, false, List, None, length, slice_index, slice_range}
use Rattle.std.specs.Prelude.{codes}
use Rattle.std.specs.Char.{is_ascii_digit}
use Rattle.om_lexer.specs.declared.define.Definition.{Definition}
use Rattle.om_lexer.specs.declared.fault.FaultCode.{FaultCode}
use Rattle.om_lexer.specs.declared.fault.FaultCode.TheVariants as codes
use Rattle.om_lexer.specs.declared.fault.SourceFault.{SourceFault}
use Rattle.om_lexer.specs.declared.piece.HashLine.{HashLine}
use Rattle.om_lexer.specs.declared.piece.HashLine.TheVariants as lines
use Rattle.om_lexer.specs.Constants.{AreDigits, value_in}
use Rattle.om_lexer.specs.Faults.{IsRefusalAt}
use Rattle.om_lexer.specs.WhiteSpace.{IsGap}
use Rattle.om_lexer.specs.Tokens.{IsWord, IsLongest}
use Rattle.om_lexer.specs.Macros.{MacroList, number_of_macro, macro_limit, MayDefine, IsOther}

-- a whole run of letters, digits and `_` stands there
pub record IsWordAt (source : List ℕ) (from to : ℕ) (text : List ℕ) : Type 0 where
  pub longest : IsLongest source from to
  pub word : IsWord text
  pub text_is : text ≡ slice_range source from to

-- `#` and this word, which stands from `word` up to `to`
pub record IsHashWord (source : List ℕ) (from word to : ℕ) (text : List ℕ) : Type 0 where
  pub hash : slice_index source from ≡ 35
  pub gap : IsGap source (from + 1) word
  pub is_word : IsWordAt source word to text

-- the end of a line or of the source, or the beginning of a block comment
abbrev pub IsLineEnding : List ℕ → ℕ → Type 0
IsLineEnding source at = (length source ≤ at)
    ⊎ ((slice_index source at ≡ 10) ⊎ ((slice_index source at ≡ 47) × (slice_index source (at + 1) ≡ 42)))

-- nothing but white space follows on the line; a comment that never ends is a fault of its own
pub record EndsLine (source : List ℕ) (from : ℕ) : Type 0 where
  pub end : ℕ
  pub gap : IsGap source from end
  pub ends : IsLineEnding source end

-- these bytes stand there
abbrev pub HasText : List ℕ → ℕ → List ℕ → ℕ → Type 0
HasText source from text to = (slice_range source from to ≡ text) × (to ≡ from + length text) × (to ≤ length source)

-- one of the two headers
abbrev pub IsHeader : List ℕ → ℕ → ℕ → Type 0
IsHeader source from to = HasText source from (codes "<stdio.h>") to ⊎ HasText source from (codes "<omp.h>") to

-- one of the two headers, with nothing but white space behind it on the line
abbrev pub IsLastHeader : List ℕ → ℕ → ℕ → Type 0
IsLastHeader source from to = IsHeader source from to × EndsLine source to

-- none of the two headers stands there with nothing but white space behind it on the line
abbrev pub HasNoLastHeader : List ℕ → ℕ → Type 0
HasNoLastHeader source from = (to : ℕ) → IsHeader source from to → EndsLine source to → ⊥

-- C17 6.10.2: a line that includes one of the two headers, from its `#` up to the header's end
pub record IsInclude (source : List ℕ) (from to : ℕ) : Type 0 where
  pub word : ℕ
  pub word_end : ℕ
  pub begins : IsHashWord source from word word_end (codes "include")
  pub header : ℕ
  pub gap : IsGap source word_end header
  pub is_header : IsHeader source header to
  pub tail : EndsLine source to

-- a name or a keyword (C17 6.10.3 makes no difference), of at most 63 bytes, where it is a run of letters,
-- digits and `_`; also `defined` and `__LINE__`, which C17 6.10.8p2 forbids: an own choice
abbrev pub IsMacroName : List ℕ → Type 0
IsMacroName text = (0 < length text) × (is_ascii_digit (slice_index text 0) ≡ false) × (length text ≤ 63)

-- a decimal constant, however large, or `0`, which C17 6.4.4.1 calls octal
abbrev pub IsDecimal : List ℕ → Type 0
IsDecimal text = (0 < length text) × AreDigits 10 text × (slice_index text 0 ≡ 48 → length text ≡ 1)

-- a name, and its number from `to` on, with nothing but white space behind it on the line
pub record IsDefinition (source : List ℕ) (from to : ℕ) (name : List ℕ) (value : ℕ) : Type 0 where
  pub name_from : ℕ
  pub name_end : ℕ
  pub gap : IsGap source from name_from
  pub word : IsWordAt source name_from name_end name
  pub is_name : IsMacroName name
  pub further_gap : IsGap source name_end to
  pub number : List ℕ
  pub number_end : ℕ
  pub number_word : IsWordAt source to number_end number
  pub is_decimal : IsDecimal number
  pub value_is : value ≡ value_in 10 number
  pub tail : EndsLine source number_end

-- no name stands there with its number behind it and nothing but white space behind that on the line
abbrev pub HasNoDefinition : List ℕ → ℕ → Type 0
HasNoDefinition source from = (to : ℕ) (name : List ℕ) (value : ℕ) → IsDefinition source from to name value → ⊥

-- these words are a name and a decimal constant, and nothing but white space follows the constant on its line
abbrev pub AreNameAndNumber : List ℕ → (name number : List ℕ) → (number_end : ℕ) → Type 0
AreNameAndNumber source name number number_end = IsMacroName name × IsDecimal number × EndsLine source number_end

-- from one byte up to another stands a range of the source
abbrev pub IsRange : List ℕ → ℕ → ℕ → Type 0
IsRange source from to = (from ≤ to) × (to ≤ length source)

-- the name of a definition that is found
abbrev pub found_name : List ℕ → Definition → List ℕ
found_name source found = slice_range source found.name found.name_end

-- the number of a definition that is found, as it is written
abbrev pub found_number : List ℕ → Definition → List ℕ
found_number source found = slice_range source found.number found.number_end

-- what is found is the definition from this byte on
abbrev pub IsFoundDefinition : List ℕ → ℕ → Definition → Type 0
IsFoundDefinition source from found = IsDefinition source from found.number
    (found_name source found) (value_in 10 (found_number source found))

-- C17 6.10.3: a line that defines this name as this number, from its `#` up to the number
pub record IsDefine (source : List ℕ) (from to : ℕ) (name : List ℕ) (value : ℕ) : Type 0 where
  pub word : ℕ
  pub word_end : ℕ
  pub begins : IsHashWord source from word word_end (codes "define")
  pub definition : IsDefinition source word_end to name value

-- OpenMP 5.2 section 3.1: `#`, `pragma` and `omp`; `pragma` and `omp` begin at these bytes
pub record IsDirective (source : List ℕ) (from pragma omp to : ℕ) : Type 0 where
  pub pragma_end : ℕ
  pub begins : IsHashWord source from pragma pragma_end (codes "pragma")
  pub gap : IsGap source pragma_end omp
  pub is_omp : IsWordAt source omp to (codes "omp")

-- C17 6.10.6: a pragma whose first word is not `omp`, up to the end of `pragma`
pub record IsOtherPragma (source : List ℕ) (from to : ℕ) : Type 0 where
  pub word : ℕ
  pub begins : IsHashWord source from word to (codes "pragma")
  pub no_omp : (omp end : ℕ) → IsGap source to omp → IsWordAt source omp end (codes "omp") → ⊥

-- the `#` line that begins there, as far as it is one piece
abbrev pub IsHashLine : List ℕ → MacroList → ℕ → ℕ → HashLine → Type 0
IsHashLine source macros from to lines.Include = IsInclude source from to
IsHashLine source macros from to (lines.Define name) = (value : ℕ) × IsDefine source from to name value
    × MayDefine macros name value
IsHashLine source macros from to (lines.Directive pragma omp) = IsDirective source from pragma omp to
IsHashLine source macros from to lines.Ignored = IsOtherPragma source from to

-- what is read is the `#` line that begins there, as far as it is one piece, and the byte behind that
abbrev pub IsReadHashLine : List ℕ → MacroList → ℕ → HashLine × ℕ → Type 0
IsReadHashLine source macros from read = IsHashLine source macros from read.1 read.0

-- what is read is the line of each `#` whose word stands there and is `pragma`, whatever names are defined
abbrev pub IsReadPragma : List ℕ → (word word_end : ℕ) → HashLine × ℕ → Type 0
IsReadPragma source word word_end read = (macros : MacroList) (from : ℕ)
    → IsHashWord source from word word_end (codes "pragma") → IsReadHashLine source macros from read

-- a `#` line that is no include, define or pragma, or that defines a name as another number
pub record IsBadHashLine (source : List ℕ) (macros : MacroList) (from : ℕ) : Type 0 where
  pub no_include : (to : ℕ) → IsInclude source from to → ⊥
  pub no_pragma : (word to : ℕ) → IsHashWord source from word to (codes "pragma") → ⊥
  pub no_define : (to : ℕ) (name : List ℕ) (value : ℕ) → IsDefine source from to name value → IsOther macros name value

-- a line that defines a new name where the limit is reached
pub record IsMacroTooMany (source : List ℕ) (macros : MacroList) (from : ℕ) : Type 0 where
  pub to : ℕ
  pub name : List ℕ
  pub value : ℕ
  pub define : IsDefine source from to name value
  pub unknown : number_of_macro macros name ≡ None
  pub full : macro_limit ≤ length macros

-- what is wrong with the line of a `#`
abbrev pub IsWrongHashLine : List ℕ → MacroList → ℕ → FaultCode → Type 0
IsWrongHashLine source macros from codes.BadHashLine = IsBadHashLine source macros from
IsWrongHashLine source macros from codes.TooMany = IsMacroTooMany source macros from
IsWrongHashLine source macros from _ = ⊥

-- a refusal of the line of a `#`, at the `#`
abbrev pub IsHashLineRefusal : List ℕ → MacroList → ℕ → SourceFault → Type 0
IsHashLineRefusal source macros from = IsRefusalAt from (IsWrongHashLine source macros from)

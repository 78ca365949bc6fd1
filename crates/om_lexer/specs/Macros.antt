-- Macros: names that are defined as numbers (C17 6.10.3).
use Rattle.std.specs.Prelude.{◌≡◌, ◌≢◌, ℕ, ◌<◌, ◌≤◌, ◌⊎◌, List, [], ◌∷◌, ◌++◌, Option, None, Some, length, map, is_some}
use Rattle.std.specs.Prelude.{Vec, if◌then◌else◌}
use Rattle.std.specs.Map.{lookup}
use Rattle.std.specs.Str.{bytes_eq}
use Rattle.std.specs.declared.alloc.Global.{Global}
use Rattle.om_lexer.specs.declared.token.TokenKind.{TokenKind}
use Rattle.om_lexer.specs.declared.token.TokenKind.TheVariants as kinds
use Rattle.om_lexer.specs.declared.define.Answer.{Answer}
use Rattle.om_lexer.specs.declared.define.Answer.TheVariants as answers
use Rattle.om_lexer.specs.Spellings.{keyword_text}

-- the names that are defined so far, in the order of their first defines
abbrev pub MacroList : Type 0
MacroList = List (List ℕ × ℕ)

-- the macros that a table holds
abbrev pub macros_of : List (Vec ℕ Global × ℕ) → MacroList
macros_of entries = map (λ entry. (entry.0.items, entry.1)) entries

-- the names that a source may define
abbrev pub macro_limit : ℕ
macro_limit = 1024

-- the number that a name is defined as
abbrev pub number_of_macro : MacroList → List ℕ → Option ℕ
number_of_macro macros name = lookup (bytes_eq name) macros

-- the macros behind a define; a second one of a name adds nothing
abbrev pub with_macro : MacroList → List ℕ → ℕ → MacroList
with_macro macros name number = if is_some (number_of_macro macros name) then macros else macros ++ (name, number) ∷ []

-- the new table holds the macros of the old one, behind a define
abbrev pub DefinesMacro : (old new : List (Vec ℕ Global × ℕ)) → List ℕ → ℕ → Type 0
DefinesMacro old new name number = macros_of new ≡ with_macro (macros_of old) name number

-- C17 6.10.3p2: a name may be defined again, with the same number
abbrev pub MayDefine : MacroList → List ℕ → ℕ → Type 0
MayDefine macros name number =
    (number_of_macro macros name ≡ Some number)
    ⊎ ((number_of_macro macros name ≡ None) × (length macros < macro_limit))

-- the name is defined, as another number
abbrev pub IsOther : MacroList → List ℕ → ℕ → Type 0
IsOther macros name number = (known : ℕ) × (number_of_macro macros name ≡ Some known) × (known ≢ number)

-- whether a name may be defined as a number
abbrev pub IsAnswer : MacroList → List ℕ → ℕ → Answer → Type 0
IsAnswer macros name number answers.Allowed = MayDefine macros name number
IsAnswer macros name number answers.Other = IsOther macros name number
IsAnswer macros name number answers.TooMany = (number_of_macro macros name ≡ None) × (macro_limit ≤ length macros)

abbrev pub constant_or : Option ℕ → TokenKind → TokenKind
constant_or None kind = kind
constant_or (Some number) kind = kinds.Constant number

-- C17 6.10.3p9: a name that is defined, a keyword too, is a constant
abbrev pub replaced : MacroList → TokenKind → TokenKind
replaced macros (kinds.Name name) = constant_or (number_of_macro macros name) (kinds.Name name)
replaced macros (kinds.Keyword k) = constant_or (number_of_macro macros (keyword_text k)) (kinds.Keyword k)
replaced macros (kinds.Constant number) = kinds.Constant number
replaced macros (kinds.Text characters) = kinds.Text characters
replaced macros (kinds.Punctuator p) = kinds.Punctuator p
replaced macros kinds.DirectiveBegin = kinds.DirectiveBegin
replaced macros kinds.DirectiveEnd = kinds.DirectiveEnd
replaced macros kinds.End = kinds.End

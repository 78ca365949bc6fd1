-- How keywords and punctuators are spelled.
use Rattle.std.specs.Prelude.{◌≡◌, ◌≤◌, ℕ, true, false, List, length, codes, nat_eq}
use Rattle.std.specs.List.{starts_with}
use Rattle.om_lexer.specs.declared.token.Keyword.{Keyword}
use Rattle.om_lexer.specs.declared.token.Keyword.TheVariants as keywords
use Rattle.om_lexer.specs.declared.token.Punctuator.{Punctuator}
use Rattle.om_lexer.specs.declared.token.Punctuator.TheVariants as punctuators

-- C17 6.4.1
abbrev pub keyword_text : Keyword → List ℕ
keyword_text keywords.Auto = codes "auto"
keyword_text keywords.Break = codes "break"
keyword_text keywords.Case = codes "case"
keyword_text keywords.Char = codes "char"
keyword_text keywords.Const = codes "const"
keyword_text keywords.Continue = codes "continue"
keyword_text keywords.Default = codes "default"
keyword_text keywords.Do = codes "do"
keyword_text keywords.Double = codes "double"
keyword_text keywords.Else = codes "else"
keyword_text keywords.Enum = codes "enum"
keyword_text keywords.Extern = codes "extern"
keyword_text keywords.Float = codes "float"
keyword_text keywords.For = codes "for"
keyword_text keywords.Goto = codes "goto"
keyword_text keywords.If = codes "if"
keyword_text keywords.Inline = codes "inline"
keyword_text keywords.Int = codes "int"
keyword_text keywords.Long = codes "long"
keyword_text keywords.Register = codes "register"
keyword_text keywords.Restrict = codes "restrict"
keyword_text keywords.Return = codes "return"
keyword_text keywords.Short = codes "short"
keyword_text keywords.Signed = codes "signed"
keyword_text keywords.Sizeof = codes "sizeof"
keyword_text keywords.Static = codes "static"
keyword_text keywords.Struct = codes "struct"
keyword_text keywords.Switch = codes "switch"
keyword_text keywords.Typedef = codes "typedef"
keyword_text keywords.Union = codes "union"
keyword_text keywords.Unsigned = codes "unsigned"
keyword_text keywords.Void = codes "void"
keyword_text keywords.Volatile = codes "volatile"
keyword_text keywords.While = codes "while"
keyword_text keywords.Alignas = codes "_Alignas"
keyword_text keywords.Alignof = codes "_Alignof"
keyword_text keywords.Atomic = codes "_Atomic"
keyword_text keywords.Bool = codes "_Bool"
keyword_text keywords.Complex = codes "_Complex"
keyword_text keywords.Generic = codes "_Generic"
keyword_text keywords.Imaginary = codes "_Imaginary"
keyword_text keywords.Noreturn = codes "_Noreturn"
keyword_text keywords.StaticAssert = codes "_Static_assert"
keyword_text keywords.ThreadLocal = codes "_Thread_local"

-- C17 6.4.6
abbrev pub punctuator_text : Punctuator → List ℕ
punctuator_text punctuators.OpenParen = codes "("
punctuator_text punctuators.CloseParen = codes ")"
punctuator_text punctuators.OpenBracket = codes "["
punctuator_text punctuators.CloseBracket = codes "]"
punctuator_text punctuators.OpenBrace = codes "{"
punctuator_text punctuators.CloseBrace = codes "}"
punctuator_text punctuators.Semicolon = codes ";"
punctuator_text punctuators.Comma = codes ","
punctuator_text punctuators.Question = codes "?"
punctuator_text punctuators.Colon = codes ":"
punctuator_text punctuators.Equal = codes "="
punctuator_text punctuators.PlusEqual = codes "+="
punctuator_text punctuators.MinusEqual = codes "-="
punctuator_text punctuators.StarEqual = codes "*="
punctuator_text punctuators.SlashEqual = codes "/="
punctuator_text punctuators.PercentEqual = codes "%="
punctuator_text punctuators.EqualEqual = codes "=="
punctuator_text punctuators.BangEqual = codes "!="
punctuator_text punctuators.Less = codes "<"
punctuator_text punctuators.Greater = codes ">"
punctuator_text punctuators.LessEqual = codes "<="
punctuator_text punctuators.GreaterEqual = codes ">="
punctuator_text punctuators.Plus = codes "+"
punctuator_text punctuators.Minus = codes "-"
punctuator_text punctuators.Star = codes "*"
punctuator_text punctuators.Slash = codes "/"
punctuator_text punctuators.Percent = codes "%"
punctuator_text punctuators.Bang = codes "!"
punctuator_text punctuators.PlusPlus = codes "++"
punctuator_text punctuators.MinusMinus = codes "--"
punctuator_text punctuators.AndAnd = codes "&&"
punctuator_text punctuators.OrOr = codes "||"

-- the bytes begin with this punctuator
abbrev pub BeginsWithPunctuator : List ℕ → Punctuator → Type 0
BeginsWithPunctuator bytes punctuator = starts_with nat_eq bytes (punctuator_text punctuator) ≡ true

-- no punctuator with which the bytes begin is longer than this one
abbrev pub IsLongestPunctuator : List ℕ → Punctuator → Type 0
IsLongestPunctuator bytes punctuator = (other : Punctuator) → BeginsWithPunctuator bytes other
    → length (punctuator_text other) ≤ length (punctuator_text punctuator)

-- the bytes begin with no punctuator
abbrev pub BeginsWithNoPunctuator : List ℕ → Type 0
BeginsWithNoPunctuator bytes = (punctuator : Punctuator) → starts_with nat_eq bytes (punctuator_text punctuator) ≡ false

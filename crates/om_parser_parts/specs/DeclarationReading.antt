-- For proofs: reading declarations from the left.
use Rattle.std.specs.Prelude.{List, length, Some, None, Ok}
use Rattle.om_lexer.specs.declared.token.Punctuator.TheVariants as punctuators
use Rattle.om_lexer.specs.declared.token.Span.{Span}
use Rattle.om_lexer.specs.declared.token.Token.{Token}
use Rattle.om_parser_tree.specs.declared.tree.ArrayLength.{ArrayLength}
use Rattle.om_pragma.specs.declared.clause.Name as names
use Rattle.om_parser_tree.specs.declared.tree.SignedNumber.{SignedNumber}
use Rattle.om_parser_parts.specs.Reading.{◌>>=◌, choose, Outcome, Reader, take_mark, mark_at, name_at, number_at}
use Rattle.om_parser_parts.specs.Repetition.{until}
use Rattle.om_parser_tree.specs.Tree.{DeclaratorTree, DeclarationTree}

-- a number, perhaps behind a minus (C17 6.6)
unfoldable pub signed_at : Reader SignedNumber
signed_at ts = choose (take_mark punctuators.Minus ts)
    (λ m. number_at m.1 >>= λ n. Ok (record { minus = Some m.0; number = n.0 }, n.1))
    (number_at ts >>= λ n. Ok (record { minus = None; number = n.0 }, n.1))

-- the size of an array and the right bracket, behind the left one (C17 6.7.6.2)
unfoldable pub array_after : Span → Reader ArrayLength
array_after left ts = do
  n ← number_at ts
  r ← mark_at punctuators.CloseBracket n.1
  Ok (record { open_bracket = left; size = n.0; close_bracket = r.0 }, r.1)

-- a declarator with what it holds at the start, behind the `=` (C17 6.7.9)
abbrev pub initialized : {I : Type 0} → names.Name → Span → I → DeclaratorTree I
initialized name equal value = record {
  name = name;
  array = None;
  initializer = Some (record { equal = equal; value = value });
}

-- the brackets or the initializer, where they stand, behind the declared name (C17 6.7.6)
unfoldable pub declarator_after : {I : Type 0} → (initial : Reader I) → names.Name → Reader (DeclaratorTree I)
declarator_after initial name ts = choose (take_mark punctuators.OpenBracket ts)
    (λ b. array_after b.0 b.1 >>= λ a. Ok (record { name = name; array = Some a.0; initializer = None }, a.1))
    (choose (take_mark punctuators.Equal ts)
    (λ q. initial q.1 >>= λ e. Ok (initialized name q.0 e.0, e.1))
    (Ok (record { name = name; array = None; initializer = None }, ts)))

-- a comma and a declarator
unfoldable pub further_at : {I : Type 0} → (initial : Reader I) → Reader (Span × DeclaratorTree I)
further_at initial ts = do
  c ← mark_at punctuators.Comma ts
  n ← name_at c.1
  d ← declarator_after initial n.0 n.1
  Ok ((c.0, d.0), d.1)

-- declarators behind commas, up to a semicolon
abbrev pub declarators_at : {I : Type 0} → (initial : Reader I) → List Token
    → Outcome (List (Span × DeclaratorTree I) × Span × List Token)
declarators_at initial ts = until (take_mark punctuators.Semicolon) (further_at initial) (length ts) ts

-- the rest of a declaration, behind `int` and the first name (C17 6.7)
unfoldable pub declaration_after : {I : Type 0} → (initial : Reader I) → Span → names.Name → Reader (DeclarationTree I)
declaration_after initial int name ts = do
  d ← declarator_after initial name ts
  m ← declarators_at initial d.1
  Ok (record { int = int; first = d.0; rest = m.0; semicolon = m.1 }, m.2)

-- the rest of a declaration in a block or a `for`, behind `int`
unfoldable pub declared_at : {I : Type 0} → (initial : Reader I) → Span → Reader (DeclarationTree I)
declared_at initial int ts = name_at ts >>= λ n. declaration_after initial int n.0 n.1

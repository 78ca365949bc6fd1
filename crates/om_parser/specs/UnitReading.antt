-- For proofs: reading functions, items and the whole source from the left.
use Rattle.std.specs.Prelude.{List, [], ◌∷◌, length, Option, Some, None, Ok}
use Rattle.om_lexer.specs.declared.token.Keyword.TheVariants as keywords
use Rattle.om_lexer.specs.declared.token.Punctuator.TheVariants as punctuators
use Rattle.om_lexer.specs.declared.token.Span.{Span}
use Rattle.om_lexer.specs.declared.token.Token.{Token}
use Rattle.om_lexer.specs.declared.token.TokenKind.{TokenKind}
use Rattle.om_lexer.specs.declared.token.TokenKind.TheVariants as kinds
use Rattle.om_pragma.specs.declared.clause.Name as names
use Rattle.om_parser_tree.specs.declared.tree.ResultType.{ResultType}
use Rattle.om_parser_tree.specs.declared.tree.ResultType.TheVariants as results
use Rattle.om_parser_parts.specs.PartReading.{global_at}
use Rattle.om_parser.specs.FunctionReading.{head_after, named_head}
use Rattle.om_parser_tree.specs.Limits.{Limits}
use Rattle.om_parser_parts.specs.Reading.{◌>>=◌, choose, Outcome, Reader, take_mark, take_word, mark_at, word_at}
use Rattle.om_parser_parts.specs.Reading.{name_at}
use Rattle.om_parser_parts.specs.Repetition.{until}
use Rattle.om_parser.specs.StatementReading.{block_at}
use Rattle.om_parser_tree.specs.Tree.{HeadTree, ItemTree, Declaration, Prototype, Function, UnitTree}

-- ---- functions

-- the semicolon of a prototype or the body of a function, behind its head (C17 6.9.1)
unfoldable pub function_after : Limits → HeadTree (Option names.Name) → Reader ItemTree
function_after l head ts = choose (take_mark punctuators.Semicolon ts)
    (λ s. Ok (Prototype head s.0, s.1))
    (named_head ts head >>= λ h. block_at l ts >>= λ b. Ok (Function (record { head = h; body = b.0 }), b.1))

-- the rest of a prototype or function, behind its left parenthesis
unfoldable pub prototype_after : Limits → ResultType → names.Name → Span → Reader ItemTree
prototype_after l result name left ts = head_after result name left ts >>= λ h. function_after l h.0 h.1

-- ---- items

-- what stands behind `void`: the name of a function
unfoldable pub void_after : Limits → Span → Reader ItemTree
void_after l void ts = do
  n ← name_at ts
  p ← mark_at punctuators.OpenParen n.1
  prototype_after l (results.Void void) n.0 p.0 p.1

-- what stands behind `int`: the name of a function or of a variable
unfoldable pub int_after : Limits → Span → Reader ItemTree
int_after l int ts = do
  n ← name_at ts
  choose (take_mark punctuators.OpenParen n.1)
      (λ p. prototype_after l (results.Int int) n.0 p.0 p.1)
      (global_at int n.0 n.1 >>= λ d. Ok (Declaration d.0, d.1))

-- a declaration, a prototype or a function (C17 6.9)
unfoldable pub item_at : Limits → Reader ItemTree
item_at l ts = choose (take_word keywords.Void ts)
    (λ v. void_after l v.0 v.1)
    (word_at keywords.Int ts >>= λ i. int_after l i.0 i.1)

-- the end of the source, where nothing stands behind it
abbrev pub end_of : Token → List Token → Option (Span × List Token)
end_of t [] = end_in t.kind t.span
  where
    end_in : TokenKind → Span → Option (Span × List Token)
    end_in kinds.End s = Some (s, [])
    end_in _ s = None
end_of t (u ∷ us) = None

-- the end of the source, which must be last
unfoldable pub take_end : List Token → Option (Span × List Token)
take_end [] = None
take_end (t ∷ ts) = end_of t ts

-- the items up to the end of the source
abbrev pub items_to_end : Limits → List Token → Outcome (List ItemTree × Span × List Token)
items_to_end l ts = until take_end (item_at l) (length ts) ts

-- all of the tokens, as a unit
unfoldable pub unit_at : Limits → List Token → Outcome UnitTree
unit_at l ts = do
  u ← items_to_end l ts
  Ok (record { items = u.0; end = u.1 })

-- What functions return of a directive and the tokens behind it, with lists of tokens in place of slices.
use Rattle.std.specs.Prelude.{List, map}
use denote.Ref.{Bor}
use Rattle.om_lexer.specs.declared.token.Token.{Token}
use Rattle.om_pragma.specs.declared.clause.Clause.{Clause}
use Rattle.om_pragma.specs.declared.clause.ClauseItem.{ClauseItem}
use Rattle.om_pragma.specs.declared.clause.ClauseKind.{ClauseKind}
use Rattle.om_pragma.specs.Expressions.{map_clause, map_item, tokens_in}
use Rattle.om_pragma.specs.Table.{kinds_of}

-- a part without slices, and the tokens behind it
abbrev pub part_and_rest : {A : Type 0} → A × Bor (List Token) → A × List Token
part_and_rest = λ x. (x.0, x.1.now)

-- a clause and the tokens behind it
abbrev pub clause_and_rest : Clause (Bor (List Token)) × Bor (List Token) → Clause (List Token) × List Token
clause_and_rest = λ x. (map_clause tokens_in x.0, x.1.now)

-- a clause with the comma before it, and the tokens behind it
abbrev pub item_and_rest : ClauseItem (Bor (List Token)) × Bor (List Token) → ClauseItem (List Token) × List Token
item_and_rest = λ x. (map_item tokens_in x.0, x.1.now)

-- some clauses with their commas
abbrev pub seen_items : List (ClauseItem (Bor (List Token))) → List (ClauseItem (List Token))
seen_items = map (map_item tokens_in)

-- the kinds of some clauses
abbrev pub seen_kinds : List (ClauseItem (Bor (List Token))) → List ClauseKind
seen_kinds items = kinds_of (seen_items items)

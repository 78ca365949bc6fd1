-- The expressions of a directive.
use Rattle.std.specs.Prelude.{◌≡◌, ◌≢◌, ◌≤◌, ℕ, ◌+◌, ◌-◌, ◌==◌, List, [], ◌∷◌, map, length, Option, Some, None}
use Rattle.std.specs.Prelude.{if◌then◌else◌, IsSomeAnd, IfSome, option_to_list}
use Rattle.std.specs.List.{flat_map}
use denote.Ref.{Bor}
use Rattle.om_lexer.specs.declared.token.Punctuator.TheVariants as punctuators
use Rattle.om_lexer.specs.declared.token.Token.{Token}
use Rattle.om_lexer.specs.declared.token.TokenKind.{TokenKind}
use Rattle.om_lexer.specs.declared.token.TokenKind.TheVariants as kinds
use Rattle.om_pragma.specs.declared.clause.Clause.{Clause}
use Rattle.om_pragma.specs.declared.clause.Clause.TheVariants as clauses
use Rattle.om_pragma.specs.declared.clause.ClauseItem.{ClauseItem}
use Rattle.om_pragma.specs.declared.tree.Directive.{Directive}
use Rattle.om_pragma.specs.Words.{same_kind}

-- the expression of a clause, if it has one
abbrev pub clause_expression : {E : Type 0} → Clause E → Option E
clause_expression (clauses.Value k s v) = Some v.expression
clause_expression (clauses.Default s a) = None
clause_expression (clauses.Data k s l) = None
clause_expression (clauses.Reduction s r) = None
clause_expression (clauses.Schedule s a) = None
clause_expression (clauses.Plain k s) = None

-- the same as a list
abbrev pub clause_expressions : {E : Type 0} → Clause E → List E
clause_expressions c = option_to_list (clause_expression c)

-- the expressions of a directive
unfoldable pub expressions : {E : Type 0} → Directive E → List E
expressions d = flat_map (λ i. clause_expressions i.clause) d.clauses

-- this value, or the other where there is none
abbrev pub or_else : {A : Type 0} → Option A → Option A → Option A
or_else (Some x) other = Some x
or_else None other = other

-- the first of some clauses, and those behind it
abbrev pub take_item : {E : Type 0} → List (ClauseItem E) → Option (ClauseItem E × List (ClauseItem E))
take_item [] = None
take_item (i ∷ items) = Some (i, items)

-- the expression of the first of some clauses that has one
unfoldable pub first_expression : {E : Type 0} → List (ClauseItem E) → Option E
first_expression [] = None
first_expression (i ∷ items) = or_else (clause_expression i.clause) (first_expression items)

-- a clause with another expression in place of its own
abbrev pub map_clause : {E F : Type 0} → (E → F) → Clause E → Clause F
map_clause f (clauses.Value k s v) = clauses.Value k s
    (record { open_paren = v.open_paren; expression = f v.expression; close_paren = v.close_paren })
map_clause f (clauses.Default s a) = clauses.Default s a
map_clause f (clauses.Data k s l) = clauses.Data k s l
map_clause f (clauses.Reduction s r) = clauses.Reduction s r
map_clause f (clauses.Schedule s a) = clauses.Schedule s a
map_clause f (clauses.Plain k s) = clauses.Plain k s

abbrev pub map_item : {E F : Type 0} → (E → F) → ClauseItem E → ClauseItem F
map_item f i = record { comma = i.comma; clause = map_clause f i.clause }

-- a directive with other expressions in place of its own
abbrev pub map_directive : {E F : Type 0} → (E → F) → Directive E → Directive F
map_directive f d = record {
  hash = d.hash;
  pragma = d.pragma;
  omp = d.omp;
  name = d.name;
  clauses = map (map_item f) d.clauses;
  end = d.end;
}

-- a function that gives the value, where there is one
abbrev pub IsValue : {E F : Type 0} → (E → F) → Option F → Type 0
IsValue {E} f value = IfSome value (λ v. (e : E) → f e ≡ v)

-- the value can be put in place of these expressions: they are one at most, and none where there is no value
abbrev pub CanFill : {E F : Type 0} → Option F → List E → Type 0
CanFill value expressions = length expressions ≤ length (option_to_list value)

-- the value is left behind these expressions, unless one of them takes it
abbrev pub IsLeftBehind : {E F : Type 0} → Option F → List E → Option F → Type 0
IsLeftBehind value expressions left = length (option_to_list value) ≤ length expressions
    + length (option_to_list left)

-- the new part is what the old one is mapped to, by each function that gives this value
abbrev pub IsFilled : {E F A B : Type 0} → ((E → F) → A → B) → Option F → A → B → Type 0
IsFilled {E} {F} mapped value old new = (f : E → F) → IsValue f value → new ≡ mapped f old

-- the tokens that a slice has
abbrev pub tokens_in : Bor (List Token) → List Token
tokens_in slice = slice.now

-- a directive whose expressions are lists of tokens, of one whose expressions are slices
abbrev pub with_tokens : Directive (Bor (List Token)) → Directive (List Token)
with_tokens = map_directive tokens_in

-- how many parentheses are open behind a token; one that was not opened may not be closed
abbrev pub open_behind : TokenKind → ℕ → Option ℕ
open_behind k n =
    if same_kind k (kinds.Punctuator punctuators.OpenParen) then Some (n + 1)
    else if same_kind k (kinds.Punctuator punctuators.CloseParen) then (if n == 0 then None else Some (n - 1))
    else Some n

-- each parenthesis among the tokens is closed among them, and so many that are open before them
unfoldable pub Closes : ℕ → List Token → Type 0
Closes n [] = n ≡ 0
Closes n (t ∷ ts) = IsSomeAnd (open_behind t.kind n) (λ m. Closes m ts)

-- one or more tokens whose parentheses are paired among them
abbrev pub IsClosed : List Token → Type 0
IsClosed tokens = (tokens ≢ []) × Closes 0 tokens

-- The breaches of an expression stand at its tokens, in their order.
use Rattle.std.proofs.Common.{◌≡◌, ℕ, ◌+◌, ◌==◌, Bool, true, false, List, [], ◌∷◌, ◌++◌, refl, sym, ap, subst, arith}
use Rattle.std.proofs.Common.{append_assoc}
use Rattle.std.specs.Prelude.{nat_lt, not, ◌||◌, if◌then◌else◌}
use Rattle.om_lexer.specs.declared.fault.FaultCode.{FaultCode}
use Rattle.om_lexer.specs.declared.fault.FaultCode.TheVariants as faults
use Rattle.om_lexer.specs.Faults.{number_of}
use Rattle.om_lexer.specs.declared.fault.SourceFault.{SourceFault}
use Rattle.om_lexer.specs.declared.token.Punctuator.TheVariants as punctuators
use Rattle.om_lexer.specs.declared.token.Token.{Token}
use Rattle.om_pragma.specs.declared.clause.Name as names
use Rattle.om_parser_tree.specs.Spelling.{arguments_spelling, expression_spelling, mark, name}
use Rattle.om_parser_tree.specs.Spelling.{number, perhaps, prefix_mark, text}
use Rattle.om_parser_tree.specs.Tree.{ExpressionTree, Name, Constant, Text, Paren, Index, Call, Prefix, Postfix, Binary}
use Rattle.om_parser_tree.specs.Tree.{Conditional, Assign, ArgumentsTree, NoArguments, Argument}
use Rattle.om_scope_rules.specs.declared.limits.TheConstants.{PRINTED_LIMIT}
use Rattle.om_scope_rules.specs.ExpressionRules.{argument_count, arguments_breaches, array_breaches, call_breaches}
use Rattle.om_scope_rules.specs.ExpressionRules.{constant_breaches, expression_breaches, is_array, is_miscalled}
use Rattle.om_scope_rules.specs.ExpressionRules.{is_print}
use Rattle.om_scope_rules.specs.ExpressionRules.{is_printf, is_scalar, is_step, is_target, is_undeclared}
use Rattle.om_scope_rules.specs.ExpressionRules.{leading_breaches, misplaced_breaches, misprint_breaches}
use Rattle.om_scope_rules.specs.ExpressionRules.{printed_breaches}
use Rattle.om_scope_rules.specs.ExpressionRules.{scalar_breaches, target_breaches}
use Rattle.om_scope_rules.specs.Faults.{breach_if, perhaps_with, with_breach}
use Rattle.om_scope_rules.specs.Places.{expression_start}
use Rattle.om_scope_rules.specs.Scopes.{Scopes, meaning_of}
use Rattle.om_scope_rules.specs.Sharing.{is_copied, is_unlisted}
use Rattle.om_scope_laws.proofs.TokenBreaches.{Among, IsWide, RiseAt, before, behind, chosen, first, first_alone}
use Rattle.om_scope_laws.proofs.TokenBreaches.{further}
use Rattle.om_scope_laws.proofs.TokenBreaches.{Rises, inserted, none, one, rise_at, rise_next, stands, together}

-- ---- names

-- S7, S9 and S13 at a name, as far as they are broken
pub three : (start : ℕ) (undeclared misused unlisted : Bool)
    → RiseAt start 0 (breach_if undeclared faults.Undeclared start ++ breach_if misused faults.Misuse start
    ++ breach_if unlisted faults.Unlisted start)
three start undeclared misused unlisted =
    rise_at start 0 13 _
    (rise_next start 0 9 13 (breach_if undeclared faults.Undeclared start ++ breach_if misused faults.Misuse start)
    (breach_if unlisted faults.Unlisted start)
    (rise_next start 0 7 9 (breach_if undeclared faults.Undeclared start) (breach_if misused faults.Misuse start)
    (one undeclared faults.Undeclared start 0 7 (omega arith) (omega arith))
    (one misused faults.Misuse start 7 9 (omega arith) (omega arith)))
    (one unlisted faults.Unlisted start 9 13 (omega arith) (omega arith)))

pub two : (start : ℕ) (undeclared misused : Bool) → RiseAt start 0 (breach_if undeclared faults.Undeclared start
    ++ breach_if misused faults.Misuse start)
two start undeclared misused =
    rise_at start 0 9 _
    (rise_next start 0 7 9 (breach_if undeclared faults.Undeclared start) (breach_if misused faults.Misuse start)
    (one undeclared faults.Undeclared start 0 7 (omega arith) (omega arith))
    (one misused faults.Misuse start 7 9 (omega arith) (omega arith)))

-- one rule at a place
pub alone : (broken : Bool) (code : FaultCode) (start : ℕ) → RiseAt start 0 (breach_if broken code start)
alone broken code start =
    rise_at start 0 (number_of code) (breach_if broken code start)
    (one broken code start 0 (number_of code) (omega arith) (omega arith))

scalar_rises : (scopes : Scopes) (n : names.Name) → RiseAt n.span.start 0 (scalar_breaches scopes n)
scalar_rises scopes n =
    three n.span.start (is_undeclared scopes n.text (meaning_of scopes n.text))
    (not (is_scalar (meaning_of scopes n.text))) (is_unlisted scopes n.text)

array_rises : (scopes : Scopes) (n : names.Name) → RiseAt n.span.start 0 (array_breaches scopes n)
array_rises scopes n =
    three n.span.start (is_undeclared scopes n.text (meaning_of scopes n.text))
    (not (is_array (meaning_of scopes n.text)) || is_copied scopes n.text) (is_unlisted scopes n.text)

call_rises : (scopes : Scopes) (used : Bool) (n : names.Name) (count : ℕ)
    → RiseAt n.span.start 0 (call_breaches scopes used n count)
call_rises scopes used n count =
    two n.span.start (is_undeclared scopes n.text (meaning_of scopes n.text))
    (is_miscalled used n.text count (meaning_of scopes n.text))

-- at a name, and then behind it
pub named : (n : names.Name) (here bs : List SourceFault) (ts : List Token) → RiseAt n.span.start 0 here → Among bs ts
    → Among (here ++ bs) (name n ∷ ts)
named n here bs ts r h = first here bs (name n) ts (stands (name n) here tt r) h

pub named_alone : (n : names.Name) (here : List SourceFault) (ts : List Token) → RiseAt n.span.start 0 here
    → Among here (name n ∷ ts)
named_alone n here ts r = first_alone here (name n) ts (stands (name n) here tt r)

-- ---- the first token of an expression

-- these begin with a token with a width, at this byte
pub record BeginsAt (start : ℕ) (ts : List Token) : Type 0 where
  pub token : Token
  pub rest : List Token
  pub parts : ts ≡ token ∷ rest
  pub start_is : token.span.start ≡ start
  pub width : IsWide token.kind

pub begins_with : (t : Token) (rest : List Token) → IsWide t.kind → BeginsAt t.span.start (t ∷ rest)
begins_with t rest w = record { token = t; rest = rest; parts = refl; start_is = refl; width = w }

pub begins_more : (start : ℕ) (ts us : List Token) → BeginsAt start ts → BeginsAt start (ts ++ us)
begins_more start ts us b = record {
  token = b.token;
  rest = b.rest ++ us;
  parts = ap (λ z. z ++ us) b.parts;
  start_is = b.start_is;
  width = b.width;
}

-- it begins as this part of it does
pub begins : (e : ExpressionTree) → BeginsAt (expression_start e) (expression_spelling e)
unfolding expression_spelling
begins (Name n) = begins_with (name n) [] tt
begins (Constant n) = begins_with (number n) [] tt
begins (Text t) = begins_with (text t) [] tt
begins (Paren left e right) = begins_with (mark punctuators.OpenParen left) _ tt
begins (Index n left e right) = begins_with (name n) _ tt
begins (Call n left values right) = begins_with (name n) _ tt
begins (Prefix o at e) = begins_with (mark (prefix_mark o) at) _ tt
begins (Postfix e o at) = begins_more (expression_start e) (expression_spelling e) _ (begins e)
begins (Binary a o at b) = begins_more (expression_start a) (expression_spelling a) _ (begins a)
begins (Conditional c question a colon b) = begins_more (expression_start c) (expression_spelling c) _ (begins c)
begins (Assign a o at b) = begins_more (expression_start a) (expression_spelling a) _ (begins a)

-- breaches at the first token
pub at_begin : (start : ℕ) (ts : List Token) (here : List SourceFault) → BeginsAt start ts → RiseAt start 0 here
    → Among here ts
at_begin start ts here b r =
    subst (λ z. Among here z) (sym b.parts)
    (first_alone here b.token b.rest (stands b.token here b.width (subst (λ n. RiseAt n 0 here) (sym b.start_is) r)))

-- a further one there
pub inserted_at : (b : SourceFault) (ts : List Token) (bs : List SourceFault) → BeginsAt b.at ts → Among bs ts
    → Among (with_breach b bs) ts
inserted_at b ts bs begin h =
    subst (λ z. Among (with_breach b bs) z) (sym begin.parts)
    (inserted b bs begin.token begin.rest (sym begin.start_is) begin.width (subst (λ z. Among bs z) begin.parts h))

-- S7 of the name that an expression begins with
leading_rises : (scopes : Scopes) (e : ExpressionTree) → Rises (expression_start e) 0 7 (leading_breaches scopes e)
unfolding leading_breaches
leading_rises scopes (Name n) = one (is_undeclared scopes n.text (meaning_of scopes n.text)) faults.Undeclared
    n.span.start 0 7 (omega arith) (omega arith)
leading_rises scopes (Constant n) = omega arith
leading_rises scopes (Text t) = omega arith
leading_rises scopes (Paren left e right) = omega arith
leading_rises scopes (Index n left e right) = one (is_undeclared scopes n.text (meaning_of scopes n.text))
    faults.Undeclared n.span.start 0 7 (omega arith) (omega arith)
leading_rises scopes (Call n left values right) = one (is_undeclared scopes n.text (meaning_of scopes n.text))
    faults.Undeclared n.span.start 0 7 (omega arith) (omega arith)
leading_rises scopes (Prefix o at e) = omega arith
leading_rises scopes (Postfix e o at) = leading_rises scopes e
leading_rises scopes (Binary a o at b) = leading_rises scopes a
leading_rises scopes (Conditional c question a colon b) = leading_rises scopes c
leading_rises scopes (Assign a o at b) = leading_rises scopes a

pub misplaced_among : (scopes : Scopes) (e : ExpressionTree) → Among (misplaced_breaches scopes e)
    (expression_spelling e)
misplaced_among scopes e =
    at_begin (expression_start e) (expression_spelling e) (misplaced_breaches scopes e) (begins e)
    (rise_at (expression_start e) 0 9 (misplaced_breaches scopes e)
    (rise_next (expression_start e) 0 7 9 (leading_breaches scopes e)
    (breach_if true faults.Misuse (expression_start e))
    (leading_rises scopes e) (one true faults.Misuse (expression_start e) 7 9 (omega arith) (omega arith))))

-- S11 at the first token of a value too many
counted_among : (broken : Bool) (at : ℕ) (ts : List Token) (bs : List SourceFault) → BeginsAt at ts → Among bs ts
    → Among (perhaps_with broken faults.TooMany at bs) ts
counted_among true at ts bs b h = inserted_at (record { code = faults.TooMany; at = at }) ts bs b h
counted_among false at ts bs b h = h

-- ---- expressions

mutual
  unfolding expression_breaches arguments_breaches printed_breaches target_breaches expression_spelling
      arguments_spelling

  pub expression_among : (e : ExpressionTree) (scopes : Scopes) (used : Bool)
      → Among (expression_breaches scopes used e) (expression_spelling e)
  expression_among (Name n) scopes used = named_alone n (scalar_breaches scopes n) [] (scalar_rises scopes n)
  expression_among (Constant n) scopes used =
      first_alone (constant_breaches n) (number n) []
      (stands (number n) (constant_breaches n) tt
      (alone (nat_lt 2147483647 n.value) faults.ConstantTooLarge n.span.start))
  expression_among (Text t) scopes used =
      first_alone (breach_if true faults.Misuse t.span.start) (text t) []
      (stands (text t) (breach_if true faults.Misuse t.span.start) tt
      (alone true faults.Misuse t.span.start))
  expression_among (Paren left e right) scopes used =
      further _ _ _ (before _ (expression_spelling e) _ (expression_among e scopes used))
  expression_among (Index n left e right) scopes used =
      named n (array_breaches scopes n) (expression_breaches scopes true e) _ (array_rises scopes n)
      (further _ _ _ (before _ (expression_spelling e) _ (expression_among e scopes true)))
  expression_among (Call n left values right) scopes used =
      chosen (is_printf (meaning_of scopes n.text))
      (misprint_breaches used n values ++ printed_breaches scopes 0 values)
      (call_breaches scopes used n (argument_count values) ++ arguments_breaches scopes values) _
      (named n (misprint_breaches used n values) (printed_breaches scopes 0 values) _
      (alone (used || not (is_print values)) faults.Misuse n.span.start)
      (further _ _ _ (before _ (arguments_spelling values) _ (printed_among values scopes 0))))
      (named n (call_breaches scopes used n (argument_count values)) (arguments_breaches scopes values) _
      (call_rises scopes used n (argument_count values))
      (further _ _ _ (before _ (arguments_spelling values) _ (arguments_among values scopes))))
  expression_among (Prefix o at e) scopes used =
      chosen (is_step o) (target_breaches scopes e) (expression_breaches scopes true e) _
      (further _ _ _ (target_among e scopes)) (further _ _ _ (expression_among e scopes true))
  expression_among (Postfix e o at) scopes used = before _ (expression_spelling e) _ (target_among e scopes)
  expression_among (Binary a o at b) scopes used =
      together (expression_breaches scopes true a) (expression_breaches scopes true b) (expression_spelling a) _
      (expression_among a scopes true) (further _ _ _ (expression_among b scopes true))
  expression_among (Conditional c question a colon b) scopes used =
      subst (λ z. Among z (expression_spelling (Conditional c question a colon b))) (sym (append_assoc
      (expression_breaches scopes true c) (expression_breaches scopes true a) (expression_breaches scopes true b)))
      (together (expression_breaches scopes true c)
      (expression_breaches scopes true a ++ expression_breaches scopes true b) (expression_spelling c) _
      (expression_among c scopes true)
      (further _ _ _ (together (expression_breaches scopes true a) (expression_breaches scopes true b)
      (expression_spelling a) _ (expression_among a scopes true) (further _ _ _ (expression_among b scopes true)))))
  expression_among (Assign a o at b) scopes used =
      together (target_breaches scopes a) (expression_breaches scopes true b) (expression_spelling a) _
      (target_among a scopes) (further _ _ _ (expression_among b scopes true))

  arguments_among : (values : ArgumentsTree) (scopes : Scopes)
      → Among (arguments_breaches scopes values) (arguments_spelling values)
  arguments_among NoArguments scopes = none []
  arguments_among (Argument comma e rest) scopes =
      let front = perhaps (λ at. mark punctuators.Comma at ∷ []) comma in
      together (expression_breaches scopes true e) (arguments_breaches scopes rest) (front ++ expression_spelling e)
      (arguments_spelling rest) (behind _ front (expression_spelling e) (expression_among e scopes true))
      (arguments_among rest scopes)

  printed_among : (values : ArgumentsTree) (scopes : Scopes) (place : ℕ)
      → Among (printed_breaches scopes place values) (arguments_spelling values)
  printed_among NoArguments scopes place = none []
  printed_among (Argument comma e rest) scopes place =
      let counted = perhaps_with (nat_lt PRINTED_LIMIT place) faults.TooMany (expression_start e)
      (expression_breaches scopes true e) in
      let front = perhaps (λ at. mark punctuators.Comma at ∷ []) comma in
      together (if place == 0 then [] else counted) (printed_breaches scopes (place + 1) rest)
      (front ++ expression_spelling e) (arguments_spelling rest)
      (behind _ front (expression_spelling e)
      (chosen (place == 0) [] counted (expression_spelling e) (none (expression_spelling e))
      (counted_among (nat_lt PRINTED_LIMIT place) (expression_start e) (expression_spelling e)
      (expression_breaches scopes true e)
      (begins e) (expression_among e scopes true))))
      (printed_among rest scopes (place + 1))

  pub target_among : (e : ExpressionTree) (scopes : Scopes) → Among (target_breaches scopes e) (expression_spelling e)
  target_among (Name n) scopes = named_alone n (scalar_breaches scopes n) [] (scalar_rises scopes n)
  target_among (Index n left e right) scopes =
      named n (array_breaches scopes n) (expression_breaches scopes true e) _ (array_rises scopes n)
      (further _ _ _ (before _ (expression_spelling e) _ (expression_among e scopes true)))
  target_among (Paren left e right) scopes =
      chosen (is_target e) (target_breaches scopes e) (misplaced_breaches scopes (Paren left e right)) _
      (further _ _ _ (before _ (expression_spelling e) _ (target_among e scopes)))
      (misplaced_among scopes (Paren left e right))
  target_among (Text t) scopes = misplaced_among scopes (Text t)
  target_among (Constant n) scopes = misplaced_among scopes (Constant n)
  target_among (Call n left values right) scopes = misplaced_among scopes (Call n left values right)
  target_among (Prefix o at e) scopes = misplaced_among scopes (Prefix o at e)
  target_among (Postfix e o at) scopes = misplaced_among scopes (Postfix e o at)
  target_among (Binary a o at b) scopes = misplaced_among scopes (Binary a o at b)
  target_among (Conditional c question a colon b) scopes = misplaced_among scopes (Conditional c question a colon b)
  target_among (Assign a o at b) scopes = misplaced_among scopes (Assign a o at b)

-- What `om_pragma` answers for a run is what its reading gives, by its laws.
use Rattle.std.proofs.Common.{◌≡◌, ℕ, ◌≤◌, List, length, Option, Some, None, Result, Ok, Err, refl, sym, ◌⊎◌, inl, inr}
use Rattle.std.specs.Prelude.{IfOk, IfErr, IfSome, option_map}
use denote.Ref.{Bor}
use Rattle.om_lexer.specs.Faults.{no_memory}
use Rattle.om_lexer.specs.declared.fault.FaultCode.TheVariants as codes
use Rattle.om_lexer.specs.declared.fault.SourceFault.{SourceFault}
use Rattle.om_lexer.specs.declared.token.Token.{Token}
use Rattle.om_pragma.specs.declared.tree.Directive.{Directive}
use Rattle.om_pragma.specs.Expressions.{expressions, with_tokens, IsClosed}
use Rattle.om_pragma.specs.Reading.{directive_at, expression_before}
use Rattle.om_pragma.specs.Refusals.{ClausesStand, IsAnswer, IsRefusal, IsWordFault, StopsAt, EndsOnce}
use Rattle.om_pragma.specs.Table.{IsDirective, IsDirectiveOf}
use Rattle.om_pragma.specs.Values.{StandsAsValue, IsFirstValue}
use Rattle.om_parser_parts.specs.Reading.{Reads}
use Rattle.om_parser_parts.specs.Outcomes.{some}

-- ---- the directive of a run

abbrev pub OnlyOne : Type 0
OnlyOne = (ts : List Token) (a b : Result (Directive (List Token)) SourceFault) → IsAnswer ts a → IsAnswer ts b → a ≡ b

abbrev pub IsReading : Type 0
IsReading = (ts : List Token) → EndsOnce ts → IsAnswer ts (directive_at ts)

abbrev pub HasOneExpression : Type 0
HasOneExpression = (d : Directive (List Token)) → IsDirective IsClosed d → length (expressions d) ≤ 1

-- what is read of a run is a directive with its tokens
pub run_directive : IsReading → (run : List Token) → EndsOnce run → (d : Directive (List Token)) → directive_at run
    ≡ Ok d → IsDirectiveOf run d
run_directive is_read run once d is = rw is at (is_read run once)

-- a directive with the tokens of a run is read of it
pub run_reads : OnlyOne → IsReading → (run : List Token) → EndsOnce run → (d : Directive (List Token))
    → IsDirectiveOf run d → directive_at run ≡ Ok d
run_reads only is_read run once d is = only run (directive_at run) (Ok d) (is_read run once) is

-- what is refused of a run
pub run_refused : IsReading → (run : List Token) → EndsOnce run → (f : SourceFault) → directive_at run ≡ Err f
    → (f.code ≡ codes.Syntax) ⊎ IsWordFault run f.code f.at
run_refused is_read run once f is = go (rw is at (is_read run once))
  where
    go : IsAnswer run (Err f) → (f.code ≡ codes.Syntax) ⊎ IsWordFault run f.code f.at
    go (inl syntax, stops) = inl syntax.0
    go (inr word, stops) = inr word

pub answered : OnlyOne → IsReading → (run : List Token) → EndsOnce run
    → (r : Result (Directive (Bor (List Token))) SourceFault)
    → IfOk r (λ d. IsDirectiveOf run (with_tokens d)) → IfErr r (λ f. (f ≡ no_memory) ⊎ IsRefusal run f)
    → IfErr r (λ f. f.code ≡ codes.Syntax → EndsOnce run → StopsAt run f.at)
    → Reads with_tokens r (directive_at run)
answered only is_read run once (Ok d) found refused stops = only run (directive_at run) (Ok (with_tokens d))
    (is_read run once) found
answered only is_read run once (Err f) found (inl memory) stops = inl memory
answered only is_read run once (Err f) found (inr refusal) stops = inr (only run (directive_at run) (Err f)
    (is_read run once) (refusal, λ syntax. stops syntax once))

-- ---- an expression before a place

abbrev pub FindsFirst : Type 0
FindsFirst = (ts es : List Token) (place : ℕ) → expression_before place ts ≡ some es → IsFirstValue ts place es

pub value_found : FindsFirst → ((ts es : List Token) (place : ℕ) → IsFirstValue ts place es → expression_before
    place ts ≡ some es)
    → (ts : List Token) (place : ℕ) (o : Option (Bor (List Token))) → IfSome o (λ e. IsFirstValue ts place e.now)
    → (o ≡ None → (e : List Token) → StandsAsValue ts place e → ⊥)
    → option_map (λ (e : Bor (List Token)). e.now) o ≡ expression_before place ts
value_found only found ts place (Some e) first absent = sym (found ts e.now place first)
value_found only found ts place None first absent = go (expression_before place ts) refl
  where
    go : (o : Option (List Token)) → expression_before place ts ≡ o → None ≡ o
    go None is = refl
    go (Some x) is = absurd (absent refl x (only ts x place is).stands)

-- what is known of reading directives
pub record LineLaws : Type 0 where
  pub only : OnlyOne
  pub is_read : IsReading
  pub stand : ClausesStand
  pub first : FindsFirst

-- What `directive` promises, from what is read.
use Rattle.std.proofs.Common.{◌≡◌, ◌≤◌, List, length, Result, Ok, Err, sym, ap, ◌∙◌, ◌⊎◌, inl, inr, arith}
use Rattle.std.specs.Prelude.{◌≢◌, All, IfOk, IfErr}
use Rattle.std.proofs.lemmas.List.{length-map}
use denote.Ref.{Bor}
use Rattle.om_lexer.specs.Faults.{no_memory}
use Rattle.om_lexer.specs.declared.fault.FaultCode.TheVariants as codes
use Rattle.om_lexer.specs.declared.fault.SourceFault.{SourceFault}
use Rattle.om_lexer.specs.declared.token.Token.{Token}
use Rattle.om_pragma.specs.declared.tree.Directive.{Directive}
use Rattle.om_pragma.specs.Expressions.{expressions, tokens_in, with_tokens, IsClosed}
use Rattle.om_pragma.specs.Reading.{directive_at, Reads}
use Rattle.om_lexer.specs.declared.token.TokenKind.TheVariants as kinds
use Rattle.om_pragma.specs.Refusals.{IsRefusal, IsFound, BeginsDirective, StopsAt, EndsOnce}
use Rattle.om_pragma.specs.Table.{IsDirectiveOf}
use Rattle.om_pragma.proofs.Directives.{directive_is, read_again}
use Rattle.om_pragma.proofs.Halts.{syntax_stops, endless_stops}
use Rattle.om_pragma.proofs.Mapping.{mapped_expressions}
use Rattle.om_pragma.proofs.OneExpression.{one_expression}
use Rattle.om_pragma.proofs.Outcomes.{ok_is, ok_err}
use Rattle.om_pragma.proofs.Refused.{refusal}

module _ (ts : List Token) where
  pub is_found : (r : Result (Directive (Bor (List Token))) SourceFault) → Reads with_tokens r (directive_at ts)
      → IfOk r (λ d. IsDirectiveOf ts (with_tokens d))
  is_found (Ok d) h = directive_is ts (with_tokens d) h
  is_found (Err f) h = tt

  pub is_only : (r : Result (Directive (Bor (List Token))) SourceFault) → Reads with_tokens r (directive_at ts)
      → (d : Directive (List Token)) → IsDirectiveOf ts d → IsFound d r
  is_only (Ok found) h d is = ok_is (with_tokens found) d (sym h ∙ read_again ts d is)
  is_only (Err f) (inl memory) d is = memory
  is_only (Err f) (inr e) d is = absurd (ok_err d f (sym (read_again ts d is) ∙ e))

  pub is_refused : (r : Result (Directive (Bor (List Token))) SourceFault) → Reads with_tokens r (directive_at ts)
      → IfErr r (λ f. (f ≡ no_memory) ⊎ IsRefusal ts f)
  is_refused (Ok d) h = tt
  is_refused (Err f) (inl memory) = inl memory
  is_refused (Err f) (inr e) = inr (refusal ts f e)

  pub has_one_expression : (r : Result (Directive (Bor (List Token))) SourceFault) → Reads with_tokens r
      (directive_at ts) → IfOk r (λ d. length (expressions d) ≤ 1)
  has_one_expression (Ok d) h =
      let one = one_expression IsClosed (with_tokens d) (directive_is ts (with_tokens d) h).formed in
      omega (arith, one, ap length (mapped_expressions tokens_in d), length-map (expressions d) tokens_in)
  has_one_expression (Err f) h = tt

  pub is_first : (r : Result (Directive (Bor (List Token))) SourceFault) → Reads with_tokens r (directive_at ts)
      → IfErr r (λ f. f.code ≡ codes.Syntax → EndsOnce ts → StopsAt ts f.at)
  is_first (Ok d) h = tt
  is_first (Err f) (inl memory) = λ syntax once. let both : no_memory.code ≡ codes.Syntax =
      ap (λ (g : SourceFault). g.code) (sym memory) ∙ syntax in absurd cc
  is_first (Err f) (inr e) = λ syntax once. syntax_stops ts f once e syntax

  pub is_first_or_out : (r : Result (Directive (Bor (List Token))) SourceFault) → Reads with_tokens r
      (directive_at ts) → IfErr r (λ f. f.code ≡ codes.Syntax → All (λ t. t.kind ≢ kinds.DirectiveEnd) ts
      → StopsAt ts f.at ⊎ BeginsDirective ts)
  is_first_or_out (Ok d) h = tt
  is_first_or_out (Err f) (inl memory) = λ syntax endless. let both : no_memory.code ≡ codes.Syntax =
      ap (λ (g : SourceFault). g.code) (sym memory) ∙ syntax in absurd cc
  is_first_or_out (Err f) (inr e) = λ syntax endless. endless_stops ts f endless e syntax

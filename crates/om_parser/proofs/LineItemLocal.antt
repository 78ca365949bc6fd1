-- An item that begins with a directive line, or is refused for it, is read as far as the next token.
use Rattle.std.proofs.Common.{◌≡◌, ℕ, suc, ◌+◌, ◌<◌, List, [], ◌∷◌, ◌++◌, length, Ok, Err, refl}
use Rattle.std.proofs.Common.{sym, ap, subst, ◌∙◌, append_assoc, length-append, arith, inl, inr}
use Rattle.std.specs.Prelude.{◌≢◌}
use Rattle.std.specs.List.{flat_map}
use Rattle.om_lexer.specs.declared.fault.FaultCode.TheVariants as codes
use Rattle.om_lexer.specs.declared.fault.SourceFault.{SourceFault}
use Rattle.om_lexer.specs.declared.token.Span.{Span}
use Rattle.om_lexer.specs.declared.token.Token.{Token}
use Rattle.om_lexer.specs.declared.token.TokenKind.TheVariants as kinds
use Rattle.om_pragma.specs.declared.tree.Directive.{Directive}
use Rattle.om_pragma.specs.Spelling.{directive_spelling, opening_spelling, name_spelling, item_spelling}
use Rattle.om_parser.specs.declared.construct.LineStart.TheVariants as lines
use Rattle.om_parser.specs.ConstructReading.{line_start, from_word}
use Rattle.om_parser_parts.specs.Halting.{Unended}
use Rattle.om_parser_parts.specs.Laws.{ArePartsSound}
use Rattle.om_parser_parts.specs.Local.{Suffices, ArePartsLocal}
use Rattle.om_parser_parts.specs.Outcomes.{ok, err_is}
use Rattle.om_parser_parts.specs.PartReading.{Parts}
use Rattle.om_parser_parts.specs.Reading.{Outcome, Reader, syntax}
use Rattle.om_parser_tree.specs.Limits.{Limits}
use Rattle.om_parser_tree.specs.Spelling.{token, expression_spelling}
use Rattle.om_parser_tree.specs.Tree.{ExpressionTree}
use Rattle.om_parser.proofs.ItemLocal.{lined, Decided, Test, IsGivenAt, IsItemAt, behind}
use Rattle.om_parser.proofs.LineStarts.{line_start_is}

abbrev pub spelled : Directive ExpressionTree → List Token
spelled d = directive_spelling expression_spelling d

line_decided : (d : Directive ExpressionTree) → Decided (spelled d)
line_decided d us vs = line_start_is d us ∙ sym (line_start_is d vs)

line_some : (d : Directive ExpressionTree) → 0 < length (spelled d)
unfolding directive_spelling opening_spelling
line_some d = omega arith

unended_last : (front : List Token) (t : Token) → t.kind ≢ kinds.End → Unended (front ++ t ∷ [])
unfolding Unended
unended_last [] t other = other
unended_last (u ∷ []) t other = other
unended_last (u ∷ (v ∷ front)) t other = unended_last (v ∷ front) t other

line_unended : (d : Directive ExpressionTree) → Unended (spelled d)
unfolding directive_spelling
line_unended d =
    let before : List Token = opening_spelling d.hash d.pragma d.omp
    ++ (name_spelling d.name ++ flat_map (item_spelling expression_spelling) d.clauses) in
    let parts : before ++ token kinds.DirectiveEnd d.end ∷ [] ≡ spelled d = simp append_assoc in
    subst Unended parts (unended_last before (token kinds.DirectiveEnd d.end) (λ e. absurd cc))

module _ (p : Parts) (l : Limits) (sound : ArePartsSound p l) (local : ArePartsLocal p) {A : Type 0} (m n : ℕ)
    (next : Test) (r : Reader A) (g : Directive ExpressionTree → Reader A) (hash : Span) (us : List Token) where
  abbrev here : List Token
  here = token kinds.DirectiveBegin hash ∷ us

  -- an item behind a line
  pub by_line : Suffices m (lined n) here → ((f : SourceFault) → p.line here ≡ Err f → r here ≡ Err f)
      → ((d : Directive ExpressionTree) (vs : List Token) → p.line (spelled d ++ vs) ≡ Ok (d, vs)
      → line_start (spelled d ++ vs) ≡ line_start here → r (spelled d ++ vs) ≡ g d vs)
      → ((d : Directive ExpressionTree) (vs : List Token) → Suffices (suc m) (lined n) vs
      → IsGivenAt (suc m) next (g d) n vs)
      → IsItemAt m next r n here
  by_line far fails same inner = go (p.line here) refl
    where
      go : (o : Outcome (Directive ExpressionTree × List Token)) → p.line here ≡ o → IsItemAt m next r n here
      go (Ok x) is =
          let parts : here ≡ spelled x.0 ++ x.1 = (sound.line here x is).parts in
          let start : line_start here ≡ line_start (spelled x.0 ++ x.1) = ap line_start parts in
          let less : Suffices (suc m) (lined n) x.1 = omega (
            arith,
            far,
            ap length parts,
            length-append (spelled x.0) x.1,
            line_some x.0,
          ) in
          subst (IsItemAt m next r n) (sym parts) (behind m next r (g x.0) n (spelled x.0) x.1 (line_unended x.0)
          (line_some x.0) (line_decided x.0)
          (λ vs. same x.0 vs (local.line_before here x is vs) (line_decided x.0 vs x.1 ∙ sym start))
          (λ k. inner x.0 x.1 less))
      go (Err f) is = record {
        takes = λ x e. let both : ok x ≡ Err f = sym e ∙ fails f is in absurd cc;
        halts = λ d e wrong. inr (local.line_halts hash us d (is ∙ ap (λ (c : SourceFault). Err c)
            (err_is f d (sym (fails f is) ∙ e))) wrong);
      }

  -- a line that may not stand here
  pub misplaced_item : (line_start here ≡ lines.Unknown → ⊥)
      → ((vs : List Token) → line_start (token kinds.DirectiveBegin hash ∷ vs) ≡ line_start here
      → r (token kinds.DirectiveBegin hash ∷ vs) ≡ Err (syntax (from_word (token kinds.DirectiveBegin hash ∷ vs))))
      → IsItemAt m next r n here
  misplaced_item known same = go us known same
    where
      go : (us : List Token) → (line_start (token kinds.DirectiveBegin hash ∷ us) ≡ lines.Unknown → ⊥)
          → ((vs : List Token) → line_start (token kinds.DirectiveBegin hash ∷ vs)
          ≡ line_start (token kinds.DirectiveBegin hash ∷ us) → r (token kinds.DirectiveBegin hash ∷ vs)
          ≡ Err (syntax (from_word (token kinds.DirectiveBegin hash ∷ vs))))
          → IsItemAt m next r n (token kinds.DirectiveBegin hash ∷ us)
      go [] known same = absurd (known refl)
      go (a ∷ []) known same = absurd (known refl)
      go (a ∷ (b ∷ [])) known same = absurd (known refl)
      go (a ∷ (b ∷ (w ∷ after))) known same = record {
        takes = λ x e. let both : ok x ≡ Err (syntax (w ∷ after)) = sym e ∙ same (a ∷ (b ∷ (w ∷ after))) refl in
            absurd cc;
        halts = λ f e wrong.
            let is : syntax (w ∷ after) ≡ f = err_is (syntax (w ∷ after)) f (sym (same (a ∷ (b ∷ (w ∷ after))) refl)
            ∙ e) in
            inl (
              record {
                front = token kinds.DirectiveBegin hash ∷ a ∷ b ∷ [];
                token = w;
                after = after;
                parts = refl;
                at_place = ap (λ (c : SourceFault). c.at) is;
                again = λ j other room far. same (a ∷ (b ∷ (w ∷ other))) refl ∙ ap (λ (c : SourceFault). Err c) is;
              },
              λ vs ws. refl,
            );
      }

-- what is refused by another code
pub refused_item : {A : Type 0} (m n : ℕ) (next : Test) (r : Reader A) (ts : List Token) (d : SourceFault)
    → d.code ≢ codes.Syntax → r ts ≡ Err d → IsItemAt m next r n ts
refused_item m n next r ts d other is = record {
  takes = λ x e. let both : ok x ≡ Err d = sym e ∙ is in absurd cc;
  halts = λ f e wrong. absurd (other (ap (λ (c : SourceFault). c.code) (err_is d f (sym is ∙ e)) ∙ wrong));
}

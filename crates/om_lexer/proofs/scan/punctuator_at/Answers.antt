use Rattle.std.proofs.Common.{◌≡◌, ◌+◌, length, drop, true, nat_eq, inr, inl, sym, ap, subst, arith, ◌∙◌}
use Rattle.std.proofs.lemmas.List.{take_rest}
use Rattle.std.specs.List.{starts_with}
use Rattle.om_lexer.specs.Spellings.{punctuator_text}
use Rattle.om_lexer.specs.Tokens.{IsToken}
use Rattle.om_lexer.specs.declared.token.TokenKind.TheVariants as kinds
use Rattle.om_lexer.proofs.Wrong.{stray_byte}
use Rattle.om_lexer.proofs.Longest.{punctuator_is_longest, starts_from}
use Rattle.om_lexer.proofs.scan.punctuator_at.Goals as goal

pub returns-in-None-clause-fault : goal.returns-in-None-clause-fault
returns-in-None-clause-fault c =
    let r = c.requires in
    let rest = take_rest c.args.source.now c.args.at in
    let none = stray_byte _ _ r.no_word r.no_quote (λ q. ap (λ s. starts_with nat_eq s (punctuator_text q))
    (sym rest) ∙ c.in-None.ensures.none q) in
    inr (c.bad_token.ensures.at, rw c.bad_token.ensures.code none)

pub returns-in-Some-clause-token : goal.returns-in-Some-clause-token
returns-in-Some-clause-token c =
    let p = c.in-Some.punctuator in
    let source = c.args.source.now in
    let at = c.args.at in
    let r = c.requires in
    let rest = take_rest source at in
    let told = c.in-Some.ensures in
    let begins : starts_with nat_eq (drop at source) (punctuator_text p)
    ≡ true = ap (λ s. starts_with nat_eq s (punctuator_text p)) (sym rest) ∙ told.begins in
    let token : IsToken source at (at + length (punctuator_text p)) (kinds.Punctuator p) = inl (record {
      longest = punctuator_is_longest source at p (omega (arith, r.inside)) r.no_word r.no_comment begins
          (λ q q_begins. told.longest q (ap (λ s. starts_with nat_eq s (punctuator_text q)) rest ∙ q_begins));
      spelled = starts_from source (punctuator_text p) at begins;
    }) in
    subst (λ t. IsToken source at (at + length t) (kinds.Punctuator p)) (sym c.punctuator_text.ensures) token

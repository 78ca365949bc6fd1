-- Matter of proofs, for om_parser too: reading items one after the other, as a loop does.
use Rattle.std.proofs.Common.{◌≡◌, ℕ, zero, suc, ◌<◌, ◌≤◌, List, [], ◌∷◌, ◌++◌, length, Option, None, Ok, Err, refl}
use Rattle.std.proofs.Common.{sym, ap, ◌∙◌, append_assoc, arith, ◌⊎◌, inl, inr}
use Rattle.std.proofs.lemmas.List.{append-nil}
use Rattle.om_lexer.specs.Faults.{no_memory}
use Rattle.om_lexer.specs.declared.fault.SourceFault.{SourceFault}
use Rattle.om_lexer.specs.declared.token.Span.{Span}
use Rattle.om_lexer.specs.declared.token.Token.{Token}
use Rattle.om_parser_parts.specs.Reading.{◌>>=◌, Outcome, Reader}
use Rattle.om_parser_parts.specs.Repetition.{until}
use Rattle.om_parser_parts.specs.Outcomes.{ok, some}

abbrev pub Ender : Type 0
Ender = List Token → Option (Span × List Token)

abbrev pub Items : Type 0 → Type 0
Items A = Outcome (List A × Span × List Token)

abbrev pub with_front : {A : Type 0} → List A → Items A → Items A
with_front front read = read >>= λ x. Ok (front ++ x.0, x.1, x.2)

regroup : {A : Type 0} (front : List A) (a : A) (read : Items A) → with_front front
    (read >>= λ x. Ok (a ∷ x.0, x.1, x.2)) ≡ with_front (front ++ a ∷ []) read
regroup front a (Ok x) = ap (λ (xs : List _). Ok (xs, x.1, x.2)) (simp append_assoc)
regroup front a (Err e) = refl

-- what was read before, and what is still to be read, make the whole
abbrev pub GoesOn : {A : Type 0} → Ender → Reader A → List A → List Token → Items A → Type 0
GoesOn ender item front ts total = (n : ℕ) × (length ts ≤ n) × (with_front front (until ender item n ts) ≡ total)

pub until_begins : {A : Type 0} (ender : Ender) (item : Reader A) (ts : List Token) → GoesOn ender item [] ts
    (until ender item (length ts) ts)
until_begins ender item ts = (length ts, omega arith, same (until ender item (length ts) ts))
  where
    same : {A : Type 0} (read : Items A) → with_front [] read ≡ read
    same (Ok x) = refl
    same (Err e) = refl

module _ {A : Type 0} (ender : Ender) (item : Reader A) (front : List A) (ts : List Token) (total : Items A) where
  pub until_ends : (s : Span) (us : List Token) → ender ts ≡ some (s, us) → length us < length ts
      → GoesOn ender item front ts total → total ≡ Ok (front, s, us)
  unfolding until
  until_ends s us ends lt (zero, le, e) = absurd (omega arith)
  until_ends s us ends lt (suc n, le, e) = sym e ∙ rw ends (ap (λ (xs : List A). ok (xs, s, us)) (append-nil front))

  pub until_fails : (f : SourceFault) → ender ts ≡ None → (f ≡ no_memory) ⊎ (item ts ≡ Err f) → GoesOn ender item
      front ts total → (f ≡ no_memory) ⊎ (total ≡ Err f)
  unfolding until
  until_fails f none (inl memory) (n, le, e) = inl memory
  until_fails f none (inr fails) (zero, le, e) = inr (sym e ∙ rw fails refl)
  until_fails f none (inr fails) (suc n, le, e) = inr (sym e ∙ rw (none, fails) refl)

  pub until_goes_on : (a : A) (us : List Token) → ender ts ≡ None → item ts ≡ Ok (a, us) → length us < length ts
      → GoesOn ender item front ts total → GoesOn ender item (front ++ a ∷ []) us total
  unfolding until
  until_goes_on a us none reads lt (zero, le, e) = absurd (omega arith)
  until_goes_on a us none reads lt (suc n, le, e) = (
    n,
    omega arith,
    sym (regroup front a (until ender item n us))
        ∙ (rw (none, reads) at e),
  )

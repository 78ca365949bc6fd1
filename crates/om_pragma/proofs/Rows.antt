-- Reading items one after the other, as a loop does.
use Rattle.std.proofs.Common.{◌≡◌, ℕ, zero, suc, ◌<◌, List, [], ◌∷◌, ◌++◌, length, Option, None, Result, Err, refl, ap}
use Rattle.std.proofs.Common.{sym, ◌∙◌, arith, map, ◌⊎◌, inl, inr}
use Rattle.om_lexer.specs.Faults.{no_memory}
use Rattle.om_lexer.specs.declared.fault.SourceFault.{SourceFault}
use Rattle.om_lexer.specs.declared.token.Span.{Span}
use Rattle.om_lexer.specs.declared.token.Token.{Token}
use Rattle.om_pragma.specs.declared.token.Stop.{Stop}
use Rattle.om_pragma.specs.declared.token.Stop.TheVariants as stops
use Rattle.om_pragma.specs.Reading.{Outcome, until, place, syntax_at, IsStopped}
use Rattle.om_pragma.proofs.Outcomes.{ok, err, some}

abbrev pub Ender : Type 0
Ender = List Token → Option (Span × List Token)

abbrev pub Rows : Type 0 → Type 0 → Type 0
Rows A X = Result (List A × Span × List Token) X

-- what was read before, and what is still to be read, make the whole
abbrev pub GoesOn : {A X : Type 0} → (List Token → X) → Ender → (List A → List Token → Result (A × List Token) X)
    → List A → List Token → Rows A X → Type 0
GoesOn none ender item before ts total = (n : ℕ) × (length ts < n) × (until none ender item n before ts ≡ total)

module _ {A X : Type 0} (none : List Token → X) (ender : Ender) (item : List A → List Token
    → Result (A × List Token) X) where
  pub goes_begins : (ts : List Token) → GoesOn none ender item [] ts (until none ender item (suc (length ts)) [] ts)
  goes_begins ts = (suc (length ts), omega arith, refl)

  pub goes_ends : (before : List A) (ts : List Token) (total : Rows A X) (s : Span) (us : List Token) → ender ts
      ≡ some (s, us) → GoesOn none ender item before ts total → total ≡ ok (before, s, us)
  unfolding until
  goes_ends before ts total s us ends (zero, lt, e) = absurd (omega arith)
  goes_ends before ts total s us ends (suc n, lt, e) = sym e ∙ rw ends refl

  pub goes_fails : (before : List A) (ts : List Token) (total : Rows A X) (f : X) → ender ts ≡ None → item before ts
      ≡ err f → GoesOn none ender item before ts total → total ≡ err f
  unfolding until
  goes_fails before ts total f absent fails (zero, lt, e) = absurd (omega arith)
  goes_fails before ts total f absent fails (suc n, lt, e) = sym e ∙ rw (absent, fails) refl

  pub goes_on : (before : List A) (ts : List Token) (total : Rows A X) (a : A) (us : List Token) → ender ts ≡ None
      → item before ts ≡ ok (a, us) → length us < length ts → GoesOn none ender item before ts total
      → GoesOn none ender item (before ++ a ∷ []) us total
  unfolding until
  goes_on before ts total a us absent reads shorter (zero, lt, e) = absurd (omega arith)
  goes_on before ts total a us absent reads shorter (suc n, lt, e) = (n, omega arith, rw (absent, reads) at e)

-- the same of what a function returned
pub goes_stops : {A : Type 0} (ender : Ender) (item : List A → List Token → Result (A × List Token) ℕ)
    (before : List A) (ts : List Token) (total : Rows A ℕ) (stop : Stop) → ender ts ≡ None
    → IsStopped stop (item before ts) → GoesOn place ender item before ts total → IsStopped stop total
goes_stops ender item before ts total stops.Memory absent stopped h = tt
goes_stops ender item before ts total (stops.Token at) absent stopped h = goes_fails place ender item before ts
    total at absent stopped h

pub goes_refused : {A : Type 0} (ender : Ender) (item : List A → List Token → Outcome (A × List Token))
    (before : List A) (ts : List Token) (total : Rows A SourceFault) (f : SourceFault) → ender ts ≡ None
    → (f ≡ no_memory) ⊎ (item before ts ≡ Err f) → GoesOn syntax_at ender item before ts total → (f ≡ no_memory)
    ⊎ (total ≡ Err f)
goes_refused ender item before ts total f absent (inl memory) h = inl memory
goes_refused ender item before ts total f absent (inr fails) h = inr (goes_fails syntax_at ender item before ts
    total f absent fails h)

pub map_more : {A B : Type 0} (f : A → B) (xs : List A) (x : A) → map f (xs ++ x ∷ []) ≡ map f xs ++ f x ∷ []
map_more f [] x = refl
map_more f (y ∷ xs) x = ap (λ (zs : List _). f y ∷ zs) (map_more f xs x)

-- What a row of items that is read consists of, and that such a row is read again.
use Rattle.std.proofs.Common.{◌≡◌, ℕ, zero, suc, ◌<◌, ◌≤◌, List, [], ◌∷◌, ◌++◌, length, Option, Some, None, Result, Ok}
use Rattle.std.proofs.Common.{Err, refl, sym, ap, subst, ◌∙◌, arith, append_assoc, length-append, ◌⊎◌, inl, inr}
use Rattle.std.proofs.lemmas.List.{append-nil}
use Rattle.std.specs.List.{flat_map}
use Rattle.om_lexer.specs.declared.token.Span.{Span}
use Rattle.om_lexer.specs.declared.token.Token.{Token}
use Rattle.om_pragma.specs.Reading.{until}
use Rattle.om_pragma.specs.Table.{EachBehind}
use Rattle.om_pragma.proofs.Outcomes.{ok, err, some}
use Rattle.om_pragma.proofs.Rows.{Ender, Rows}

module _ {A X : Type 0} (none : List Token → X) (ender : Ender) (item : List A → List Token
    → Result (A × List Token) X) (spell : A → List Token) (P : List A → A → Type 0) where
  -- how reading a row ends: at what ends it, or at an item that is wrong
  pub record Ends (before : List A) (ts : List Token) (r : Rows A X) : Type 0 where
    pub xs : List A
    pub us : List Token
    pub all : List A
    pub is_all : all ≡ before ++ xs
    pub parts : ts ≡ flat_map spell xs ++ us
    pub each : EachBehind P before xs
    pub last : ((e : Span × List Token) × (ender us ≡ some e) × (r ≡ ok (all, e.0, e.1)))
        ⊎ ((f : X) × (ender us ≡ None) × (item all us ≡ err f) × (r ≡ err f))

  module _ (sound : (before : List A) (ts : List Token) (x : A × List Token) → item before ts ≡ ok x
      → (ts ≡ spell x.0 ++ x.1) × P before x.0) (some_tokens : (x : A) → 0 < length (spell x)) where
    pub until_ends : (n : ℕ) (before : List A) (ts : List Token) (r : Rows A X) → length ts < n → until none ender
        item n before ts ≡ r → Ends before ts r
    unfolding until EachBehind
    until_ends zero before ts r lt e = absurd (omega arith)
    until_ends (suc n) before ts r lt e = go (λ b us less h. until_ends n b us r less h) (ender ts) refl
      where
        Further : Type 0
        Further = (b : List A) (us : List Token) → length us < n → until none ender item n b us ≡ r → Ends b us r

        stops : Further → ender ts ≡ None → (i : Result (A × List Token) X) → item before ts ≡ i → Ends before ts r
        stops further absent (Err f) is = record {
          xs = [];
          us = ts;
          all = before;
          is_all = sym (append-nil before);
          parts = refl;
          each = tt;
          last = inr (f, absent, is, sym e ∙ rw (absent, is) refl);
        }
        stops further absent (Ok a) is =
            let s = sound before ts a is in
            let shorter : length a.1 < n = omega (
              arith,
              lt,
              ap length s.0,
              length-append (spell a.0) a.1,
              some_tokens a.0,
            ) in
            let more = further (before ++ a.0 ∷ []) a.1 shorter (rw (absent, is) at e) in
            record {
              xs = a.0 ∷ more.xs;
              us = more.us;
              all = more.all;
              is_all = more.is_all ∙ append_assoc before (a.0 ∷ []) more.xs;
              parts = s.0 ∙ ap (λ (w : List Token). spell a.0 ++ w) more.parts
                  ∙ sym (append_assoc (spell a.0) (flat_map spell more.xs) more.us);
              each = (s.1, more.each);
              last = more.last;
            }

        go : Further → (o : Option (Span × List Token)) → ender ts ≡ o → Ends before ts r
        go further (Some x) is = record {
          xs = [];
          us = ts;
          all = before;
          is_all = sym (append-nil before);
          parts = refl;
          each = tt;
          last = inl (x, is, sym e ∙ rw is refl);
        }
        go further None is = stops further is (item before ts) refl

  module _ (again : (before : List A) (x : A) (us : List Token) → P before x → item before (spell x ++ us)
      ≡ ok (x, us)) (unended : (before : List A) (x : A) (us : List Token) → P before x → ender (spell x ++ us)
      ≡ None) where
    pub until_passes : (all : List A) (us : List Token) (r : Rows A X)
        → ((n : ℕ) → until none ender item (suc n) all us ≡ r) → (xs before : List A) (n : ℕ) → all ≡ before ++ xs
        → EachBehind P before xs → length xs < n → until none ender item n before (flat_map spell xs ++ us) ≡ r
    unfolding until EachBehind
    until_passes all us r last [] before zero is each lt = absurd (omega arith)
    until_passes all us r last [] before (suc n) is each lt = subst (λ (b : List A). until none ender item (suc n) b
        us ≡ r) (is ∙ append-nil before) (last n)
    until_passes all us r last (x ∷ xs) before zero is each lt = absurd (omega arith)
    until_passes all us r last (x ∷ xs) before (suc n) is each lt =
        let rest : List Token = flat_map spell xs ++ us in
        let more = until_passes all us r last xs (before ++ x ∷ []) n (is ∙ sym (append_assoc before (x ∷ []) xs))
        each.1 (omega arith) in
        rw (append_assoc, unended before x rest each.0, again before x rest each.0) more

pub so_many : {A : Type 0} (spell : A → List Token) → ((x : A) → 0 < length (spell x))
    → (xs : List A) (us : List Token) → length xs ≤ length (flat_map spell xs ++ us)
so_many spell some_tokens [] us = omega arith
so_many spell some_tokens (x ∷ xs) us = omega (
  arith,
  some_tokens x,
  so_many spell some_tokens xs us,
  length-append
      (spell x) (flat_map spell xs),
  length-append (spell x ++ flat_map spell xs) us,
  length-append
      (flat_map spell xs) us,
)

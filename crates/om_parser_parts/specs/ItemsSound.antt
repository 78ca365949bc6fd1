-- Matter of proofs, for om_parser too: several items that are read are each well-formed, and spelled as the tokens
-- were.
use Rattle.std.proofs.Common.{◌≡◌, ℕ, zero, suc, List, [], ◌∷◌, ◌++◌, subst, ◌∙◌, append_assoc, inl, inr, All}
use Rattle.std.specs.List.{flat_map}
use Rattle.std.proofs.lemmas.List.Elements.{All-nil, All-cons, All-append, All-head, All-tail}
use Rattle.om_lexer.specs.declared.token.Span.{Span}
use Rattle.om_lexer.specs.declared.token.Token.{Token}
use Rattle.om_parser_parts.specs.Reading.{Reader}
use Rattle.om_parser_parts.specs.Repetition.{until}
use Rattle.om_parser_parts.specs.Outcomes.{ok, ok_is, some, bind_ok, choose_cases, after_front}
use Rattle.om_parser_parts.specs.Loops.{Ender}
use Rattle.om_parser_parts.specs.Laws.{IsSound}

-- a part of which nothing is asked
abbrev pub IsAny : {A : Type 0} → A → Type 0
IsAny a = Unit {0}

-- a token that ends a list of items, and what is behind it
abbrev pub EndsBy : (Span → Token) → Ender → Type 0
EndsBy last ender = (ts : List Token) (s : Span) (us : List Token) → ender ts ≡ some (s, us) → ts ≡ last s ∷ us

-- ---- several items

pub record AreRead {A : Type 0} (spell : A → List Token) (P : A → Type 0) (last : Span → Token) (ts : List Token)
    (x : List A × Span × List Token) : Type 0 where
  pub parts : ts ≡ (flat_map spell x.0 ++ last x.1 ∷ []) ++ x.2
  pub formed : All P x.0

pub until_sound : {A : Type 0} (spell : A → List Token) (P : A → Type 0) (last : Span → Token) (ender : Ender)
    (item : Reader A) → EndsBy last ender → IsSound spell P item → (k : ℕ) (ts : List Token) (x : List A × Span
    × List Token) → until ender item k ts ≡ ok x → AreRead spell P last ts x
unfolding until
until_sound spell P last ender item ends sound zero ts x h = let a = bind_ok (item ts) _ x h in absurd cc
until_sound spell P last ender item ends sound (suc k) ts x h =
    elim (choose_cases (ender ts) _ _ (ok x) h) [
      | inl g ↦ subst (AreRead spell P last ts) (ok_is ([], g.0.0, g.0.1) x g.2)
          (record { parts = ends ts g.0.0 g.0.1 g.1; formed = All-nil P })
      | inr g ↦
          let a = bind_ok (item ts) _ x g.1 in
          let b = bind_ok (until ender item k a.0.1) _ x a.2 in
          let one = sound ts a.0 a.1 in
          let more = until_sound spell P last ender item ends sound k a.0.1 b.0 b.1 in
          subst (AreRead spell P last ts) (ok_is (a.0.0 ∷ b.0.0, b.0.1, b.0.2) x b.2) (record {
            parts = after_front ts (spell a.0.0) a.0.1 (flat_map spell b.0.0 ++ last b.0.1 ∷ []) b.0.2 one.parts
                more.parts ∙ simp append_assoc;
            formed = All-cons P a.0.0 b.0.0 one.formed more.formed;
          })
    ]

pub all_flat : {A B : Type 0} (P : B → Type 0) (f : A → List B) (xs : List A) → All (λ x. All P (f x)) xs
    → All P (flat_map f xs)
all_flat P f [] h = All-nil P
all_flat P f (x ∷ xs) h = All-append P (f x) (flat_map f xs) (All-head (λ y. All P (f y)) x xs h)
    (all_flat P f xs (All-tail (λ y. All P (f y)) x xs h))

-- Matter of proofs, for om_parser too: several well-formed items are read again, within the limits.
use Rattle.std.proofs.Common.{◌≡◌, ℕ, zero, suc, ◌<◌, ◌≤◌, List, [], ◌∷◌, ◌++◌, length, None, refl, sym, subst, arith}
use Rattle.std.proofs.Common.{append_assoc, length-append, inl, All}
use Rattle.std.specs.List.{flat_map}
use Rattle.std.proofs.lemmas.List.Elements.{All-nil, All-cons, All-head, All-tail}
use Rattle.om_lexer.specs.declared.token.Span.{Span}
use Rattle.om_lexer.specs.declared.token.Token.{Token}
use Rattle.om_parser_parts.specs.Reading.{Reader}
use Rattle.om_parser_parts.specs.Repetition.{until}
use Rattle.om_parser_parts.specs.Outcomes.{some}
use Rattle.om_parser_parts.specs.Laws.{IsAnswer}
use Rattle.om_parser_parts.specs.Again.{bind_answer}
use Rattle.om_parser_parts.specs.Loops.{Ender}

pub all_any : {A : Type 0} (xs : List A) → All (λ (x : A). Unit {0}) xs
all_any [] = All-nil (λ x. Unit {0})
all_any (x ∷ xs) = All-cons (λ x. Unit {0}) x xs tt (all_any xs)

-- each part of what all elements have
pub all_front : {A : Type 0} (P : A → Type 0) (xs ys : List A) → All P (xs ++ ys) → All P xs
all_front P [] ys h = All-nil P
all_front P (x ∷ xs) ys h = All-cons P x xs (All-head P x (xs ++ ys) h) (all_front P xs ys (All-tail P x (xs ++ ys) h))

pub all_back : {A : Type 0} (P : A → Type 0) (xs ys : List A) → All P (xs ++ ys) → All P ys
all_back P [] ys h = h
all_back P (x ∷ xs) ys h = all_back P xs ys (All-tail P x (xs ++ ys) h)

pub flat_all : {A B : Type 0} (P : B → Type 0) (f : A → List B) (xs : List A) → All P (flat_map f xs)
    → All (λ x. All P (f x)) xs
flat_all P f [] h = All-nil (λ x. All P (f x))
flat_all P f (x ∷ xs) h = All-cons (λ x. All P (f x)) x xs (all_front P (f x) (flat_map f xs) h)
    (flat_all P f xs (all_back P (f x) (flat_map f xs) h))

-- ---- several items

-- items of which each is read again where such tokens follow
pub record AreAgain {A : Type 0} (spell : A → List Token) (P F : A → Type 0) (MayFollow : List Token → Type 0)
    (ender : Ender) (item : Reader A) : Type 0 where
  pub one : (x : A) (rest : List Token) → P x → MayFollow rest → IsAnswer (F x) (item (spell x ++ rest)) (x, rest)
  pub unended : (x : A) (rest : List Token) → P x → ender (spell x ++ rest) ≡ None
  pub follows : (x : A) (rest : List Token) → P x → MayFollow (spell x ++ rest)
  pub some_tokens : (x : A) → P x → 0 < length (spell x)

pub items_length : {A : Type 0} (spell : A → List Token) (P : A → Type 0) → ((x : A) → P x → 0 < length (spell x))
    → (xs : List A) → All P xs → length xs ≤ length (flat_map spell xs)
items_length spell P some_tokens [] f = omega arith
items_length spell P some_tokens (x ∷ xs) f = omega (
  arith,
  some_tokens x (All-head P x xs f),
  items_length spell P
      some_tokens xs (All-tail P x xs f),
  length-append (spell x) (flat_map spell xs),
)

module _ {A : Type 0} (spell : A → List Token) (P F : A → Type 0) (MayFollow : List Token → Type 0) (ender : Ender)
    (item : Reader A) (again : AreAgain spell P F MayFollow ender item) (last : Token) (s : Span) (us : List Token)
    (ends : ender (last ∷ us) ≡ some (s, us)) (may_end : MayFollow (last ∷ us)) where
  may_follow : (xs : List A) → All P xs → MayFollow (flat_map spell xs ++ last ∷ us)
  may_follow [] f = may_end
  may_follow (x ∷ xs) f = subst MayFollow (sym (append_assoc (spell x) (flat_map spell xs) (last ∷ us)))
      (again.follows x (flat_map spell xs ++ last ∷ us) (All-head P x xs f))

  until_so_many : (k : ℕ) (xs : List A) → length xs < k → All P xs → IsAnswer (All F xs)
      (until ender item k (flat_map spell xs ++ last ∷ us)) (xs, s, us)
  unfolding until
  until_so_many zero xs lt f = absurd (omega arith)
  until_so_many (suc k) [] lt f = inl (rw ends refl)
  until_so_many (suc k) (x ∷ xs) lt f =
      let rest : List Token = flat_map spell xs ++ last ∷ us in
      rw (append_assoc, again.unended x rest (All-head P x xs f)) (bind_answer (item (spell x ++ rest)) _ (x, rest)
      (x ∷ xs, s, us) (λ w. All-head F x xs w) (again.one x rest (All-head P x xs f)
      (may_follow xs (All-tail P x xs f)))
      (bind_answer (until ender item k rest) _ (xs, s, us) (x ∷ xs, s, us) (λ w. All-tail F x xs w)
      (until_so_many k xs (omega arith) (All-tail P x xs f)) (inl refl)))

  pub until_again : (xs : List A) → All P xs → IsAnswer (All F xs)
      (until ender item (length (flat_map spell xs ++ last ∷ us)) (flat_map spell xs ++ last ∷ us)) (xs, s, us)
  until_again xs f = until_so_many (length (flat_map spell xs ++ last ∷ us)) xs
      (omega (arith, items_length spell P again.some_tokens xs f, length-append (flat_map spell xs) (last ∷ us))) f

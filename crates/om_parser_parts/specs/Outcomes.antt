-- Matter of proofs, for om_parser too: outcomes of reading, step by step.
use Rattle.std.proofs.Common.{◌≡◌, List, ◌∷◌, ◌++◌, Option, Some, None, Ok, Err, refl, ap, ◌∙◌, sym, cond, Bool, true}
use Rattle.std.proofs.Common.{false, ◌⊎◌, inl, inr, append_assoc}
use Rattle.om_lexer.specs.declared.fault.SourceFault.{SourceFault}
use Rattle.om_lexer.specs.declared.token.Token.{Token}
use Rattle.om_parser_parts.specs.Reading.{◌>>=◌, Outcome, choose, known}

abbrev pub ok : {A : Type 0} → A → Outcome A
ok x = Ok x

abbrev pub some : {A : Type 0} → A → Option A
some x = Some x

pub ok_is : {A : Type 0} (x y : A) → ok x ≡ ok y → x ≡ y
ok_is x y e = cc

pub some_is : {A : Type 0} (x y : A) → some x ≡ some y → x ≡ y
some_is x y e = cc

pub err_is : {A : Type 0} (e f : SourceFault) → ◌≡◌ {A = Outcome A} (Err e) (Err f) → e ≡ f
err_is e f h = cc

pub bind_ok : {A B : Type 0} (r : Outcome A) (f : A → Outcome B) (y : B) → (r >>= f) ≡ ok y → (x : A) × (r ≡ ok x)
    × (f x ≡ ok y)
bind_ok (Ok x) f y e = (x, refl, e)
bind_ok (Err d) f y e = absurd cc

-- a step fails, or the one after it
pub bind_err : {A B : Type 0} (r : Outcome A) (f : A → Outcome B) (d : SourceFault) → (r >>= f) ≡ Err d
    → (r ≡ Err d) ⊎ ((x : A) × (r ≡ ok x) × (f x ≡ Err d))
bind_err (Ok x) f d e = inr (x, refl, e)
bind_err (Err c) f d e = inl cc

pub choose_cases : {A B : Type 0} (o : Option A) (f : A → B) (z y : B) → choose o f z ≡ y
    → ((x : A) × (o ≡ some x) × (f x ≡ y)) ⊎ ((o ≡ None) × (z ≡ y))
choose_cases (Some x) f z y e = inl (x, refl, e)
choose_cases None f z y e = inr (refl, e)

pub known_ok : {A : Type 0} (ts : List Token) (o : Option A) (x : A) → known ts o ≡ ok x → o ≡ some x
known_ok ts (Some y) x e = ap some (ok_is y x e)
known_ok ts None x e = absurd cc

pub cond_some : {A : Type 0} (b : Bool) (x y : A) → cond b (some x) None ≡ some y → (b ≡ true) × (x ≡ y)
cond_some true x y e = (refl, cc)
cond_some false x y e = absurd cc

-- what stands at the front of what stands behind
pub after_front : (ts xs us ys vs : List Token) → ts ≡ xs ++ us → us ≡ ys ++ vs → ts ≡ (xs ++ ys) ++ vs
after_front ts xs us ys vs e f = e ∙ ap (λ (w : List Token). xs ++ w) f ∙ sym (append_assoc xs ys vs)

pub after_token : (t : Token) (us vs ys ws : List Token) → us ≡ t ∷ vs → vs ≡ ys ++ ws → us ≡ (t ∷ ys) ++ ws
after_token t us vs ys ws e f = e ∙ ap (λ (w : List Token). t ∷ w) f

-- one of two outcomes, by a test
pub either_way : {A : Type 0} (b : Bool) (first other x : A) → cond b first other ≡ x → ((b ≡ true) × (first ≡ x))
    ⊎ ((b ≡ false) × (other ≡ x))
either_way true first other x h = inl (refl, h)
either_way false first other x h = inr (refl, h)

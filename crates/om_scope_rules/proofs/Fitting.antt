-- Numbers that are no more than there are tokens.
use Rattle.std.proofs.Common.{◌≡◌, ℕ, ◌+◌, ◌≤◌, List, [], ◌∷◌, ◌++◌, length, length-append, map}
use Rattle.std.proofs.Common.{sum, sym, subst, ap, ◌∙◌, arith}
use Rattle.std.proofs.lemmas.List.{map-append}
use Rattle.std.proofs.lemmas.List.Sums.{sum_by-append, sum_by-cons}
use Rattle.om_lexer.specs.declared.token.Token.{Token}

-- there are so many of these tokens, or more
unfoldable pub Fits : List Token → ℕ → Type 0
Fits ts n = n ≤ length ts

pub nothing : (ts : List Token) → Fits ts 0
unfolding Fits
nothing ts = omega arith

-- behind a token, which is not counted
pub further : (n : ℕ) (t : Token) (ts : List Token) → Fits ts n → Fits (t ∷ ts) n
unfolding Fits
further n t ts h = omega (h, arith)

-- behind a token, which is counted
pub counted : (n : ℕ) (t : Token) (ts : List Token) → Fits ts n → Fits (t ∷ ts) (1 + n)
unfolding Fits
counted n t ts h = omega (h, arith)

-- behind tokens
pub behind : (n : ℕ) (front back : List Token) → Fits back n → Fits (front ++ back) n
unfolding Fits
behind n front back h = omega (h, length-append front back, arith)

-- before tokens
pub before : (n : ℕ) (front back : List Token) → Fits front n → Fits (front ++ back) n
unfolding Fits
before n front back h = omega (h, length-append front back, arith)

-- two parts, one behind the other
pub together : (n m : ℕ) (front back : List Token) → Fits front n → Fits back m → Fits (front ++ back) (n + m)
unfolding Fits
together n m front back h more = omega (h, more, length-append front back, arith)

-- with nothing more
pub and_none : (n : ℕ) (ts : List Token) → Fits ts n → Fits ts (n + 0)
unfolding Fits
and_none n ts h = omega (h, arith)

-- what is no more than that
pub lighter : (n m : ℕ) (ts : List Token) → n ≤ m → Fits ts m → Fits ts n
unfolding Fits
lighter n m ts e h = omega (e, h, arith)

-- the tokens themselves
pub itself : (ts : List Token) → Fits ts (length ts)
unfolding Fits
itself ts = omega arith

pub within : (n : ℕ) (ts : List Token) → Fits ts n → n ≤ length ts
unfolding Fits
within n ts h = h

-- ---- sums

module _ {X : Type 0} (weight : X → ℕ) (ts : List Token) where
  -- of what stands before others
  pub with_first : (x : X) (xs : List X) → Fits ts (weight x + sum (map weight xs))
      → Fits ts (sum (map weight (x ∷ xs)))
  with_first x xs h = subst (Fits ts) (sym (sum_by-cons (λ n. n) (weight x) (map weight xs))) h

  -- of one alone
  pub with_one : (x : X) → Fits ts (weight x) → Fits ts (sum (map weight (x ∷ [])))
  with_one x h = with_first x [] (and_none (weight x) ts h)

  -- of several, and others behind them
  pub with_all : (xs ys : List X) → Fits ts (sum (map weight xs) + sum (map weight ys))
      → Fits ts (sum (map weight (xs ++ ys)))
  with_all xs ys h =
      let parts : sum (map weight (xs ++ ys)) ≡ sum (map weight xs) + sum (map weight ys) =
      ap sum (map-append weight xs ys) ∙ sum_by-append (λ n. n) (map weight xs) (map weight ys) in
      subst (Fits ts) (sym parts) h

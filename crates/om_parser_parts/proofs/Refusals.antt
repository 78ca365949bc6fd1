-- Reading refuses by no other code than those of syntax and of limits.
use Rattle.std.proofs.Common.{◌≡◌, ℕ, zero, suc, List, length, Option, Some, None, Ok, Err, sym, ap, Bool, true, false}
use Rattle.std.proofs.Common.{cond, ◌⊎◌, inl, inr}
use Rattle.std.specs.Prelude.{nat_le}
use Rattle.om_lexer.specs.declared.fault.FaultCode.TheVariants as codes
use Rattle.om_lexer.specs.declared.fault.SourceFault.{SourceFault}
use Rattle.om_lexer.specs.declared.token.Span.{Span}
use Rattle.om_lexer.specs.declared.token.Token.{Token}
use Rattle.om_parser_parts.specs.ExpressionReading.{within}
use Rattle.om_parser_parts.specs.Reading.{◌>>=◌, Outcome, Reader, choose, syntax, too_deep, known}
use Rattle.om_parser_parts.specs.Repetition.{until}
use Rattle.om_parser_parts.specs.Outcomes.{err_is}
use Rattle.om_parser_parts.specs.Laws.{Stops}
use Rattle.om_parser_parts.specs.Loops.{Ender}

abbrev pub IsRefusal : SourceFault → Type 0
IsRefusal f = (f.code ≡ codes.Syntax) ⊎ (f.code ≡ codes.TooDeep)

abbrev pub Refuses : {A : Type 0} → Outcome A → Type 0
Refuses read = (f : SourceFault) → read ≡ Err f → IsRefusal f

pub done : {A : Type 0} (x : A) → Refuses (Ok x)
done x f e = absurd cc

pub wrong : {A : Type 0} (ts : List Token) → (f : SourceFault) → ◌≡◌ {A = Outcome A} (Err (syntax ts)) (Err f)
    → IsRefusal f
wrong ts f e = inl (sym (ap (λ (g : SourceFault). g.code) (err_is (syntax ts) f e)))

pub deep : {A : Type 0} (s : Span) → (f : SourceFault) → ◌≡◌ {A = Outcome A} (Err (too_deep s)) (Err f) → IsRefusal f
deep s f e = inr (sym (ap (λ (g : SourceFault). g.code) (err_is (too_deep s) f e)))

pub bind : {A B : Type 0} (read : Outcome A) (g : A → Outcome B) → Refuses read → ((x : A) → Refuses (g x))
    → Refuses (read >>= g)
bind (Ok x) g first second f e = second x f e
bind (Err d) g first second f e = first f (ap (λ (c : SourceFault). Err c) (err_is d f e))

pub either : {A B : Type 0} (o : Option A) (g : A → Outcome B) (z : Outcome B) → ((x : A) → Refuses (g x))
    → Refuses z → Refuses (choose o g z)
either (Some x) g z first second = first x
either None g z first second = second

pub expected : {A : Type 0} (ts : List Token) (o : Option A) → Refuses (known ts o)
expected ts (Some x) = done x
expected ts None = wrong ts

pub limited : {A : Type 0} (beyond : ℕ) (s : Span) (ts : List Token) (read : Outcome A) → Refuses read
    → Refuses (within beyond s ts read)
unfolding within
limited beyond s ts read h = go (nat_le beyond (length ts))
  where
    go : (b : Bool) → Refuses (cond b read (Err (too_deep s)))
    go true = h
    go false = deep s

pub until_refuses : {A : Type 0} (ender : Ender) (item : Reader A) → ((ts : List Token) → Refuses (item ts))
    → (k : ℕ) (ts : List Token) → Refuses (until ender item k ts)
unfolding until
until_refuses ender item h zero ts = bind (item ts) _ (h ts) (λ a. wrong ts)
until_refuses ender item h (suc k) ts = either _ _ _ (λ e. done _)
    (bind (item ts) _ (h ts) (λ a. bind (until ender item k a.1) _ (until_refuses ender item h k a.1) (λ b. done _)))

-- what is refused by syntax or a limit, and not by syntax
pub stops_too_deep : (f : SourceFault) → IsRefusal f → Stops f → f.code ≡ codes.TooDeep
stops_too_deep f refused stops = elim refused [
  | inl wrong ↦ absurd (stops wrong)
  | inr deep ↦ deep
]

-- Matter of proofs, for om_parser too: what is spelled is taken again, and answers that only a fault of another
-- code than that of syntax hinders.
use Rattle.std.proofs.Common.{◌≡◌, ℕ, ◌≤◌, Option, List, ◌∷◌, length, Err, refl, sym, subst, Bool, true, false, cond}
use Rattle.std.proofs.Common.{arith, inl, inr}
use Rattle.std.proofs.lemmas.Bool.{leb-false}
use Rattle.std.specs.Prelude.{nat_le}
use denote.Enum.Bare.{true_same}
use Rattle.om_lexer.specs.contracts.token.Keyword.{the_type as the_keywords}
use Rattle.om_lexer.specs.contracts.token.Punctuator.{the_type as the_punctuators}
use Rattle.om_lexer.specs.declared.fault.FaultCode.TheVariants as codes
use Rattle.om_lexer.specs.declared.token.Keyword.{Keyword}
use Rattle.om_lexer.specs.declared.token.Punctuator.{Punctuator}
use Rattle.om_lexer.specs.declared.token.Span.{Span}
use Rattle.om_lexer.specs.declared.token.Token.{Token}
use Rattle.om_lexer.specs.declared.token.TokenKind.{TokenKind}
use Rattle.om_lexer.specs.declared.token.TokenKind.TheVariants as kinds
use Rattle.om_pragma.specs.declared.clause.Name as names
use Rattle.om_pragma.specs.declared.clause.Number.{Number}
use Rattle.om_parser_parts.specs.ExpressionReading.{within, take_operator}
use Rattle.om_parser_parts.specs.Reading.{◌>>=◌, Outcome, too_deep, take, same_mark, same_word, take_mark, take_word}
use Rattle.om_parser_parts.specs.Reading.{take_name, take_number, mark_at, word_at, name_at, number_at}
use Rattle.om_parser_tree.specs.Spelling.{mark, word, name, number}
use Rattle.om_parser_parts.specs.Outcomes.{ok, some}
use Rattle.om_parser_parts.specs.Laws.{Stopping, IsAnswer}

pub take_mark_again : (p : Punctuator) (s : Span) (ts : List Token) → take_mark p (mark p s ∷ ts) ≡ some (s, ts)
unfolding take_mark take same_mark
take_mark_again p s ts = rw (true_same the_punctuators p p refl) refl

pub take_word_again : (k : Keyword) (s : Span) (ts : List Token) → take_word k (word k s ∷ ts) ≡ some (s, ts)
unfolding take_word take same_word
take_word_again k s ts = rw (true_same the_keywords k k refl) refl

pub take_number_again : (n : Number) (ts : List Token) → take_number (number n ∷ ts) ≡ some (n, ts)
unfolding take_number take
take_number_again n ts = refl

pub take_operator_here : {O : Type 0} (f : TokenKind → Option O) (p : Punctuator) (o : O) (s : Span)
    (ts : List Token) → f (kinds.Punctuator p) ≡ some o → take_operator f (mark p s ∷ ts) ≡ some ((o, s), ts)
unfolding take_operator take
take_operator_here f p o s ts is = rw is refl

pub take_operator_again : {O : Type 0} (f : TokenKind → Option O) (spell : O → Punctuator)
    → ((o : O) → f (kinds.Punctuator (spell o)) ≡ some o) → (o : O) (s : Span) (ts : List Token) → take_operator f
    (mark (spell o) s ∷ ts) ≡ some ((o, s), ts)
take_operator_again f spell is o s ts = take_operator_here f (spell o) o s ts (is o)

pub mark_again : (p : Punctuator) (s : Span) (ts : List Token) → mark_at p (mark p s ∷ ts) ≡ ok (s, ts)
unfolding mark_at
mark_again p s ts = rw (take_mark_again p s ts) refl

pub word_again : (k : Keyword) (s : Span) (ts : List Token) → word_at k (word k s ∷ ts) ≡ ok (s, ts)
unfolding word_at
word_again k s ts = rw (take_word_again k s ts) refl

pub name_again : (n : names.Name) (ts : List Token) → name_at (name n ∷ ts) ≡ ok (n, ts)
unfolding name_at take_name take
name_again n ts = refl

pub number_again : (n : Number) (ts : List Token) → number_at (number n ∷ ts) ≡ ok (n, ts)
unfolding number_at
number_again n ts = rw (take_number_again n ts) refl

pub too_deep_other : (s : Span) → (too_deep s).code ≡ codes.Syntax → ⊥
too_deep_other s e = absurd cc

-- a limit that is passed at this token
abbrev pub deep_at : Span → Stopping
deep_at s = record { fault = too_deep s; other = too_deep_other s }

pub bind_answer : {A B : Type 0} {Part Whole : Type 0} (read : Outcome A) (f : A → Outcome B) (x : A) (y : B)
    → (Whole → Part) → IsAnswer Part read x → IsAnswer Whole (f x) y → IsAnswer Whole (read >>= f) y
bind_answer {A} {B} {Part} {Whole} read f x y part (inl e) h = subst (λ r. IsAnswer Whole (r >>= f) y) (sym e) h
bind_answer {A} {B} {Part} {Whole} read f x y part (inr (stop, e, never)) h = inr (stop, rw e refl, λ w. never (part w))

-- what is asked of the whole asks as much of the part
pub narrower : {A : Type 0} {Part Whole : Type 0} (read : Outcome A) (x : A) → (Whole → Part) → IsAnswer Part read x
    → IsAnswer Whole read x
narrower read x part (inl e) = inl e
narrower read x part (inr (stop, e, never)) = inr (stop, e, λ w. never (part w))

pub within_answer : {A : Type 0} {Fits : Type 0} (beyond : ℕ) (s : Span) (rest : List Token) (read : Outcome A)
    (x : A) → (Fits → beyond ≤ length rest) → IsAnswer Fits read x → IsAnswer Fits (within beyond s rest read) x
unfolding within
within_answer {A} {Fits} beyond s rest read x inside h = go (nat_le beyond (length rest)) refl
  where
    go : (b : Bool) → nat_le beyond (length rest) ≡ b → IsAnswer Fits (cond b read (Err (too_deep s))) x
    go true is = h
    go false is = inr (deep_at s, refl, λ w. let le = inside w in let lt = leb-false _ _ is in omega arith)

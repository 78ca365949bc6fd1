-- For proofs: reading that stops by another code than that of syntax, in a part and in the tree round it.
use Rattle.std.proofs.Common.{◌≡◌, ℕ, zero, suc, List, ◌++◌, Option, Some, None, Ok, Err, sym, ap, subst, ◌∙◌}
use Rattle.std.proofs.Common.{append_assoc, inl, inr}
use Rattle.om_lexer.specs.declared.fault.SourceFault.{SourceFault}
use Rattle.om_lexer.specs.declared.token.Keyword.{Keyword}
use Rattle.om_lexer.specs.declared.token.Punctuator.{Punctuator}
use Rattle.om_lexer.specs.declared.token.Span.{Span}
use Rattle.om_lexer.specs.declared.token.Token.{Token}
use Rattle.om_parser.specs.BlockFaults.{IsBadAtomic, IsStopped}
use Rattle.om_parser_tree.specs.Limits.{Limits}
use Rattle.om_parser.specs.BlockLineFaults.{IsLineFault}
use Rattle.om_parser_tree.specs.Places.{Place, IsPassed}
use Rattle.om_parser_parts.specs.Reading.{◌>>=◌, Outcome, Reader, choose, syntax, known, mark_at, word_at}
use Rattle.om_parser_parts.specs.Repetition.{until}
use Rattle.om_parser_parts.specs.Loops.{Ender}
use Rattle.om_parser_parts.specs.Outcomes.{ok, err_is}
use Rattle.om_parser_parts.specs.Laws.{Stops}

-- a reader that is refused by syntax alone
abbrev pub IsPlain : {A : Type 0} → Outcome A → Type 0
IsPlain read = (f : SourceFault) → read ≡ Err f → Stops f → ⊥

pub syntax_plain : {A : Type 0} (ts : List Token) (f : SourceFault) → ◌≡◌ {A = Outcome A} (Err (syntax ts)) (Err f)
    → Stops f → ⊥
syntax_plain ts f e stops = stops (sym (ap (λ (g : SourceFault). g.code) (err_is (syntax ts) f e)))

pub known_plain : {A : Type 0} (ts : List Token) (o : Option A) → IsPlain (known ts o)
known_plain ts (Some x) f e stops = absurd cc
known_plain ts None f e stops = syntax_plain ts f e stops

pub bind_plain : {A B : Type 0} (read : Outcome A) (g : A → Outcome B) → IsPlain read → ((x : A) → IsPlain (g x))
    → IsPlain (read >>= g)
bind_plain (Ok x) g first second f e stops = second x f e stops
bind_plain (Err d) g first second f e stops = first f (ap (λ (c : SourceFault). Err c) (err_is d f e)) stops

pub ok_plain : {A : Type 0} (x : A) → IsPlain (ok x)
ok_plain x f e stops = absurd cc

pub choose_plain : {A B : Type 0} (o : Option A) (g : A → Outcome B) (z : Outcome B) → ((x : A) → IsPlain (g x))
    → IsPlain z → IsPlain (choose o g z)
choose_plain (Some x) g z first second = first x
choose_plain None g z first second = second

pub until_plain : {A : Type 0} (ender : Ender) (item : Reader A) → ((ts : List Token) → IsPlain (item ts))
    → (k : ℕ) (ts : List Token) → IsPlain (until ender item k ts)
unfolding until
until_plain ender item plain zero ts = bind_plain (item ts) _ (plain ts) (λ a. syntax_plain ts)
until_plain ender item plain (suc k) ts = choose_plain (ender ts) _ _ (λ e. ok_plain _)
    (bind_plain (item ts) _ (plain ts) (λ a. bind_plain (until ender item k a.1) _
    (until_plain ender item plain k a.1) (λ b. ok_plain _)))

pub mark_plain : (q : Punctuator) (ts : List Token) → IsPlain (mark_at q ts)
unfolding mark_at
mark_plain q ts = known_plain ts _

pub word_plain : (k : Keyword) (ts : List Token) → IsPlain (word_at k ts)
unfolding word_at
word_plain k ts = known_plain ts _

-- a punctuator that ends what is read
pub last_mark_plain : {A : Type 0} (q : Punctuator) (ts : List Token) (g : Span × List Token → A)
    → IsPlain (mark_at q ts >>= λ s. ok (g s))
last_mark_plain q ts g = bind_plain (mark_at q ts) _ (mark_plain q ts) (λ s f h stops. absurd cc)

-- ---- a fault of tokens is one of those with more before them

atomic_behind : (front us : List Token) (place : ℕ) → IsBadAtomic us place → IsBadAtomic (front ++ us) place
atomic_behind front us place a = record {
  before = front ++ a.before;
  directive = a.directive;
  statement = a.statement;
  after = a.after;
  stands = ap (λ (w : List Token). front ++ w) a.stands ∙ simp append_assoc;
  line = a.line;
  atomic = a.atomic;
  formed = a.formed;
  body = a.body;
  no_form = a.no_form;
  at_place = a.at_place;
}

-- a line in a part stands in a larger one
line_larger : {A B : Type 0} {spell : A → List Token} {P : A → Type 0} (spell_whole : B → List Token)
    (Q : B → Type 0) (front back : List Token) (wrap : A → B) (l : Limits) (us : List Token) (f : SourceFault)
    → ((a : A) → P a → Q (wrap a)) → ((a : A) → spell_whole (wrap a) ≡ front ++ (spell a ++ back))
    → IsLineFault spell P l us f → IsLineFault spell_whole Q l (front ++ us) f
line_larger spell_whole Q front back wrap l us f formed spelled c =
    let h = c.has_line in
    record {
      line = c.line;
      wrong = c.wrong;
      has_line = record {
        before = front ++ h.before;
        after = h.after;
        stands = ap (λ (w : List Token). front ++ w) h.stands ∙ simp append_assoc;
        one_line = h.one_line;
        part = wrap h.part;
        formed = formed h.part h.formed;
        hash = h.hash;
        rest_of_part = h.rest_of_part ++ back;
        in_part = spelled h.part ∙ ap (λ (w : List Token). front ++ (w ++ back)) h.in_part ∙ simp append_assoc;
      };
    }

-- a part in which a limit is passed stands in a larger one
passed_larger : {A B : Type 0} {spell : A → List Token} {P : A → Type 0} {over : A → Place}
    (spell_whole : B → List Token) (Q : B → Type 0) (over_whole : B → Place) (front back : List Token)
    (wrap : A → B) (us : List Token) (place : ℕ)
    → ((a : A) → P a → Q (wrap a)) → ((a : A) → spell_whole (wrap a) ≡ front ++ (spell a ++ back))
    → ((a : A) (before : List Token) (t : Token) → over a before t → over_whole (wrap a) (front ++ before) t)
    → IsPassed spell P over us place → IsPassed spell_whole Q over_whole (front ++ us) place
passed_larger spell_whole Q over_whole front back wrap us place formed spelled passed c = record {
  part = wrap c.part;
  formed = formed c.part c.formed;
  before = front ++ c.before;
  token = c.token;
  after = c.after;
  rest_of_part = c.rest_of_part ++ back;
  stands = ap (λ (w : List Token). front ++ w) c.stands ∙ simp append_assoc;
  in_part = spelled c.part ∙ ap (λ (w : List Token). front ++ (w ++ back)) c.in_part ∙ simp append_assoc;
  at_place = c.at_place;
  too_much = passed c.part c.before c.token c.too_much;
}

-- a part at which reading stops stands in a larger one
pub within_larger : {A B : Type 0} {spell : A → List Token} {P : A → Type 0} {over : A → Place} {l : Limits}
    (spell_whole : B → List Token) (Q : B → Type 0) (over_whole : B → Place) (front back : List Token)
    (wrap : A → B) (ts us : List Token) (f : SourceFault)
    → ((a : A) → P a → Q (wrap a)) → ((a : A) → spell_whole (wrap a) ≡ front ++ (spell a ++ back))
    → ((a : A) (before : List Token) (t : Token) → over a before t → over_whole (wrap a) (front ++ before) t)
    → ts ≡ front ++ us → IsStopped spell P over l us f → IsStopped spell_whole Q over_whole l ts f
within_larger {A} {B} {spell} {P} {over} {l} spell_whole Q over_whole front back wrap ts us f formed spelled passed
    is stopped =
    subst (λ (vs : List Token). IsStopped spell_whole Q over_whole l vs f) (sym is) (elim stopped [
      | inl (deep, c) ↦ inl (
        deep,
        passed_larger spell_whole Q over_whole front back wrap us f.at formed spelled
            passed c,
      )
      | inr (inl fault) ↦ inr (inl (line_larger spell_whole Q front back wrap l us f formed spelled fault))
      | inr (inr (bad, a)) ↦ inr (inr (bad, atomic_behind front us f.at a))
    ])

-- Clauses in their row: what is read is spelled so, and what is spelled is read again.
use Rattle.std.proofs.Common.{◌≡◌, ℕ, ◌<◌, List, [], ◌∷◌, ◌++◌, length, Option, Some, None, Bool, true, false, cond}
use Rattle.std.proofs.Common.{Result, Ok, Err, refl, ap, subst, ◌∙◌, arith, append_assoc, length-append, inl, inr}
use Rattle.om_lexer.specs.declared.fault.FaultCode.TheVariants as fault_codes
use Rattle.om_lexer.specs.declared.token.Punctuator.{Punctuator}
use Rattle.om_lexer.specs.declared.token.Punctuator.TheVariants as punctuators
use Rattle.om_lexer.specs.declared.token.Span.{Span}
use Rattle.om_lexer.specs.declared.token.Token.{Token}
use Rattle.om_lexer.specs.declared.token.TokenKind.{TokenKind}
use Rattle.om_lexer.specs.declared.token.TokenKind.TheVariants as kinds
use Rattle.om_pragma.specs.declared.clause.Clause.{Clause}
use Rattle.om_pragma.specs.declared.clause.ClauseItem.{ClauseItem}
use Rattle.om_pragma.specs.declared.clause.ClauseKind.{ClauseKind}
use Rattle.om_pragma.specs.declared.clause.ClauseKind.TheVariants as clause_kinds
use Rattle.om_pragma.specs.declared.tree.DirectiveName.{DirectiveName}
use Rattle.om_pragma.specs.Expressions.{IsClosed}
use Rattle.om_pragma.specs.Reading.{choose, fault, all_clauses, take_kind, take_word, take_end, is_end, in_clause}
use Rattle.om_pragma.specs.Reading.{clause_after, clause_at, comma_at, item_at}
use Rattle.om_pragma.specs.Spelling.{token, argument_spelling, clause_spelling, comma_spelling, item_spelling, kind_of}
use Rattle.om_pragma.specs.Spelling.{span_of}
use Rattle.om_pragma.specs.Table.{may_stand, kinds_of, IsBetween, IsClause, IsItem}
use Rattle.om_pragma.specs.Words.{same_kind, same_keyword, is_word, clause_word, among}
use Rattle.om_pragma.proofs.Arguments.{clause_after_is, clause_again}
use Rattle.om_pragma.proofs.Outcomes.{ok, ok_is, some, bind_ok, choose_cases, after_front}
use Rattle.om_pragma.proofs.Taken.{take_kind_is, take_word_is, take_mark_again, word_again}

-- ---- the words of clauses

pub clause_known : (k : ClauseKind) → among clause_word all_clauses (clause_word k) ≡ some k
unfolding same_keyword
clause_known clause_kinds.NumThreads = refl
clause_known clause_kinds.Filter = refl
clause_known clause_kinds.Default = refl
clause_known clause_kinds.Shared = refl
clause_known clause_kinds.Private = refl
clause_known clause_kinds.Firstprivate = refl
clause_known clause_kinds.Reduction = refl
clause_known clause_kinds.Schedule = refl
clause_known clause_kinds.Nowait = refl
clause_known clause_kinds.Update = refl
clause_known clause_kinds.Read = refl
clause_known clause_kinds.Write = refl
clause_known clause_kinds.SeqCst = refl
clause_known clause_kinds.Relaxed = refl

pub clause_is_word : (k : ClauseKind) → is_word (clause_word k) ≡ true
clause_is_word clause_kinds.NumThreads = refl
clause_is_word clause_kinds.Filter = refl
clause_is_word clause_kinds.Default = refl
clause_is_word clause_kinds.Shared = refl
clause_is_word clause_kinds.Private = refl
clause_is_word clause_kinds.Firstprivate = refl
clause_is_word clause_kinds.Reduction = refl
clause_is_word clause_kinds.Schedule = refl
clause_is_word clause_kinds.Nowait = refl
clause_is_word clause_kinds.Update = refl
clause_is_word clause_kinds.Read = refl
clause_is_word clause_kinds.Write = refl
clause_is_word clause_kinds.SeqCst = refl
clause_is_word clause_kinds.Relaxed = refl

pub word_no_end : (k : TokenKind) → is_word k ≡ true → is_end k ≡ false
word_no_end kinds.DirectiveEnd w = absurd cc
word_no_end _ w = refl

pub word_no_mark : (k : TokenKind) (p : Punctuator) → is_word k ≡ true → same_kind k (kinds.Punctuator p) ≡ false
word_no_mark (kinds.Punctuator q) p w = absurd cc
word_no_mark _ p w = refl

pub take_no_end : (k : TokenKind) (s : Span) (us : List Token) → is_word k ≡ true → take_end (token k s ∷ us) ≡ None
unfolding take_end
take_no_end k s [] w = rw (word_no_end k w) refl
take_no_end k s (u ∷ us) w = refl

pub take_no_mark : (k : TokenKind) (p : Punctuator) (s : Span) (us : List Token) → is_word k ≡ true
    → take_kind (kinds.Punctuator p) (token k s ∷ us) ≡ None
unfolding take_kind
take_no_mark k p s us w = rw (word_no_mark k p w) refl

-- ---- what is read

in_clause_ok : {A : Type 0} (s : Span) (r : Result A ℕ) (x : A) → in_clause s r ≡ ok x → r ≡ ok x
in_clause_ok s (Ok y) x e = ap ok (ok_is y x e)
in_clause_ok s (Err p) x e = absurd cc

abbrev Word : Type 0
Word = ClauseKind × Span

abbrev word_pair : ClauseKind → Span → Word
word_pair k s = (k, s)

pair : {k l : ClauseKind} {s t : Span} → l ≡ k → t ≡ s → word_pair k s ≡ word_pair l t
pair e f = cc

pub record IsClauseRead (name : DirectiveName) (before : List ClauseKind) (ts : List Token) (x : Clause (List Token)
    × List Token) : Type 0 where
  pub parts : ts ≡ clause_spelling (λ e. e) x.0 ++ x.1
  pub can_stand : may_stand name before (kind_of x.0) ≡ true
  pub formed : IsClause IsClosed x.0

pub clause_at_is : (name : DirectiveName) (before : List ClauseKind) (ts : List Token) (x : Clause (List Token)
    × List Token) → clause_at name before ts ≡ ok x → IsClauseRead name before ts x
unfolding clause_at clause_spelling
clause_at_is name before ts x h = elim (choose_cases (take_word clause_word all_clauses ts) _ _ (ok x) h) [
  | inl w ↦
      let k : ClauseKind = w.0.0.0 in
      go w.0 (take_word_is clause_word all_clauses ts w.0 w.1) (may_stand name before k) refl w.2
  | inr w ↦ absurd cc
]
  where
    go : (w : (ClauseKind × Span) × List Token) → ts ≡ token (clause_word w.0.0) w.0.1 ∷ w.1 → (b : Bool)
        → may_stand name before w.0.0 ≡ b → cond b (in_clause w.0.1 (clause_after w.0.0 w.0.1 w.1))
        (Err (fault fault_codes.BadClause w.0.1.start)) ≡ ok x → IsClauseRead name before ts x
    go w begins true can e =
        let r = clause_after_is w.0.0 w.0.1 w.1 x (in_clause_ok w.0.1 (clause_after w.0.0 w.0.1 w.1) x e) in
        record {
          parts = begins ∙ ap (λ (v : List Token). token (clause_word w.0.0) w.0.1 ∷ v) r.parts
              ∙ ap (λ (p : ClauseKind × Span). token (clause_word p.0) p.1
              ∷ (argument_spelling (λ e. e) x.0 ++ x.1)) (pair r.kind r.at);
          can_stand = rw r.kind can;
          formed = r.formed;
        }
    go w begins false can e = absurd cc

pub comma_is : {A : Type 0} (before : List A) (ts : List Token) → (ts ≡ comma_spelling (comma_at before ts).0
    ++ (comma_at before ts).1) × IsBetween before (comma_at before ts).0
unfolding comma_at
comma_is [] ts = (refl, tt)
comma_is (b ∷ bs) ts = go (take_kind (kinds.Punctuator punctuators.Comma) ts) refl
  where
    go : (o : Option (Span × List Token)) → take_kind (kinds.Punctuator punctuators.Comma) ts ≡ o
        → (ts ≡ comma_spelling (choose {B = Option Span × List Token} o (λ c. (some c.0, c.1)) (None, ts)).0
        ++ (choose {B = Option Span × List Token} o (λ c. (some c.0, c.1)) (None, ts)).1) × IsBetween (b ∷ bs)
        (choose {B = Option Span × List Token} o (λ c. (some c.0, c.1)) (None, ts)).0
    go (Some c) is = (take_kind_is (kinds.Punctuator punctuators.Comma) ts c.0 c.1 is, tt)
    go None is = (refl, tt)

pub item_is : (name : DirectiveName) (before : List (ClauseItem (List Token))) (ts : List Token)
    (x : ClauseItem (List Token) × List Token) → item_at name before ts ≡ ok x → (ts ≡ item_spelling (λ e. e) x.0
    ++ x.1) × IsItem IsClosed name before x.0
unfolding item_at item_spelling
item_is name before ts x h =
    let c = bind_ok (clause_at name (kinds_of before) (comma_at before ts).1) _ x h in
    let comma = comma_is before ts in
    let r = clause_at_is name (kinds_of before) (comma_at before ts).1 c.0 c.1 in
    let read : ClauseItem (List Token) × List Token = (
      record { comma = (comma_at before ts).0; clause = c.0.0 },
      c.0.1,
    ) in
    subst (λ (y : ClauseItem (List Token) × List Token).
    (ts ≡ (comma_spelling y.0.comma ++ clause_spelling (λ e. e) y.0.clause) ++ y.1) × IsItem IsClosed name
    before y.0) (ok_is read x c.2) (
      after_front ts (comma_spelling (comma_at before ts).0) (comma_at before ts).1 (clause_spelling (λ e. e) c.0.0)
          c.0.1 comma.0 r.parts,
      record { between = comma.1; can_stand = r.can_stand; formed = r.formed },
    )

-- ---- again

pub comma_again : {A : Type 0} (before : List A) (c : Option Span) (k : TokenKind) (s : Span) (us : List Token)
    → IsBetween before c → is_word k ≡ true → comma_at before (comma_spelling c ++ token k s ∷ us) ≡ (c, token k s ∷ us)
unfolding comma_at
comma_again [] (Some c) k s us between w = absurd between
comma_again [] None k s us between w = refl
comma_again (b ∷ bs) (Some c) k s us between w = rw (take_mark_again punctuators.Comma c (token k s ∷ us)) refl
comma_again (b ∷ bs) None k s us between w = rw (take_no_mark k punctuators.Comma s us w) refl

clause_at_again : (name : DirectiveName) (before : List ClauseKind) (c : Clause (List Token)) (us : List Token)
    → may_stand name before (kind_of c) ≡ true → IsClause IsClosed c → clause_at name before
    (clause_spelling (λ e. e) c ++ us) ≡ ok (c, us)
unfolding clause_at clause_spelling
clause_at_again name before c us can formed = rw (
  word_again clause_word all_clauses (kind_of c)
      (clause_known (kind_of c)) (span_of c) (argument_spelling (λ e. e) c ++ us),
  can,
  clause_again c us formed,
) refl

pub item_again : (name : DirectiveName) (before : List (ClauseItem (List Token))) (i : ClauseItem (List Token))
    (us : List Token) → IsItem IsClosed name before i → item_at name before (item_spelling (λ e. e) i ++ us)
    ≡ ok (i, us)
unfolding item_at item_spelling clause_spelling
item_again name before i us h =
    let behind : List Token = clause_spelling (λ e. e) i.clause ++ us in
    rw (
      append_assoc,
      comma_before behind refl,
      clause_at_again name (kinds_of before) i.clause us h.can_stand
          h.formed,
    ) refl
  where
    comma_before : (behind : List Token) → behind ≡ clause_spelling (λ e. e) i.clause ++ us → comma_at before
        (comma_spelling i.comma ++ behind) ≡ (i.comma, behind)
    comma_before behind is = rw is (comma_again before i.comma (clause_word (kind_of i.clause)) (span_of i.clause)
        (argument_spelling (λ e. e) i.clause ++ us) h.between (clause_is_word (kind_of i.clause)))

pub item_no_end : (name : DirectiveName) (before : List (ClauseItem (List Token))) (i : ClauseItem (List Token))
    (us : List Token) → IsItem IsClosed name before i → take_end (item_spelling (λ e. e) i ++ us) ≡ None
unfolding item_spelling clause_spelling take_end
item_no_end name before i us h = go i.comma
  where
    go : (c : Option Span)
        → take_end ((comma_spelling c ++ token (clause_word (kind_of i.clause)) (span_of i.clause)
        ∷ argument_spelling (λ e. e) i.clause) ++ us) ≡ None
    go (Some c) = refl
    go None = take_no_end (clause_word (kind_of i.clause)) (span_of i.clause) (argument_spelling (λ e. e) i.clause
        ++ us) (clause_is_word (kind_of i.clause))

pub some_item : (i : ClauseItem (List Token)) → 0 < length (item_spelling (λ e. e) i)
unfolding item_spelling clause_spelling
some_item i = omega (
  arith,
  length-append (comma_spelling i.comma) (token (clause_word (kind_of i.clause))
      (span_of i.clause) ∷ argument_spelling (λ e. e) i.clause),
)

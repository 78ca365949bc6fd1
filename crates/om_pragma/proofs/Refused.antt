-- What is refused breaks its rule, and what breaks a rule is refused there.
use Rattle.std.proofs.Common.{◌≡◌, ◌≢◌, ℕ, suc, List, [], ◌∷◌, ◌++◌, Option, Some, None, Bool, true, false, cond}
use Rattle.std.proofs.Common.{Result, Ok, Err, refl, sym, ap, subst, ◌∙◌, ◌⊎◌, inl, inr}
use Rattle.om_lexer.specs.declared.fault.FaultCode.{FaultCode}
use Rattle.om_lexer.specs.declared.fault.FaultCode.TheVariants as codes
use Rattle.om_lexer.specs.declared.fault.SourceFault.{SourceFault}
use Rattle.om_lexer.specs.declared.token.Punctuator.TheVariants as punctuators
use Rattle.om_lexer.specs.declared.token.Span.{Span}
use Rattle.om_lexer.specs.declared.token.Token.{Token}
use Rattle.om_lexer.specs.declared.token.TokenKind.{TokenKind}
use Rattle.om_lexer.specs.declared.token.TokenKind.TheVariants as kinds
use Rattle.om_pragma.specs.declared.clause.Clause.{Clause}
use Rattle.om_pragma.specs.declared.clause.ClauseKind.{ClauseKind}
use Rattle.om_pragma.specs.declared.tree.Directive.{Directive}
use Rattle.om_pragma.specs.declared.tree.DirectiveName.{DirectiveName}
use Rattle.om_pragma.specs.declared.tree.DirectiveKind.{DirectiveKind}
use Rattle.om_pragma.specs.declared.tree.DirectiveKind.TheVariants as words
use Rattle.om_pragma.specs.Expressions.{IsClosed}
use Rattle.om_pragma.specs.Reading.{fault, stopped, in_clause, no_word, all_clauses, take_kind, take_word, take_end}
use Rattle.om_pragma.specs.Reading.{opening_at, critical_after, critical_at, list_after, flush_at, name_after}
use Rattle.om_pragma.specs.Reading.{directive_name_at, clause_after, clause_at, comma_at, item_at, syntax_at, until}
use Rattle.om_pragma.specs.Reading.{clauses_at, directive_at}
use Rattle.om_pragma.specs.Refusals.{StandsClause, IsUnknownDirective, IsUnknownClause, IsBadClause, IsWordFault}
use Rattle.om_pragma.specs.Refusals.{IsRefusal}
use Rattle.om_pragma.specs.Spelling.{token, opening_spelling, comma_spelling, argument_spelling, clause_spelling}
use Rattle.om_pragma.specs.Spelling.{kind_of, span_of}
use Rattle.om_pragma.specs.Table.{may_stand, kinds_of, EachBehind, IsClause, IsItem, IsDirectiveOf}
use Rattle.om_pragma.specs.Words.{same_kind, is_word, directive_word, clause_word, among, directive_words}
use Rattle.om_pragma.proofs.Arguments.{clause_after_is, clause_again}
use Rattle.om_pragma.proofs.Directives.{Items, spelling, clauses_end, clauses_pass, directive_parts, read_again}
use Rattle.om_pragma.proofs.Items.{clause_known, clause_is_word, comma_is, comma_again, take_no_end}
use Rattle.om_pragma.proofs.Names.{stopped_ok, alone, directive_known, directive_name_is, opening_is, opening_again}
use Rattle.om_pragma.proofs.Outcomes.{ok, err, err_is, ok_err, some, some_is, bind_err, choose_cases}
use Rattle.om_pragma.proofs.Taken.{same_kind_is, take_word_is, word_again}

-- ---- words that are not known

unknown_word : {K : Type 0} (word : K → TokenKind) (ks : List K) (alone : K → K) → ((k : K) → among word ks (word k)
    ≡ some (alone k)) → (t : Token) (us : List Token) → take_word word ks (t ∷ us) ≡ None → (k : K) → t.kind ≢ word k
unfolding take_word
unknown_word {K} word ks alone known t us none k e =
    let found : among word ks t.kind ≡ some (alone k) = rw e (known k) in
    let taken : take_word word ks (t ∷ us) ≡ some ((alone k, t.span), us) = rw found refl in
    absurd cc

none_among : {K : Type 0} (word : K → TokenKind) (ks : List K) (kind : TokenKind) → ((k : K) → kind ≢ word k)
    → among word ks kind ≡ None
none_among word [] kind unknown = refl
none_among {K} word (j ∷ ks) kind unknown = go (none_among word ks kind unknown) (same_kind kind (word j)) refl
  where
    go : among word ks kind ≡ None → (b : Bool) → same_kind kind (word j) ≡ b → cond b (some j) (among word ks kind)
        ≡ None
    go later true is = absurd (unknown j (same_kind_is kind (word j) is))
    go later false is = later

not_taken : {K : Type 0} (word : K → TokenKind) (ks : List K) (t : Token) (us : List Token)
    → ((k : K) → t.kind ≢ word k) → take_word word ks (t ∷ us) ≡ None
unfolding take_word
not_taken word ks t us unknown = rw (none_among word ks t.kind unknown) refl

-- ---- what is refused

-- a word that is not known stands first, and the fault is at it
record IsUnknown {K : Type 0} (word : K → TokenKind) (ts : List Token) (f : SourceFault) : Type 0 where
  first : Token
  rest : List Token
  parts : ts ≡ first ∷ rest
  some_word : is_word first.kind ≡ true
  unknown : (k : K) → first.kind ≢ word k
  code : f.code ≡ codes.UnknownDirective
  place : first.span.start ≡ f.at

no_word_is : {K : Type 0} (word : K → TokenKind) (ks : List K) (alone : K → K) → ((k : K) → among word ks (word k)
    ≡ some (alone k)) → (ts : List Token) (f : SourceFault) → take_word word ks ts ≡ None → no_word ts ≡ f
    → (f.code ≡ codes.Syntax) ⊎ IsUnknown word ts f
no_word_is word ks alone known [] f none e = inl (ap (λ (g : SourceFault). g.code) (sym e))
no_word_is {K} word ks alone known (t ∷ ts) f none e = go (is_word t.kind) refl e
  where
    go : (b : Bool) → is_word t.kind ≡ b → fault (cond b codes.UnknownDirective codes.Syntax) t.span.start ≡ f
        → (f.code ≡ codes.Syntax) ⊎ IsUnknown word (t ∷ ts) f
    go true is e = inr (record {
      first = t;
      rest = ts;
      parts = refl;
      some_word = is;
      unknown = unknown_word word ks
          alone known t ts none;
      code = ap (λ (g : SourceFault). g.code) (sym e);
      place = ap (λ (g : SourceFault). g.at) e;
    })
    go false is e = inl (ap (λ (g : SourceFault). g.code) (sym e))

stopped_err : {A : Type 0} (r : Result A ℕ) (f : SourceFault) → stopped r ≡ err f → f.code ≡ codes.Syntax
stopped_err (Ok x) f e = absurd cc
stopped_err (Err at) f e = ap (λ (g : SourceFault). g.code) (sym (err_is (fault codes.Syntax at) f e))

critical_err : (s : Span) (ts : List Token) (f : SourceFault) → critical_at s ts ≡ err f → f.code ≡ codes.Syntax
unfolding critical_at
critical_err s ts f h = elim (choose_cases (take_kind (kinds.Punctuator punctuators.OpenParen) ts) _ _ (err f) h) [
  | inl o ↦ elim (bind_err (stopped (critical_after o.0.0 o.0.1)) _ f o.2)
      [ inl e ↦ stopped_err (critical_after o.0.0 o.0.1) f e | inr e ↦ absurd cc ]
  | inr o ↦ absurd cc
]

flush_err : (s : Span) (ts : List Token) (f : SourceFault) → flush_at s ts ≡ err f → f.code ≡ codes.Syntax
unfolding flush_at
flush_err s ts f h = elim (choose_cases (take_kind (kinds.Punctuator punctuators.OpenParen) ts) _ _ (err f) h) [
  | inl o ↦ elim (bind_err (stopped (list_after o.0.0 o.0.1)) _ f o.2)
      [ inl e ↦ stopped_err (list_after o.0.0 o.0.1) f e | inr e ↦ absurd cc ]
  | inr o ↦ absurd cc
]

name_after_err : (w : DirectiveKind) (s : Span) (ts : List Token) (f : SourceFault) → name_after w s ts ≡ err f
    → f.code ≡ codes.Syntax
unfolding name_after
name_after_err words.Critical s ts f h = critical_err s ts f h
name_after_err words.Flush s ts f h = flush_err s ts f h
name_after_err _ s ts f h = absurd cc

name_err : (ts : List Token) (f : SourceFault) → directive_name_at ts ≡ err f → (f.code ≡ codes.Syntax)
    ⊎ IsUnknown directive_word ts f
unfolding directive_name_at
name_err ts f h = elim (choose_cases (take_word directive_word directive_words ts) _ _ (err f) h) [
  | inl w ↦ inl (name_after_err w.0.0.0 w.0.0.1 w.0.1 f w.2)
  | inr w ↦ no_word_is directive_word directive_words alone directive_known ts f w.0 (err_is (no_word ts) f w.1)
]

-- a clause is wrong
record IsBad (name : DirectiveName) (before : List ClauseKind) (ts : List Token) (f : SourceFault) : Type 0 where
  kind : ClauseKind
  word : Span
  rest : List Token
  parts : ts ≡ token (clause_word kind) word ∷ rest
  bad : (may_stand name before kind ≡ false)
      ⊎ ((c : Clause (List Token)) (behind : List Token) → IsClause IsClosed c → token (clause_word kind) word
      ∷ rest ≢ clause_spelling (λ e. e) c ++ behind)
  code : f.code ≡ codes.BadClause
  place : word.start ≡ f.at

-- the word and the argument of a clause that stands there
clause_stands : (k : ClauseKind) (s : Span) (us : List Token) (c : Clause (List Token)) (behind : List Token)
    → token (clause_word k) s ∷ us ≡ clause_spelling (λ e. e) c ++ behind → (kind_of c ≡ k) × (span_of c ≡ s)
    × (us ≡ argument_spelling (λ e. e) c ++ behind)
unfolding clause_spelling
clause_stands k s us c behind e =
    let word : token (clause_word k) s ≡ token (clause_word (kind_of c)) (span_of c) = cc in
    let found : among clause_word all_clauses (clause_word (kind_of c))
    ≡ some k = rw (ap (λ (t : Token). t.kind) (sym word)) (clause_known k) in
    (some_is (kind_of c) k (sym (clause_known (kind_of c)) ∙ found), ap (λ (t : Token). t.span) (sym word), cc)

in_clause_err : (s : Span) (r : Result (Clause (List Token) × List Token) ℕ) (f : SourceFault) → in_clause s r
    ≡ err f → ((at : ℕ) × (r ≡ err at)) × (f ≡ fault codes.BadClause s.start)
in_clause_err s (Ok x) f e = absurd cc
in_clause_err s (Err at) f e = ((at, refl), sym (err_is (fault codes.BadClause s.start) f e))

clause_err : (name : DirectiveName) (before : List ClauseKind) (ts : List Token) (f : SourceFault)
    → clause_at name before ts ≡ err f → (f.code ≡ codes.Syntax) ⊎ (IsUnknown clause_word ts f ⊎ IsBad name before ts f)
unfolding clause_at
clause_err name before ts f h = elim (choose_cases (take_word clause_word all_clauses ts) _ _ (err f) h) [
  | inl w ↦ go w.0 (take_word_is clause_word all_clauses ts w.0 w.1) (may_stand name before w.0.0.0) refl w.2
  | inr w ↦ elim (no_word_is clause_word all_clauses (λ k. k) clause_known ts f w.0 (err_is (no_word ts) f w.1))
      [ inl e ↦ inl e | inr e ↦ inr (inl e) ]
]
  where
    go : (w : (ClauseKind × Span) × List Token) → ts ≡ token (clause_word w.0.0) w.0.1 ∷ w.1 → (b : Bool)
        → may_stand name before w.0.0 ≡ b → cond b (in_clause w.0.1 (clause_after w.0.0 w.0.1 w.1))
        (Err (fault codes.BadClause w.0.1.start)) ≡ err f → (f.code ≡ codes.Syntax)
        ⊎ (IsUnknown clause_word ts f ⊎ IsBad name before ts f)
    go w begins true can e =
        let r = in_clause_err w.0.1 (clause_after w.0.0 w.0.1 w.1) f e in
        inr (inr (record {
          kind = w.0.0;
          word = w.0.1;
          rest = w.1;
          parts = begins;
          bad = inr (λ c behind formed spelled.
              let s = clause_stands w.0.0 w.0.1 w.1 c behind spelled in
              let again : clause_after w.0.0 w.0.1 w.1 ≡ ok (c, behind) = rw (s.2, sym s.0, sym s.1)
              (clause_again c behind formed) in
              ok_err (c, behind) r.0.0 (sym again ∙ r.0.1));
          code = ap (λ (g : SourceFault). g.code) r.1;
          place = ap (λ (g : SourceFault). g.at) (sym r.1);
        }))
    go w begins false can e =
        let is : f ≡ fault codes.BadClause w.0.1.start = sym (err_is (fault codes.BadClause w.0.1.start) f e) in
        inr (inr (record {
          kind = w.0.0;
          word = w.0.1;
          rest = w.1;
          parts = begins;
          bad = inl can;
          code = ap (λ (g : SourceFault). g.code) is;
          place = ap (λ (g : SourceFault). g.at) (sym is);
        }))

abbrev pub IsFault : List Token → SourceFault → Type 0
IsFault ts f = (f.code ≡ codes.Syntax) ⊎ IsWordFault ts f.code f.at

at_code : (ts : List Token) (code : FaultCode) (f : SourceFault) → f.code ≡ code → IsWordFault ts code f.at
    → IsFault ts f
at_code ts code f e h = inr (subst (λ (k : FaultCode). IsWordFault ts k f.at) (sym e) h)

-- a fault where a clause is expected
behind_fault : (ts : List Token) (o : (Span × Span × Span) × List Token) (n : DirectiveName × List Token)
    (f : SourceFault) → opening_at ts ≡ ok o → directive_name_at o.1 ≡ ok n → clauses_at n.0 n.1 ≡ err f → IsFault ts f
unfolding item_at
behind_fault ts o n f opening named h =
    let e = clauses_end n.0 n.1 (err f) h in
    elim e.last [
      | inl l ↦ absurd (ok_err (e.all, l.0.0, l.0.1) f (sym l.2))
      | inr l ↦
          let same : f ≡ l.0 = err_is f l.0 l.3 in
          elim (bind_err (clause_at n.0 (kinds_of e.all) (comma_at e.all e.us).1) _ l.0 l.2) [
            | inl c ↦
                let comma = comma_is e.all e.us in
                let words = directive_name_is o.1 n named in
                let each : EachBehind (IsItem IsClosed n.0) [] e.all = subst
                (λ (y : Items). EachBehind (IsItem IsClosed n.0) [] y) (sym e.is_all) e.each in
                let rest : List Token = (comma_at e.all e.us).1 in
                let behind : n.1 ≡ spelling e.all ++ (comma_spelling (comma_at e.all e.us).0 ++ rest) = subst
                (λ (y : Items). n.1 ≡ spelling y ++ e.us) (sym e.is_all) e.parts
                ∙ ap (λ (w : List Token). spelling e.all ++ w) comma.0 in
                let stands : StandsClause ts n.0 e.all rest = record {
                  hash = o.0.0;
                  pragma = o.0.1;
                  omp = o.0.2;
                  comma = (comma_at e.all e.us).0;
                  behind_name = n.1;
                  parts = opening_is ts o opening ∙ ap (λ (w : List Token). opening_spelling o.0.0 o.0.1 o.0.2 ++ w)
                      words.parts;
                  behind_parts = behind;
                  whole_name = words.whole;
                  formed = each;
                  between = comma.1;
                } in
                elim (clause_err n.0 (kinds_of e.all) rest f (c ∙ ap err (sym same))) [
                  | inl s ↦ inl s
                  | inr (inl u) ↦ at_code ts codes.UnknownDirective f u.code
                      (inr (record {
                        name = n.0;
                        before = e.all;
                        word = u.first;
                        rest = u.rest;
                        stands = subst
                            (StandsClause ts n.0 e.all) u.parts stands;
                        some_word = u.some_word;
                        unknown = u.unknown;
                        place = u.place;
                      }))
                  | inr (inr b) ↦ at_code ts codes.BadClause f b.code
                      (record {
                        name = n.0;
                        before = e.all;
                        kind = b.kind;
                        word = b.word;
                        rest = b.rest;
                        stands = subst (StandsClause ts n.0 e.all) b.parts stands;
                        bad = b.bad;
                        place = b.place;
                      })
                ]
            | inr c ↦ absurd cc
          ]
    ]

pub refused_fault : (ts : List Token) (f : SourceFault) → directive_at ts ≡ err f → IsFault ts f
unfolding directive_at
refused_fault ts f h = elim (bind_err (stopped (opening_at ts)) _ f h) [
  | inl e ↦ inl (stopped_err (opening_at ts) f e)
  | inr o ↦
      let opening = stopped_ok (opening_at ts) o.0 o.1 in
      elim (bind_err (directive_name_at o.0.1) _ f o.2) [
        | inl e ↦ elim (name_err o.0.1 f e) [
          | inl s ↦ inl s
          | inr u ↦ at_code ts codes.UnknownDirective f u.code (inl (record {
            hash = o.0.0.0;
            pragma = o.0.0.1;
            omp = o.0.0.2;
            word = u.first;
            rest = u.rest;
            parts = opening_is ts o.0 opening ∙ ap (λ (w : List Token). opening_spelling o.0.0.0 o.0.0.1 o.0.0.2
                ++ w) u.parts;
            some_word = u.some_word;
            unknown = u.unknown;
            place = u.place;
          }))
        ]
        | inr n ↦ elim (bind_err (clauses_at n.0.0 n.0.1) _ f n.2) [
          | inl e ↦ behind_fault ts o.0 n.0 f opening n.1 e
          | inr e ↦ absurd cc
        ]
      ]
]

-- ---- what breaks a rule

wrong_word : (t : Token) (us : List Token) (at : ℕ) → is_word t.kind ≡ true → t.span.start ≡ at → no_word (t ∷ us)
    ≡ fault codes.UnknownDirective at
wrong_word t us at w e = rw (w, e) refl

unknown_directive_read : (ts : List Token) (at : ℕ) → IsUnknownDirective ts at → directive_at ts
    ≡ err (fault codes.UnknownDirective at)
unfolding directive_at directive_name_at
unknown_directive_read ts at h = rw (
  h.parts,
  opening_again h.hash h.pragma h.omp (h.word ∷ h.rest),
  not_taken directive_word directive_words h.word h.rest h.unknown,
)
    (ap err (wrong_word h.word h.rest at h.some_word h.place))

-- a fault of what stands where a clause is expected is the fault of the whole
stands_read : (ts : List Token) (name : DirectiveName) (before : Items) (t : Token) (rest : List Token)
    (f : SourceFault) → StandsClause ts name before (t ∷ rest) → is_word t.kind ≡ true
    → clause_at name (kinds_of before) (t ∷ rest) ≡ err f → directive_at ts ≡ err f
unfolding item_at until take_end
stands_read ts name before t rest f h w e =
    let us : List Token = comma_spelling h.comma ++ t ∷ rest in
    let fails : item_at name before us ≡ err f = rw (comma_again before h.comma t.kind t.span rest h.between w, e)
    refl in
    let last : (n : ℕ) → until syntax_at take_end (item_at name) (suc n) before us ≡ err f = λ n. rw
    (no_end h.comma, fails) refl in
    let clauses : clauses_at name h.behind_name ≡ err f = rw h.behind_parts (clauses_pass name before us (err f)
    h.formed last) in
    rw h.parts (directive_parts h.hash h.pragma h.omp name h.behind_name (err f) h.whole_name clauses)
  where
    no_end : (c : Option Span) → take_end (comma_spelling c ++ t ∷ rest) ≡ None
    no_end (Some c) = refl
    no_end None = take_no_end t.kind t.span rest w

unknown_clause_read : (ts : List Token) (at : ℕ) → IsUnknownClause ts at → directive_at ts
    ≡ err (fault codes.UnknownDirective at)
unfolding clause_at
unknown_clause_read ts at h = stands_read ts h.name h.before h.word h.rest (fault codes.UnknownDirective at)
    h.stands h.some_word (rw (not_taken clause_word all_clauses h.word h.rest h.unknown)
    (ap err (wrong_word h.word h.rest at h.some_word h.place)))

bad_clause_read : (ts : List Token) (at : ℕ) → IsBadClause ts at → directive_at ts ≡ err (fault codes.BadClause at)
unfolding clause_at clause_spelling
bad_clause_read ts at h = stands_read ts h.name h.before (token (clause_word h.kind) h.word) h.rest
    (fault codes.BadClause at) h.stands (clause_is_word h.kind)
    (rw (word_again clause_word all_clauses h.kind (clause_known h.kind) h.word h.rest)
    (fails (may_stand h.name (kinds_of h.before) h.kind) refl h.bad))
  where
    wrong_inside : (r : Result (Clause (List Token) × List Token) ℕ) → clause_after h.kind h.word h.rest ≡ r
        → ((c : Clause (List Token)) (behind : List Token) → IsClause IsClosed c → token (clause_word h.kind) h.word
        ∷ h.rest ≢ clause_spelling (λ e. e) c ++ behind) → in_clause h.word r ≡ err (fault codes.BadClause at)
    wrong_inside (Err p) is bad = rw h.place refl
    wrong_inside (Ok x) is bad =
        let r = clause_after_is h.kind h.word h.rest x is in
        absurd (bad x.0 x.1 r.formed
        (rw (r.kind, r.at) (ap (λ (w : List Token). token (clause_word h.kind) h.word ∷ w) r.parts)))

    fails : (b : Bool) → may_stand h.name (kinds_of h.before) h.kind ≡ b
        → (may_stand h.name (kinds_of h.before) h.kind ≡ false) ⊎ ((c : Clause (List Token)) (behind : List Token)
        → IsClause IsClosed c → token (clause_word h.kind) h.word ∷ h.rest ≢ clause_spelling (λ e. e) c ++ behind)
        → cond b (in_clause h.word (clause_after h.kind h.word h.rest)) (Err (fault codes.BadClause h.word.start))
        ≡ err (fault codes.BadClause at)
    fails false is bad = rw h.place refl
    fails true is (inl can) = absurd cc
    fails true is (inr bad) = wrong_inside (clause_after h.kind h.word h.rest) refl bad

pub word_fault_read : (ts : List Token) (code : FaultCode) (at : ℕ) → IsWordFault ts code at → directive_at ts
    ≡ err (fault code at)
word_fault_read ts codes.UnknownDirective at (inl h) = unknown_directive_read ts at h
word_fault_read ts codes.UnknownDirective at (inr h) = unknown_clause_read ts at h
word_fault_read ts codes.BadClause at h = bad_clause_read ts at h
word_fault_read ts _ at h = absurd h

pub refusal : (ts : List Token) (f : SourceFault) → directive_at ts ≡ err f → IsRefusal ts f
refusal ts f h = elim (refused_fault ts f h) [
  | inl syntax ↦ inl (
    syntax,
    record {
      no_directive = λ d is. ok_err d f (sym (read_again ts d is) ∙ h);
      no_other = λ code at is.
          let same : fault code at ≡ f = err_is (fault code at) f (sym (word_fault_read ts code at is) ∙ h) in
          let here : IsWordFault ts codes.Syntax at = subst (λ (k : FaultCode). IsWordFault ts k at)
          (ap (λ (g : SourceFault). g.code) same ∙ syntax) is in
          here;
    },
  )
  | inr word ↦ inr word
]

pub one_fault : (ts : List Token) (code other : FaultCode) (at place : ℕ) → IsWordFault ts code at
    → IsWordFault ts other place → (code ≡ other) × (at ≡ place)
one_fault ts code other at place h g =
    let same = err_is (fault code at) (fault other place) (sym (word_fault_read ts code at h) ∙ word_fault_read ts
    other place g) in
    (ap (λ (f : SourceFault). f.code) same, ap (λ (f : SourceFault). f.at) same)

pub fault_in_no_directive : (ts : List Token) (code : FaultCode) (at : ℕ) (d : Directive (List Token))
    → IsWordFault ts code at → IsDirectiveOf ts d → ⊥
fault_in_no_directive ts code at d h is = ok_err d (fault code at) (sym (read_again ts d is) ∙ word_fault_read ts
    code at h)

-- The words of a directive: what is read is spelled so, and what is spelled is read again.
use Rattle.std.proofs.Common.{◌≡◌, ℕ, List, [], ◌∷◌, ◌++◌, Option, Some, None, Bool, true, false, cond, Result, Ok, Err}
use Rattle.std.proofs.Common.{refl, sym, ap, subst, ◌∙◌, inl, inr}
use Rattle.std.specs.Prelude.{codes}
use Rattle.om_lexer.specs.declared.fault.SourceFault.{SourceFault}
use Rattle.om_lexer.specs.declared.token.Punctuator.TheVariants as punctuators
use Rattle.om_lexer.specs.declared.token.Span.{Span}
use Rattle.om_lexer.specs.declared.token.Token.{Token}
use Rattle.om_lexer.specs.declared.token.TokenKind.{TokenKind}
use Rattle.om_lexer.specs.declared.token.TokenKind.TheVariants as kinds
use Rattle.om_pragma.specs.declared.clause.Name as names
use Rattle.om_pragma.specs.declared.tree.DirectiveName.{DirectiveName}
use Rattle.om_pragma.specs.declared.tree.DirectiveName.TheVariants as directives
use Rattle.om_pragma.specs.declared.tree.DirectiveKind.{DirectiveKind}
use Rattle.om_pragma.specs.declared.tree.DirectiveKind.TheVariants as words
use Rattle.om_pragma.specs.Reading.{Outcome, stopped, known, take_kind, take_word, mark_at, name_at, list_after}
use Rattle.om_pragma.specs.Reading.{critical_after, critical_at, flush_at, parallel_at, name_after, directive_name_at}
use Rattle.om_pragma.specs.Reading.{opening_at}
use Rattle.om_pragma.specs.Refusals.{IsWhole}
use Rattle.om_pragma.specs.Spelling.{token, mark, name, list_spelling, names_spelling, critical_spelling}
use Rattle.om_pragma.specs.Spelling.{flush_spelling, name_spelling, opening_spelling}
use Rattle.om_pragma.specs.Words.{same_kind, same_mark, same_keyword, directive_word, among, directive_words}
use Rattle.om_pragma.proofs.Arguments.{list_after_is, list_after_again}
use Rattle.om_pragma.proofs.Outcomes.{ok, ok_is, some, bind_ok, choose_cases, known_ok}
use Rattle.om_pragma.proofs.Taken.{same_kind_is, take_kind_is, take_word_is, mark_at_is, name_at_is, take_mark_again}
use Rattle.om_pragma.proofs.Taken.{mark_again, name_again, word_known}

-- the directive that its first word is alone
abbrev pub alone : DirectiveKind → DirectiveKind
alone words.ParallelFor = words.Parallel
alone words.ParallelSections = words.Parallel
alone k = k

pub directive_known : (w : DirectiveKind) → among directive_word directive_words (directive_word w) ≡ some (alone w)
unfolding same_keyword
directive_known words.Parallel = refl
directive_known words.For = refl
directive_known words.Sections = refl
directive_known words.Section = refl
directive_known words.Single = refl
directive_known words.ParallelFor = refl
directive_known words.ParallelSections = refl
directive_known words.Masked = refl
directive_known words.Master = refl
directive_known words.Critical = refl
directive_known words.Atomic = refl
directive_known words.Task = refl
directive_known words.Taskgroup = refl
directive_known words.Barrier = refl
directive_known words.Taskwait = refl
directive_known words.Taskyield = refl
directive_known words.Flush = refl

after_alone : (w : DirectiveKind) (s : Span) (ts : List Token) → name_after (alone w) s ts ≡ name_after w s ts
unfolding name_after
after_alone words.ParallelFor s ts = refl
after_alone words.ParallelSections s ts = refl
after_alone _ s ts = refl

-- no token of this kind stands first
abbrev pub IsNotFirst : TokenKind → List Token → Type 0
IsNotFirst w us = (t : Token) (more : List Token) → us ≡ t ∷ more → t.kind ≡ w → ⊥

not_taken : (w : TokenKind) → same_kind w w ≡ true → (us : List Token) → take_kind w us ≡ None → IsNotFirst w us
unfolding take_kind
not_taken w same [] none t more is kind = absurd cc
not_taken w same (u ∷ us) none t more is kind =
    let first : u ≡ t = cc in
    let alike : same_kind u.kind w ≡ true = rw (first, kind) same in
    absurd (taken (same_kind u.kind w) alike none)
  where
    taken : (b : Bool) → b ≡ true → cond {A = Option (Span × List Token)} b (some (u.span, us)) None ≡ None → ⊥
    taken true e none = absurd cc
    taken false e none = absurd cc

none_taken : (w : TokenKind) (us : List Token) → IsNotFirst w us → take_kind w us ≡ None
unfolding take_kind
none_taken w [] not = refl
none_taken w (u ∷ us) not = go (same_kind u.kind w) refl
  where
    go : (b : Bool) → same_kind u.kind w ≡ b → cond {A = Option (Span × List Token)} b (some (u.span, us)) None ≡ None
    go true is = absurd (not u us refl (same_kind_is u.kind w is))
    go false is = refl

same_open : same_kind (kinds.Punctuator punctuators.OpenParen) (kinds.Punctuator punctuators.OpenParen) ≡ true
unfolding same_mark
same_open = refl

same_for : same_kind (directive_word words.For) (directive_word words.For) ≡ true
unfolding same_keyword
same_for = refl

-- ---- what is read

pub stopped_ok : {A : Type 0} (r : Result A ℕ) (x : A) → stopped r ≡ ok x → r ≡ ok x
stopped_ok (Ok y) x e = ap ok (ok_is y x e)
stopped_ok (Err at) x e = absurd cc

-- the words of a directive stand first, and the tokens behind them do not go on with them
pub record IsNameRead (ts : List Token) (x : DirectiveName × List Token) : Type 0 where
  pub parts : ts ≡ name_spelling x.0 ++ x.1
  pub whole : IsWhole x.0 x.1

critical_is : (s : Span) (ts : List Token) (x : DirectiveName × List Token) → critical_at s ts ≡ ok x
    → IsNameRead (token (directive_word words.Critical) s ∷ ts) x
unfolding critical_at critical_after name_spelling critical_spelling
critical_is s ts x h = elim (choose_cases (take_kind (kinds.Punctuator punctuators.OpenParen) ts) _ _ (ok x) h) [
  | inl o ↦
      let r = bind_ok (stopped (critical_after o.0.0 o.0.1)) _ x o.2 in
      let after = stopped_ok (critical_after o.0.0 o.0.1) r.0 r.1 in
      let n = bind_ok (name_at o.0.1) _ r.0 after in
      let c = bind_ok (mark_at punctuators.CloseParen n.0.1) _ r.0 n.2 in
      let inner = ok_is ((o.0.0, n.0.0, c.0.0), c.0.1) r.0 c.2 in
      let outer = ok_is (directives.Critical s (some r.0.0), r.0.1) x r.2 in
      subst (IsNameRead (token (directive_word words.Critical) s ∷ ts)) outer (record {
        parts = ap (λ (w : List Token). token (directive_word words.Critical) s ∷ w)
            (take_kind_is (kinds.Punctuator punctuators.OpenParen) ts o.0.0 o.0.1 o.1
            ∙ ap (λ (w : List Token). mark punctuators.OpenParen o.0.0 ∷ w) (name_at_is o.0.1 n.0 n.1
            ∙ ap (λ (w : List Token). name n.0.0 ∷ w) (mark_at_is punctuators.CloseParen n.0.1 c.0 c.1))
            ∙ ap (λ (p : (Span × names.Name × Span) × List Token). mark punctuators.OpenParen p.0.0 ∷ name p.0.1
            ∷ mark punctuators.CloseParen p.0.2 ∷ p.1) inner);
        whole = λ t more e g. g;
      })
  | inr o ↦ subst (IsNameRead (token (directive_word words.Critical) s ∷ ts))
      (ok_is (directives.Critical s None, ts) x o.1)
      (record { parts = refl; whole = not_taken (kinds.Punctuator punctuators.OpenParen) same_open ts o.0 })
]

flush_is : (s : Span) (ts : List Token) (x : DirectiveName × List Token) → flush_at s ts ≡ ok x
    → IsNameRead (token (directive_word words.Flush) s ∷ ts) x
unfolding flush_at name_spelling flush_spelling
flush_is s ts x h = elim (choose_cases (take_kind (kinds.Punctuator punctuators.OpenParen) ts) _ _ (ok x) h) [
  | inl o ↦
      let r = bind_ok (stopped (list_after o.0.0 o.0.1)) _ x o.2 in
      let l = list_after_is o.0.0 o.0.1 r.0 (stopped_ok (list_after o.0.0 o.0.1) r.0 r.1) in
      subst (IsNameRead (token (directive_word words.Flush) s ∷ ts)) (ok_is (directives.Flush s (some r.0.0), r.0.1)
      x r.2) (record {
        parts = ap (λ (w : List Token). token (directive_word words.Flush) s ∷ w)
            (take_kind_is (kinds.Punctuator punctuators.OpenParen) ts o.0.0 o.0.1 o.1 ∙ l);
        whole = λ t more e g. g;
      })
  | inr o ↦ subst (IsNameRead (token (directive_word words.Flush) s ∷ ts)) (ok_is (directives.Flush s None, ts) x
      o.1) (record { parts = refl; whole = not_taken (kinds.Punctuator punctuators.OpenParen) same_open ts o.0 })
]

parallel_is : (s : Span) (ts : List Token) (x : DirectiveName × List Token) → parallel_at s ts ≡ x
    → IsNameRead (token (directive_word words.Parallel) s ∷ ts) x
unfolding parallel_at name_spelling
parallel_is s ts x h = elim (choose_cases (take_kind (directive_word words.For) ts) _ _ x h) [
  | inl f ↦ subst (IsNameRead (token (directive_word words.Parallel) s ∷ ts)) f.2
      (record {
        parts = ap (λ (w : List Token). token (directive_word words.Parallel) s ∷ w)
            (take_kind_is (directive_word words.For) ts f.0.0 f.0.1 f.1);
        whole = λ t more e g. g;
      })
  | inr f ↦ elim (choose_cases (take_kind (directive_word words.Sections) ts) _ _ x f.1) [
    | inl g ↦ subst (IsNameRead (token (directive_word words.Parallel) s ∷ ts)) g.2
        (record {
          parts = ap (λ (w : List Token). token (directive_word words.Parallel) s ∷ w)
              (take_kind_is (directive_word words.Sections) ts g.0.0 g.0.1 g.1);
          whole = λ t more e g. g;
        })
    | inr g ↦ subst (IsNameRead (token (directive_word words.Parallel) s ∷ ts)) g.1 (record {
      parts = refl;
      whole = λ t more e. elim [
        | inl is ↦ not_taken (directive_word words.For) same_for ts f.0 t more e is
        | inr is ↦ not_taken (directive_word words.Sections) refl ts g.0 t more e is
      ];
    })
  ]
]

one_word : (w : DirectiveKind) (n : DirectiveName) (s : Span) (ts : List Token) (x : DirectiveName × List Token)
    → name_spelling n ≡ token (directive_word w) s ∷ [] → IsWhole n ts → ok {X = SourceFault} (n, ts) ≡ ok x
    → IsNameRead (token (directive_word w) s ∷ ts) x
one_word w n s ts x spelled whole h = subst (IsNameRead (token (directive_word w) s ∷ ts)) (ok_is (n, ts) x h)
    (record { parts = ap (λ (v : List Token). v ++ ts) (sym spelled); whole = whole })

pub name_after_is : (w : DirectiveKind) (s : Span) (ts : List Token) (x : DirectiveName × List Token)
    → name_after w s ts ≡ ok x → IsNameRead (token (directive_word w) s ∷ ts) x
unfolding name_after name_spelling
name_after_is words.Parallel s ts x h = parallel_is s ts x (ok_is (parallel_at s ts) x h)
name_after_is words.ParallelFor s ts x h = parallel_is s ts x (ok_is (parallel_at s ts) x h)
name_after_is words.ParallelSections s ts x h = parallel_is s ts x (ok_is (parallel_at s ts) x h)
name_after_is words.For s ts x h = one_word words.For (directives.For s) s ts x refl (λ t more e g. g) h
name_after_is words.Sections s ts x h = one_word words.Sections (directives.Sections s) s ts x refl (λ t more e g. g) h
name_after_is words.Section s ts x h = one_word words.Section (directives.Section s) s ts x refl (λ t more e g. g) h
name_after_is words.Single s ts x h = one_word words.Single (directives.Single s) s ts x refl (λ t more e g. g) h
name_after_is words.Masked s ts x h = one_word words.Masked (directives.Masked s) s ts x refl (λ t more e g. g) h
name_after_is words.Master s ts x h = one_word words.Master (directives.Master s) s ts x refl (λ t more e g. g) h
name_after_is words.Critical s ts x h = critical_is s ts x h
name_after_is words.Atomic s ts x h = one_word words.Atomic (directives.Atomic s) s ts x refl (λ t more e g. g) h
name_after_is words.Task s ts x h = one_word words.Task (directives.Task s) s ts x refl (λ t more e g. g) h
name_after_is words.Taskgroup s ts x h = one_word words.Taskgroup (directives.Taskgroup s) s ts x refl
    (λ t more e g. g) h
name_after_is words.Barrier s ts x h = one_word words.Barrier (directives.Barrier s) s ts x refl (λ t more e g. g) h
name_after_is words.Taskwait s ts x h = one_word words.Taskwait (directives.Taskwait s) s ts x refl (λ t more e g. g) h
name_after_is words.Taskyield s ts x h = one_word words.Taskyield (directives.Taskyield s) s ts x refl
    (λ t more e g. g) h
name_after_is words.Flush s ts x h = flush_is s ts x h

pub directive_name_is : (ts : List Token) (x : DirectiveName × List Token) → directive_name_at ts ≡ ok x
    → IsNameRead ts x
unfolding directive_name_at
directive_name_is ts x h = elim (choose_cases (take_word directive_word directive_words ts) _ _ (ok x) h) [
  | inl w ↦ subst (λ (v : List Token). IsNameRead v x)
      (sym (take_word_is directive_word directive_words ts w.0 w.1)) (name_after_is w.0.0.0 w.0.0.1 w.0.1 x w.2)
  | inr w ↦ absurd cc
]

pub opening_is : (ts : List Token) (x : (Span × Span × Span) × List Token) → opening_at ts ≡ ok x → ts
    ≡ opening_spelling x.0.0 x.0.1 x.0.2 ++ x.1
unfolding opening_at opening_spelling
opening_is ts x h =
    let b = bind_ok (known ts (take_kind kinds.DirectiveBegin ts)) _ x h in
    let p = bind_ok (known b.0.1 (take_kind (kinds.Name (codes "pragma")) b.0.1)) _ x b.2 in
    let o = bind_ok (known p.0.1 (take_kind (kinds.Name (codes "omp")) p.0.1)) _ x p.2 in
    take_kind_is kinds.DirectiveBegin ts b.0.0 b.0.1 (known_ok ts (take_kind kinds.DirectiveBegin ts) b.0 b.1)
    ∙ ap (λ (w : List Token). token kinds.DirectiveBegin b.0.0 ∷ w) (take_kind_is (kinds.Name (codes "pragma"))
    b.0.1 p.0.0 p.0.1 (known_ok b.0.1 (take_kind (kinds.Name (codes "pragma")) b.0.1) p.0 p.1)
    ∙ ap (λ (w : List Token). token (kinds.Name (codes "pragma")) p.0.0 ∷ w)
    (take_kind_is (kinds.Name (codes "omp")) p.0.1 o.0.0 o.0.1
    (known_ok p.0.1 (take_kind (kinds.Name (codes "omp")) p.0.1) o.0 o.1)))
    ∙ ap (λ (y : (Span × Span × Span) × List Token). opening_spelling y.0.0 y.0.1 y.0.2 ++ y.1)
    (ok_is ((b.0.0, p.0.0, o.0.0), o.0.1) x o.2)

-- ---- again

pub opening_again : (hash pragma omp : Span) (us : List Token) → opening_at (opening_spelling hash pragma omp ++ us)
    ≡ ok ((hash, pragma, omp), us)
unfolding opening_at opening_spelling take_kind
opening_again hash pragma omp us = refl

pub name_after_again : (w : DirectiveKind) (s : Span) (us : List Token) (y : Outcome (DirectiveName × List Token))
    → name_after w s us ≡ y → directive_name_at (token (directive_word w) s ∷ us) ≡ y
unfolding directive_name_at
name_after_again w s us y e = rw (word_known directive_word directive_words (directive_word w) (alone w)
    (directive_known w) s us) (after_alone w s us ∙ e)

parallel_again : (s : Span) (us : List Token) → IsWhole (directives.Parallel s) us → parallel_at s us
    ≡ (directives.Parallel s, us)
unfolding parallel_at
parallel_again s us whole = rw (
  none_taken (directive_word words.For) us (λ t more e k. whole t more e (inl k)),
  none_taken (directive_word words.Sections) us (λ t more e k. whole t more e (inr k)),
) refl

for_again : (s t : Span) (us : List Token) → parallel_at s (token (directive_word words.For) t ∷ us)
    ≡ (directives.ParallelFor s t, us)
unfolding parallel_at take_kind same_keyword
for_again s t us = refl

sections_again : (s t : Span) (us : List Token) → parallel_at s (token (directive_word words.Sections) t ∷ us)
    ≡ (directives.ParallelSections s t, us)
unfolding parallel_at take_kind same_keyword
sections_again s t us = refl

pub directive_name_again : (n : DirectiveName) (us : List Token) → IsWhole n us → directive_name_at
    (name_spelling n ++ us) ≡ ok (n, us)
unfolding name_spelling name_after critical_at critical_after critical_spelling flush_at flush_spelling list_spelling
directive_name_again (directives.Parallel s) us whole = name_after_again words.Parallel s us
    (ok (directives.Parallel s, us)) (ap ok (parallel_again s us whole))
directive_name_again (directives.For s) us whole = name_after_again words.For s us (ok (directives.For s, us)) refl
directive_name_again (directives.Sections s) us whole = name_after_again words.Sections s us
    (ok (directives.Sections s, us)) refl
directive_name_again (directives.Section s) us whole = name_after_again words.Section s us
    (ok (directives.Section s, us)) refl
directive_name_again (directives.Single s) us whole = name_after_again words.Single s us
    (ok (directives.Single s, us)) refl
directive_name_again (directives.ParallelFor s t) us whole = name_after_again words.Parallel s
    (token (directive_word words.For) t ∷ us) (ok (directives.ParallelFor s t, us)) (ap ok (for_again s t us))
directive_name_again (directives.ParallelSections s t) us whole = name_after_again words.Parallel s
    (token (directive_word words.Sections) t ∷ us) (ok (directives.ParallelSections s t, us))
    (ap ok (sections_again s t us))
directive_name_again (directives.Masked s) us whole = name_after_again words.Masked s us
    (ok (directives.Masked s, us)) refl
directive_name_again (directives.Master s) us whole = name_after_again words.Master s us
    (ok (directives.Master s, us)) refl
directive_name_again (directives.Critical s None) us whole = name_after_again words.Critical s us
    (ok (directives.Critical s None, us)) (rw (none_taken (kinds.Punctuator punctuators.OpenParen) us whole) refl)
directive_name_again (directives.Critical s (Some n)) us whole =
    let close : List Token = mark punctuators.CloseParen n.2 ∷ us in
    name_after_again words.Critical s (mark punctuators.OpenParen n.0 ∷ name n.1 ∷ close)
    (ok (directives.Critical s (some n), us)) (rw (
      take_mark_again punctuators.OpenParen n.0 (name n.1 ∷ close),
      name_again n.1 close,
      mark_again punctuators.CloseParen n.2 us,
    ) refl)
directive_name_again (directives.Atomic s) us whole = name_after_again words.Atomic s us
    (ok (directives.Atomic s, us)) refl
directive_name_again (directives.Task s) us whole = name_after_again words.Task s us (ok (directives.Task s, us)) refl
directive_name_again (directives.Taskgroup s) us whole = name_after_again words.Taskgroup s us
    (ok (directives.Taskgroup s, us)) refl
directive_name_again (directives.Barrier s) us whole = name_after_again words.Barrier s us
    (ok (directives.Barrier s, us)) refl
directive_name_again (directives.Taskwait s) us whole = name_after_again words.Taskwait s us
    (ok (directives.Taskwait s, us)) refl
directive_name_again (directives.Taskyield s) us whole = name_after_again words.Taskyield s us
    (ok (directives.Taskyield s, us)) refl
directive_name_again (directives.Flush s None) us whole = name_after_again words.Flush s us
    (ok (directives.Flush s None, us)) (rw (none_taken (kinds.Punctuator punctuators.OpenParen) us whole) refl)
directive_name_again (directives.Flush s (Some l)) us whole =
    let inside : List Token = names_spelling l.first l.rest l.close_paren ++ us in
    name_after_again words.Flush s (mark punctuators.OpenParen l.open_paren ∷ inside)
    (ok (directives.Flush s (some l), us)) (rw (
      take_mark_again punctuators.OpenParen l.open_paren inside,
      list_after_again l us,
    ) refl)

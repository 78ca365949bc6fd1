-- A declaration that is read is spelled as the tokens were, and its initializers are such as the place admits.
use Rattle.std.proofs.Common.{◌≡◌, ℕ, ◌<◌, List, [], ◌∷◌, ◌++◌, length, Option, Some, None, refl, sym, ap, subst, ◌∙◌}
use Rattle.std.proofs.Common.{arith, append_assoc, length-append, inl, inr, All}
use Rattle.std.specs.List.{flat_map}
use Rattle.std.proofs.lemmas.List.Elements.{All-nil, All-cons, All-append, All-weaker}
use Rattle.om_lexer.specs.declared.token.Keyword.TheVariants as keywords
use Rattle.om_lexer.specs.declared.token.Punctuator.TheVariants as punctuators
use Rattle.om_lexer.specs.declared.token.Span.{Span}
use Rattle.om_lexer.specs.declared.token.Token.{Token}
use Rattle.om_parser_tree.specs.declared.tree.ArrayLength.{ArrayLength}
use Rattle.om_pragma.specs.declared.clause.Name as names
use Rattle.om_parser_parts.specs.DeclarationReading.{signed_at, array_after, declarator_after, further_at}
use Rattle.om_parser_parts.specs.DeclarationReading.{declaration_after, declared_at}
use Rattle.om_parser_tree.specs.Formed.{IsDeclarator, IsDeclaration}
use Rattle.om_parser_tree.specs.Limits.{Limits, expressions_of_declarator, expressions_of_declaration}
use Rattle.om_parser_parts.specs.Reading.{LeavesNoMore, Reader, take_mark, mark_at, name_at, number_at}
use Rattle.om_parser_parts.specs.Repetition.{until}
use Rattle.om_parser_tree.specs.Spelling.{mark, word, name, number, array_spelling, initializer_spelling, signed_spelling}
use Rattle.om_parser_tree.specs.Spelling.{declarator_spelling, expression_spelling, further_spelling, declaration_spelling}
use Rattle.om_parser_tree.specs.Tree.{InitializerTree, DeclaratorTree, DeclarationTree}
use Rattle.om_parser_parts.specs.Outcomes.{ok, ok_is, bind_ok, choose_cases, after_front, after_token}
use Rattle.om_parser_parts.specs.Taken.{take_mark_is, mark_at_is, name_at_is, number_at_is}
use Rattle.om_parser_parts.specs.ExpressionReading.{whole_at}
use Rattle.om_parser_parts.proofs.ExpressionSound.{whole_sound}
use Rattle.om_parser_parts.specs.Laws.{IsRead, IsSound}
use Rattle.om_parser_parts.specs.ItemsSound.{IsAny, until_sound, all_flat}

array_sound : (left : Span) (ts : List Token) (x : ArrayLength × List Token) → array_after left ts ≡ ok x
    → mark punctuators.OpenBracket left ∷ ts ≡ array_spelling x.0 ++ x.1
unfolding array_after
array_sound left ts x h =
    let n = bind_ok (number_at ts) _ x h in
    let r = bind_ok (mark_at punctuators.CloseBracket n.0.1) _ x n.2 in
    subst (λ y. mark punctuators.OpenBracket left ∷ ts ≡ array_spelling y.0 ++ y.1) (ok_is _ x r.2)
    (ap (λ w. mark punctuators.OpenBracket left ∷ w) (number_at_is ts n.0 n.1 ∙ ap (λ w. number n.0.0 ∷ w)
    (mark_at_is punctuators.CloseBracket n.0.1 r.0 r.1)))

pub signed_sound : IsSound signed_spelling IsAny signed_at
unfolding signed_at
signed_sound ts x h = elim (choose_cases (take_mark punctuators.Minus ts) _ _ (ok x) h) [
  | inl m ↦
      let n = bind_ok (number_at m.0.1) _ x m.2 in
      subst (IsRead signed_spelling IsAny ts) (ok_is _ x n.2) (record {
        parts = take_mark_is punctuators.Minus ts m.0.0 m.0.1 m.1 ∙ ap (λ w. mark punctuators.Minus m.0.0 ∷ w)
            (number_at_is m.0.1 n.0 n.1);
        formed = tt;
      })
  | inr g ↦
      let n = bind_ok (number_at ts) _ x g.1 in
      subst (IsRead signed_spelling IsAny ts) (ok_is _ x n.2)
      (record { parts = number_at_is ts n.0 n.1; formed = tt })
]

module _ {I : Type 0} (spell : I → List Token) (Admitted : I → Type 0) (initial : Reader I)
    (sound : IsSound spell Admitted initial) where
  pub declarator_after_sound : (n : names.Name) (ts : List Token) (x : DeclaratorTree I × List Token)
      → declarator_after initial n ts ≡ ok x
      → IsRead (declarator_spelling spell) (IsDeclarator Admitted) (name n ∷ ts) x
  unfolding declarator_after declarator_spelling initializer_spelling IsDeclarator
  declarator_after_sound n ts x h = elim (choose_cases (take_mark punctuators.OpenBracket ts) _ _ (ok x) h) [
    | inl b ↦
        let a = bind_ok (array_after b.0.0 b.0.1) _ x b.2 in
        subst (IsRead (declarator_spelling spell) (IsDeclarator Admitted) (name n ∷ ts)) (ok_is _ x a.2) (record {
          parts = ap (λ w. name n ∷ w) (take_mark_is punctuators.OpenBracket ts b.0.0 b.0.1 b.1 ∙ array_sound b.0.0
              b.0.1 a.0 a.1);
          formed = tt;
        })
    | inr g ↦ elim (choose_cases (take_mark punctuators.Equal ts) _ _ (ok x) g.1) [
      | inl q ↦
          let e = bind_ok (initial q.0.1) _ x q.2 in
          let value = sound q.0.1 e.0 e.1 in
          subst (IsRead (declarator_spelling spell) (IsDeclarator Admitted) (name n ∷ ts)) (ok_is _ x e.2) (record {
            parts = ap (λ w. name n ∷ w) (after_token (mark punctuators.Equal q.0.0) ts q.0.1
                (spell e.0.0) e.0.1 (take_mark_is punctuators.Equal ts q.0.0 q.0.1 q.1) value.parts);
            formed = value.formed;
          })
      | inr k ↦ subst (IsRead (declarator_spelling spell) (IsDeclarator Admitted) (name n ∷ ts)) (ok_is _ x k.1)
          (record { parts = refl; formed = tt })
    ]
  ]

  abbrev IsFurther : Span × DeclaratorTree I → Type 0
  IsFurther d = IsDeclarator Admitted d.1

  pub further_sound : IsSound (further_spelling spell) IsFurther (further_at initial)
  unfolding further_at further_spelling
  further_sound ts x h =
      let c = bind_ok (mark_at punctuators.Comma ts) _ x h in
      let n = bind_ok (name_at c.0.1) _ x c.2 in
      let d = bind_ok (declarator_after initial n.0.0 n.0.1) _ x n.2 in
      let r = declarator_after_sound n.0.0 n.0.1 d.0 d.1 in
      subst (IsRead (further_spelling spell) IsFurther ts) (ok_is _ x d.2) (record {
        parts = after_token (mark punctuators.Comma c.0.0) ts c.0.1 (declarator_spelling spell d.0.0) d.0.1
            (mark_at_is punctuators.Comma ts c.0 c.1) (name_at_is c.0.1 n.0 n.1 ∙ r.parts);
        formed = r.formed;
      })

  pub declaration_after_sound : (int : Span) (n : names.Name) (ts : List Token) (x : DeclarationTree I × List Token)
      → declaration_after initial int n ts ≡ ok x → IsRead (declaration_spelling spell) (IsDeclaration Admitted)
      (word keywords.Int int ∷ name n ∷ ts) x
  unfolding declaration_after declaration_spelling IsDeclaration
  declaration_after_sound int n ts x h =
      let d = bind_ok (declarator_after initial n ts) _ x h in
      let m = bind_ok (until (take_mark punctuators.Semicolon) (further_at initial) (length d.0.1) d.0.1) _ x d.2 in
      let first = declarator_after_sound n ts d.0 d.1 in
      let r = until_sound (further_spelling spell) IsFurther (mark punctuators.Semicolon)
      (take_mark punctuators.Semicolon)
      (further_at initial) (take_mark_is punctuators.Semicolon) further_sound (length d.0.1) d.0.1 m.0 m.1 in
      subst (IsRead (declaration_spelling spell) (IsDeclaration Admitted) (word keywords.Int int ∷ name n ∷ ts))
      (ok_is _ x m.2) (record {
        parts = ap (λ w. word keywords.Int int ∷ w) (after_front (name n ∷ ts) (declarator_spelling spell d.0.0) d.0.1
            (flat_map (further_spelling spell) m.0.0 ++ mark punctuators.Semicolon m.0.1 ∷ []) m.0.2 first.parts r.parts
            ∙ simp append_assoc);
        formed = (first.formed, r.formed);
      })

  pub declared_sound : (int : Span) (ts : List Token) (x : DeclarationTree I × List Token)
      → declared_at initial int ts ≡ ok x
      → IsRead (declaration_spelling spell) (IsDeclaration Admitted) (word keywords.Int int ∷ ts) x
  unfolding declared_at
  declared_sound int ts x h =
      let n = bind_ok (name_at ts) _ x h in
      subst (λ w. IsRead (declaration_spelling spell) (IsDeclaration Admitted) (word keywords.Int int ∷ w) x)
      (sym (name_at_is ts n.0 n.1)) (declaration_after_sound int n.0.0 n.0.1 x n.2)

-- ---- what is admitted is said of the declaration and of its expressions

module _ {I : Type 0} (A B : I → Type 0) where
  declarator_parts : (d : DeclaratorTree I) → IsDeclarator (λ e. A e × B e) d → IsDeclarator A d
      × All B (expressions_of_declarator d)
  unfolding IsDeclarator
  declarator_parts d = go d.array d.initializer
    where
      tree : Option ArrayLength → Option (InitializerTree I) → DeclaratorTree I
      tree a i = record { name = d.name; array = a; initializer = i }

      go : (a : Option ArrayLength) (i : Option (InitializerTree I)) → IsDeclarator (λ e. A e × B e) (tree a i)
          → IsDeclarator A (tree a i) × All B (expressions_of_declarator (tree a i))
      go None None f = (tt, All-nil B)
      go (Some a) None f = (tt, All-nil B)
      go None (Some i) f = (f.0, All-cons B i.value [] f.1 (All-nil B))
      go (Some a) (Some i) f = absurd f

  pub declaration_parts : (d : DeclarationTree I) → IsDeclaration (λ e. A e × B e) d → IsDeclaration A d
      × All B (expressions_of_declaration d)
  unfolding IsDeclaration
  declaration_parts d f =
      let first = declarator_parts d.first f.0 in
      let further = All-weaker (λ (x : Span × DeclaratorTree I). IsDeclarator (λ e. A e × B e) x.1)
      (λ x. IsDeclarator A x.1 × All B (expressions_of_declarator x.1)) (λ x g. declarator_parts x.1 g) d.rest
      f.1 in (
        (
          first.0,
          All-weaker (λ (x : Span × DeclaratorTree I). IsDeclarator A x.1
              × All B (expressions_of_declarator x.1)) (λ x. IsDeclarator A x.1) (λ x g. g.0) d.rest further,
        ),
        All-append B (expressions_of_declarator d.first) (flat_map (λ x. expressions_of_declarator x.1) d.rest)
            first.1 (all_flat B (λ x. expressions_of_declarator x.1) d.rest
            (All-weaker (λ (x : Span × DeclaratorTree I). IsDeclarator A x.1 × All B (expressions_of_declarator x.1))
            (λ x. All B (expressions_of_declarator x.1)) (λ x g. g.1) d.rest further)),
      )

pub further_some : {I : Type 0} (spell : I → List Token) (d : Span × DeclaratorTree I)
    → 0 < length (further_spelling spell d)
unfolding further_spelling
further_some spell d = omega arith

-- ---- what is left behind a part that is read

no_more : {A : Type 0} (spell : A → List Token) (P : A → Type 0) (r : Reader A) → IsSound spell P r → LeavesNoMore r
no_more spell P r sound ts x h =
    let read = sound ts x h in
    omega (arith, ap length read.parts, length-append (spell x.0) x.1)

pub signed_leaves : LeavesNoMore signed_at
signed_leaves = no_more signed_spelling IsAny signed_at signed_sound

pub whole_leaves : (l : Limits) (room : ℕ) → LeavesNoMore (whole_at l room)
whole_leaves l room = no_more expression_spelling _ (whole_at l room) (whole_sound l room)

module _ {I : Type 0} (initial : Reader I) (leaves : LeavesNoMore initial) where
  declarator_leaves : (n : names.Name) → LeavesNoMore (declarator_after initial n)
  unfolding declarator_after
  declarator_leaves n ts x h = elim (choose_cases (take_mark punctuators.OpenBracket ts) _ _ (ok x) h) [
    | inl b ↦
        let a = bind_ok (array_after b.0.0 b.0.1) _ x b.2 in
        let whole = take_mark_is punctuators.OpenBracket ts b.0.0 b.0.1 b.1 ∙ array_sound b.0.0 b.0.1 a.0 a.1 in
        omega (arith, ap length whole, ap (λ y. length y.1) (ok_is _ x a.2))
    | inr g ↦ elim (choose_cases (take_mark punctuators.Equal ts) _ _ (ok x) g.1) [
      | inl q ↦
          let e = bind_ok (initial q.0.1) _ x q.2 in
          omega (
            arith,
            ap length (take_mark_is punctuators.Equal ts q.0.0 q.0.1 q.1),
            leaves q.0.1 e.0 e.1,
            ap (λ y. length y.1) (ok_is _ x e.2),
          )
      | inr k ↦ omega (arith, ap (λ y. length y.1) (ok_is _ x k.1))
    ]
  ]

  pub further_shorter : (ts : List Token) (d : Span × DeclaratorTree I) (us : List Token)
      → further_at initial ts ≡ ok (d, us) → length us < length ts
  unfolding further_at
  further_shorter ts d us h =
      let c = bind_ok (mark_at punctuators.Comma ts) _ (d, us) h in
      let n = bind_ok (name_at c.0.1) _ (d, us) c.2 in
      let r = bind_ok (declarator_after initial n.0.0 n.0.1) _ (d, us) n.2 in
      omega (
        arith,
        ap length (mark_at_is punctuators.Comma ts c.0 c.1),
        ap length (name_at_is c.0.1 n.0 n.1),
        declarator_leaves n.0.0 n.0.1 r.0 r.1,
        ap (λ y. length y.1) (ok_is _ (d, us) r.2),
      )

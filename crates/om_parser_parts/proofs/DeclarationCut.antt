-- A limit stops the reading of a declaration only where it stops that of an initializer.
use Rattle.std.proofs.Common.{◌≡◌, List, [], ◌∷◌, ◌++◌, length, Some, None, Err, refl, sym, ap, subst, ◌∙◌}
use Rattle.std.proofs.Common.{append_assoc, inl, inr, All}
use Rattle.std.specs.List.{flat_map}
use Rattle.std.proofs.lemmas.List.{append-nil}
use Rattle.std.proofs.lemmas.List.Elements.{All-nil, Contains-append_left, Contains-append_right}
use Rattle.om_lexer.specs.declared.fault.SourceFault.{SourceFault}
use Rattle.om_lexer.specs.declared.token.Keyword.TheVariants as keywords
use Rattle.om_lexer.specs.declared.token.Punctuator.TheVariants as punctuators
use Rattle.om_lexer.specs.declared.token.Span.{Span}
use Rattle.om_lexer.specs.declared.token.Token.{Token}
use Rattle.om_pragma.specs.declared.clause.Name as names
use Rattle.om_parser_parts.specs.DeclarationReading.{signed_at, array_after, declarator_after, further_at, declaration_after}
use Rattle.om_parser_parts.specs.DeclarationReading.{declared_at}
use Rattle.om_parser_parts.specs.Reading.{Reader, take_mark, mark_at, name_at, number_at}
use Rattle.om_parser_parts.specs.Repetition.{until}
use Rattle.om_parser_tree.specs.Formed.{IsDeclarator, IsDeclaration}
use Rattle.om_parser_tree.specs.Limits.{Limits, expressions_of_declarator, expressions_of_declaration}
use Rattle.om_parser_parts.proofs.ItemsCut.{PassesLimit, Deep, IsCuttingAt, embedded, bind_never_deep, until_cut}
use Rattle.om_parser_parts.proofs.ItemsCut.{until_never_deep}
use Rattle.om_parser_tree.specs.Spelling.{mark, word, name, expression_spelling, initializer_spelling, declarator_spelling}
use Rattle.om_parser_tree.specs.Spelling.{further_spelling, declaration_spelling, local_spelling}
use Rattle.om_parser_tree.specs.Tree.{ExpressionTree, DeclaratorTree, DeclarationTree}
use Rattle.om_parser_parts.specs.Outcomes.{ok, bind_err, choose_cases}
use Rattle.om_parser_parts.specs.Taken.{take_mark_is, mark_at_is, name_at_is}
use Rattle.om_parser_parts.specs.Laws.{IsSound}
use Rattle.om_parser_parts.proofs.DeclarationSound.{declarator_after_sound, further_sound}
use Rattle.om_parser_parts.proofs.BracketsCut.{IsNeverDeep, known_never_deep}

pub signed_never_deep : (ts : List Token) → IsNeverDeep (signed_at ts)
unfolding signed_at number_at
signed_never_deep ts f h deep = elim (choose_cases (take_mark punctuators.Minus ts) _ _ (Err f) h) [
  | inl (m, taken, g) ↦ bind_never_deep (number_at m.1) _ (known_never_deep m.1 _) (λ n f h deep. absurd cc) f g deep
  | inr (none, g) ↦ bind_never_deep (number_at ts) _ (known_never_deep ts _) (λ n f h deep. absurd cc) f g deep
]

pub array_never_deep : (left : Span) (ts : List Token) → IsNeverDeep (array_after left ts)
unfolding array_after number_at mark_at
array_never_deep left ts = bind_never_deep (number_at ts) _ (known_never_deep ts _)
    (λ n. bind_never_deep (mark_at punctuators.CloseBracket n.1) _ (known_never_deep n.1 _) (λ r f h deep. absurd cc))

module _ {I : Type 0} (initial : Reader I) (never : (ts : List Token) → IsNeverDeep (initial ts)) where
  declarator_never_deep : (n : names.Name) (ts : List Token) → IsNeverDeep (declarator_after initial n ts)
  unfolding declarator_after
  declarator_never_deep n ts f h deep = elim (choose_cases (take_mark punctuators.OpenBracket ts) _ _ (Err f) h) [
    | inl (b, taken, g) ↦ bind_never_deep (array_after b.0 b.1) _ (array_never_deep b.0 b.1)
        (λ a f h deep. absurd cc) f g deep
    | inr (none, g) ↦ elim (choose_cases (take_mark punctuators.Equal ts) _ _ (Err f) g) [
      | inl (q, taken, k) ↦ bind_never_deep (initial q.1) _ (never q.1) (λ e f h deep. absurd cc) f k deep
      | inr (neither, no_err) ↦ absurd cc
    ]
  ]

  further_never_deep : (ts : List Token) → IsNeverDeep (further_at initial ts)
  unfolding further_at mark_at name_at
  further_never_deep ts = bind_never_deep (mark_at punctuators.Comma ts) _ (known_never_deep ts _)
      (λ c. bind_never_deep (name_at c.1) _ (known_never_deep c.1 _)
      (λ n. bind_never_deep (declarator_after initial n.0 n.1) _ (declarator_never_deep n.0 n.1)
      (λ d f h deep. absurd cc)))

  pub declaration_never_deep : (int : Span) (n : names.Name) (ts : List Token)
      → IsNeverDeep (declaration_after initial int n ts)
  unfolding declaration_after
  declaration_never_deep int n ts = bind_never_deep (declarator_after initial n ts) _ (declarator_never_deep n ts)
      (λ d. bind_never_deep (until (take_mark punctuators.Semicolon) (further_at initial) (length d.1) d.1) _
      (until_never_deep (take_mark punctuators.Semicolon) (further_at initial) further_never_deep (length d.1) d.1)
      (λ m f h deep. absurd cc))

-- ---- where an initializer is too deep

module _ (Admitted : ExpressionTree → Type 0) (l : Limits) (initial : Reader ExpressionTree)
    (sound : IsSound expression_spelling Admitted initial) (cutting : IsCuttingAt expression_spelling Admitted
    (λ e. e ∷ []) l initial) where
  abbrev IsDeclaratorCut : List Token → SourceFault → Type 0
  IsDeclaratorCut ts f = PassesLimit (declarator_spelling expression_spelling) (IsDeclarator Admitted)
      expressions_of_declarator l ts f.at

  started : names.Name → Span → ExpressionTree → DeclaratorTree ExpressionTree
  started n equal e = record { name = n; array = None; initializer = Some (record { equal = equal; value = e }) }

  initializer_cut : (n : names.Name) (equal : Span) (ts : List Token) (f : SourceFault) → initial ts ≡ Err f
      → Deep f → IsDeclaratorCut (name n ∷ mark punctuators.Equal equal ∷ ts) f
  unfolding started declarator_spelling initializer_spelling IsDeclarator
  initializer_cut n equal ts f h deep =
      embedded expression_spelling Admitted (λ e. e ∷ []) (declarator_spelling expression_spelling)
      (IsDeclarator Admitted) expressions_of_declarator l (name n ∷ mark punctuators.Equal equal ∷ [])
      (started n equal) []
      (λ e. ap (λ w. name n ∷ mark punctuators.Equal equal ∷ w) (sym (append-nil (expression_spelling e))))
      (λ e f. f) (λ e x c. c) ts f.at (cutting ts f h deep)

  declarator_cut : (n : names.Name) (ts : List Token) (f : SourceFault) → declarator_after initial n ts ≡ Err f
      → Deep f → IsDeclaratorCut (name n ∷ ts) f
  unfolding declarator_after
  declarator_cut n ts f h deep = elim (choose_cases (take_mark punctuators.OpenBracket ts) _ _ (Err f) h) [
    | inl (b, taken, g) ↦ absurd (bind_never_deep (array_after b.0 b.1) _ (array_never_deep b.0 b.1)
        (λ a f h deep. absurd cc) f g deep)
    | inr (none, g) ↦ elim (choose_cases (take_mark punctuators.Equal ts) _ _ (Err f) g) [
      | inl (q, taken, k) ↦ elim (bind_err (initial q.1) _ f k) [
        | inl e ↦ subst (λ w. IsDeclaratorCut (name n ∷ w) f)
            (sym (take_mark_is punctuators.Equal ts q.0 q.1 taken)) (initializer_cut n q.0 q.1 f e deep)
        | inr (e, read, no_err) ↦ absurd cc
      ]
      | inr (neither, no_err) ↦ absurd cc
    ]
  ]

  abbrev IsFurther : Span × DeclaratorTree ExpressionTree → Type 0
  IsFurther d = IsDeclarator Admitted d.1

  abbrev expressions_of_further : Span × DeclaratorTree ExpressionTree → List ExpressionTree
  expressions_of_further d = expressions_of_declarator d.1

  further_cut : IsCuttingAt (further_spelling expression_spelling) IsFurther expressions_of_further l
      (further_at initial)
  unfolding further_at further_spelling mark_at name_at
  further_cut ts f h deep = elim (bind_err (mark_at punctuators.Comma ts) _ f h) [
    | inl wrong ↦ absurd (known_never_deep ts _ f wrong deep)
    | inr (c, comma, g) ↦ elim (bind_err (name_at c.1) _ f g) [
      | inl wrong ↦ absurd (known_never_deep c.1 _ f wrong deep)
      | inr (n, named, k) ↦ elim (bind_err (declarator_after initial n.0 n.1) _ f k) [
        | inr (d, read, no_err) ↦ absurd cc
        | inl e ↦
            let front : ts ≡ mark punctuators.Comma c.0 ∷ name n.0 ∷ n.1 = mark_at_is punctuators.Comma ts c comma
            ∙ ap (λ w. mark punctuators.Comma c.0 ∷ w) (name_at_is c.1 n named) in
            subst (λ w. PassesLimit (further_spelling expression_spelling) IsFurther expressions_of_further l w f.at)
            (sym front) (embedded (declarator_spelling expression_spelling) (IsDeclarator Admitted)
            expressions_of_declarator (further_spelling expression_spelling) IsFurther expressions_of_further l
            (mark punctuators.Comma c.0 ∷ []) (λ d. (c.0, d)) []
            (λ d. ap (λ w. mark punctuators.Comma c.0 ∷ w)
            (sym (append-nil (declarator_spelling expression_spelling d)))) (λ d f. f) (λ d x c. c)
            (name n.0 ∷ n.1) f.at (declarator_cut n.0 n.1 f e deep))
      ]
    ]
  ]

  further_parts : (us : List Token) (x : (Span × DeclaratorTree ExpressionTree) × List Token)
      → further_at initial us ≡ ok x → (us ≡ further_spelling expression_spelling x.0 ++ x.1) × IsFurther x.0
  further_parts us x r =
      let d = further_sound expression_spelling Admitted initial sound us x r in
      (d.parts, d.formed)

  abbrev IsDeclarationCut : List Token → SourceFault → Type 0
  IsDeclarationCut ts f = PassesLimit local_spelling (IsDeclaration Admitted) expressions_of_declaration l ts f.at

  alone : Span → DeclaratorTree ExpressionTree → DeclarationTree ExpressionTree
  alone int d = record { int = int; first = d; rest = []; semicolon = int }

  first_cut : (int : Span) (n : names.Name) (ts : List Token) (f : SourceFault) → declarator_after initial n ts
      ≡ Err f → Deep f → IsDeclarationCut (word keywords.Int int ∷ name n ∷ ts) f
  unfolding alone declaration_spelling IsDeclaration
  first_cut int n ts f h deep =
      embedded (declarator_spelling expression_spelling) (IsDeclarator Admitted) expressions_of_declarator
      local_spelling (IsDeclaration Admitted) expressions_of_declaration l (word keywords.Int int ∷ []) (alone int)
      (mark punctuators.Semicolon int ∷ [])
      (λ d. ap (λ w. word keywords.Int int ∷ w) (append_assoc (declarator_spelling expression_spelling d) []
      (mark punctuators.Semicolon int ∷ []))) (λ d f. (f, All-nil IsFurther))
      (λ d x c. Contains-append_left (expressions_of_declarator d) [] x c) (name n ∷ ts) f.at
      (declarator_cut n ts f h deep)

  together : Span → DeclaratorTree ExpressionTree → List (Span × DeclaratorTree ExpressionTree)
      → DeclarationTree ExpressionTree
  together int d ds = record { int = int; first = d; rest = ds; semicolon = int }

  rest_cut : (int : Span) (d : DeclaratorTree ExpressionTree) (ts : List Token) (f : SourceFault)
      → IsDeclarator Admitted d
      → until (take_mark punctuators.Semicolon) (further_at initial) (length ts) ts ≡ Err f → Deep f
      → IsDeclarationCut (word keywords.Int int ∷ (declarator_spelling expression_spelling d ++ ts)) f
  unfolding together declaration_spelling IsDeclaration
  rest_cut int d ts f formed h deep =
      embedded (flat_map (further_spelling expression_spelling)) (All IsFurther) (flat_map expressions_of_further)
      local_spelling (IsDeclaration Admitted) expressions_of_declaration l
      (word keywords.Int int ∷ declarator_spelling expression_spelling d)
      (together int d) (mark punctuators.Semicolon int ∷ [])
      (λ ds. refl) (λ ds f. (formed, f)) (λ ds x c. Contains-append_right (expressions_of_declarator d)
      (flat_map expressions_of_further ds) x c) ts f.at
      (until_cut (further_spelling expression_spelling) IsFurther expressions_of_further l
      (take_mark punctuators.Semicolon)
      (further_at initial) further_parts further_cut (length ts) ts f h deep)

  pub declaration_cut : (int : Span) (n : names.Name) (ts : List Token) (f : SourceFault) → declaration_after
      initial int n ts ≡ Err f → Deep f → IsDeclarationCut (word keywords.Int int ∷ name n ∷ ts) f
  unfolding declaration_after
  declaration_cut int n ts f h deep = elim (bind_err (declarator_after initial n ts) _ f h) [
    | inl e ↦ first_cut int n ts f e deep
    | inr (d, read, g) ↦ elim (bind_err (until (take_mark punctuators.Semicolon) (further_at initial) (length d.1)
        d.1) _ f g) [
          | inr (m, list, no_err) ↦ absurd cc
          | inl e ↦
              let first = declarator_after_sound expression_spelling Admitted initial sound n ts d read in
              subst (λ w. IsDeclarationCut (word keywords.Int int ∷ w) f) (sym first.parts)
              (rest_cut int d.0 d.1 f first.formed e deep)
        ]
  ]

  pub declared_cut : (int : Span) (ts : List Token) (f : SourceFault) → declared_at initial int ts ≡ Err f → Deep f
      → IsDeclarationCut (word keywords.Int int ∷ ts) f
  unfolding declared_at name_at
  declared_cut int ts f h deep = elim (bind_err (name_at ts) _ f h) [
    | inl wrong ↦ absurd (known_never_deep ts _ f wrong deep)
    | inr (n, named, g) ↦ subst (λ w. IsDeclarationCut (word keywords.Int int ∷ w) f) (sym (name_at_is ts n named))
        (declaration_cut int n.0 n.1 f g deep)
  ]

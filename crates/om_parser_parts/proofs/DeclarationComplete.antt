-- What a declaration spells is read again as that declaration.
use Rattle.std.proofs.Common.{◌≡◌, List, [], ◌∷◌, ◌++◌, length, Option, Some, None, refl, append_assoc, inl, All}
use Rattle.std.specs.List.{flat_map}
use Rattle.std.proofs.lemmas.List.Elements.{All-nil, All-cons, All-head}
use Rattle.om_lexer.specs.declared.token.Keyword.TheVariants as keywords
use Rattle.om_lexer.specs.declared.token.Punctuator.TheVariants as punctuators
use Rattle.om_lexer.specs.declared.token.Span.{Span}
use Rattle.om_lexer.specs.declared.token.Token.{Token}
use Rattle.om_parser_tree.specs.declared.tree.ArrayLength.{ArrayLength}
use Rattle.om_pragma.specs.declared.clause.Number.{Number}
use Rattle.om_parser_tree.specs.declared.tree.SignedNumber.{SignedNumber}
use Rattle.om_parser_parts.specs.DeclarationReading.{signed_at, array_after, declarator_after, further_at, declaration_after}
use Rattle.om_parser_parts.specs.DeclarationReading.{declared_at}
use Rattle.om_parser_tree.specs.Formed.{IsDeclarator, IsDeclaration}
use Rattle.om_parser_tree.specs.Limits.{expressions_of_declarator, expressions_of_declaration}
use Rattle.om_parser_parts.specs.Reading.{Reader, take, same_mark, take_mark}
use Rattle.om_parser_parts.specs.Repetition.{until}
use Rattle.om_parser_tree.specs.Spelling.{mark, name, number, perhaps, word, array_spelling, signed_spelling}
use Rattle.om_parser_tree.specs.Spelling.{initializer_spelling, declarator_spelling, further_spelling, declaration_spelling}
use Rattle.om_parser_tree.specs.Tree.{InitializerTree, DeclaratorTree, DeclarationTree}
use Rattle.om_parser_parts.specs.Outcomes.{ok}
use Rattle.om_parser_parts.specs.Again.{take_mark_again, mark_again, name_again, number_again, bind_answer}
use Rattle.om_parser_parts.specs.Laws.{IsAnswer}
use Rattle.om_parser_parts.proofs.DeclarationSound.{further_some}
use Rattle.om_parser_parts.specs.ItemsComplete.{all_back, all_front, flat_all, AreAgain, until_again}

-- what stands behind a declarator: a comma or a semicolon
pub data EndsDeclarator : List Token → Type 0 where
  EndsByComma : (s : Span) (us : List Token) → EndsDeclarator (mark punctuators.Comma s ∷ us)
  EndsBySemicolon : (s : Span) (us : List Token) → EndsDeclarator (mark punctuators.Semicolon s ∷ us)

no_initializer : (ts : List Token) → EndsDeclarator ts → take_mark punctuators.Equal ts ≡ None
unfolding take_mark take same_mark
no_initializer _ (EndsByComma s us) = refl
no_initializer _ (EndsBySemicolon s us) = refl

no_array : (ts : List Token) → EndsDeclarator ts → take_mark punctuators.OpenBracket ts ≡ None
unfolding take_mark take same_mark
no_array _ (EndsByComma s us) = refl
no_array _ (EndsBySemicolon s us) = refl

equal_is_no_bracket : (s : Span) (ts : List Token) → take_mark punctuators.OpenBracket (mark punctuators.Equal s
    ∷ ts) ≡ None
unfolding take_mark take same_mark
equal_is_no_bracket s ts = refl

array_again : (a : ArrayLength) (rest : List Token) → array_after a.open_bracket
    (number a.size ∷ mark punctuators.CloseBracket a.close_bracket ∷ rest) ≡ ok (a, rest)
unfolding array_after
array_again a rest = rw (
  number_again a.size (mark punctuators.CloseBracket a.close_bracket ∷ rest),
  mark_again punctuators.CloseBracket a.close_bracket rest,
) refl

number_is_no_minus : (n : Number) (ts : List Token) → take_mark punctuators.Minus (number n ∷ ts) ≡ None
unfolding take_mark take
number_is_no_minus n ts = refl

pub signed_again : (s : SignedNumber) (rest : List Token) → signed_at (signed_spelling s ++ rest) ≡ ok (s, rest)
unfolding signed_at
signed_again s rest = go s.minus
  where
    tree : Option Span → SignedNumber
    tree minus = record { minus = minus; number = s.number }

    go : (minus : Option Span) → signed_at (signed_spelling (tree minus) ++ rest) ≡ ok (tree minus, rest)
    go None = rw (number_is_no_minus s.number rest, number_again s.number rest) refl
    go (Some at) = rw (
      take_mark_again punctuators.Minus at (number s.number ∷ rest),
      number_again s.number rest,
    ) refl

module _ {I : Type 0} (spell : I → List Token) where
  -- the rest of a declaration, behind `int` and the first name
  unfoldable pub declaration_rest : DeclarationTree I → List Token → List Token
  declaration_rest d rest = (perhaps array_spelling d.first.array
      ++ perhaps (initializer_spelling spell) d.first.initializer)
      ++ (flat_map (further_spelling spell) d.rest ++ mark punctuators.Semicolon d.semicolon ∷ rest)

  pub rest_is : (d : DeclarationTree I) (rest : List Token) → word keywords.Int d.int ∷ name d.first.name
      ∷ declaration_rest d rest ≡ declaration_spelling spell d ++ rest
  unfolding declaration_rest declaration_spelling declarator_spelling
  rest_is d rest = simp append_assoc

  -- a declaration is no function
  pub no_parameters : (d : DeclarationTree I) (rest : List Token) → take_mark punctuators.OpenParen
      (declaration_rest d rest) ≡ None
  unfolding declaration_rest take_mark take same_mark initializer_spelling further_spelling
  no_parameters d rest = go d.first.array d.first.initializer d.rest
    where
      go : (a : Option ArrayLength) (i : Option (InitializerTree I)) (ds : List (Span × DeclaratorTree I))
          → take_mark punctuators.OpenParen ((perhaps array_spelling a ++ perhaps (initializer_spelling spell) i)
          ++ (flat_map (further_spelling spell) ds ++ mark punctuators.Semicolon d.semicolon ∷ rest)) ≡ None
      go (Some a) i ds = refl
      go None (Some i) ds = refl
      go None None [] = refl
      go None None (d ∷ ds) = refl

module _ {I : Type 0} (spell : I → List Token) (Admitted Fits : I → Type 0) (initial : Reader I)
    (again : (e : I) (rest : List Token) → Admitted e → EndsDeclarator rest → IsAnswer (Fits e)
    (initial (spell e ++ rest)) (e, rest)) where
  abbrev FitsDeclarator : DeclaratorTree I → Type 0
  FitsDeclarator d = All Fits (expressions_of_declarator d)

  pub declarator_again : (d : DeclaratorTree I) (rest : List Token) → IsDeclarator Admitted d → EndsDeclarator rest
      → IsAnswer (FitsDeclarator d)
      (declarator_after initial d.name
      ((perhaps array_spelling d.array ++ perhaps (initializer_spelling spell) d.initializer) ++ rest)) (d, rest)
  unfolding declarator_after IsDeclarator initializer_spelling
  declarator_again d rest formed ends = go d.array d.initializer formed
    where
      tree : Option ArrayLength → Option (InitializerTree I) → DeclaratorTree I
      tree a i = record { name = d.name; array = a; initializer = i }

      go : (a : Option ArrayLength) (i : Option (InitializerTree I)) → IsDeclarator Admitted (tree a i)
          → IsAnswer (FitsDeclarator (tree a i))
          (declarator_after initial d.name
          ((perhaps array_spelling a ++ perhaps (initializer_spelling spell) i) ++ rest))
          (tree a i, rest)
      go None None f = inl (rw (no_array rest ends, no_initializer rest ends) refl)
      go (Some a) None f = inl
          (rw (
            take_mark_again punctuators.OpenBracket a.open_bracket (number a.size ∷ mark punctuators.CloseBracket
                a.close_bracket ∷ rest),
            array_again a rest,
          ) refl)
      go None (Some i) f =
          let value : List Token = spell i.value ++ rest in
          rw (equal_is_no_bracket i.equal value, take_mark_again punctuators.Equal i.equal value)
          (bind_answer (initial value) _ (i.value, rest) (tree None (Some i), rest)
          (λ w. All-head Fits i.value [] w) (again i.value rest f ends) (inl refl))
      go (Some a) (Some i) f = absurd f

  abbrev IsFurther : Span × DeclaratorTree I → Type 0
  IsFurther d = IsDeclarator Admitted d.1

  abbrev FitsFurther : Span × DeclaratorTree I → Type 0
  FitsFurther d = FitsDeclarator d.1

  further_again : (d : Span × DeclaratorTree I) (rest : List Token) → IsFurther d → EndsDeclarator rest
      → IsAnswer (FitsFurther d) (further_at initial (further_spelling spell d ++ rest)) (d, rest)
  unfolding further_at further_spelling declarator_spelling
  further_again d rest formed ends =
      let back : List Token = (perhaps array_spelling d.1.array ++ perhaps (initializer_spelling spell) d.1.initializer)
      ++ rest in
      rw (mark_again punctuators.Comma d.0 (name d.1.name ∷ back), name_again d.1.name back)
      (bind_answer (declarator_after initial d.1.name back) _ (d.1, rest) (d, rest) (λ w. w)
      (declarator_again d.1 rest formed ends) (inl refl))

  all_further_again : AreAgain (further_spelling spell) IsFurther FitsFurther EndsDeclarator
      (take_mark punctuators.Semicolon) (further_at initial)
  unfolding further_spelling take_mark take same_mark
  all_further_again = record {
    one = further_again;
    unended = λ d rest f. refl;
    follows = λ d rest f. EndsByComma d.0 (declarator_spelling spell d.1 ++ rest);
    some_tokens = λ d f. further_some spell d;
  }

  ends_first : (ds : List (Span × DeclaratorTree I)) (s : Span) (rest : List Token)
      → EndsDeclarator (flat_map (further_spelling spell) ds ++ mark punctuators.Semicolon s ∷ rest)
  unfolding further_spelling
  ends_first [] s rest = EndsBySemicolon s rest
  ends_first (d ∷ ds) s rest = EndsByComma d.0 ((declarator_spelling spell d.1 ++ flat_map (further_spelling spell) ds)
      ++ mark punctuators.Semicolon s ∷ rest)

  pub declaration_again : (d : DeclarationTree I) (rest : List Token) → IsDeclaration Admitted d
      → IsAnswer (All Fits (expressions_of_declaration d)) (declaration_after initial d.int d.first.name
      (declaration_rest spell d rest)) (d, rest)
  unfolding declaration_after IsDeclaration declaration_rest
  declaration_again d rest formed =
      let last : Token = mark punctuators.Semicolon d.semicolon in
      let others : List Token = flat_map (further_spelling spell) d.rest ++ last ∷ rest in
      bind_answer (declarator_after initial d.first.name (declaration_rest spell d rest)) _ (d.first, others) (d, rest)
      (λ w. all_front Fits (expressions_of_declarator d.first) (flat_map (λ x. expressions_of_declarator x.1)
      d.rest) w) (declarator_again d.first others formed.0 (ends_first d.rest d.semicolon rest))
      (bind_answer (until (take_mark punctuators.Semicolon) (further_at initial) (length others) others) _
      (d.rest, d.semicolon, rest) (d, rest) (λ w. flat_all Fits (λ x. expressions_of_declarator x.1) d.rest
      (all_back Fits (expressions_of_declarator d.first) (flat_map (λ x. expressions_of_declarator x.1) d.rest) w))
      (until_again (further_spelling spell) IsFurther FitsFurther EndsDeclarator (take_mark punctuators.Semicolon)
      (further_at initial) all_further_again last d.semicolon rest (take_mark_again punctuators.Semicolon
      d.semicolon rest) (EndsBySemicolon d.semicolon rest) d.rest formed.1)
      (inl refl))

  -- what stands behind the `int` of a declaration
  pub declared_again : (d : DeclarationTree I) (rest : List Token) → IsDeclaration Admitted d
      → IsAnswer (All Fits (expressions_of_declaration d))
      (declared_at initial d.int (name d.first.name ∷ declaration_rest spell d rest)) (d, rest)
  unfolding declared_at
  declared_again d rest formed = rw (name_again d.first.name (declaration_rest spell d rest))
      (declaration_again d rest formed)

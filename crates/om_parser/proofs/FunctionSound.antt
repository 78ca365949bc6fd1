-- The head of a function that is read is spelled as the tokens were.
use Rattle.std.proofs.Common.{◌≡◌, ◌<◌, List, [], ◌∷◌, ◌++◌, length, Option, Some, None, refl, ap, subst, ◌∙◌, arith}
use Rattle.std.proofs.Common.{append_assoc, length-append, inl, inr}
use Rattle.std.specs.List.{flat_map}
use Rattle.om_lexer.specs.declared.token.Keyword.TheVariants as keywords
use Rattle.om_lexer.specs.declared.token.Punctuator.TheVariants as punctuators
use Rattle.om_lexer.specs.declared.token.Span.{Span}
use Rattle.om_lexer.specs.declared.token.Token.{Token}
use Rattle.om_pragma.specs.declared.clause.Name as names
use Rattle.om_parser_tree.specs.declared.tree.Parameter.{Parameter}
use Rattle.om_parser_tree.specs.declared.tree.ResultType.{ResultType}
use Rattle.om_parser.specs.FunctionReading.{parameter_at, further_parameter_at, listed_at, parameters_at, head_after}
use Rattle.om_parser.specs.FunctionReading.{named_parameter, named_further, named_parameters, named_head}
use Rattle.om_parser_parts.specs.Reading.{known, take_mark, take_word, take_name, mark_at, word_at}
use Rattle.om_parser_parts.specs.Repetition.{optional, until}
use Rattle.om_parser_tree.specs.Spelling.{mark, word, name, perhaps, behind_comma, result_spelling, parameter_spelling}
use Rattle.om_parser_tree.specs.Spelling.{given_name, parameters_spelling, head_spelling, definition_spelling}
use Rattle.om_parser_tree.specs.Spelling.{prototype_spelling}
use Rattle.om_parser_tree.specs.Tree.{ParametersTree, NoParameters, Void, Listed, HeadTree}
use Rattle.om_parser_parts.specs.Outcomes.{ok, ok_is, some, known_ok, bind_ok, choose_cases, after_front, after_token}
use Rattle.om_parser_parts.specs.Taken.{take_mark_is, take_word_is, take_name_is, mark_at_is, word_at_is}
use Rattle.om_parser_parts.specs.Laws.{IsRead, IsSound}
use Rattle.om_parser_parts.specs.ItemsSound.{IsAny, until_sound}

-- a token that may stand there
optional_is : {A : Type 0} (spell : A → List Token) (found : Option (A × List Token)) (ts : List Token)
    → ((x : A) (us : List Token) → found ≡ some (x, us) → ts ≡ spell x ++ us) → ts
    ≡ perhaps spell (optional found ts).0 ++ (optional found ts).1
optional_is spell (Some x) ts is = is x.0 x.1 refl
optional_is spell None ts is = refl

parameter_sound : IsSound (parameter_spelling (perhaps given_name)) IsAny parameter_at
unfolding parameter_at
parameter_sound ts x h =
    let i = bind_ok (word_at keywords.Int ts) _ x h in
    let n = optional (take_name i.0.1) i.0.1 in
    subst (IsRead (parameter_spelling (perhaps given_name)) IsAny ts) (ok_is _ x i.2) (record {
      parts = after_token (word keywords.Int i.0.0) ts i.0.1 (perhaps given_name n.0) n.1
          (word_at_is keywords.Int ts i.0 i.1) (optional_is given_name (take_name i.0.1) i.0.1
          (λ n us e. take_name_is i.0.1 n us e));
      formed = tt;
    })

pub further_parameter_sound : IsSound (behind_comma (parameter_spelling
    (perhaps given_name))) IsAny further_parameter_at
unfolding further_parameter_at
further_parameter_sound ts x h =
    let c = bind_ok (mark_at punctuators.Comma ts) _ x h in
    let p = bind_ok (parameter_at c.0.1) _ x c.2 in
    let r = parameter_sound c.0.1 p.0 p.1 in
    subst (IsRead (behind_comma (parameter_spelling (perhaps given_name))) IsAny ts) (ok_is _ x p.2) (record {
      parts = after_token (mark punctuators.Comma c.0.0) ts c.0.1 (parameter_spelling (perhaps given_name) p.0.0) p.0.1
          (mark_at_is punctuators.Comma ts c.0 c.1) r.parts;
      formed = tt;
    })

pub further_parameter_some : (p : Span × Parameter (Option names.Name))
    → 0 < length (behind_comma (parameter_spelling (perhaps given_name)) p)
further_parameter_some p = omega arith

pub further_parameter_shorter : (ts : List Token) (p : Span × Parameter (Option names.Name)) (us : List Token)
    → further_parameter_at ts ≡ ok (p, us) → length us < length ts
further_parameter_shorter ts p us e =
    let r = further_parameter_sound ts (p, us) e in
    omega (
      arith,
      ap length r.parts,
      length-append (behind_comma (parameter_spelling (perhaps given_name)) p) us,
      further_parameter_some p,
    )

-- parameters and the right parenthesis
abbrev closed : ParametersTree (Option names.Name) × Span → List Token
closed p = parameters_spelling (perhaps given_name) p.0 ++ mark punctuators.CloseParen p.1 ∷ []

listed_sound : IsSound closed IsAny listed_at
unfolding listed_at parameters_spelling
listed_sound ts x h =
    let p = bind_ok (parameter_at ts) _ x h in
    let m = bind_ok (until (take_mark punctuators.CloseParen) further_parameter_at (length p.0.1) p.0.1) _ x p.2 in
    let first = parameter_sound ts p.0 p.1 in
    let r = until_sound (behind_comma (parameter_spelling (perhaps given_name))) IsAny (mark punctuators.CloseParen)
    (take_mark punctuators.CloseParen) further_parameter_at (take_mark_is punctuators.CloseParen)
    further_parameter_sound (length p.0.1) p.0.1 m.0 m.1 in
    subst (IsRead closed IsAny ts) (ok_is _ x m.2) (record {
      parts = after_front ts (parameter_spelling (perhaps given_name) p.0.0) p.0.1
          (flat_map (behind_comma (parameter_spelling (perhaps given_name))) m.0.0
          ++ mark punctuators.CloseParen m.0.1 ∷ []) m.0.2 first.parts r.parts ∙ simp append_assoc;
      formed = tt;
    })

parameters_sound : IsSound closed IsAny parameters_at
unfolding parameters_at parameters_spelling
parameters_sound ts x h = elim (choose_cases (take_mark punctuators.CloseParen ts) _ _ (ok x) h) [
  | inl r ↦ subst (IsRead closed IsAny ts) (ok_is _ x r.2)
      (record { parts = take_mark_is punctuators.CloseParen ts r.0.0 r.0.1 r.1; formed = tt })
  | inr g ↦ elim (choose_cases (take_word keywords.Void ts) _ _ (ok x) g.1) [
    | inl v ↦
        let r = bind_ok (mark_at punctuators.CloseParen v.0.1) _ x v.2 in
        subst (IsRead closed IsAny ts) (ok_is _ x r.2)
        (record {
          parts = take_word_is keywords.Void ts v.0.0 v.0.1 v.1 ∙ ap (λ w. word keywords.Void v.0.0 ∷ w)
              (mark_at_is punctuators.CloseParen v.0.1 r.0 r.1);
          formed = tt;
        })
    | inr k ↦ listed_sound ts x k.1
  ]
]

pub head_sound : (result : ResultType) (n : names.Name) (left : Span) (ts : List Token)
    (x : HeadTree (Option names.Name) × List Token)
    → head_after result n left ts ≡ ok x → result_spelling result ∷ name n ∷ mark punctuators.OpenParen left ∷ ts
    ≡ prototype_spelling x.0 ++ x.1
unfolding head_after head_spelling
head_sound result n left ts x h =
    let p = bind_ok (parameters_at ts) _ x h in
    let r = parameters_sound ts p.0 p.1 in
    subst (λ y. result_spelling result ∷ name n ∷ mark punctuators.OpenParen left ∷ ts
    ≡ prototype_spelling y.0 ++ y.1)
    (ok_is _ x p.2) (ap (λ w. result_spelling result ∷ name n ∷ mark punctuators.OpenParen left ∷ w) r.parts)

-- ---- names of parameters: the head of a definition is spelled as it was before they were asked for

named_parameter_is : (body : List Token) (p : Parameter (Option names.Name)) (q : Parameter names.Name)
    → named_parameter body p ≡ ok q
    → parameter_spelling (perhaps given_name) p ≡ parameter_spelling given_name q
unfolding named_parameter
named_parameter_is body p q h =
    let n = bind_ok (known body p.name) _ q h in
    ap (λ (o : Option names.Name). word keywords.Int p.int ∷ perhaps given_name o) (known_ok body p.name n.0 n.1)
    ∙ ap (λ (r : Parameter names.Name). parameter_spelling given_name r) (ok_is _ q n.2)

named_further_is : (body : List Token) (ps : List (Span × Parameter (Option names.Name)))
    (qs : List (Span × Parameter names.Name)) → named_further body ps ≡ ok qs
    → flat_map (behind_comma (parameter_spelling (perhaps given_name))) ps
    ≡ flat_map (behind_comma (parameter_spelling given_name)) qs
unfolding named_further
named_further_is body [] qs h = ap (flat_map (behind_comma (parameter_spelling given_name))) (ok_is [] qs h)
named_further_is body (p ∷ ps) qs h =
    let q = bind_ok (named_parameter body p.1) _ qs h in
    let rest = bind_ok (named_further body ps) _ qs q.2 in
    ap (λ w. mark punctuators.Comma p.0 ∷ (w ++ flat_map (behind_comma (parameter_spelling (perhaps given_name))) ps))
    (named_parameter_is body p.1 q.0 q.1)
    ∙ ap (λ w. behind_comma (parameter_spelling given_name) (p.0, q.0) ++ w) (named_further_is body ps rest.0 rest.1)
    ∙ ap (flat_map (behind_comma (parameter_spelling given_name))) (ok_is _ qs rest.2)

named_parameters_is : (body : List Token) (p : ParametersTree (Option names.Name)) (q : ParametersTree names.Name)
    → named_parameters body p ≡ ok q → parameters_spelling (perhaps given_name) p ≡ parameters_spelling given_name q
unfolding named_parameters parameters_spelling
named_parameters_is body NoParameters q h = ap (parameters_spelling given_name) (ok_is NoParameters q h)
named_parameters_is body (Void at) q h = ap (parameters_spelling given_name) (ok_is (Void at) q h)
named_parameters_is body (Listed p ps) q h =
    let first = bind_ok (named_parameter body p) _ q h in
    let rest = bind_ok (named_further body ps) _ q first.2 in
    ap (λ w. w ++ flat_map (behind_comma (parameter_spelling (perhaps given_name))) ps)
    (named_parameter_is body p first.0 first.1)
    ∙ ap (λ w. parameter_spelling given_name first.0 ++ w) (named_further_is body ps rest.0 rest.1)
    ∙ ap (parameters_spelling given_name) (ok_is _ q rest.2)

pub named_head_is : (body : List Token) (h : HeadTree (Option names.Name)) (g : HeadTree names.Name)
    → named_head body h ≡ ok g → prototype_spelling h ≡ definition_spelling g
unfolding named_head head_spelling
named_head_is body h g e =
    let ps = bind_ok (named_parameters body h.parameters) _ g e in
    ap (λ w. result_spelling h.result ∷ name h.name ∷ mark punctuators.OpenParen h.open_paren
    ∷ (w ++ mark punctuators.CloseParen h.close_paren ∷ [])) (named_parameters_is body h.parameters ps.0 ps.1)
    ∙ ap definition_spelling (ok_is _ g ps.2)

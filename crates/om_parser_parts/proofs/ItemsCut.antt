-- Where several items are too deep, the tokens up to there begin well-formed ones.
use Rattle.std.proofs.Common.{◌≡◌, ℕ, zero, suc, List, [], ◌∷◌, ◌++◌, Ok, Err, ap, ◌∙◌, append_assoc, inl, inr, All}
use Rattle.std.specs.Prelude.{Contains}
use Rattle.std.specs.List.{flat_map}
use Rattle.std.proofs.lemmas.List.{append-nil}
use Rattle.std.proofs.lemmas.List.Elements.{All-nil, All-cons, Contains-append_left, Contains-append_right}
use Rattle.om_lexer.specs.declared.fault.FaultCode.TheVariants as faults
use Rattle.om_lexer.specs.declared.fault.SourceFault.{SourceFault}
use Rattle.om_lexer.specs.declared.token.Token.{Token}
use Rattle.om_parser_tree.specs.Limits.{Limits, IsTooMuch}
use Rattle.om_parser_tree.specs.Spelling.{expression_spelling}
use Rattle.om_parser_parts.specs.Reading.{◌>>=◌, Outcome, Reader}
use Rattle.om_parser_tree.specs.Tree.{ExpressionTree}
use Rattle.om_parser_parts.specs.Repetition.{until}
use Rattle.om_parser_parts.specs.Outcomes.{ok, bind_err, choose_cases, err_is}
use Rattle.om_parser_parts.proofs.BracketsCut.{IsNeverDeep, syntax_never_deep}
use Rattle.om_parser_parts.specs.Loops.{Ender}

-- A limit is passed at this place: some well-formed part of a program begins with the same tokens up to there,
-- and there one of its whole expressions has too many tokens, or parentheses that nest too deep.
pub record PassesLimit {A : Type 0} (spelling : A → List Token) (IsFormed : A → Type 0)
    (expressions : A → List ExpressionTree) (l : Limits) (tokens : List Token) (place : ℕ) : Type 0 where
  pub part : A
  pub formed : IsFormed part
  pub expression : ExpressionTree
  pub whole : Contains (expressions part) expression
  pub before : List Token
  pub begun : List Token
  pub token : Token
  pub after : List Token
  pub rest_of_expression : List Token
  pub rest_of_part : List Token
  pub stands : tokens ≡ before ++ begun ++ token ∷ after
  pub in_expression : expression_spelling expression ≡ begun ++ token ∷ rest_of_expression
  pub in_part : spelling part ≡ before ++ expression_spelling expression ++ rest_of_part
  pub at_place : token.span.start ≡ place
  pub too_much : IsTooMuch l begun token

abbrev pub Deep : SourceFault → Type 0
Deep f = f.code ≡ faults.TooDeep

-- a reader that stops at a limit only where one is passed
abbrev pub IsCuttingAt : {A : Type 0} → (A → List Token) → (A → Type 0) → (A → List ExpressionTree) → Limits
    → Reader A → Type 0
IsCuttingAt {A} spell P whole l r = (ts : List Token) (f : SourceFault) → r ts ≡ Err f → Deep f → PassesLimit spell
    P whole l ts f.at

pub bind_never_deep : {A B : Type 0} (read : Outcome A) (g : A → Outcome B) → IsNeverDeep read
    → ((x : A) → IsNeverDeep (g x)) → IsNeverDeep (read >>= g)
bind_never_deep (Ok x) g first second f e deep = second x f e deep
bind_never_deep (Err d) g first second f e deep = first f (ap (λ (c : SourceFault). Err c) (err_is d f e)) deep

-- a part in its place in a larger one
pub embedded : {A B : Type 0} (spell : A → List Token) (P : A → Type 0) (whole : A → List ExpressionTree)
    (larger : B → List Token) (Q : B → Type 0) (of_larger : B → List ExpressionTree) (l : Limits)
    (front : List Token) (make : A → B) (back : List Token)
    → ((a : A) → larger (make a) ≡ front ++ spell a ++ back) → ((a : A) → P a → Q (make a))
    → ((a : A) (e : ExpressionTree) → Contains (whole a) e → Contains (of_larger (make a)) e)
    → (ts : List Token) (place : ℕ) → PassesLimit spell P whole l ts place → PassesLimit larger Q of_larger l
    (front ++ ts) place
embedded spell P whole larger Q of_larger l front make back spelled formed contains ts place c = record {
  part = make c.part;
  formed = formed c.part c.formed;
  expression = c.expression;
  whole = contains c.part c.expression c.whole;
  before = front ++ c.before;
  begun = c.begun;
  token = c.token;
  after = c.after;
  rest_of_expression = c.rest_of_expression;
  rest_of_part = c.rest_of_part ++ back;
  stands = ap (λ w. front ++ w) c.stands ∙ simp append_assoc;
  in_expression = c.in_expression;
  in_part = spelled c.part ∙ ap (λ w. front ++ w ++ back) c.in_part ∙ simp append_assoc;
  at_place = c.at_place;
  too_much = c.too_much;
}

module _ {A : Type 0} (spell : A → List Token) (P : A → Type 0) (whole : A → List ExpressionTree) (l : Limits)
    (ender : Ender) (item : Reader A) where
  one_cut : (ts : List Token) (place : ℕ) → PassesLimit spell P whole l ts place → PassesLimit (flat_map spell)
      (All P) (flat_map whole) l ts place
  one_cut ts place c = record {
    part = c.part ∷ [];
    formed = All-cons P c.part [] c.formed (All-nil P);
    expression = c.expression;
    whole = Contains-append_left (whole c.part) [] c.expression c.whole;
    before = c.before;
    begun = c.begun;
    token = c.token;
    after = c.after;
    rest_of_expression = c.rest_of_expression;
    rest_of_part = c.rest_of_part;
    stands = c.stands;
    in_expression = c.in_expression;
    in_part = append-nil (spell c.part) ∙ c.in_part;
    at_place = c.at_place;
    too_much = c.too_much;
  }

  pub until_cut : ((ts : List Token) (x : A × List Token) → item ts ≡ ok x → (ts ≡ spell x.0 ++ x.1) × P x.0)
      → IsCuttingAt spell P whole l item → (k : ℕ) (ts : List Token) (f : SourceFault) → until ender item k ts
      ≡ Err f → Deep f → PassesLimit (flat_map spell) (All P) (flat_map whole) l ts f.at
  unfolding until
  until_cut sound cutting zero ts f h deep = elim (bind_err (item ts) _ f h) [
    | inl e ↦ one_cut ts f.at (cutting ts f e deep)
    | inr (a, reads, e) ↦ absurd (syntax_never_deep ts f e deep)
  ]
  until_cut sound cutting (suc k) ts f h deep = elim (choose_cases (ender ts) _ _ (Err f) h) [
    | inl (e, ends, no_err) ↦ absurd cc
    | inr (none, g) ↦ elim (bind_err (item ts) _ f g) [
      | inl e ↦ one_cut ts f.at (cutting ts f e deep)
      | inr (a, reads, e) ↦ elim (bind_err (until ender item k a.1) _ f e) [
        | inr (b, read, no_err) ↦ absurd cc
        | inl fails ↦
            let c = until_cut sound cutting k a.1 f fails deep in
            let r = sound ts a reads in
            record {
              part = a.0 ∷ c.part;
              formed = All-cons P a.0 c.part r.1 c.formed;
              expression = c.expression;
              whole = Contains-append_right (whole a.0) (flat_map whole c.part) c.expression c.whole;
              before = spell a.0 ++ c.before;
              begun = c.begun;
              token = c.token;
              after = c.after;
              rest_of_expression = c.rest_of_expression;
              rest_of_part = c.rest_of_part;
              stands = r.0 ∙ ap (λ w. spell a.0 ++ w) c.stands ∙ simp append_assoc;
              in_expression = c.in_expression;
              in_part = ap (λ w. spell a.0 ++ w) c.in_part ∙ simp append_assoc;
              at_place = c.at_place;
              too_much = c.too_much;
            }
      ]
    ]
  ]

pub until_never_deep : {A : Type 0} (ender : Ender) (item : Reader A) → ((ts : List Token) → IsNeverDeep (item ts))
    → (k : ℕ) (ts : List Token) → IsNeverDeep (until ender item k ts)
unfolding until
until_never_deep ender item never zero ts f h deep = bind_never_deep (item ts) _ (never ts)
    (λ a f e deep. syntax_never_deep ts f e deep) f h deep
until_never_deep ender item never (suc k) ts f h deep = elim (choose_cases (ender ts) _ _ (Err f) h) [
  | inl (e, ends, no_err) ↦ absurd cc
  | inr (none, g) ↦ bind_never_deep (item ts) _ (never ts) (λ a. bind_never_deep (until ender item k a.1) _
      (until_never_deep ender item never k a.1) (λ b e h deep. absurd cc)) f g deep
]

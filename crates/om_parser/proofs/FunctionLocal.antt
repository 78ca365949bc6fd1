-- The head of a function is read as far as the next token.
use Rattle.std.proofs.Common.{◌≡◌, ℕ, suc, List, [], ◌∷◌, length, Option, Some, None, Ok, Err, refl, ap, ◌∙◌, ◌⊎◌, inl, inr}
use Rattle.om_lexer.specs.declared.token.Keyword.TheVariants as keywords
use Rattle.om_lexer.specs.declared.token.Punctuator.TheVariants as punctuators
use Rattle.om_lexer.specs.declared.token.Span.{Span}
use Rattle.om_lexer.specs.declared.token.Token.{Token}
use Rattle.om_pragma.specs.declared.clause.Name as names
use Rattle.om_parser_tree.specs.declared.tree.Parameter.{Parameter}
use Rattle.om_parser_tree.specs.declared.tree.ResultType.{ResultType}
use Rattle.om_parser.specs.FunctionReading.{parameter_at, further_parameter_at, listed_at, parameters_at, head_after}
use Rattle.om_parser.specs.FunctionReading.{named_parameter, named_further, named_parameters, named_head}
use Rattle.om_parser_parts.specs.Local.{pair, triple, done, bind, either, alike, mark_taker, word_taker, name_taker}
use Rattle.om_parser_parts.specs.Local.{mark_local, word_local, until_local}
use Rattle.om_parser_parts.specs.Reading.{◌>>=◌, Outcome, choose, known, syntax, take_mark, take_word, take_name, mark_at, word_at}
use Rattle.om_parser_parts.specs.Repetition.{optional, until}
use Rattle.om_parser_tree.specs.Tree.{ParametersTree, NoParameters, Void, Listed, HeadTree}
use Rattle.om_parser.proofs.FunctionSound.{further_parameter_shorter}
use Rattle.om_parser.proofs.ItemLocal.{lined}
use Rattle.om_parser.proofs.StatementLocal.{IsNear}

module _ (n : ℕ) where
  parameter_local : IsNear n parameter_at
  unfolding parameter_at
  parameter_local m = bind m pair pair (λ j ts. word_at keywords.Int ts) _ (lined n)
      (word_local m keywords.Int (lined n))
      (λ i. alike m pair _ (λ j us. choose (take_name us)
      (λ x. Ok (record { int = i.0; name = Some x.0 }, x.1)) (Ok (record { int = i.0; name = None }, us))) (lined n)
      (λ us. same i.0 us (take_name us)) (λ j us far some. same i.0 us (take_name us))
      (either m pair take_name _ _ (lined n) name_taker
      (λ x. done (suc m) (record { int = i.0; name = Some x }) (lined n))
      (done m (record { int = i.0; name = None }) (lined n))))
    where
      Found : Type 0
      Found = Option (names.Name × List Token)

      same : (int : Span) (us : List Token) (o : Option (names.Name × List Token))
          → ◌≡◌ {A = Outcome (Parameter (Option names.Name) × List Token)}
          (Ok (record { int = int; name = (optional o us).0 }, (optional o us).1))
          (choose o (λ x. Ok (record { int = int; name = Some x.0 }, x.1)) (Ok (record { int = int; name = None }, us)))
      same int us (Some x) = refl
      same int us None = refl

  further_local : IsNear n further_parameter_at
  unfolding further_parameter_at
  further_local m = bind m pair pair (λ j ts. mark_at punctuators.Comma ts) _ (lined n)
      (mark_local m punctuators.Comma (lined n))
      (λ c. bind m pair pair (λ j. parameter_at) _ (lined n) (parameter_local m) (λ p. done m (c.0, p.0) (lined n)))

  listed_local : IsNear n listed_at
  unfolding listed_at
  listed_local m = bind m pair pair (λ j. parameter_at) _ (lined n) (parameter_local m)
      (λ p. bind m triple pair (λ j ts. until (take_mark punctuators.CloseParen) further_parameter_at (length ts) ts) _
      (lined n)
      (until_local (take_mark punctuators.CloseParen) (λ j. further_parameter_at) (lined n)
      (mark_taker punctuators.CloseParen) (λ j ts x e. further_parameter_shorter ts x.0 x.1 e) m
      (λ k le. further_local k))
      (λ x. done m (Listed p.0 x.0, x.1) (lined n)))

  parameters_local : IsNear n parameters_at
  unfolding parameters_at
  parameters_local m = either m pair (take_mark punctuators.CloseParen) _ _ (lined n)
      (mark_taker punctuators.CloseParen) (λ r. done (suc m) (NoParameters, r) (lined n))
      (either m pair (take_word keywords.Void) _ _ (lined n) (word_taker keywords.Void)
      (λ v. bind (suc m) pair pair (λ j ts. mark_at punctuators.CloseParen ts) _ (lined n)
      (mark_local (suc m) punctuators.CloseParen (lined n)) (λ r. done (suc m) (Void v, r.0) (lined n)))
      (listed_local m))

  pub head_local : (result : ResultType) (name : names.Name) (left : Span) → IsNear n (head_after result name left)
  unfolding head_after
  head_local result name left m = bind m pair pair (λ j. parameters_at) _ (lined n) (parameters_local m)
      (λ p. done m (record {
        result = result;
        name = name;
        open_paren = left;
        parameters = p.0.0;
        close_paren = p.0.1;
      }) (lined n))

-- ---- the names of parameters do not hang on the body

abbrev pub IsAsked : {A : Type 0} → (List Token → Outcome A) → Type 0
IsAsked {A} r = ((x : A) × ((ts : List Token) → r ts ≡ Ok x)) ⊎ ((ts : List Token) → r ts ≡ Err (syntax ts))

asked_both : {A B : Type 0} (r : List Token → Outcome A) (g : List Token → A → Outcome B) → IsAsked r
    → ((x : A) → IsAsked (λ ts. g ts x)) → IsAsked (λ ts. r ts >>= g ts)
asked_both {A} {B} r g (inr fails) second = inr (λ ts. ap (λ (o : Outcome A). o >>= g ts) (fails ts))
asked_both {A} {B} r g (inl (x, reads)) second = elim (second x) [
  | inl k ↦ inl (k.0, λ ts. ap (λ (o : Outcome A). o >>= g ts) (reads ts) ∙ k.1 ts)
  | inr k ↦ inr (λ ts. ap (λ (o : Outcome A). o >>= g ts) (reads ts) ∙ k ts)
]

asked_done : {A : Type 0} (x : A) → IsAsked (λ ts. Ok x)
asked_done x = inl (x, λ ts. refl)

asked_known : {A : Type 0} (o : Option A) → IsAsked (λ ts. known ts o)
asked_known (Some x) = inl (x, λ ts. refl)
asked_known None = inr (λ ts. refl)

parameter_asked : (p : Parameter (Option names.Name)) → IsAsked (λ body. named_parameter body p)
unfolding named_parameter
parameter_asked p = asked_both (λ body. known body p.name) (λ body x. Ok (record { int = p.int; name = x }))
    (asked_known p.name) (λ x. asked_done (record { int = p.int; name = x }))

further_asked : (ps : List (Span × Parameter (Option names.Name))) → IsAsked (λ body. named_further body ps)
unfolding named_further
further_asked [] = asked_done []
further_asked (p ∷ ps) = asked_both (λ body. named_parameter body p.1)
    (λ body q. named_further body ps >>= λ qs. Ok ((p.0, q) ∷ qs)) (parameter_asked p.1)
    (λ q. asked_both (λ body. named_further body ps) (λ body qs. Ok ((p.0, q) ∷ qs)) (further_asked ps)
    (λ qs. asked_done ((p.0, q) ∷ qs)))

parameters_asked : (p : ParametersTree (Option names.Name)) → IsAsked (λ body. named_parameters body p)
unfolding named_parameters
parameters_asked NoParameters = asked_done NoParameters
parameters_asked (Void at) = asked_done (Void at)
parameters_asked (Listed p ps) = asked_both (λ body. named_parameter body p)
    (λ body q. named_further body ps >>= λ qs. Ok (Listed q qs)) (parameter_asked p)
    (λ q. asked_both (λ body. named_further body ps) (λ body qs. Ok (Listed q qs)) (further_asked ps)
    (λ qs. asked_done (Listed q qs)))

pub head_asked : (h : HeadTree (Option names.Name)) → IsAsked (λ body. named_head body h)
unfolding named_head
head_asked h = asked_both (λ body. named_parameters body h.parameters) _ (parameters_asked h.parameters)
    (λ ps. asked_done (record {
      result = h.result;
      name = h.name;
      open_paren = h.open_paren;
      parameters = ps;
      close_paren = h.close_paren;
    }))

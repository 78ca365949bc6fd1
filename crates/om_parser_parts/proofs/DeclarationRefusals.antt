-- Declarations are refused by no other code than their initializers.
use Rattle.std.proofs.Common.{List, length}
use Rattle.om_lexer.specs.declared.token.Punctuator.TheVariants as punctuators
use Rattle.om_lexer.specs.declared.token.Span.{Span}
use Rattle.om_lexer.specs.declared.token.Token.{Token}
use Rattle.om_pragma.specs.declared.clause.Name as names
use Rattle.om_parser_parts.specs.DeclarationReading.{signed_at, array_after, declarator_after, further_at, declaration_after}
use Rattle.om_parser_parts.specs.DeclarationReading.{declared_at}
use Rattle.om_parser_parts.specs.Reading.{Reader, mark_at, name_at, number_at}
use Rattle.om_parser_parts.specs.Repetition.{until}
use Rattle.om_parser_parts.proofs.Refusals.{Refuses, done, bind, either, expected, until_refuses}

pub signed_refuses : (ts : List Token) → Refuses (signed_at ts)
unfolding signed_at number_at
signed_refuses ts = either _ _ _ (λ (m : Span × List Token). bind (number_at m.1) _ (expected m.1 _)
    (λ n. done _)) (bind (number_at ts) _ (expected ts _) (λ n. done _))

array_refuses : (left : Span) (ts : List Token) → Refuses (array_after left ts)
unfolding array_after number_at mark_at
array_refuses left ts = bind (number_at ts) _ (expected ts _) (λ n. bind (mark_at punctuators.CloseBracket n.1) _
    (expected n.1 _) (λ r. done _))

module _ {I : Type 0} (initial : Reader I) (refuses : (ts : List Token) → Refuses (initial ts)) where
  declarator_refuses : (n : names.Name) (ts : List Token) → Refuses (declarator_after initial n ts)
  unfolding declarator_after
  declarator_refuses n ts = either _ _ _ (λ (b : Span × List Token). bind (array_after b.0 b.1) _
      (array_refuses b.0 b.1) (λ a. done _))
      (either _ _ _ (λ (q : Span × List Token). bind (initial q.1) _ (refuses q.1) (λ e. done _)) (done _))

  further_refuses : (ts : List Token) → Refuses (further_at initial ts)
  unfolding further_at mark_at name_at
  further_refuses ts = bind (mark_at _ ts) _ (expected ts _) (λ c. bind (name_at c.1) _ (expected c.1 _)
      (λ n. bind (declarator_after initial n.0 n.1) _ (declarator_refuses n.0 n.1) (λ d. done _)))

  pub declaration_refuses : (int : Span) (n : names.Name) (ts : List Token)
      → Refuses (declaration_after initial int n ts)
  unfolding declaration_after
  declaration_refuses int n ts = bind (declarator_after initial n ts) _ (declarator_refuses n ts)
      (λ d. bind (until _ (further_at initial) (length d.1) d.1) _ (until_refuses _ (further_at initial)
      further_refuses (length d.1) d.1) (λ m. done _))

  pub declared_refuses : (int : Span) (ts : List Token) → Refuses (declared_at initial int ts)
  unfolding declared_at name_at
  declared_refuses int ts = bind (name_at ts) _ (expected ts _) (λ n. declaration_refuses int n.0 n.1)

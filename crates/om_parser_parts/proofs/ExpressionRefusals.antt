-- Expressions are refused by no other code.
use Rattle.std.proofs.Common.{◌≡◌, ℕ, zero, suc, ◌-◌, List, length, Some, None, Err, subst, Bool, true, false, inl, inr}
use Rattle.om_lexer.specs.declared.token.Span.{Span}
use Rattle.om_lexer.specs.declared.token.Token.{Token}
use Rattle.om_pragma.specs.declared.clause.Name as names
use Rattle.om_parser_parts.specs.ExpressionReading.{prefix_of, postfix_of, level_operator, take_operator, take_assign}
use Rattle.om_parser_parts.specs.ExpressionReading.{take_text, Inside, enter, closed_by, paren_after, index_after, first_at}
use Rattle.om_parser_parts.specs.ExpressionReading.{argument_at, arguments_at, arguments_after, call_after, named_after}
use Rattle.om_parser_parts.specs.ExpressionReading.{primary_step, More, chain_at, postfix_more, binary_more, postfix_step}
use Rattle.om_parser_parts.specs.ExpressionReading.{unary_step, binary_at, conditional_after, expression_after}
use Rattle.om_parser_parts.specs.ExpressionReading.{expression_step, deeper, unary_at, expression_at, operand_at, whole_at}
use Rattle.om_parser_tree.specs.Limits.{Limits}
use Rattle.om_parser_parts.specs.Reading.{Outcome, Reader, take_mark, take_number, mark_at, name_at}
use Rattle.om_parser_parts.specs.Repetition.{until}
use Rattle.om_parser_tree.specs.Tree.{ExpressionTree}
use Rattle.om_parser_parts.specs.Outcomes.{some, choose_cases}
use Rattle.om_parser_parts.proofs.ExpressionSound.{option_map_is}
use Rattle.om_parser_parts.proofs.Refusals.{Refuses, done, wrong, deep, bind, either, expected, limited, until_refuses}

-- a reader that refuses by no other code
abbrev IsRefusing : Reader ExpressionTree → Type 0
IsRefusing r = (ts : List Token) → Refuses (r ts)

abbrev IsInsideRefusing : Inside → Type 0
IsInsideRefusing None = Unit {0}
IsInsideRefusing (Some whole) = IsRefusing whole

enter_refuses : {A : Type 0} (inside : Inside) (left : Span) (go : Reader ExpressionTree → Outcome A)
    → IsInsideRefusing inside → ((whole : Reader ExpressionTree) → IsRefusing whole → Refuses (go whole))
    → Refuses (enter inside left go)
enter_refuses None left go h go_on = deep left
enter_refuses (Some whole) left go h go_on = go_on whole h

module _ (beyond : ℕ) (whole : Reader ExpressionTree) (h : IsRefusing whole) where
  closed_refuses : (p : _) (ts : List Token) → Refuses (closed_by beyond p whole ts)
  unfolding closed_by mark_at
  closed_refuses p ts = bind (whole ts) _ (h ts) (λ e. bind (mark_at p e.1) _ (expected e.1 _)
      (λ r. limited beyond r.0 r.1 _ (done _)))

  paren_refuses : (left : Span) (ts : List Token) → Refuses (paren_after beyond whole left ts)
  unfolding paren_after
  paren_refuses left ts = bind (closed_by beyond _ whole ts) _ (closed_refuses _ ts) (λ e. done _)

  index_refuses : (n : names.Name) (left : Span) (ts : List Token) → Refuses (index_after beyond whole n left ts)
  unfolding index_after
  index_refuses n left ts = bind (closed_by beyond _ whole ts) _ (closed_refuses _ ts) (λ e. done _)

  argument_refuses : (ts : List Token) → Refuses (argument_at beyond whole ts)
  unfolding argument_at mark_at
  argument_refuses ts = bind (mark_at _ ts) _ (expected ts _)
      (λ c. limited beyond c.0 c.1 _ (bind (whole c.1) _ (h c.1) (λ e. done _)))

  call_refuses : (n : names.Name) (left : Span) (ts : List Token) → Refuses (call_after beyond whole n left ts)
  unfolding call_after arguments_after arguments_at first_at
  call_refuses n left ts = either (take_mark _ ts) _ _
      (λ r. limited beyond r.0 r.1 _ (done _))
      (bind _ _ (either (take_text n ts) _ _ (λ t. limited beyond t.0.span t.1 _ (done _)) (h ts))
      (λ a. bind _ _ (bind (until _ (argument_at beyond whole) (length a.1) a.1) _
      (until_refuses _ (argument_at beyond whole) argument_refuses (length a.1) a.1) (λ m. done _))
      (λ m. limited beyond m.1 m.2 _ (done _))))

module _ (beyond : ℕ) (inside : Inside) (h : IsInsideRefusing inside) where
  named_refuses : (n : names.Name) (ts : List Token) → Refuses (named_after beyond inside n ts)
  unfolding named_after
  named_refuses n ts = either (take_mark _ ts) _ _
      (λ l. limited beyond l.0 l.1 _ (enter_refuses inside l.0 _ h (λ whole r. index_refuses beyond whole r n l.0 l.1)))
      (either (take_mark _ ts) _ _
      (λ l. limited beyond l.0 l.1 _ (enter_refuses inside l.0 _ h (λ whole r. call_refuses beyond whole r n l.0 l.1)))
      (done _))

  primary_refuses : IsRefusing (primary_step beyond inside)
  unfolding primary_step name_at
  primary_refuses ts = either (take_number ts) _ _
      (λ n. limited beyond n.0.span n.1 _ (done _))
      (either (take_mark _ ts) _ _
      (λ l. limited beyond l.0 l.1 _ (enter_refuses inside l.0 _ h (λ whole r. paren_refuses beyond whole r l.0 l.1)))
      (bind (name_at ts) _ (expected ts _) (λ n. limited beyond n.0.span n.1 _ (named_refuses n.0 n.1))))

-- each step of a chain refuses by no other code
abbrev IsStepRefusing : More → Type 0
IsStepRefusing more = (a : ExpressionTree) (ts : List Token) (read : _) → more a ts ≡ some read → Refuses read

chain_refuses : (more : More) → IsStepRefusing more → (k : ℕ) (a : ExpressionTree) (ts : List Token)
    → Refuses (chain_at more k a ts)
unfolding chain_at
chain_refuses more h zero a ts f e = done (a, ts) f e
chain_refuses more h (suc k) a ts f e = elim (choose_cases (more a ts) _ _ (Err f) e) [
  | inl (read, taken, g) ↦ bind read _ (h a ts read taken) (λ b. chain_refuses more h k b.0 b.1) f g
  | inr (none, g) ↦ absurd cc
]

postfix_more_refuses : (beyond : ℕ) → IsStepRefusing (postfix_more beyond)
unfolding postfix_more
postfix_more_refuses beyond a ts read e =
    let o = option_map_is _ (take_operator postfix_of ts) read e in
    subst (λ r. Refuses r) o.2 (limited beyond o.0.0.1 o.0.1 _ (done _))

binary_more_refuses : (beyond m : ℕ) (operand : Reader ExpressionTree) → IsRefusing operand
    → IsStepRefusing (binary_more beyond m operand)
unfolding binary_more
binary_more_refuses beyond m operand h a ts read e =
    let o = option_map_is _ (take_operator (level_operator m) ts) read e in
    subst (λ r. Refuses r) o.2 (limited beyond o.0.0.1 o.0.1 _ (bind (operand o.0.1) _ (h o.0.1) (λ b. done _)))

unary_refuses : (beyond : ℕ) (again : Reader ExpressionTree) (inside : Inside) → IsRefusing again → IsInsideRefusing
    inside → IsRefusing (unary_step beyond again inside)
unfolding unary_step postfix_step
unary_refuses beyond again inside h within ts = either (take_operator prefix_of ts) _ _
    (λ o. limited beyond o.0.1 o.1 _ (bind (again o.1) _ (h o.1) (λ e. done _)))
    (bind (primary_step beyond inside ts) _ (primary_refuses beyond inside within ts)
    (λ a. chain_refuses (postfix_more beyond) (postfix_more_refuses beyond) (length a.1) a.0 a.1))

binary_refuses : (beyond : ℕ) (unary : Reader ExpressionTree) → IsRefusing unary → (k : ℕ)
    → IsRefusing (binary_at beyond unary k)
unfolding binary_at
binary_refuses beyond unary h zero ts = h ts
binary_refuses beyond unary h (suc k) ts = bind (binary_at beyond unary k ts) _ (binary_refuses beyond unary h k ts)
    (λ a. chain_refuses (binary_more beyond (8 - k) (binary_at beyond unary k)) (binary_more_refuses beyond (8 - k)
    (binary_at beyond unary k) (binary_refuses beyond unary h k)) (length a.1) a.0 a.1)

expression_refuses : (beyond : ℕ) (may : Bool) (operand whole choice : Reader ExpressionTree) → IsRefusing operand
    → IsRefusing whole → IsRefusing choice → IsRefusing (expression_step beyond may operand whole choice)
unfolding expression_step expression_after conditional_after mark_at
expression_refuses beyond may operand whole choice operands wholes choices ts = bind (operand ts) _ (operands ts)
    (λ c. either (take_mark _ c.1) _ _
    (λ q. limited beyond q.0 q.1 _ (bind (whole q.1) _ (wholes q.1) (λ a. bind (mark_at _ a.1) _ (expected a.1 _)
    (λ colon. limited beyond colon.0 colon.1 _ (bind (choice colon.1) _ (choices colon.1) (λ b. done _))))))
    (either (take_assign may c.0 c.1) _ _
    (λ o. limited beyond o.0.1 o.1 _ (bind (whole o.1) _ (wholes o.1) (λ v. done _))) (done _)))

record AreRefusing (beyond turns room : ℕ) : Type 0 where
  unary : IsRefusing (unary_at beyond turns room)
  any : (may : Bool) → IsRefusing (expression_at beyond turns may room)

inside_refuses : (beyond turns : ℕ) → ((r : ℕ) → IsRefusing (expression_at beyond turns true r)) → (room : ℕ)
    → IsInsideRefusing (deeper (expression_at beyond turns true) room)
inside_refuses beyond turns h zero = tt
inside_refuses beyond turns h (suc room) = h room

all_refuse : (beyond turns room : ℕ) → AreRefusing beyond turns room
unfolding unary_at expression_at
all_refuse beyond zero room = record { unary = λ ts. wrong ts; any = λ may ts. wrong ts }
all_refuse beyond (suc turns) room =
    let below = all_refuse beyond turns room in
    let operand : IsRefusing (operand_at beyond turns room) = unary_refuses beyond (unary_at beyond turns room) _
    below.unary (inside_refuses beyond turns (λ r. (all_refuse beyond turns r).any true) room) in
    record {
      unary = operand;
      any = λ may. expression_refuses beyond may _ _ _
          (binary_refuses beyond (operand_at beyond turns room) operand 6) (below.any true) (below.any false);
    }

pub whole_refuses : (l : Limits) (room : ℕ) (ts : List Token) → Refuses (whole_at l room ts)
unfolding whole_at
whole_refuses l room ts = (all_refuse (length ts - l.tokens) (length ts) room).any true ts

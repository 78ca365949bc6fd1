-- Reading an expression looks no further than at the token at which it stops, or which stands behind it.
use Rattle.std.proofs.Common.{◌≡◌, ℕ, zero, suc, ◌+◌, ◌-◌, ◌<◌, ◌≤◌, List, [], ◌∷◌, ◌++◌, length, Option, Some, None, Ok}
use Rattle.std.proofs.Common.{Err, refl, sym, ap, ◌∙◌, arith, length-append, Bool, true, false, cond, inl, inr}
use Rattle.std.specs.Prelude.{nat_le, option_map}
use Rattle.om_lexer.specs.declared.fault.SourceFault.{SourceFault}
use Rattle.om_lexer.specs.declared.token.Punctuator.{Punctuator}
use Rattle.om_lexer.specs.declared.token.Punctuator.TheVariants as punctuators
use Rattle.om_lexer.specs.declared.token.Span.{Span}
use Rattle.om_lexer.specs.declared.token.Token.{Token}
use Rattle.om_lexer.specs.declared.token.TokenKind.{TokenKind}
use Rattle.om_lexer.specs.declared.token.TokenKind.TheVariants as kinds
use Rattle.om_pragma.specs.declared.clause.Name as names
use Rattle.om_parser_parts.specs.ExpressionReading.{prefix_of, postfix_of, level_operator, assign_of, text_of, take_operator}
use Rattle.om_parser_parts.specs.ExpressionReading.{take_assign, take_text, enter, closed_by, paren_after, index_after}
use Rattle.om_parser_parts.specs.ExpressionReading.{first_at, argument_at, arguments_at, arguments_after, call_after}
use Rattle.om_parser_parts.specs.ExpressionReading.{named_after, primary_step, More, chain_at, postfix_more, binary_more}
use Rattle.om_parser_parts.specs.ExpressionReading.{postfix_step, unary_step, binary_at, conditional_after, expression_after}
use Rattle.om_parser_parts.specs.ExpressionReading.{expression_step, deeper, unary_at, expression_at, operand_at, whole_at}
use Rattle.om_parser_parts.specs.ExpressionReading.{within}
use Rattle.om_parser_parts.specs.Halting.{Unended}
use Rattle.om_parser_parts.specs.Local.{Measure, Family, pair, triple, IsLocal, IsTaker, Suffices, Consumes, done, finished, bind}
use Rattle.om_parser_parts.specs.Local.{either, deep, limited, alike, weaken, take_taker, mark_taker}
use Rattle.om_parser_parts.specs.Local.{le_same, no_more, number_taker, mark_local, name_local, until_local, bind_same}
use Rattle.om_parser_parts.specs.Outcomes.{some, err_is, ok_is, bind_ok}
use Rattle.om_parser_parts.specs.Reading.{◌>>=◌, Outcome, Reader, LeavesNoMore, choose, syntax, take, take_mark}
use Rattle.om_parser_parts.specs.Reading.{take_number, mark_at, name_at}
use Rattle.om_parser_parts.specs.Repetition.{until}
use Rattle.om_parser_parts.specs.Taken.{mark_at_is}
use Rattle.om_parser_tree.specs.declared.tree.BinaryOperator.{BinaryOperator}
use Rattle.om_parser_tree.specs.declared.tree.PostfixOperator.{PostfixOperator}
use Rattle.om_parser_tree.specs.Limits.{Limits}
use Rattle.om_parser_tree.specs.Spelling.{expression_spelling}
use Rattle.om_parser_tree.specs.Tree.{ExpressionTree, Name, Constant, Text, Paren, Index, Call, Prefix, Postfix, Binary}
use Rattle.om_parser_tree.specs.Tree.{Conditional, Assign, NoArguments, arguments}
use Rattle.om_parser_parts.proofs.ExpressionSound.{all_sound, operand_sound, binary_sound, within_ok}

-- ---- operators

operator_taker : {O : Type 0} (f : TokenKind → Option O) → f kinds.End ≡ None → IsTaker (take_operator f)
unfolding take_operator
operator_taker f no_end = take_taker (λ k s. choose (f k) (λ o. Some (o, s)) None) (λ s. ap (λ o. choose o
    (λ x. Some (x, s)) None) no_end)

cond_taker : {A : Type 0} (b : Bool) (k : List Token → Option (A × List Token)) → IsTaker k
    → IsTaker (λ ts. cond b (k ts) None)
cond_taker true k taker = taker
cond_taker false k taker = record {
  nothing = refl;
  takes = λ t ts x e. absurd cc;
  misses = λ t ts us e. refl;
}

assign_taker : (may : Bool) (target : ExpressionTree) → IsTaker (take_assign may target)
unfolding take_assign
assign_taker may target = cond_taker _ (take_operator assign_of) (operator_taker assign_of refl)

text_taker : (n : names.Name) → IsTaker (take_text n)
unfolding take_text
text_taker n = cond_taker _ (take (λ t. text_of t.kind t.span)) (take_taker text_of (λ s. refl))

-- ---- brackets

-- what stands in a bracket, behind some tokens
abbrev IsInside : (Measure → Reader ExpressionTree) → Measure → Type 0
IsInside whole i = (m : ℕ) → IsLocal (suc m) pair whole i

module _ (i : Measure) (whole : Measure → Reader ExpressionTree) (h : IsInside whole i) (m : ℕ) where
  closed_local : (p : Punctuator) → IsLocal (suc m) pair (λ j ts. closed_by j.beyond p (whole j) ts) i
  unfolding closed_by
  closed_local p = bind (suc m) pair pair whole _ i (h m)
      (λ e. bind (suc m) pair pair (λ j ts. mark_at p ts) _ i (mark_local (suc m) p i)
      (λ r. limited (suc m) pair r.0 (λ j ts. Ok ((e.0, r.0), ts)) i (done (suc m) (e.0, r.0) i)))

  paren_local : (left : Span) → IsLocal (suc m) pair (λ j ts. paren_after j.beyond (whole j) left ts) i
  unfolding paren_after
  paren_local left = bind (suc m) pair pair (λ j ts. closed_by j.beyond punctuators.CloseParen (whole j) ts) _ i
      (closed_local punctuators.CloseParen) (λ e. done (suc m) (Paren left e.0.0 e.0.1) i)

  index_local : (n : names.Name) (left : Span)
      → IsLocal (suc m) pair (λ j ts. index_after j.beyond (whole j) n left ts) i
  unfolding index_after
  index_local n left = bind (suc m) pair pair (λ j ts. closed_by j.beyond punctuators.CloseBracket (whole j) ts) _ i
      (closed_local punctuators.CloseBracket) (λ e. done (suc m) (Index n left e.0.0 e.0.1) i)

  argument_local : IsLocal (suc m) pair (λ j ts. argument_at j.beyond (whole j) ts) i
  unfolding argument_at
  argument_local = bind (suc m) pair pair (λ j ts. mark_at punctuators.Comma ts) _ i
      (mark_local (suc m) punctuators.Comma i)
      (λ c. limited (suc m) pair c.0 (λ j ts. whole j ts >>= λ e. Ok ((Some c.0, e.0), e.1)) i
      (bind (suc m) pair pair whole _ i (h m) (λ e. done (suc m) (Some c.0, e.0) i)))

argument_less : (beyond : ℕ) (whole : Reader ExpressionTree) → LeavesNoMore whole → Consumes (argument_at beyond whole)
unfolding argument_at
argument_less beyond whole leaves ts x e =
    let c = bind_ok (mark_at punctuators.Comma ts) _ x e in
    let w = within_ok beyond c.0.0 c.0.1 _ x c.2 in
    let a = bind_ok (whole c.0.1) _ x w.1 in
    omega (
      arith,
      ap length (mark_at_is punctuators.Comma ts c.0 c.1),
      leaves c.0.1 a.0 a.1,
      ap (λ (y : (Option Span × ExpressionTree) × List Token). length y.1) (ok_is _ x a.2),
    )

module _ (i : Measure) (whole : Measure → Reader ExpressionTree) (h : IsInside whole i)
    (leaves : (j : Measure) → LeavesNoMore (whole j)) (m : ℕ) where
  arguments_local : (first : ExpressionTree) → IsLocal (suc m) triple
      (λ j ts. arguments_at j.beyond (whole j) first ts) i
  unfolding arguments_at
  arguments_local first = bind (suc m) triple triple
      (λ j ts. until (take_mark punctuators.CloseParen) (argument_at j.beyond (whole j)) (length ts) ts) _ i
      (until_local (take_mark punctuators.CloseParen) (λ j. argument_at j.beyond (whole j)) i
      (mark_taker punctuators.CloseParen) (λ j. argument_less j.beyond (whole j) (leaves j)) (suc m)
      (λ n le. weaken (suc m) n pair _ i le (argument_local i whole h m)))
      (λ x. finished (suc m) ((None, first) ∷ x.0) x.1 i)

  call_local : (n : names.Name) (left : Span)
      → IsLocal (suc m) pair (λ j ts. call_after j.beyond (whole j) n left ts) i
  unfolding call_after arguments_after first_at
  call_local n left = either (suc m) pair (take_mark punctuators.CloseParen) _ _ i (mark_taker punctuators.CloseParen)
      (λ r. limited (suc (suc m)) pair r (λ j ts. Ok (Call n left NoArguments r, ts)) i
      (done (suc (suc m)) (Call n left NoArguments r) i))
      (bind (suc m) pair pair (λ j ts. first_at j.beyond (whole j) n ts) _ i
      (either (suc m) pair (take_text n) _ _ i (text_taker n)
      (λ t. limited (suc (suc m)) pair t.span (λ j ts. Ok (Text t, ts)) i (done (suc (suc m)) (Text t) i)) (h m))
      (λ a. bind (suc m) triple pair (λ j ts. arguments_at j.beyond (whole j) a.0 ts) _ i (arguments_local a.0)
      (λ x. limited (suc m) pair x.1 (λ j ts. Ok (Call n left (arguments x.0) x.1, ts)) i
      (done (suc m) (Call n left (arguments x.0) x.1) i))))

-- readers for each room, of which one stands in a bracket
abbrev Rooms : Type 0
Rooms = Measure → ℕ → Reader ExpressionTree

enter_local : (i : Measure) (f : Rooms) (room m : ℕ) (left : Span)
    (go : Measure → Reader ExpressionTree → List Token → Outcome (ExpressionTree × List Token))
    → ((r : ℕ) → IsLocal m pair (λ j ts. go j (f j r) ts) i)
    → IsLocal m pair (λ j ts. enter (deeper (f j) room) left (λ whole. go j whole ts)) i
enter_local i f zero m left go h = deep m pair (λ j ts. left) i
enter_local i f (suc room) m left go h = h room

module _ (i : Measure) (f : Rooms) (h : (r : ℕ) → IsInside (λ j. f j r) i)
    (leaves : (j : Measure) (r : ℕ) → LeavesNoMore (f j r)) (room m : ℕ) where
  named_local : (n : names.Name) → IsLocal m pair (λ j ts. named_after j.beyond (deeper (f j) room) n ts) i
  unfolding named_after
  named_local n = either m pair (take_mark punctuators.OpenBracket) _ _ i (mark_taker punctuators.OpenBracket)
      (λ l. limited (suc m) pair l _ i (enter_local i f room (suc m) l (λ j whole ts. index_after j.beyond whole n l ts)
      (λ r. index_local i (λ j. f j r) (h r) m n l)))
      (either m pair (take_mark punctuators.OpenParen) _ _ i (mark_taker punctuators.OpenParen)
      (λ l. limited (suc m) pair l _ i (enter_local i f room (suc m) l (λ j whole ts. call_after j.beyond whole n l ts)
      (λ r. call_local i (λ j. f j r) (h r) (λ j. leaves j r) m n l)))
      (done m (Name n) i))

  primary_local : IsLocal m pair (λ j ts. primary_step j.beyond (deeper (f j) room) ts) i
  unfolding primary_step
  primary_local = either m pair take_number _ _ i number_taker
      (λ n. limited (suc m) pair n.span (λ j ts. Ok (Constant n, ts)) i (done (suc m) (Constant n) i))
      (either m pair (take_mark punctuators.OpenParen) _ _ i (mark_taker punctuators.OpenParen)
      (λ l. limited (suc m) pair l _ i (enter_local i f room (suc m) l (λ j whole ts. paren_after j.beyond whole l ts)
      (λ r. paren_local i (λ j. f j r) (h r) m l)))
      (bind m pair pair (λ j ts. name_at ts) _ i (name_local m i)
      (λ n. limited m pair n.0.span _ i (named_local n.0))))

-- ---- operators behind an operand

-- one more step of a chain, where its operator stands
abbrev Body : Type 0 → Type 0
Body O = ExpressionTree → O × List Token → Outcome (ExpressionTree × List Token)

abbrev more_of : {O : Type 0} → (List Token → Option (O × List Token)) → Body O → More
more_of k body a ts = option_map (body a) (k ts)

-- a step leaves no more than stood behind its operator
abbrev IsBodyLess : {O : Type 0} → Body O → Type 0
IsBodyLess {O} body = (a : ExpressionTree) (o : O × List Token) (x : ExpressionTree × List Token) → body a o ≡ Ok x
    → length x.1 ≤ length o.1

abbrev chain_once : {O : Type 0} → (List Token → Option (O × List Token)) → Body O → ExpressionTree
    → Reader ExpressionTree
chain_once k body a ts = choose (k ts) (λ o. body a o >>= λ b. chain_at (more_of k body) (length b.1) b.0 b.1)
    (Ok (a, ts))

module _ {O : Type 0} (k : List Token → Option (O × List Token)) (taker : IsTaker k) (body : Body O)
    (less : IsBodyLess body) where
  shorter : (ts : List Token) (o : O × List Token) → k ts ≡ Some o → length o.1 < length ts
  shorter [] o e = let none = taker.nothing in absurd cc
  shorter (t ∷ ts) o e = omega (arith, ap length (taker.takes t ts o e).0)

  step_same : (a : ExpressionTree) (ts : List Token) (f g : ExpressionTree × List Token → Outcome (ExpressionTree × List Token))
      → ((b : ExpressionTree × List Token) → length b.1 < length ts → f b ≡ g b)
      → choose (more_of k body a ts) (λ read. read >>= f) (Ok (a, ts)) ≡ choose (k ts) (λ o. body a o >>= g) (Ok (a, ts))
  step_same a ts f g same = go (k ts) refl
    where
      go : (o : Option (O × List Token)) → k ts ≡ o → choose (option_map (body a) o) (λ read. read >>= f) (Ok (a, ts))
          ≡ choose o (λ o. body a o >>= g) (Ok (a, ts))
      go (Some o) is = bind_same (body a o) f g (λ b read. same b (omega (arith, shorter ts o is, less a o b read)))
      go None is = refl

  chain_enough : (n p : ℕ) (a : ExpressionTree) (ts : List Token) → length ts ≤ n → length ts ≤ p
      → chain_at (more_of k body) n a ts ≡ chain_at (more_of k body) p a ts
  unfolding chain_at
  chain_enough zero zero a ts le lt = refl
  chain_enough zero (suc p) a [] le lt = rw taker.nothing refl
  chain_enough zero (suc p) a (t ∷ ts) le lt = absurd (omega (arith, le))
  chain_enough (suc n) zero a [] le lt = rw taker.nothing refl
  chain_enough (suc n) zero a (t ∷ ts) le lt = absurd (omega (arith, lt))
  chain_enough (suc n) (suc p) a ts le lt =
      let f : ExpressionTree × List Token → Outcome (ExpressionTree × List Token) =
      λ b. chain_at (more_of k body) n b.0 b.1 in
      let g : ExpressionTree × List Token → Outcome (ExpressionTree × List Token) =
      λ b. chain_at (more_of k body) p b.0 b.1 in
      step_same a ts f g (λ b small. chain_enough n p b.0 b.1 (omega (arith, le, small)) (omega (arith, lt, small)))
      ∙ sym (step_same a ts g g (λ b small. refl))

  chain_step : (a : ExpressionTree) (ts : List Token) → chain_at (more_of k body) (length ts) a ts
      ≡ chain_once k body a ts
  unfolding chain_at
  chain_step a ts = chain_enough (length ts) (suc (length ts)) a ts (omega arith) (omega arith)
      ∙ step_same a ts (λ b. chain_at (more_of k body) (length ts) b.0 b.1)
      (λ b. chain_at (more_of k body) (length b.1) b.0 b.1)
      (λ b small. chain_enough (length ts) (length b.1) b.0 b.1 (omega (arith, small)) (omega arith))

chain_local : {O : Type 0} (k : List Token → Option (O × List Token)) (taker : IsTaker k) (body : Measure → Body O)
    → ((j : Measure) → IsBodyLess (body j)) → (i : Measure)
    → ((n : ℕ) (a : ExpressionTree) (o : O) → IsLocal (suc n) pair (λ j us. body j a (o, us)) i)
    → (m : ℕ) (a : ExpressionTree)
    → IsLocal m pair (λ j ts. chain_at (more_of k (body j)) (length ts) a ts) i
chain_local {O} k taker body less i bodies m = go (suc i.turns) m (omega arith)
  where
    go : (d m : ℕ) → i.turns < d + m → (a : ExpressionTree)
        → IsLocal m pair (λ j ts. chain_at (more_of k (body j)) (length ts) a ts) i
    go zero m lt a ts far = absurd (omega (arith, lt, far))
    go (suc d) m lt a ts far = alike m pair (λ j ts. chain_at (more_of k (body j)) (length ts) a ts)
        (λ j ts. chain_once k (body j) a ts) i
        (λ ts. chain_step k taker (body i) (less i) a ts)
        (λ j ts far some. chain_step k taker (body j) (less j) a ts)
        (either m pair k (λ j o. body j a o >>= λ b. chain_at (more_of k (body j)) (length b.1) b.0 b.1)
        (λ j ts. Ok (a, ts)) i taker
        (λ o. bind (suc m) pair pair (λ j us. body j a (o, us))
        (λ j b. chain_at (more_of k (body j)) (length b.1) b.0 b.1) i (bodies m a o)
        (λ b. go d (suc m) (omega (arith, lt)) b.0))
        (done m a i)) ts far

-- ---- the whole

abbrev postfix_body : (beyond : ℕ) → Body (PostfixOperator × Span)
postfix_body beyond a o = within beyond o.0.1 o.1 (Ok (Postfix a o.0.0 o.0.1, o.1))

abbrev binary_body : (beyond : ℕ) → Reader ExpressionTree → Body (BinaryOperator × Span)
binary_body beyond operand a o = within beyond o.0.1 o.1 (operand o.1 >>= λ b. Ok (Binary a o.0.0 o.0.1 b.0, b.1))

postfix_less : (beyond : ℕ) → IsBodyLess (postfix_body beyond)
postfix_less beyond a o x e =
    let w = within_ok beyond o.0.1 o.1 _ x e in
    omega (arith, ap (λ (y : ExpressionTree × List Token). length y.1) (ok_is _ x w.1))

binary_less : (beyond : ℕ) (operand : Reader ExpressionTree) → LeavesNoMore operand
    → IsBodyLess (binary_body beyond operand)
binary_less beyond operand leaves a o x e =
    let w = within_ok beyond o.0.1 o.1 _ x e in
    let b = bind_ok (operand o.1) _ x w.1 in
    omega (arith, leaves o.1 b.0 b.1, ap (λ (y : ExpressionTree × List Token). length y.1) (ok_is _ x b.2))

module _ (i : Measure) (f : Rooms) (h : (r : ℕ) → IsInside (λ j. f j r) i)
    (leaves : (j : Measure) (r : ℕ) → LeavesNoMore (f j r)) (room : ℕ) where
  postfix_local : (m : ℕ) → IsLocal m pair
      (λ j ts. postfix_step j.beyond (primary_step j.beyond (deeper (f j) room)) ts) i
  unfolding postfix_step postfix_more
  postfix_local m = bind m pair pair (λ j ts. primary_step j.beyond (deeper (f j) room) ts) _ i
      (primary_local i f h leaves room m)
      (λ a. chain_local (take_operator postfix_of) (operator_taker postfix_of refl) (λ j. postfix_body j.beyond)
      (λ j. postfix_less j.beyond) i
      (λ n b o. limited (suc n) pair o.1 (λ j ts. Ok (Postfix b o.0 o.1, ts)) i (done (suc n) (Postfix b o.0 o.1) i))
      m a.0)

  unary_local : (again : Measure → Reader ExpressionTree) → IsInside again i → (m : ℕ) → IsLocal m pair
      (λ j ts. unary_step j.beyond (again j) (deeper (f j) room) ts) i
  unfolding unary_step
  unary_local again g m = either m pair (take_operator prefix_of) _ _ i (operator_taker prefix_of refl)
      (λ o. limited (suc m) pair o.1 (λ j ts. again j ts >>= λ e. Ok (Prefix o.0 o.1 e.0, e.1)) i
      (bind (suc m) pair pair again _ i (g m) (λ e. done (suc m) (Prefix o.0 o.1 e.0) i)))
      (postfix_local m)

binary_local : (i : Measure) (unary : Measure → Reader ExpressionTree) → ((m : ℕ) → IsLocal m pair unary i)
    → (k : ℕ) → ((j : Measure) (n : ℕ) → n < k → LeavesNoMore (binary_at j.beyond (unary j) n)) → (m : ℕ)
    → IsLocal m pair (λ j ts. binary_at j.beyond (unary j) k ts) i
unfolding binary_at binary_more
binary_local i unary h zero leaves m = h m
binary_local i unary h (suc k) leaves m =
    let operand : (n : ℕ) → IsLocal n pair (λ j ts. binary_at j.beyond (unary j) k ts) i = binary_local i unary h k
    (λ j n lt. leaves j n (omega (arith, lt))) in
    bind m pair pair (λ j ts. binary_at j.beyond (unary j) k ts) _ i (operand m)
    (λ a. chain_local (take_operator (level_operator (8 - k))) (operator_taker (level_operator (8 - k)) refl)
    (λ j. binary_body j.beyond (binary_at j.beyond (unary j) k))
    (λ j. binary_less j.beyond (binary_at j.beyond (unary j) k) (leaves j k (omega arith))) i
    (λ n b o. limited (suc n) pair o.1
    (λ j ts. binary_at j.beyond (unary j) k ts >>= λ e. Ok (Binary b o.0 o.1 e.0, e.1)) i
    (bind (suc n) pair pair (λ j ts. binary_at j.beyond (unary j) k ts) _ i (operand (suc n))
    (λ e. done (suc n) (Binary b o.0 o.1 e.0) i)))
    m a.0)

step_local : (i : Measure) (may : Bool) (operand whole choice : Measure → Reader ExpressionTree)
    → ((m : ℕ) → IsLocal m pair operand i) → IsInside whole i → IsInside choice i → (m : ℕ)
    → IsLocal m pair (λ j ts. expression_step j.beyond may (operand j) (whole j) (choice j) ts) i
unfolding expression_step expression_after conditional_after
step_local i may operand whole choice operands wholes choices m = bind m pair pair operand _ i (operands m)
    (λ c. either m pair (take_mark punctuators.Question) _ _ i (mark_taker punctuators.Question)
    (λ q. limited (suc m) pair q _ i (bind (suc m) pair pair whole _ i (wholes m)
    (λ a. bind (suc m) pair pair (λ j ts. mark_at punctuators.Colon ts) _ i (mark_local (suc m) punctuators.Colon i)
    (λ colon. limited (suc m) pair colon.0
    (λ j ts. choice j ts >>= λ b. Ok (Conditional c.0 q a.0 colon.0 b.0, b.1)) i
    (bind (suc m) pair pair choice _ i (choices m)
    (λ b. done (suc m) (Conditional c.0 q a.0 colon.0 b.0) i))))))
    (either m pair (take_assign may c.0) _ _ i (assign_taker may c.0)
    (λ o. limited (suc m) pair o.1 (λ j ts. whole j ts >>= λ v. Ok (Assign c.0 o.0 o.1 v.0, v.1)) i
    (bind (suc m) pair pair whole _ i (wholes m) (λ v. done (suc m) (Assign c.0 o.0 o.1 v.0) i)))
    (done m c.0 i)))

-- ---- by turns

abbrev fewer : ℕ → ℕ
fewer zero = zero
fewer (suc n) = n

-- with one turn less, behind a token
shift : {Y : Type 0} (m : ℕ) (s : _) (r : ℕ → ℕ → List Token → Outcome Y) (n : Bool) (b t : ℕ)
    → IsLocal m s (λ j. r j.beyond j.turns) (record { beyond = b; turns = t; lines = n })
    → IsLocal (suc m) s (λ j. r j.beyond (fewer j.turns)) (record { beyond = b; turns = suc t; lines = n })
shift m s r n b t h ts far =
    let at = h ts (omega (arith, far)) in
    record {
      takes = λ y e. let k = at.takes y e in record {
        front = k.front;
        parts = k.parts;
        unended = k.unended;
        again = λ j v after other is room enough. k.again (record { beyond = j.beyond; turns = fewer j.turns; lines = j.lines }) v after
            other is room (less j.turns (k.front ++ v ∷ other) enough);
      };
      halts = λ f e wrong. elim (at.halts f e wrong) [
        | inl k ↦ inl (record {
          front = k.front;
          token = k.token;
          after = k.after;
          parts = k.parts;
          at_place = k.at_place;
          again = λ j other room enough. k.again (record { beyond = j.beyond; turns = fewer j.turns; lines = j.lines }) other room
              (less j.turns (k.front ++ k.token ∷ other) enough);
        })
        | inr other ↦ inr other
      ];
    }
  where
    less : (n : ℕ) (us : List Token) → suc m + length us ≤ n → m + length us ≤ fewer n
    less zero us le = absurd (omega (arith, le))
    less (suc n) us le = omega (arith, le)

abbrev turn_of : Bool → (b t : ℕ) → Measure
turn_of n b t = record { beyond = b; turns = t; lines = n }

record AreLocal (n : Bool) (b t : ℕ) : Type 0 where
  unary : (room m : ℕ) → IsLocal m pair (λ j. unary_at j.beyond j.turns room) (turn_of n b t)
  any : (may : Bool) (room m : ℕ) → IsLocal m pair (λ j. expression_at j.beyond j.turns may room) (turn_of n b t)

-- no token is left to be read
run_out : {Y : Type 0} (m : ℕ) (s : _) (r : Family Y) (n : Bool) (b : ℕ) → ((ts : List Token) → r (turn_of n b 0) ts
    ≡ Err (syntax ts)) → IsLocal m s r (turn_of n b 0)
unfolding Unended
run_out m s r n b is [] far = record {
  takes = λ y e. let wrong = is [] in absurd cc;
  halts = λ f e wrong. inr (no_more n f (ap (λ (g : SourceFault). g.at) (err_is f (syntax []) (sym e ∙ is []))));
}
run_out m s r n b is (t ∷ ts) far = absurd (omega (arith, far))

abbrev step_of : (may : Bool) (room : ℕ) → Measure → Reader ExpressionTree
step_of may room j = expression_step j.beyond may (binary_at j.beyond (operand_at j.beyond (fewer j.turns) room) 6)
    (expression_at j.beyond (fewer j.turns) true room) (expression_at j.beyond (fewer j.turns) false room)

all_local : (n : Bool) (b t : ℕ) → AreLocal n b t
unfolding unary_at expression_at
all_local n b zero = record {
  unary = λ room m. run_out m pair _ n b (λ ts. refl);
  any = λ may room m. run_out m pair _ n b (λ ts. refl);
}
all_local n b (suc t) =
    let below = all_local n b t in
    let i : Measure = turn_of n b (suc t) in
    let f : Rooms = λ j r. expression_at j.beyond (fewer j.turns) true r in
    let inside : (r : ℕ) → IsInside (λ j. f j r) i = λ r m. shift m pair (λ b t. expression_at b t true r) n b t
    (below.any true r m) in
    let leaves : (j : Measure) (r : ℕ) → LeavesNoMore (f j r) = λ j r ts x e.
    let read = (all_sound j.beyond (fewer j.turns) r).any true ts x e in
    omega (arith, ap length read.parts, length-append (expression_spelling x.0) x.1) in
    let operand : (room m : ℕ) → IsLocal m pair (λ j. operand_at j.beyond (fewer j.turns) room) i = λ room.
    unary_local i f inside leaves room (λ j. unary_at j.beyond (fewer j.turns) room)
    (λ m. shift m pair (λ b t. unary_at b t room) n b t (below.unary room m)) in
    record {
      unary = λ room m. alike m pair (λ j. unary_at j.beyond j.turns room)
          (λ j. operand_at j.beyond (fewer j.turns) room) i (λ ts. refl) (λ j ts far some. unary_same room m j ts far some)
          (operand room m);
      any = λ may room m. alike m pair (λ j. expression_at j.beyond j.turns may room) (step_of may room) i (λ ts. refl)
          (λ j ts far some. any_same may room m j ts far some)
          (step_local i may (λ j. binary_at j.beyond (operand_at j.beyond (fewer j.turns) room) 6)
          (λ j. expression_at j.beyond (fewer j.turns) true room) (λ j. expression_at j.beyond (fewer j.turns) false room)
          (binary_local i (λ j. operand_at j.beyond (fewer j.turns) room) (operand room) 6
          (λ j n lt ts x e.
          let read = binary_sound j.beyond room (operand_at j.beyond (fewer j.turns) room)
          (operand_sound j.beyond (fewer j.turns) room) n (omega (arith, lt)) ts x e in
          omega (arith, ap length read.parts, length-append (expression_spelling x.0) x.1)))
          (inside room) (λ m. shift m pair (λ b t. expression_at b t false room) n b t (below.any false room m)) m);
    }
  where
    unary_same : (room m : ℕ) (j : Measure) (ts : List Token) → Suffices m j ts → 0 < length ts
        → unary_at j.beyond j.turns room ts ≡ operand_at j.beyond (fewer j.turns) room ts
    unary_same room m j ts far some = go j.turns far
      where
        go : (n : ℕ) → m + length ts ≤ n → unary_at j.beyond n room ts ≡ operand_at j.beyond (fewer n) room ts
        go zero le = absurd (omega (arith, le, some))
        go (suc n) le = refl

    any_same : (may : Bool) (room m : ℕ) (j : Measure) (ts : List Token) → Suffices m j ts → 0 < length ts
        → expression_at j.beyond j.turns may room ts ≡ step_of may room j ts
    any_same may room m j ts far some = go j.turns far
      where
        go : (n : ℕ) → m + length ts ≤ n → expression_at j.beyond n may room ts
            ≡ step_of may room (turn_of j.lines j.beyond n) ts
        go zero le = absurd (omega (arith, le, some))
        go (suc n) le = refl

same_room : (l : Limits) (front us vs : List Token) (n : ℕ) → nat_le (length (front ++ us) - l.tokens) (n + length us)
    ≡ nat_le (length (front ++ vs) - l.tokens) (n + length vs)
same_room l front us vs n = le_same _ _ _ _
    (λ le. omega (arith, le, length-append front us, length-append front vs))
    (λ le. omega (arith, le, length-append front us, length-append front vs))

-- a whole expression
pub whole_local : (l : Limits) (room m : ℕ) (i : Measure) → IsLocal m pair (λ j. whole_at l room) i
unfolding whole_at
whole_local l room m i ts far =
    let at = (all_local i.lines (length ts - l.tokens) (length ts)).any true room 0 ts (omega arith) in
    record {
      takes = λ y e. let k = at.takes y e in record {
        front = k.front;
        parts = k.parts;
        unended = k.unended;
        again = λ j v after other is room enough.
            let us : List Token = k.front ++ v ∷ other in
            k.again (turn_of j.lines (length us - l.tokens) (length us)) v after other is
            (λ n. ap (λ (w : List Token). nat_le (length w - l.tokens) (n + length (v ∷ after)))
            (k.parts ∙ ap (λ (w : List Token). k.front ++ w) is) ∙ same_room l k.front (v ∷ after) (v ∷ other) n)
            (omega arith);
      };
      halts = λ f e wrong. elim (at.halts f e wrong) [
        | inl k ↦ inl (record {
          front = k.front;
          token = k.token;
          after = k.after;
          parts = k.parts;
          at_place = k.at_place;
          again = λ j other room enough.
              let us : List Token = k.front ++ k.token ∷ other in
              k.again (turn_of j.lines (length us - l.tokens) (length us)) other
              (λ n. ap (λ (w : List Token). nat_le (length w - l.tokens) (n + length (k.token ∷ k.after))) k.parts
              ∙ same_room l k.front (k.token ∷ k.after) (k.token ∷ other) n)
              (omega arith);
        })
        | inr other ↦ inr other
      ];
    }

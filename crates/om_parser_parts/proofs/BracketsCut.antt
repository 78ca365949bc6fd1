-- Where what stands in brackets is too deep, its tokens up to there begin a well-formed expression.
use Rattle.std.proofs.Common.{◌≡◌, ℕ, zero, suc, ◌+◌, ◌-◌, ◌<◌, ◌≤◌, List, [], ◌∷◌, ◌++◌, length, Option, Some, None, Err, refl, sym, ap, subst, ◌∙◌, Bool, true, false, cond, arith, append_assoc, ◌⊎◌, inl, inr}
use Rattle.std.proofs.lemmas.Bool.{leb-true, leb-false}
use Rattle.std.specs.Prelude.{nat_le}
use Rattle.om_lexer.specs.declared.fault.FaultCode.TheVariants as codes
use Rattle.om_lexer.specs.declared.fault.SourceFault.{SourceFault}
use Rattle.om_lexer.specs.declared.token.Punctuator.{Punctuator}
use Rattle.om_lexer.specs.declared.token.Punctuator.TheVariants as punctuators
use Rattle.om_lexer.specs.declared.token.Span.{Span}
use Rattle.om_lexer.specs.declared.token.Token.{Token}
use Rattle.om_pragma.specs.declared.clause.Name as names
use Rattle.om_parser_tree.specs.declared.tree.AssignOperator.TheVariants as assigns
use Rattle.om_parser_tree.specs.declared.tree.BinaryOperator.TheVariants as binaries
use Rattle.om_parser_tree.specs.declared.tree.PostfixOperator.TheVariants as postfixes
use Rattle.om_parser_tree.specs.declared.tree.PrefixOperator.TheVariants as prefixes
use Rattle.om_parser_parts.specs.ExpressionReading.{within, take_text, Inside, enter, closed_by, paren_after, index_after, first_at, argument_at, arguments_at, arguments_after, call_after}
use Rattle.om_parser_tree.specs.Formed.{level, IsExpression, AreFurther, IsTextOf}
use Rattle.om_parser_tree.specs.Limits.{IsOpening, still_open}
use Rattle.om_parser_parts.specs.Reading.{◌>>=◌, Outcome, Reader, syntax, too_deep, known, take_mark, mark_at}
use Rattle.om_parser_parts.specs.Repetition.{until}
use Rattle.om_parser_tree.specs.Spelling.{mark, name, text, prefix_mark, postfix_mark, binary_mark, assign_mark, expression_spelling, arguments_spelling}
use Rattle.om_parser_tree.specs.Tree.{ExpressionTree, Name, Constant, Text, Paren, Index, Call, Prefix, Postfix, Binary, Conditional, Assign, ArgumentsTree, NoArguments, Argument, arguments}
use Rattle.om_parser_parts.specs.Outcomes.{ok, ok_is, bind_ok, bind_err, choose_cases, err_is}
use Rattle.om_parser_parts.specs.ItemsSound.{until_sound}
use Rattle.om_parser_parts.specs.Taken.{take_mark_is, mark_at_is}
use Rattle.om_parser_parts.proofs.ExpressionSound.{IsExpressionSound, within_ok, take_text_is, argument_spelling, arguments_flat, IsGoodArgument, arguments_good, argument_sound, first_sound}

-- a reader that no limit stops
abbrev pub IsNeverDeep : {A : Type 0} → Outcome A → Type 0
IsNeverDeep read = (f : SourceFault) → read ≡ Err f → f.code ≡ codes.TooDeep → ⊥

pub syntax_never_deep : {A : Type 0} (ts : List Token) (f : SourceFault) → ◌≡◌ {A = Outcome A} (Err (syntax ts)) (Err f) → f.code ≡ codes.TooDeep → ⊥
syntax_never_deep ts f e deep = let same = ap (λ (g : SourceFault). g.code) (err_is (syntax ts) f e) in absurd cc

pub known_never_deep : {A : Type 0} (ts : List Token) (o : Option A) → IsNeverDeep (known ts o)
known_never_deep ts (Some x) f e deep = absurd cc
known_never_deep ts None f e deep = syntax_never_deep ts f e deep

-- a token that passes a limit, behind these of an expression
abbrev pub IsPassed : (beyond room : ℕ) (begun : List Token) (token : Token) (after : List Token) → Type 0
IsPassed beyond room begun token after = (suc (length after) ≡ beyond) ⊎ (IsOpening token.kind × ((d : ℕ) → still_open d begun ≡ d + room))

-- an expression that has this token, after tokens that keep the limits
pub record IsExpressionCut (m beyond room : ℕ) (ts : List Token) (place : ℕ) : Type 0 where
  pub tree : ExpressionTree
  pub formed : IsExpression tree
  pub tight : m ≤ level tree
  pub begun : List Token
  pub token : Token
  pub after : List Token
  pub more : List Token
  pub stands : ts ≡ begun ++ token ∷ after
  pub spelled : expression_spelling tree ≡ begun ++ token ∷ more
  pub at_place : token.span.start ≡ place
  pub too_much : IsPassed beyond room begun token after

abbrev pub IsCutting : (m beyond room : ℕ) → Reader ExpressionTree → Type 0
IsCutting m beyond room r = (ts : List Token) (f : SourceFault) → beyond ≤ length ts → r ts ≡ Err f → f.code ≡ codes.TooDeep → IsExpressionCut m beyond room ts f.at

pub looser_cut : (m n beyond room : ℕ) (ts : List Token) (place : ℕ) → n ≤ m → IsExpressionCut m beyond room ts place → IsExpressionCut n beyond room ts place
looser_cut m n beyond room ts place le c = record { tree = c.tree; formed = c.formed; tight = omega (arith, c.tight); begun = c.begun; token = c.token; after = c.after; more = c.more; stands = c.stands; spelled = c.spelled; at_place = c.at_place; too_much = c.too_much }

pub within_err : {A : Type 0} (beyond : ℕ) (s : Span) (rest : List Token) (r : Outcome A) (f : SourceFault) → within beyond s rest r ≡ Err f → ((length rest < beyond) × (s.start ≡ f.at)) ⊎ ((beyond ≤ length rest) × (r ≡ Err f))
unfolding within
within_err beyond s rest r f e = go (nat_le beyond (length rest)) refl e
  where
    go : (b : Bool) → nat_le beyond (length rest) ≡ b → cond b r (Err (too_deep s)) ≡ Err f → ((length rest < beyond) × (s.start ≡ f.at)) ⊎ ((beyond ≤ length rest) × (r ≡ Err f))
    go true is h = inr (leb-true _ _ is, h)
    go false is h = inl (leb-false _ _ is, ap (λ (g : SourceFault). g.at) (err_is (too_deep s) f h))

-- ---- where the parts of a call stand

-- a token behind two lists, of which it ends the second one
token_behind : (first second : List Token) (t : Token) (rest : List Token)
    → first ++ ((second ++ t ∷ []) ++ rest) ≡ (first ++ second) ++ t ∷ rest
token_behind first second t rest = ap (λ w. first ++ w) (append_assoc second (t ∷ []) rest)
    ∙ sym (append_assoc first second (t ∷ rest))

-- the one argument of a call, and the parenthesis behind it
one_closed : (begun : List Token) (t : Token) (more : List Token) (close : Token)
    → ((begun ++ t ∷ more) ++ []) ++ close ∷ [] ≡ begun ++ t ∷ (more ++ close ∷ [])
one_closed begun t more close = append_assoc (begun ++ t ∷ more) [] (close ∷ [])
    ∙ append_assoc begun (t ∷ more) (close ∷ [])

-- ---- brackets are closed

abbrev mark_opens : (p : Punctuator) → Type 0
mark_opens p = (d : ℕ) (s : Span) (us : List Token) → still_open d (mark p s ∷ us) ≡ still_open d us

pub prefix_flat : (o : _) → mark_opens (prefix_mark o)
unfolding still_open
prefix_flat prefixes.Plus d s us = refl
prefix_flat prefixes.Minus d s us = refl
prefix_flat prefixes.Not d s us = refl
prefix_flat prefixes.Increment d s us = refl
prefix_flat prefixes.Decrement d s us = refl

postfix_flat : (o : _) → mark_opens (postfix_mark o)
unfolding still_open
postfix_flat postfixes.Increment d s us = refl
postfix_flat postfixes.Decrement d s us = refl

pub binary_flat : (o : _) → mark_opens (binary_mark o)
unfolding still_open
binary_flat binaries.Or d s us = refl
binary_flat binaries.And d s us = refl
binary_flat binaries.Equal d s us = refl
binary_flat binaries.NotEqual d s us = refl
binary_flat binaries.Less d s us = refl
binary_flat binaries.Greater d s us = refl
binary_flat binaries.LessEqual d s us = refl
binary_flat binaries.GreaterEqual d s us = refl
binary_flat binaries.Add d s us = refl
binary_flat binaries.Subtract d s us = refl
binary_flat binaries.Multiply d s us = refl
binary_flat binaries.Divide d s us = refl
binary_flat binaries.Remainder d s us = refl

pub assign_flat : (o : _) → mark_opens (assign_mark o)
unfolding still_open
assign_flat assigns.Set d s us = refl
assign_flat assigns.Add d s us = refl
assign_flat assigns.Subtract d s us = refl
assign_flat assigns.Multiply d s us = refl
assign_flat assigns.Divide d s us = refl
assign_flat assigns.Remainder d s us = refl

mutual
  unfolding still_open expression_spelling

  -- an expression closes all brackets that it opens
  pub balanced : (t : ExpressionTree) (d : ℕ) (us : List Token) → still_open d (expression_spelling t ++ us) ≡ still_open d us
  balanced (Name n) d us = refl
  balanced (Constant n) d us = refl
  balanced (Text t) d us = refl
  balanced (Paren left e right) d us = let back : d + 1 - 1 ≡ d = omega arith in rw append_assoc (balanced e (d + 1) (mark punctuators.CloseParen right ∷ us) ∙ ap (λ (k : ℕ). still_open k us) back)
  balanced (Index n left e right) d us = let back : d + 1 - 1 ≡ d = omega arith in rw append_assoc (balanced e (d + 1) (mark punctuators.CloseBracket right ∷ us) ∙ ap (λ (k : ℕ). still_open k us) back)
  balanced (Call n left values right) d us = let back : d + 1 - 1 ≡ d = omega arith in rw append_assoc (all_balanced values (d + 1) (mark punctuators.CloseParen right ∷ us) ∙ ap (λ (k : ℕ). still_open k us) back)
  balanced (Prefix o at e) d us = prefix_flat o d at (expression_spelling e ++ us) ∙ balanced e d us
  balanced (Postfix e o at) d us = rw append_assoc (balanced e d (mark (postfix_mark o) at ∷ us) ∙ postfix_flat o d at us)
  balanced (Binary a o at b) d us = rw append_assoc (balanced a d (mark (binary_mark o) at ∷ (expression_spelling b ++ us)) ∙ binary_flat o d at (expression_spelling b ++ us) ∙ balanced b d us)
  balanced (Conditional c question a colon b) d us =
      let inner = expression_spelling a ++ mark punctuators.Colon colon ∷ (expression_spelling b ++ us) in
      let same : (expression_spelling c ++ mark punctuators.Question question ∷ (expression_spelling a ++ mark punctuators.Colon colon ∷ expression_spelling b)) ++ us ≡ expression_spelling c ++ mark punctuators.Question question ∷ inner = simp append_assoc in
      ap (still_open d) same ∙ balanced c d (mark punctuators.Question question ∷ inner) ∙ balanced a d (mark punctuators.Colon colon ∷ (expression_spelling b ++ us)) ∙ balanced b d us
  balanced (Assign a o at b) d us = rw append_assoc (balanced a d (mark (assign_mark o) at ∷ (expression_spelling b ++ us)) ∙ assign_flat o d at (expression_spelling b ++ us) ∙ balanced b d us)

  all_balanced : (values : ArgumentsTree) (d : ℕ) (us : List Token) → still_open d (arguments_spelling values ++ us) ≡ still_open d us
  all_balanced NoArguments d us = refl
  all_balanced (Argument None e more) d us = ap (still_open d) (append_assoc (expression_spelling e) (arguments_spelling more) us) ∙ balanced e d (arguments_spelling more ++ us) ∙ all_balanced more d us
  all_balanced (Argument (Some comma) e more) d us = ap (still_open d) (append_assoc (expression_spelling e) (arguments_spelling more) us) ∙ balanced e d (arguments_spelling more ++ us) ∙ all_balanced more d us

-- any operand, at this span
abbrev pub one_at : Span → ExpressionTree
one_at s = Constant (record { value = 0; span = s })

-- what stands before a part, and leaves one bracket open
behind : (beyond room : ℕ) (front begun : List Token) (token : Token) (after : List Token) → ((d : ℕ) (us : List Token) → still_open d (front ++ us) ≡ still_open (d + 1) us) → IsPassed beyond room begun token after → IsPassed beyond (suc room) (front ++ begun) token after
behind beyond room front begun token after opens (inl e) = inl e
behind beyond room front begun token after opens (inr (is, nests)) = inr (is, λ d. let one = opens d begun in let two = nests (d + 1) in omega (arith, one, two))

-- the same, where none is left open
pub flat : (beyond room : ℕ) (front begun : List Token) (token : Token) (after : List Token) → ((d : ℕ) (us : List Token) → still_open d (front ++ us) ≡ still_open d us) → IsPassed beyond room begun token after → IsPassed beyond room (front ++ begun) token after
flat beyond room front begun token after opens (inl e) = inl e
flat beyond room front begun token after opens (inr (is, nests)) = inr (is, λ d. opens d begun ∙ nests d)

-- ---- what stands in brackets

-- a part that is closed by a bracket: the expression in it has the token, or the bracket is the token
record IsClosedCut (beyond room : ℕ) (p : Punctuator) (ts : List Token) (place : ℕ) : Type 0 where
  tree : ExpressionTree
  formed : IsExpression tree
  close : Span
  begun : List Token
  token : Token
  after : List Token
  more : List Token
  stands : ts ≡ begun ++ token ∷ after
  spelled : expression_spelling tree ++ mark p close ∷ [] ≡ begun ++ token ∷ more
  at_place : token.span.start ≡ place
  too_much : IsPassed beyond room begun token after

-- the reader of what stands in a bracket cuts, with room for one bracket less
abbrev pub IsInsideCutting : (beyond room : ℕ) → Inside → Type 0
IsInsideCutting beyond room None = room ≡ 0
IsInsideCutting beyond room (Some whole) = (r : ℕ) × (room ≡ suc r) × IsExpressionSound 1 beyond r whole × IsCutting 1 beyond r whole

pub enter_err : {A : Type 0} (beyond room : ℕ) (inside : Inside) → IsInsideCutting beyond room inside → (left : Span) (go : Reader ExpressionTree → Outcome A) (f : SourceFault) → enter inside left go ≡ Err f
    → ((room ≡ 0) × (left.start ≡ f.at)) ⊎ ((whole : Reader ExpressionTree) × (r : ℕ) × (room ≡ suc r) × IsExpressionSound 1 beyond r whole × IsCutting 1 beyond r whole × (go whole ≡ Err f))
enter_err beyond room None c left go f h = inl (c, ap (λ (g : SourceFault). g.at) (err_is (too_deep left) f h))
enter_err beyond room (Some whole) c left go f h = inr (whole, c.0, c.1, c.2, c.3, h)

module _ (beyond room : ℕ) (whole : Reader ExpressionTree) (sound : IsExpressionSound 1 beyond room whole) (cutting : IsCutting 1 beyond room whole) where
  closed_cut : (p : Punctuator) (ts : List Token) (f : SourceFault) → beyond ≤ length ts → closed_by beyond p whole ts ≡ Err f → f.code ≡ codes.TooDeep → IsClosedCut beyond room p ts f.at
  unfolding closed_by mark_at
  closed_cut p ts f le h deep = elim (bind_err (whole ts) _ f h) [
    | inl e ↦
        let c = cutting ts f le e deep in
        record { tree = c.tree; formed = c.formed; close = c.token.span; begun = c.begun; token = c.token; after = c.after; more = c.more ++ mark p c.token.span ∷ []; stands = c.stands; spelled = ap (λ w. w ++ mark p c.token.span ∷ []) c.spelled ∙ simp append_assoc; at_place = c.at_place; too_much = c.too_much }
    | inr (e, reads, g) ↦ elim (bind_err (known e.1 (take_mark p e.1)) _ f g) [
      | inl wrong ↦ absurd (known_never_deep e.1 (take_mark p e.1) f wrong deep)
      | inr (r, closes, k) ↦ elim (within_err beyond r.0 r.1 _ f k) [
        | inr (in_limit, no_err) ↦ absurd cc
        | inl (over, place) ↦
            let inner = sound ts e reads in
            let close = mark_at_is p e.1 r closes in
            record { tree = e.0; formed = inner.formed; close = r.0; begun = expression_spelling e.0; token = mark p r.0; after = r.1; more = []; stands = inner.parts ∙ ap (λ w. expression_spelling e.0 ++ w) close; spelled = refl; at_place = place; too_much = inl (omega (arith, over, inner.left, ap length close)) }
      ]
    ]
  ]

  pub paren_cut : (left : Span) (us : List Token) (f : SourceFault) → beyond ≤ length us → paren_after beyond whole left us ≡ Err f → f.code ≡ codes.TooDeep → IsExpressionCut 11 beyond (suc room) (mark punctuators.OpenParen left ∷ us) f.at
  unfolding paren_after expression_spelling IsExpression still_open
  paren_cut left us f le h deep = elim (bind_err (closed_by beyond punctuators.CloseParen whole us) _ f h) [
    | inr (e, reads, no_err) ↦ absurd cc
    | inl e ↦
        let c = closed_cut punctuators.CloseParen us f le e deep in
        record { tree = Paren left c.tree c.close; formed = c.formed; tight = omega arith; begun = mark punctuators.OpenParen left ∷ c.begun; token = c.token; after = c.after; more = c.more; stands = ap (λ w. mark punctuators.OpenParen left ∷ w) c.stands; spelled = ap (λ w. mark punctuators.OpenParen left ∷ w) c.spelled; at_place = c.at_place; too_much = behind beyond room (mark punctuators.OpenParen left ∷ []) c.begun c.token c.after (λ d us. refl) c.too_much }
  ]

  pub index_cut : (n : names.Name) (left : Span) (us : List Token) (f : SourceFault) → beyond ≤ length us → index_after beyond whole n left us ≡ Err f → f.code ≡ codes.TooDeep → IsExpressionCut 11 beyond (suc room) (name n ∷ mark punctuators.OpenBracket left ∷ us) f.at
  unfolding index_after expression_spelling IsExpression still_open
  index_cut n left us f le h deep = elim (bind_err (closed_by beyond punctuators.CloseBracket whole us) _ f h) [
    | inr (e, reads, no_err) ↦ absurd cc
    | inl e ↦
        let c = closed_cut punctuators.CloseBracket us f le e deep in
        record { tree = Index n left c.tree c.close; formed = c.formed; tight = omega arith; begun = name n ∷ mark punctuators.OpenBracket left ∷ c.begun; token = c.token; after = c.after; more = c.more; stands = ap (λ w. name n ∷ mark punctuators.OpenBracket left ∷ w) c.stands; spelled = ap (λ w. name n ∷ mark punctuators.OpenBracket left ∷ w) c.spelled; at_place = c.at_place; too_much = behind beyond room (name n ∷ mark punctuators.OpenBracket left ∷ []) c.begun c.token c.after (λ d us. refl) c.too_much }
  ]

  -- some arguments behind the first, of which the last has the token, or the parenthesis is the token
  record AreCut (ts : List Token) (place : ℕ) : Type 0 where
    values : List (Option Span × ExpressionTree)
    formed : AreFurther (arguments values)
    close : Span
    begun : List Token
    token : Token
    after : List Token
    more : List Token
    stands : ts ≡ begun ++ token ∷ after
    spelled : arguments_spelling (arguments values) ++ mark punctuators.CloseParen close ∷ [] ≡ begun ++ token ∷ more
    at_place : token.span.start ≡ place
    too_much : IsPassed beyond room begun token after

  argument_cut : (ts : List Token) (f : SourceFault) → beyond ≤ length ts → argument_at beyond whole ts ≡ Err f → f.code ≡ codes.TooDeep → AreCut ts f.at
  unfolding argument_at mark_at arguments_spelling IsExpression still_open expression_spelling
  argument_cut ts f le h deep = elim (bind_err (known ts (take_mark punctuators.Comma ts)) _ f h) [
    | inl wrong ↦ absurd (known_never_deep ts (take_mark punctuators.Comma ts) f wrong deep)
    | inr (c, comma, g) ↦ elim (within_err beyond c.0 c.1 _ f g) [
      | inl (over, place) ↦
          let is = mark_at_is punctuators.Comma ts c comma in
          record { values = (Some c.0, one_at c.0) ∷ []; formed = (tt, tt); close = c.0; begun = []; token = mark punctuators.Comma c.0; after = c.1; more = expression_spelling (one_at c.0) ++ mark punctuators.CloseParen c.0 ∷ []; stands = is; spelled = refl; at_place = place; too_much = inl (omega (arith, over, le, ap length is)) }
      | inr (in_limit, k) ↦ elim (bind_err (whole c.1) _ f k) [
        | inr (e, reads, no_err) ↦ absurd cc
        | inl e ↦
            let x = cutting c.1 f in_limit e deep in
            record { values = (Some c.0, x.tree) ∷ []; formed = (x.formed, tt); close = x.token.span; begun = mark punctuators.Comma c.0 ∷ x.begun; token = x.token; after = x.after; more = x.more ++ mark punctuators.CloseParen x.token.span ∷ []; stands = mark_at_is punctuators.Comma ts c comma ∙ ap (λ w. mark punctuators.Comma c.0 ∷ w) x.stands; spelled = ap (λ w. mark punctuators.Comma c.0 ∷ ((w ++ []) ++ mark punctuators.CloseParen x.token.span ∷ [])) x.spelled ∙ simp append_assoc; at_place = x.at_place; too_much = flat beyond room (mark punctuators.Comma c.0 ∷ []) x.begun x.token x.after (λ d us. refl) x.too_much }
      ]
    ]
  ]

  -- arguments that were read, before those that are cut
  with_argument : (ts us : List Token) (a : Option Span × ExpressionTree) (place : ℕ) → ts ≡ argument_spelling a ++ us → IsGoodArgument room a → AreCut us place → AreCut ts place
  unfolding arguments_spelling IsExpression still_open
  with_argument ts us (None, e) place parts good c = absurd good.0
  with_argument ts us (Some comma, e) place parts good c = record {
    values = (Some comma, e) ∷ c.values;
    formed = (good.0, c.formed);
    close = c.close;
    begun = argument_spelling (Some comma, e) ++ c.begun;
    token = c.token;
    after = c.after;
    more = c.more;
    stands = parts ∙ ap (λ w. argument_spelling (Some comma, e) ++ w) c.stands ∙ simp append_assoc;
    spelled =
        let grouped : arguments_spelling (arguments ((Some comma, e) ∷ c.values)) ++ mark punctuators.CloseParen c.close ∷ [] ≡ argument_spelling (Some comma, e) ++ (arguments_spelling (arguments c.values) ++ mark punctuators.CloseParen c.close ∷ []) = simp append_assoc in
        grouped ∙ ap (λ w. argument_spelling (Some comma, e) ++ w) c.spelled ∙ simp append_assoc;
    at_place = c.at_place;
    too_much = flat beyond room (argument_spelling (Some comma, e)) c.begun c.token c.after (λ d us. balanced e d us) c.too_much;
  }

  argument_left : (ts : List Token) (a : (Option Span × ExpressionTree) × List Token) → argument_at beyond whole ts ≡ ok a → beyond ≤ length a.1
  unfolding argument_at
  argument_left ts a h =
      let c = bind_ok (mark_at punctuators.Comma ts) _ a h in
      let w = within_ok beyond c.0.0 c.0.1 _ a c.2 in
      let e = bind_ok (whole c.0.1) _ a w.1 in
      subst (λ (y : (Option Span × ExpressionTree) × List Token). beyond ≤ length y.1) (ok_is ((Some c.0.0, e.0.0), e.0.1) a e.2) (sound c.0.1 e.0 e.1).left

  arguments_cut : (k : ℕ) (ts : List Token) (f : SourceFault) → beyond ≤ length ts → until (take_mark punctuators.CloseParen) (argument_at beyond whole) k ts ≡ Err f → f.code ≡ codes.TooDeep → AreCut ts f.at
  unfolding until
  arguments_cut zero ts f le h deep = elim (bind_err (argument_at beyond whole ts) _ f h) [
    | inl e ↦ argument_cut ts f le e deep
    | inr (a, reads, g) ↦ absurd (syntax_never_deep ts f g deep)
  ]
  arguments_cut (suc k) ts f le h deep = elim (choose_cases (take_mark punctuators.CloseParen ts) _ _ (Err f) h) [
    | inl (r, closes, no_err) ↦ absurd cc
    | inr (none, g) ↦ elim (bind_err (argument_at beyond whole ts) _ f g) [
      | inl e ↦ argument_cut ts f le e deep
      | inr (a, reads, q) ↦ elim (bind_err (until (take_mark punctuators.CloseParen) (argument_at beyond whole) k a.1) _ f q) [
        | inr (b, more, no_err) ↦ absurd cc
        | inl e ↦
            let r = argument_sound beyond room whole sound ts a reads in
            with_argument ts a.1 a.0 f.at r.parts r.formed (arguments_cut k a.1 f (argument_left ts a reads) e deep)
      ]
    ]
  ]

  -- the first argument has the token
  record IsFirstCut (n : names.Name) (ts : List Token) (place : ℕ) : Type 0 where
    tree : ExpressionTree
    formed : IsExpression tree ⊎ IsTextOf n tree
    begun : List Token
    token : Token
    after : List Token
    more : List Token
    stands : ts ≡ begun ++ token ∷ after
    spelled : expression_spelling tree ≡ begun ++ token ∷ more
    at_place : token.span.start ≡ place
    too_much : IsPassed beyond room begun token after

  first_cut : (n : names.Name) (ts : List Token) (f : SourceFault) → beyond ≤ length ts → first_at beyond whole n ts ≡ Err f → f.code ≡ codes.TooDeep → IsFirstCut n ts f.at
  unfolding first_at expression_spelling
  first_cut n ts f le h deep = elim (choose_cases (take_text n ts) _ _ (Err f) h) [
    | inl (t, taken, g) ↦ elim (within_err beyond t.0.span t.1 _ f g) [
      | inr (in_limit, no_err) ↦ absurd cc
      | inl (over, place) ↦
          let is = take_text_is n ts t taken in
          record { tree = Text t.0; formed = inr is.0; begun = []; token = text t.0; after = t.1; more = []; stands = is.1; spelled = refl; at_place = place; too_much = inl (omega (arith, over, le, ap length is.1)) }
    ]
    | inr (none, e) ↦
        let c = cutting ts f le e deep in
        record { tree = c.tree; formed = inl c.formed; begun = c.begun; token = c.token; after = c.after; more = c.more; stands = c.stands; spelled = c.spelled; at_place = c.at_place; too_much = c.too_much }
  ]

  first_left : (n : names.Name) (ts : List Token) (a : ExpressionTree × List Token) → beyond ≤ length ts → first_at beyond whole n ts ≡ ok a → beyond ≤ length a.1
  unfolding first_at
  first_left n ts a le h = elim (choose_cases (take_text n ts) _ _ (ok a) h) [
    | inl t ↦ let w = within_ok beyond t.0.0.span t.0.1 _ a t.2 in subst (λ (y : ExpressionTree × List Token). beyond ≤ length y.1) (ok_is (Text t.0.0, t.0.1) a w.1) w.0
    | inr g ↦ (sound ts a g.1).left
  ]

  until_left : (k : ℕ) (ts : List Token) (x : List (Option Span × ExpressionTree) × Span × List Token) → beyond ≤ length ts → until (take_mark punctuators.CloseParen) (argument_at beyond whole) k ts ≡ ok x → beyond ≤ suc (length x.2)
  unfolding until
  until_left zero ts x le h = let a = bind_ok (argument_at beyond whole ts) _ x h in absurd cc
  until_left (suc k) ts x le h = elim (choose_cases (take_mark punctuators.CloseParen ts) _ _ (ok x) h) [
    | inl r ↦
        let is = take_mark_is punctuators.CloseParen ts r.0.0 r.0.1 r.1 in
        subst (λ (y : List (Option Span × ExpressionTree) × Span × List Token). beyond ≤ suc (length y.2)) (ok_is ([], r.0.0, r.0.1) x r.2) (omega (arith, le, ap length is))
    | inr g ↦
        let a = bind_ok (argument_at beyond whole ts) _ x g.1 in
        let b = bind_ok (until (take_mark punctuators.CloseParen) (argument_at beyond whole) k a.0.1) _ x a.2 in
        subst (λ (y : List (Option Span × ExpressionTree) × Span × List Token). beyond ≤ suc (length y.2)) (ok_is (a.0.0 ∷ b.0.0, b.0.1, b.0.2) x b.2) (until_left k a.0.1 b.0 (argument_left ts a.0 a.1) b.1)
  ]

  -- a call whose parenthesis stands behind the limit
  closing_cut : (n : names.Name) (left : Span) (us : List Token) (f : SourceFault) (a : ExpressionTree × List Token)
      (xs : List (Option Span × ExpressionTree)) (s : Span) (rest : List Token) → beyond ≤ length us
      → first_at beyond whole n us ≡ ok a
      → until (take_mark punctuators.CloseParen) (argument_at beyond whole) (length a.1) a.1 ≡ ok (xs, s, rest)
      → within {A = ExpressionTree × List Token} beyond s rest
      (ok (Call n left (arguments ((None, a.0) ∷ xs)) s, rest)) ≡ Err f
      → IsExpressionCut 11 beyond (suc room) (name n ∷ mark punctuators.OpenParen left ∷ us) f.at
  unfolding expression_spelling arguments_spelling IsExpression
  closing_cut n left us f a xs s rest le reads many made = elim (within_err beyond s rest _ f made) [
    | inr (in_limit, no_err) ↦ absurd cc
    | inl (over, place) ↦
        let first = first_sound beyond room whole sound n us a reads in
        let r = until_sound argument_spelling (IsGoodArgument room) (mark punctuators.CloseParen)
        (take_mark punctuators.CloseParen) (argument_at beyond whole) (take_mark_is punctuators.CloseParen)
        (argument_sound beyond room whole sound) (length a.1) a.1 (xs, s, rest) many in
        let flat : a.1 ≡ (arguments_spelling (arguments xs) ++ mark punctuators.CloseParen s ∷ []) ++ rest = r.parts
        ∙ ap (λ w. (w ++ mark punctuators.CloseParen s ∷ []) ++ rest) (sym (arguments_flat xs)) in
        record {
          tree = Call n left (Argument None a.0 (arguments xs)) s;
          formed = (first.formed.0, (arguments_good room xs r.formed).0);
          tight = omega arith;
          begun = name n ∷ mark punctuators.OpenParen left ∷ (expression_spelling a.0 ++ arguments_spelling (arguments xs));
          token = mark punctuators.CloseParen s;
          after = rest;
          more = [];
          stands = ap (λ w. name n ∷ mark punctuators.OpenParen left ∷ w) (first.parts
              ∙ ap (λ w. expression_spelling a.0 ++ w) flat
              ∙ token_behind (expression_spelling a.0) (arguments_spelling (arguments xs))
              (mark punctuators.CloseParen s) rest);
          spelled = refl;
          at_place = place;
          too_much = inl (omega (arith, over, until_left (length a.1) a.1 (xs, s, rest) (first_left n us a le reads) many));
        }
  ]

  -- a call with an argument behind the first one that passes a limit
  further_cut : (n : names.Name) (left : Span) (us : List Token) (f : SourceFault) (a : ExpressionTree × List Token)
      → beyond ≤ length us → first_at beyond whole n us ≡ ok a
      → until (take_mark punctuators.CloseParen) (argument_at beyond whole) (length a.1) a.1 ≡ Err f
      → f.code ≡ codes.TooDeep
      → IsExpressionCut 11 beyond (suc room) (name n ∷ mark punctuators.OpenParen left ∷ us) f.at
  unfolding expression_spelling arguments_spelling IsExpression still_open
  further_cut n left us f a le reads fails deep =
      let first = first_sound beyond room whole sound n us a reads in
      let opening : List Token = name n ∷ mark punctuators.OpenParen left ∷ expression_spelling a.0 in
      let c = arguments_cut (length a.1) a.1 f (first_left n us a le reads) fails deep in
      record {
        tree = Call n left (Argument None a.0 (arguments c.values)) c.close;
        formed = (first.formed.0, c.formed);
        tight = omega arith;
        begun = opening ++ c.begun;
        token = c.token;
        after = c.after;
        more = c.more;
        stands = ap (λ w. name n ∷ mark punctuators.OpenParen left ∷ w) (first.parts
            ∙ ap (λ w. expression_spelling a.0 ++ w) c.stands
            ∙ sym (append_assoc (expression_spelling a.0) c.begun (c.token ∷ c.after)));
        spelled = ap (λ w. name n ∷ mark punctuators.OpenParen left ∷ w)
            (append_assoc (expression_spelling a.0) (arguments_spelling (arguments c.values))
            (mark punctuators.CloseParen c.close ∷ []))
            ∙ ap (λ w. opening ++ w) c.spelled ∙ sym (append_assoc opening c.begun (c.token ∷ c.more));
        at_place = c.at_place;
        too_much = behind beyond room opening c.begun c.token c.after (λ d us. balanced a.0 (d + 1) us) c.too_much;
      }

  pub call_cut : (n : names.Name) (left : Span) (us : List Token) (f : SourceFault) → beyond ≤ length us → call_after beyond whole n left us ≡ Err f → f.code ≡ codes.TooDeep → IsExpressionCut 11 beyond (suc room) (name n ∷ mark punctuators.OpenParen left ∷ us) f.at
  unfolding call_after arguments_after arguments_at expression_spelling arguments_spelling IsExpression still_open
  call_cut n left us f le h deep = elim (choose_cases (take_mark punctuators.CloseParen us) _ _ (Err f) h) [
    | inl (r, closes, g) ↦ elim (within_err beyond r.0 r.1 _ f g) [
      | inr (in_limit, no_err) ↦ absurd cc
      | inl (over, place) ↦
          let is = take_mark_is punctuators.CloseParen us r.0 r.1 closes in
          record { tree = Call n left NoArguments r.0; formed = tt; tight = omega arith; begun = name n ∷ mark punctuators.OpenParen left ∷ []; token = mark punctuators.CloseParen r.0; after = r.1; more = []; stands = ap (λ w. name n ∷ mark punctuators.OpenParen left ∷ w) is; spelled = refl; at_place = place; too_much = inl (omega (arith, over, le, ap length is)) }
    ]
    | inr (none, g) ↦ elim (bind_err (first_at beyond whole n us) _ f g) [
      | inl e ↦
          let c = first_cut n us f le e deep in
          record {
            tree = Call n left (Argument None c.tree NoArguments) c.token.span;
            formed = (c.formed, tt);
            tight = omega arith;
            begun = name n ∷ mark punctuators.OpenParen left ∷ c.begun;
            token = c.token;
            after = c.after;
            more = c.more ++ mark punctuators.CloseParen c.token.span ∷ [];
            stands = ap (λ w. name n ∷ mark punctuators.OpenParen left ∷ w) c.stands;
            spelled = ap (λ w. name n ∷ mark punctuators.OpenParen left ∷ w)
                (ap (λ w. (w ++ []) ++ mark punctuators.CloseParen c.token.span ∷ []) c.spelled
                ∙ one_closed c.begun c.token c.more (mark punctuators.CloseParen c.token.span));
            at_place = c.at_place;
            too_much = behind beyond room (name n ∷ mark punctuators.OpenParen left ∷ []) c.begun c.token c.after (λ d us. refl) c.too_much;
          }
      | inr (a, reads, q) ↦
          elim (bind_err (until (take_mark punctuators.CloseParen) (argument_at beyond whole) (length a.1) a.1 >>= λ m. ok ((None, a.0) ∷ m.0, m.1, m.2)) _ f q) [
            | inl e ↦ elim (bind_err (until (take_mark punctuators.CloseParen) (argument_at beyond whole) (length a.1) a.1) _ f e) [
              | inr (m, more, no_err) ↦ absurd cc
              | inl fails ↦ further_cut n left us f a le reads fails deep
            ]
            | inr (m, many, k) ↦
                let u = bind_ok (until (take_mark punctuators.CloseParen) (argument_at beyond whole) (length a.1) a.1) _ m many in
                let same = ok_is ((None, a.0) ∷ u.0.0, u.0.1, u.0.2) m u.2 in
                let made = subst (λ (y : List (Option Span × ExpressionTree) × Span × List Token). within {A = ExpressionTree × List Token} beyond y.1 y.2 (ok (Call n left (arguments y.0) y.1, y.2)) ≡ Err f) (sym same) k in
                closing_cut n left us f a u.0.0 u.0.1 u.0.2 le reads u.1 made
          ]
    ]
  ]

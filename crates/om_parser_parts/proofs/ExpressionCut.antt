-- Where an expression is too deep, its tokens up to there begin a well-formed one.
use Rattle.std.proofs.Common.{◌≡◌, ℕ, zero, suc, ◌-◌, ◌≤◌, List, [], ◌∷◌, ◌++◌, length, Some, None, Err, refl, sym, ap, subst, ◌∙◌, Bool, true, false, arith, append_assoc, length-append, inl, inr}
use Rattle.om_lexer.specs.declared.fault.FaultCode.TheVariants as codes
use Rattle.om_lexer.specs.declared.fault.SourceFault.{SourceFault}
use Rattle.om_lexer.specs.declared.token.Punctuator.{Punctuator}
use Rattle.om_lexer.specs.declared.token.Punctuator.TheVariants as punctuators
use Rattle.om_lexer.specs.declared.token.Span.{Span}
use Rattle.om_lexer.specs.declared.token.Token.{Token}
use Rattle.om_lexer.specs.declared.token.TokenKind.TheVariants as kinds
use Rattle.om_pragma.specs.declared.clause.Name as names
use Rattle.om_parser_parts.specs.ExpressionReading.{prefix_of, postfix_of, level_operator, take_operator, take_assign, Inside, named_after, primary_step, More, chain_at, postfix_more, binary_more, postfix_step, unary_step, binary_at, conditional_after, expression_after, expression_step, deeper, unary_at, expression_at, operand_at, whole_at}
use Rattle.om_parser_tree.specs.Formed.{level, IsExpression}
use Rattle.om_parser_tree.specs.Limits.{Limits, IsOpening, IsTooMuch, still_open}
use Rattle.om_parser_parts.specs.Reading.{Reader, known, take_mark, take_number, mark_at, name_at}
use Rattle.om_parser_tree.specs.Spelling.{mark, name, number, prefix_mark, postfix_mark, binary_mark, assign_mark, expression_spelling, arguments_spelling}
use Rattle.om_parser_tree.specs.Tree.{ExpressionTree, Name, Constant, Paren, Index, Call, Prefix, Postfix, Binary, Conditional, Assign, NoArguments}
use Rattle.om_parser_parts.specs.Outcomes.{some, bind_err, choose_cases}
use Rattle.om_parser_parts.specs.Taken.{take_mark_is, take_number_is, mark_at_is, name_at_is}
use Rattle.om_parser_parts.proofs.ExpressionSound.{IsExpressionRead, IsExpressionSound, IsInsideSound, IsStepSound, looser, option_map_is, prefix_is, postfix_is, take_operator_is, take_level_is, take_assign_is, primary_step_sound, postfix_more_sound, binary_more_sound, binary_sound, grade, all_sound, operand_sound}
use Rattle.om_parser_parts.proofs.BracketsCut.{syntax_never_deep, known_never_deep, IsPassed, IsExpressionCut, IsCutting, looser_cut, within_err, prefix_flat, binary_flat, assign_flat, one_at, flat, IsInsideCutting, enter_err, balanced, call_cut, index_cut, paren_cut}

-- ---- operands

inside_is_sound : (beyond room : ℕ) (inside : Inside) → IsInsideCutting beyond room inside → IsInsideSound beyond room inside
inside_is_sound beyond room None c = tt
inside_is_sound beyond room (Some whole) c = (c.0, c.1, c.2)

module _ (beyond room : ℕ) (inside : Inside) (cutting : IsInsideCutting beyond room inside) where
  -- the bracket itself nests too deep
  opened : (front : List Token) (p : Punctuator) (left : Span) (us : List Token) (place : ℕ) (tree : ExpressionTree) (more : List Token) → IsExpression tree → 11 ≤ level tree → IsOpening (kinds.Punctuator p) → ((d : ℕ) → still_open d front ≡ d) → expression_spelling tree ≡ front ++ mark p left ∷ more → room ≡ 0 → left.start ≡ place → IsExpressionCut 11 beyond room (front ++ mark p left ∷ us) place
  opened front p left us place tree more f tight opening closed spelled none at = record { tree = tree; formed = f; tight = tight; begun = front; token = mark p left; after = us; more = more; stands = refl; spelled = spelled; at_place = at; too_much = inr (opening, λ d. let same = closed d in omega (arith, same, none)) }

  -- the bracket is a token too many
  opened_over : (front : List Token) (p : Punctuator) (left : Span) (us : List Token) (place : ℕ) (tree : ExpressionTree) (more : List Token) → IsExpression tree → 11 ≤ level tree → expression_spelling tree ≡ front ++ mark p left ∷ more → suc (length us) ≡ beyond → left.start ≡ place → IsExpressionCut 11 beyond room (front ++ mark p left ∷ us) place
  opened_over front p left us place tree more f tight spelled over at = record { tree = tree; formed = f; tight = tight; begun = front; token = mark p left; after = us; more = more; stands = refl; spelled = spelled; at_place = at; too_much = inl over }

  named_cut : (n : names.Name) (us : List Token) (f : SourceFault) → beyond ≤ length us → named_after beyond inside n us ≡ Err f → f.code ≡ codes.TooDeep → IsExpressionCut 11 beyond room (name n ∷ us) f.at
  unfolding named_after expression_spelling arguments_spelling IsExpression still_open
  named_cut n us f le h deep = elim (choose_cases (take_mark punctuators.OpenBracket us) _ _ (Err f) h) [
    | inl (l, opens, g) ↦
        let is = take_mark_is punctuators.OpenBracket us l.0 l.1 opens in
        let one = one_at l.0 in
        subst (λ w. IsExpressionCut 11 beyond room (name n ∷ w) f.at) (sym is) (elim (within_err beyond l.0 l.1 _ f g) [
          | inl (over, place) ↦ opened_over (name n ∷ []) punctuators.OpenBracket l.0 l.1 f.at (Index n l.0 one l.0) (expression_spelling one ++ mark punctuators.CloseBracket l.0 ∷ []) tt (omega arith) refl (omega (arith, over, le, ap length is)) place
          | inr (in_limit, k) ↦ elim (enter_err beyond room inside cutting l.0 _ f k) [
            | inl (none, place) ↦ opened (name n ∷ []) punctuators.OpenBracket l.0 l.1 f.at (Index n l.0 one l.0) (expression_spelling one ++ mark punctuators.CloseBracket l.0 ∷ []) tt (omega arith) (inr refl) (λ d. refl) refl none place
            | inr (whole, r, same, sound, cuts, e) ↦ subst (λ v. IsExpressionCut 11 beyond v (name n ∷ mark punctuators.OpenBracket l.0 ∷ l.1) f.at) (sym same) (index_cut beyond r whole sound cuts n l.0 l.1 f in_limit e deep)
          ]
        ])
    | inr (none, g) ↦ elim (choose_cases (take_mark punctuators.OpenParen us) _ _ (Err f) g) [
      | inr (neither, no_err) ↦ absurd cc
      | inl (l, opens, k) ↦
          let is = take_mark_is punctuators.OpenParen us l.0 l.1 opens in
          subst (λ w. IsExpressionCut 11 beyond room (name n ∷ w) f.at) (sym is) (elim (within_err beyond l.0 l.1 _ f k) [
            | inl (over, place) ↦ opened_over (name n ∷ []) punctuators.OpenParen l.0 l.1 f.at (Call n l.0 NoArguments l.0) (mark punctuators.CloseParen l.0 ∷ []) tt (omega arith) refl (omega (arith, over, le, ap length is)) place
            | inr (in_limit, q) ↦ elim (enter_err beyond room inside cutting l.0 _ f q) [
              | inl (none, place) ↦ opened (name n ∷ []) punctuators.OpenParen l.0 l.1 f.at (Call n l.0 NoArguments l.0) (mark punctuators.CloseParen l.0 ∷ []) tt (omega arith) (inl refl) (λ d. refl) refl none place
              | inr (whole, r, same, sound, cuts, e) ↦ subst (λ v. IsExpressionCut 11 beyond v (name n ∷ mark punctuators.OpenParen l.0 ∷ l.1) f.at) (sym same) (call_cut beyond r whole sound cuts n l.0 l.1 f in_limit e deep)
            ]
          ])
    ]
  ]

  primary_step_cut : IsCutting 11 beyond room (primary_step beyond inside)
  unfolding primary_step name_at expression_spelling IsExpression still_open
  primary_step_cut ts f le h deep = elim (choose_cases (take_number ts) _ _ (Err f) h) [
    | inl (n, taken, g) ↦ elim (within_err beyond n.0.span n.1 _ f g) [
      | inr (in_limit, no_err) ↦ absurd cc
      | inl (over, place) ↦
          let is = take_number_is ts n.0 n.1 taken in
          record { tree = Constant n.0; formed = tt; tight = omega arith; begun = []; token = number n.0; after = n.1; more = []; stands = is; spelled = refl; at_place = place; too_much = inl (omega (arith, over, le, ap length is)) }
    ]
    | inr (none, g) ↦ elim (choose_cases (take_mark punctuators.OpenParen ts) _ _ (Err f) g) [
      | inl (l, opens, k) ↦
          let is = take_mark_is punctuators.OpenParen ts l.0 l.1 opens in
          let one = one_at l.0 in
          subst (λ w. IsExpressionCut 11 beyond room w f.at) (sym is) (elim (within_err beyond l.0 l.1 _ f k) [
            | inl (over, place) ↦ opened_over [] punctuators.OpenParen l.0 l.1 f.at (Paren l.0 one l.0) (expression_spelling one ++ mark punctuators.CloseParen l.0 ∷ []) tt (omega arith) refl (omega (arith, over, le, ap length is)) place
            | inr (in_limit, q) ↦ elim (enter_err beyond room inside cutting l.0 _ f q) [
              | inl (none, place) ↦ opened [] punctuators.OpenParen l.0 l.1 f.at (Paren l.0 one l.0) (expression_spelling one ++ mark punctuators.CloseParen l.0 ∷ []) tt (omega arith) (inl refl) (λ d. refl) refl none place
              | inr (whole, r, same, sound, cuts, e) ↦ subst (λ v. IsExpressionCut 11 beyond v (mark punctuators.OpenParen l.0 ∷ l.1) f.at) (sym same) (paren_cut beyond r whole sound cuts l.0 l.1 f in_limit e deep)
            ]
          ])
      | inr (neither, k) ↦ elim (bind_err (name_at ts) _ f k) [
        | inl wrong ↦ absurd (known_never_deep ts _ f wrong deep)
        | inr (n, named, q) ↦
            let is = name_at_is ts n named in
            elim (within_err beyond n.0.span n.1 _ f q) [
              | inl (over, place) ↦ record { tree = Name n.0; formed = tt; tight = omega arith; begun = []; token = name n.0; after = n.1; more = []; stands = is; spelled = refl; at_place = place; too_much = inl (omega (arith, over, le, ap length is)) }
              | inr (in_limit, e) ↦ subst (λ w. IsExpressionCut 11 beyond room w f.at) (sym is) (named_cut n.0 n.1 f in_limit e deep)
            ]
      ]
    ]
  ]

-- ---- operators

-- a step of a chain cuts
abbrev IsStepCutting : (m beyond room : ℕ) → More → Type 0
IsStepCutting m beyond room more = (ts : List Token) (a : ExpressionTree) (us : List Token) (f : SourceFault) → IsExpressionRead m beyond room ts (a, us) → more a us ≡ some (Err f) → f.code ≡ codes.TooDeep → IsExpressionCut m beyond room ts f.at

chain_cut : (m beyond room : ℕ) (more : More) → IsStepSound m beyond room more → IsStepCutting m beyond room more → (k : ℕ) (ts : List Token) (a : ExpressionTree) (us : List Token) (f : SourceFault) → IsExpressionRead m beyond room ts (a, us) → chain_at more k a us ≡ Err f → f.code ≡ codes.TooDeep → IsExpressionCut m beyond room ts f.at
unfolding chain_at
chain_cut m beyond room more sound cuts zero ts a us f front h deep = absurd cc
chain_cut m beyond room more sound cuts (suc k) ts a us f front h deep = elim (choose_cases (more a us) _ _ (Err f) h) [
  | inr (none, no_err) ↦ absurd cc
  | inl (read, taken, g) ↦ elim (bind_err read _ f g) [
    | inl e ↦ cuts ts a us f front (taken ∙ ap some e) deep
    | inr (b, reads, q) ↦ chain_cut m beyond room more sound cuts k ts b.0 b.1 f (sound ts a us b front (taken ∙ ap some reads)) q deep
  ]
]

postfix_more_cut : (beyond room : ℕ) → IsStepCutting 10 beyond room (postfix_more beyond)
unfolding postfix_more expression_spelling IsExpression
postfix_more_cut beyond room ts a us f front h deep =
    let o = option_map_is _ (take_operator postfix_of us) (Err f) h in
    let is = take_operator_is postfix_of postfix_mark postfix_is us o.0 o.1 in
    elim (within_err beyond o.0.0.1 o.0.1 _ f o.2) [
      | inr (in_limit, no_err) ↦ absurd cc
      | inl (over, place) ↦ record { tree = Postfix a o.0.0.0 o.0.0.1; formed = (front.formed, front.tight); tight = omega arith; begun = expression_spelling a; token = mark (postfix_mark o.0.0.0) o.0.0.1; after = o.0.1; more = []; stands = front.parts ∙ ap (λ w. expression_spelling a ++ w) is; spelled = refl; at_place = place; too_much = inl (omega (arith, over, front.left, ap length is)) }
    ]

binary_more_cut : (beyond room k : ℕ) → k ≤ 5 → (operand : Reader ExpressionTree) → IsCutting (9 - k) beyond room operand → IsStepCutting (8 - k) beyond room (binary_more beyond (8 - k) operand)
unfolding binary_more expression_spelling IsExpression
binary_more_cut beyond room k le operand cutting ts a us f front h deep =
    let o = option_map_is _ (take_operator (level_operator (8 - k)) us) (Err f) h in
    let is = take_level_is (8 - k) us o.0 o.1 in
    elim (within_err beyond o.0.0.1 o.0.1 _ f o.2) [
      | inl (over, place) ↦
          let one = one_at o.0.0.1 in
          record { tree = Binary a o.0.0.0 o.0.0.1 one; formed = (front.formed, tt, omega (arith, is.1, front.tight), omega (arith, is.1, le)); tight = omega (arith, is.1); begun = expression_spelling a; token = mark (binary_mark o.0.0.0) o.0.0.1; after = o.0.1; more = expression_spelling one; stands = front.parts ∙ ap (λ w. expression_spelling a ++ w) is.0; spelled = refl; at_place = place; too_much = inl (omega (arith, over, front.left, ap length is.0)) }
      | inr (in_limit, g) ↦ elim (bind_err (operand o.0.1) _ f g) [
        | inr (b, reads, no_err) ↦ absurd cc
        | inl e ↦
            let c = cutting o.0.1 f in_limit e deep in
            let before : List Token = expression_spelling a ++ mark (binary_mark o.0.0.0) o.0.0.1 ∷ [] in
            record {
              tree = Binary a o.0.0.0 o.0.0.1 c.tree;
              formed = (front.formed, c.formed, omega (arith, is.1, front.tight), omega (arith, is.1, le, c.tight));
              tight = omega (arith, is.1);
              begun = before ++ c.begun;
              token = c.token;
              after = c.after;
              more = c.more;
              stands = front.parts ∙ ap (λ w. expression_spelling a ++ w) (is.0 ∙ ap (λ w. mark (binary_mark o.0.0.0) o.0.0.1 ∷ w) c.stands) ∙ simp append_assoc;
              spelled = ap (λ w. expression_spelling a ++ mark (binary_mark o.0.0.0) o.0.0.1 ∷ w) c.spelled ∙ simp append_assoc;
              at_place = c.at_place;
              too_much = flat beyond room before c.begun c.token c.after (λ d us. rw append_assoc (balanced a d (mark (binary_mark o.0.0.0) o.0.0.1 ∷ us) ∙ binary_flat o.0.0.0 d o.0.0.1 us)) c.too_much;
            }
      ]
    ]

postfix_step_cut : (beyond room : ℕ) (primary : Reader ExpressionTree) → IsExpressionSound 11 beyond room primary → IsCutting 11 beyond room primary → IsCutting 10 beyond room (postfix_step beyond primary)
unfolding postfix_step
postfix_step_cut beyond room primary sound cutting ts f le h deep = elim (bind_err (primary ts) _ f h) [
  | inl e ↦ looser_cut 11 10 beyond room ts f.at (omega arith) (cutting ts f le e deep)
  | inr (a, reads, g) ↦ chain_cut 10 beyond room (postfix_more beyond) (postfix_more_sound beyond room) (postfix_more_cut beyond room) (length a.1) ts a.0 a.1 f (looser 11 10 beyond room ts a (omega arith) (sound ts a reads)) g deep
]

unary_step_cut : (beyond room : ℕ) (again : Reader ExpressionTree) (inside : Inside) → IsCutting 9 beyond room again → IsInsideCutting beyond room inside → IsCutting 9 beyond room (unary_step beyond again inside)
unfolding unary_step expression_spelling IsExpression
unary_step_cut beyond room again inside cutting insides ts f le h deep = elim (choose_cases (take_operator prefix_of ts) _ _ (Err f) h) [
  | inl (o, taken, g) ↦
      let is = take_operator_is prefix_of prefix_mark prefix_is ts o taken in
      elim (within_err beyond o.0.1 o.1 _ f g) [
        | inl (over, place) ↦
            let one = one_at o.0.1 in
            record { tree = Prefix o.0.0 o.0.1 one; formed = (tt, omega arith); tight = omega arith; begun = []; token = mark (prefix_mark o.0.0) o.0.1; after = o.1; more = expression_spelling one; stands = is; spelled = refl; at_place = place; too_much = inl (omega (arith, over, le, ap length is)) }
        | inr (in_limit, k) ↦ elim (bind_err (again o.1) _ f k) [
          | inr (e, reads, no_err) ↦ absurd cc
          | inl e ↦
              let c = cutting o.1 f in_limit e deep in
              record { tree = Prefix o.0.0 o.0.1 c.tree; formed = (c.formed, c.tight); tight = omega arith; begun = mark (prefix_mark o.0.0) o.0.1 ∷ c.begun; token = c.token; after = c.after; more = c.more; stands = is ∙ ap (λ w. mark (prefix_mark o.0.0) o.0.1 ∷ w) c.stands; spelled = ap (λ w. mark (prefix_mark o.0.0) o.0.1 ∷ w) c.spelled; at_place = c.at_place; too_much = flat beyond room (mark (prefix_mark o.0.0) o.0.1 ∷ []) c.begun c.token c.after (λ d us. prefix_flat o.0.0 d o.0.1 us) c.too_much }
        ]
      ]
  | inr (none, g) ↦ looser_cut 10 9 beyond room ts f.at (omega arith) (postfix_step_cut beyond room (primary_step beyond inside) (primary_step_sound beyond room inside (inside_is_sound beyond room inside insides)) (primary_step_cut beyond room inside insides) ts f le g deep)
]

binary_cut : (beyond room : ℕ) (unary : Reader ExpressionTree) → IsExpressionSound 9 beyond room unary → IsCutting 9 beyond room unary → (k : ℕ) → k ≤ 6 → IsCutting (9 - k) beyond room (binary_at beyond unary k)
unfolding binary_at
binary_cut beyond room unary sound cutting zero le ts f inside h deep = looser_cut 9 (9 - 0) beyond room ts f.at (omega arith) (cutting ts f inside h deep)
binary_cut beyond room unary sound cutting (suc k) le ts f inside h deep =
    let tighter = binary_sound beyond room unary sound k (omega arith) in
    let cuts = binary_cut beyond room unary sound cutting k (omega arith) in
    looser_cut (8 - k) (9 - suc k) beyond room ts f.at (omega arith) (elim (bind_err (binary_at beyond unary k ts) _ f h) [
      | inl e ↦ looser_cut (9 - k) (8 - k) beyond room ts f.at (omega arith) (cuts ts f inside e deep)
      | inr (a, reads, g) ↦ chain_cut (8 - k) beyond room (binary_more beyond (8 - k) (binary_at beyond unary k)) (binary_more_sound beyond room k (omega arith) (binary_at beyond unary k) tighter) (binary_more_cut beyond room k (omega arith) (binary_at beyond unary k) cuts) (length a.1) ts a.0 a.1 f (looser (9 - k) (8 - k) beyond room ts a (omega arith) (tighter ts a reads)) g deep
    ])

-- ---- conditional expressions and assignments

module _ (beyond room : ℕ) (whole choice : Reader ExpressionTree) (sound : IsExpressionSound 1 beyond room whole) (cutting : IsCutting 1 beyond room whole) (choosing : IsCutting 2 beyond room choice) where
  conditional_cut : (ts : List Token) (c : ExpressionTree) (q : Span) (us : List Token) (f : SourceFault) → beyond ≤ length us → IsExpressionRead 3 beyond room ts (c, mark punctuators.Question q ∷ us) → conditional_after beyond whole choice c q us ≡ Err f → f.code ≡ codes.TooDeep → IsExpressionCut 2 beyond room ts f.at
  unfolding conditional_after mark_at expression_spelling IsExpression still_open
  conditional_cut ts c q us f le front h deep =
      let first : List Token = expression_spelling c ++ mark punctuators.Question q ∷ [] in
      elim (bind_err (whole us) _ f h) [
        | inl e ↦
            let x = cutting us f le e deep in
            let one = one_at q in
            record {
              tree = Conditional c q x.tree q one;
              formed = (front.formed, x.formed, tt, front.tight, omega arith);
              tight = omega arith;
              begun = first ++ x.begun;
              token = x.token;
              after = x.after;
              more = x.more ++ mark punctuators.Colon q ∷ expression_spelling one;
              stands = front.parts ∙ ap (λ w. expression_spelling c ++ mark punctuators.Question q ∷ w) x.stands ∙ simp append_assoc;
              spelled = ap (λ w. expression_spelling c ++ mark punctuators.Question q ∷ (w ++ mark punctuators.Colon q ∷ expression_spelling one)) x.spelled ∙ simp append_assoc;
              at_place = x.at_place;
              too_much = flat beyond room first x.begun x.token x.after (λ d vs. rw append_assoc (balanced c d (mark punctuators.Question q ∷ vs))) x.too_much;
            }
        | inr (a, reads, g) ↦
            let middle = sound us a reads in
            elim (bind_err (known a.1 (take_mark punctuators.Colon a.1)) _ f g) [
              | inl wrong ↦ absurd (known_never_deep a.1 (take_mark punctuators.Colon a.1) f wrong deep)
              | inr (colon, found, k) ↦
                  let is = mark_at_is punctuators.Colon a.1 colon found in
                  let two : List Token = first ++ expression_spelling a.0 in
                  let front_two : ts ≡ two ++ a.1 = front.parts ∙ ap (λ w. expression_spelling c ++ mark punctuators.Question q ∷ w) middle.parts ∙ simp append_assoc in
                  elim (within_err beyond colon.0 colon.1 _ f k) [
                    | inl (over, place) ↦
                        let one = one_at q in
                        record {
                          tree = Conditional c q a.0 colon.0 one;
                          formed = (front.formed, middle.formed, tt, front.tight, omega arith);
                          tight = omega arith;
                          begun = two;
                          token = mark punctuators.Colon colon.0;
                          after = colon.1;
                          more = expression_spelling one;
                          stands = front_two ∙ ap (λ w. two ++ w) is;
                          spelled = simp append_assoc;
                          at_place = place;
                          too_much = inl (omega (arith, over, middle.left, ap length is));
                        }
                    | inr (in_limit, m) ↦ elim (bind_err (choice colon.1) _ f m) [
                      | inr (b, read_b, no_err) ↦ absurd cc
                      | inl e ↦
                          let x = choosing colon.1 f in_limit e deep in
                          let three : List Token = two ++ mark punctuators.Colon colon.0 ∷ [] in
                          record {
                            tree = Conditional c q a.0 colon.0 x.tree;
                            formed = (front.formed, middle.formed, x.formed, front.tight, x.tight);
                            tight = omega arith;
                            begun = three ++ x.begun;
                            token = x.token;
                            after = x.after;
                            more = x.more;
                            stands = front_two ∙ ap (λ w. two ++ w) (is ∙ ap (λ w. mark punctuators.Colon colon.0 ∷ w) x.stands) ∙ simp append_assoc;
                            spelled = ap (λ w. expression_spelling c ++ mark punctuators.Question q ∷ (expression_spelling a.0 ++ mark punctuators.Colon colon.0 ∷ w)) x.spelled ∙ simp append_assoc;
                            at_place = x.at_place;
                            too_much = flat beyond room three x.begun x.token x.after (λ d vs. let flat_three : three ++ vs ≡ expression_spelling c ++ mark punctuators.Question q ∷ (expression_spelling a.0 ++ mark punctuators.Colon colon.0 ∷ vs) = simp append_assoc in ap (still_open d) flat_three ∙ balanced c d (mark punctuators.Question q ∷ (expression_spelling a.0 ++ mark punctuators.Colon colon.0 ∷ vs)) ∙ balanced a.0 d (mark punctuators.Colon colon.0 ∷ vs)) x.too_much;
                          }
                    ]
                  ]
            ]
      ]

  grade_cut : (may : Bool) (ts : List Token) (place : ℕ) → IsExpressionCut 2 beyond room ts place → IsExpressionCut (grade may) beyond room ts place
  grade_cut true ts place c = looser_cut 2 1 beyond room ts place (omega arith) c
  grade_cut false ts place c = c

  expression_step_cut : (operand : Reader ExpressionTree) → IsExpressionSound 3 beyond room operand → IsCutting 3 beyond room operand → (may : Bool) → IsCutting (grade may) beyond room (expression_step beyond may operand whole choice)
  unfolding expression_step expression_after expression_spelling IsExpression
  expression_step_cut operand operands operand_cuts may ts f le h deep = elim (bind_err (operand ts) _ f h) [
    | inl e ↦ grade_cut may ts f.at (looser_cut 3 2 beyond room ts f.at (omega arith) (operand_cuts ts f le e deep))
    | inr (c, reads, g) ↦
        let first = operands ts c reads in
        elim (choose_cases (take_mark punctuators.Question c.1) _ _ (Err f) g) [
          | inl (q, taken, k) ↦
              let is = take_mark_is punctuators.Question c.1 q.0 q.1 taken in
              let front : IsExpressionRead 3 beyond room ts (c.0, mark punctuators.Question q.0 ∷ q.1) = subst (λ v. IsExpressionRead 3 beyond room ts (c.0, v)) is first in
              grade_cut may ts f.at (elim (within_err beyond q.0 q.1 _ f k) [
                | inl (over, place) ↦
                    let one = one_at q.0 in
                    record { tree = Conditional c.0 q.0 one q.0 one; formed = (first.formed, tt, tt, first.tight, omega arith); tight = omega arith; begun = expression_spelling c.0; token = mark punctuators.Question q.0; after = q.1; more = expression_spelling one ++ mark punctuators.Colon q.0 ∷ expression_spelling one; stands = front.parts; spelled = refl; at_place = place; too_much = inl (omega (arith, over, first.left, ap length is)) }
                | inr (in_limit, m) ↦ conditional_cut ts c.0 q.0 q.1 f in_limit front m deep
              ])
          | inr (none, k) ↦ elim (choose_cases (take_assign may c.0 c.1) _ _ (Err f) k) [
            | inr (neither, no_err) ↦ absurd cc
            | inl (o, taken, m) ↦
                let is = take_assign_is may c.0 c.1 o taken in
                subst (λ b. IsExpressionCut (grade b) beyond room ts f.at) (sym is.0) (elim (within_err beyond o.0.1 o.1 _ f m) [
                  | inl (over, place) ↦
                      let one = one_at o.0.1 in
                      record { tree = Assign c.0 o.0.0 o.0.1 one; formed = (first.formed, tt, is.1); tight = omega arith; begun = expression_spelling c.0; token = mark (assign_mark o.0.0) o.0.1; after = o.1; more = expression_spelling one; stands = first.parts ∙ ap (λ w. expression_spelling c.0 ++ w) is.2; spelled = refl; at_place = place; too_much = inl (omega (arith, over, first.left, ap length is.2)) }
                  | inr (in_limit, n) ↦ elim (bind_err (whole o.1) _ f n) [
                    | inr (v, read_v, no_err) ↦ absurd cc
                    | inl e ↦
                        let x = cutting o.1 f in_limit e deep in
                        let before : List Token = expression_spelling c.0 ++ mark (assign_mark o.0.0) o.0.1 ∷ [] in
                        record {
                          tree = Assign c.0 o.0.0 o.0.1 x.tree;
                          formed = (first.formed, x.formed, is.1);
                          tight = omega arith;
                          begun = before ++ x.begun;
                          token = x.token;
                          after = x.after;
                          more = x.more;
                          stands = first.parts ∙ ap (λ w. expression_spelling c.0 ++ w) (is.2 ∙ ap (λ w. mark (assign_mark o.0.0) o.0.1 ∷ w) x.stands) ∙ simp append_assoc;
                          spelled = ap (λ w. expression_spelling c.0 ++ mark (assign_mark o.0.0) o.0.1 ∷ w) x.spelled ∙ simp append_assoc;
                          at_place = x.at_place;
                          too_much = flat beyond room before x.begun x.token x.after (λ d us. rw append_assoc (balanced c.0 d (mark (assign_mark o.0.0) o.0.1 ∷ us) ∙ assign_flat o.0.0 d o.0.1 us)) x.too_much;
                        }
                  ]
                ])
          ]
        ]
  ]

-- ---- the whole

record AreCutting (beyond turns room : ℕ) : Type 0 where
  unary : IsCutting 9 beyond room (unary_at beyond turns room)
  any : (may : Bool) → IsCutting (grade may) beyond room (expression_at beyond turns may room)

inside_cutting : (beyond turns : ℕ) → ((r : ℕ) → IsCutting 1 beyond r (expression_at beyond turns true r)) → (room : ℕ) → IsInsideCutting beyond room (deeper (expression_at beyond turns true) room)
inside_cutting beyond turns h zero = refl
inside_cutting beyond turns h (suc room) = (room, refl, (all_sound beyond turns room).any true, h room)

all_cutting : (beyond turns room : ℕ) → AreCutting beyond turns room
unfolding unary_at expression_at
all_cutting beyond zero room = record { unary = λ ts f le h deep. absurd (syntax_never_deep ts f h deep); any = λ may ts f le h deep. absurd (syntax_never_deep ts f h deep) }
all_cutting beyond (suc turns) room =
    let below = all_cutting beyond turns room in
    let sounds = all_sound beyond turns room in
    let inside = inside_cutting beyond turns (λ r. (all_cutting beyond turns r).any true) room in
    let operand : IsCutting 9 beyond room (operand_at beyond turns room) = unary_step_cut beyond room (unary_at beyond turns room) (deeper (expression_at beyond turns true) room) below.unary inside in
    let operand_is = operand_sound beyond turns room in
    record {
      unary = operand;
      any = λ may. expression_step_cut beyond room (expression_at beyond turns true room) (expression_at beyond turns false room) (sounds.any true) (below.any true) (below.any false) (binary_at beyond (operand_at beyond turns room) 6)
          (λ ts x h. looser (9 - 6) 3 beyond room ts x (omega arith) (binary_sound beyond room (operand_at beyond turns room) operand_is 6 (omega arith) ts x h))
          (λ ts f le h deep. looser_cut (9 - 6) 3 beyond room ts f.at (omega arith) (binary_cut beyond room (operand_at beyond turns room) operand_is operand 6 (omega arith) ts f le h deep)) may;
    }

-- where a whole expression is too deep
pub whole_cut : (l : Limits) (room : ℕ) (ts : List Token) (f : SourceFault) → whole_at l room ts ≡ Err f → f.code ≡ codes.TooDeep → IsExpressionCut 1 (length ts - l.tokens) room ts f.at
unfolding whole_at
whole_cut l room ts f h deep = (all_cutting (length ts - l.tokens) (length ts) room).any true ts f (omega arith) h deep

-- a limit of a whole expression is passed at this token
pub too_much_at : (m : Limits) (begins begun : List Token) (t : Token) (after : List Token) → begins ≡ begun ++ t ∷ after → IsPassed (length begins - m.tokens) m.nested begun t after → IsTooMuch m begun t
too_much_at m begins begun t after is (inl e) = inl (omega (arith, e, ap length is, length-append begun (t ∷ after)))
too_much_at m begins begun t after is (inr (opening, nests)) = inr (opening, let from_none = nests 0 in omega (arith, from_none))

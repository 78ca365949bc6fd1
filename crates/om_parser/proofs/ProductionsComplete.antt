-- Statements that are read again, one production each, and what stands first in them.
use Rattle.std.proofs.Common.{◌≡◌, ℕ, suc, ◌+◌, ◌≤◌, List, [], ◌∷◌, ◌++◌, Option, Some, None, Err, Bool, true, false, cond, refl, sym, subst, ◌∙◌, arith, append_assoc, inl, inr}
use Rattle.std.specs.Prelude.{not, ◌||◌}
use Rattle.om_lexer.specs.declared.token.Keyword.TheVariants as keywords
use Rattle.om_lexer.specs.declared.token.Punctuator.{Punctuator}
use Rattle.om_lexer.specs.declared.token.Punctuator.TheVariants as punctuators
use Rattle.om_lexer.specs.declared.token.Span.{Span}
use Rattle.om_lexer.specs.declared.token.Token.{Token}
use Rattle.om_pragma.specs.declared.tree.Directive.{Directive}
use Rattle.om_pragma.specs.Questions.{is_sections, is_atomic, atomic_kind}
use Rattle.om_pragma.specs.Spelling.{directive_spelling, opening_spelling as line_opening}
use Rattle.om_parser.specs.declared.start.Start.TheVariants as starts
use Rattle.om_parser_tree.specs.AtomicForms.{has_atomic_form}
use Rattle.om_parser_parts.specs.PartReading.{Parts}
use Rattle.om_parser.specs.ConstructReading.{PartsReader, line_start, stand_alone_at, bad_atomic, atomic_of, atomic_after, constructed_after, construct_after, construct_at, line_of}
use Rattle.om_parser_parts.specs.Reading.{Reader, take, same_mark, same_word, take_mark, take_word}
use Rattle.om_parser_tree.specs.Spelling.{mark, word, perhaps, expression_spelling, declaration_spelling, condition_spelling, for_start_spelling, for_head_spelling, statement_spelling, parts_spelling}
use Rattle.om_parser_tree.specs.Formed.{IsOptional, IsForStart, IsForHead, ends_open, IsBody, IsPartItem, IsLine, IsConstruct, IsStatement, IsExpression}
use Rattle.om_parser_tree.specs.Limits.{Limits}
use Rattle.om_parser_tree.specs.Sizes.{Where, HasForms, HasRoom, for_start_extent, for_start_nesting}
use Rattle.om_parser.specs.StatementReading.{condition_at, optional_before, for_start_at, for_head_after, OpeningTree, OpensIf, OpensWhile, OpensFor, opening_of, return_after, jump_after, expression_statement_at, else_after, behind_body, body_after, headed_of, do_end, do_after}
use Rattle.om_parser_tree.specs.Tree.{ExpressionTree, ConditionTree, ForStartTree, Nothing, StartExpression, StartDeclaration, ForHeadTree, StatementTree, LocalDeclaration, Block, Empty, Expression, If, IfElse, While, Do, For, Return, Break, Continue, Construct, StandAlone, Sections}
use Rattle.om_parser_parts.specs.Laws.{IsAnswer, Keeps, IsEnd, IsExpressionAgain, declaration_tail, ArePartsAgain}
use Rattle.om_parser_parts.specs.Outcomes.{ok}
use Rattle.om_parser_parts.specs.Again.{take_mark_again, take_word_again, mark_again, word_again, bind_answer}
use Rattle.om_parser.proofs.UnaskedForms.{no_forms}
use Rattle.om_parser.proofs.StatementParts.{optional_spelling}
use Rattle.om_parser.proofs.Begins.{expression_starts}
use Rattle.om_parser.proofs.StatementTokens.{BeginsBody, BeginsConstruct, BeginsNoLine, no_mark, no_word, end_other, KeepsOptional, IsOpening, KeepsHead, KeepsOpening, opening_rest, opening_start, opening_place, no_int_before_semicolon, no_line, construct_starts, sections_starts}

module _ (p : Parts) (l : Limits) (again : ArePartsAgain p l) where
  condition_again : (c : ConditionTree) (rest : List Token) → IsExpression c.value → IsAnswer (Keeps l 1 c.value) (condition_at p (condition_spelling c ++ rest)) (c, rest)
  unfolding condition_at condition_spelling
  condition_again c rest f =
      let behind : List Token = mark punctuators.CloseParen c.close_paren ∷ rest in
      rw (append_assoc, mark_again punctuators.OpenParen c.open_paren (expression_spelling c.value ++ behind)) (bind_answer (p.enclosed (expression_spelling c.value ++ behind)) _ (c.value, behind) (c, rest) (λ w. w)
      (again.enclosed c.value punctuators.CloseParen c.close_paren rest (inr refl) f)
      (inl (rw (mark_again punctuators.CloseParen c.close_paren rest) refl)))

  optional_again : (round : ℕ) (q : Punctuator) (r : Reader ExpressionTree) → IsEnd q → IsExpressionAgain l round r → (e : Option ExpressionTree) (s : Span) (rest : List Token) → IsOptional e → IsAnswer (KeepsOptional l round e) (optional_before q r (optional_spelling q (e, s) ++ rest)) ((e, s), rest)
  unfolding optional_before
  optional_again round q r is reads None s rest f = inl (rw (take_mark_again q s rest) refl)
  optional_again round q r is reads (Some e) s rest f =
      let behind : List Token = mark q s ∷ rest in
      rw (append_assoc, no_mark q (expression_spelling e ++ behind) (end_other q is) (expression_starts e behind f)) (bind_answer (r (expression_spelling e ++ behind)) _ (e, behind) ((Some e, s), rest) (λ w. record { nested = w.0; long = w.1 })
      (reads e q s rest is f)
      (inl (rw (mark_again q s rest) refl)))

  for_start_again : (s : ForStartTree) (rest : List Token) → IsForStart s → IsAnswer ((for_start_nesting s + 1 ≤ l.nested) × (for_start_extent s ≤ l.tokens)) (for_start_at p (for_start_spelling s ++ rest)) (s, rest)
  unfolding for_start_at for_start_spelling declaration_spelling
  for_start_again (Nothing s) rest f =
      rw (no_int_before_semicolon s rest) (bind_answer (optional_before punctuators.Semicolon p.enclosed (optional_spelling punctuators.Semicolon (None, s) ++ rest)) _ ((None, s), rest) (Nothing s, rest) (λ w. w)
      (optional_again 1 punctuators.Semicolon p.enclosed (inl refl) again.enclosed None s rest tt)
      (inl refl))
  for_start_again (StartExpression e s) rest f =
      let behind : List Token = mark punctuators.Semicolon s ∷ rest in
      let spelled : List Token = optional_spelling punctuators.Semicolon (Some e, s) ++ rest in
      let none : take_word keywords.Int spelled ≡ None = rw append_assoc (no_word keywords.Int (expression_spelling e ++ behind) (λ other. absurd cc) (expression_starts e behind f)) in
      rw none (bind_answer (optional_before punctuators.Semicolon p.enclosed spelled) _ ((Some e, s), rest) (StartExpression e s, rest) (λ w. w)
      (optional_again 1 punctuators.Semicolon p.enclosed (inl refl) again.enclosed (Some e) s rest f)
      (inl refl))
  for_start_again (StartDeclaration d) rest f =
      rw (take_word_again keywords.Int d.int (declaration_tail d ++ rest)) (bind_answer (p.enclosed_declaration d.int (declaration_tail d ++ rest)) _ (d, rest) (StartDeclaration d, rest) (λ w. record { nested = w.0; long = w.1 })
      (again.enclosed_declaration d rest f)
      (inl refl))

  for_head_again : (h : ForHeadTree) (rest : List Token) → IsForHead h → IsAnswer (KeepsHead l h) (for_head_after p h.word (opening_rest (OpensFor h) ++ rest)) (h, rest)
  unfolding for_head_after IsForHead
  for_head_again h rest f =
      let last : List Token = optional_spelling punctuators.CloseParen (h.step, h.close_paren) ++ rest in
      let middle : List Token = optional_spelling punctuators.Semicolon (h.condition, h.semicolon) ++ last in
      let front : List Token = for_start_spelling h.start ++ middle in
      let spelled : mark punctuators.OpenParen h.open_paren ∷ front ≡ opening_rest (OpensFor h) ++ rest = simp append_assoc in
      subst (λ us. IsAnswer (KeepsHead l h) (for_head_after p h.word us) (h, rest)) spelled (rw (mark_again punctuators.OpenParen h.open_paren front)
      (bind_answer (for_start_at p front) _ (h.start, middle) (h, rest) (λ w. (w.start_nested, w.start_long)) (for_start_again h.start middle f.0)
      (bind_answer (optional_before punctuators.Semicolon p.enclosed middle) _ ((h.condition, h.semicolon), last) (h, rest) (λ w. w.condition) (optional_again 1 punctuators.Semicolon p.enclosed (inl refl) again.enclosed h.condition h.semicolon last f.1)
      (bind_answer (optional_before punctuators.CloseParen p.enclosed last) _ ((h.step, h.close_paren), rest) (h, rest) (λ w. w.step) (optional_again 1 punctuators.CloseParen p.enclosed (inr refl) again.enclosed h.step h.close_paren rest f.2)
      (inl refl)))))

  opening_again : (o : OpeningTree) (rest : List Token) → IsOpening o → IsAnswer (KeepsOpening l o) (opening_of p (opening_start o) (opening_place o) (opening_rest o ++ rest)) (o, rest)
  unfolding opening_of
  opening_again (OpensIf at c) rest f = bind_answer (condition_at p (condition_spelling c ++ rest)) _ (c, rest) (OpensIf at c, rest) (λ w. w) (condition_again c rest f) (inl refl)
  opening_again (OpensWhile at c) rest f = bind_answer (condition_at p (condition_spelling c ++ rest)) _ (c, rest) (OpensWhile at c, rest) (λ w. w) (condition_again c rest f) (inl refl)
  opening_again (OpensFor h) rest f = bind_answer (for_head_after p h.word (opening_rest (OpensFor h) ++ rest)) _ (h, rest) (OpensFor h, rest) (λ w. w) (for_head_again h rest f) (inl refl)

  -- no `else` may follow that would be taken
  abbrev pub IsNearest : StatementTree → List Token → Type 0
  IsNearest s rest = ends_open s ≡ true → take_word keywords.Else rest ≡ None

  abbrev pub StatementAgain : (checked : Bool) (room blocks_left : ℕ) → Reader StatementTree → StatementTree → Type 0
  StatementAgain checked room blocks_left statement s = (rest : List Token) → IsNearest s rest → IsAnswer (HasRoom l checked room blocks_left s) (statement (statement_spelling s ++ rest)) (s, rest)

  -- the readers of statements one deeper read them again
  abbrev pub AreAgainAt : (checked : Bool) (room : ℕ) → (ℕ → Reader StatementTree) → StatementTree → Type 0
  AreAgainAt checked room statement s = (blocks_left : ℕ) → StatementAgain checked room blocks_left (statement blocks_left) s

  -- ---- one production each, behind its first token

  headed_again : (checked : Bool) (room blocks_left : ℕ) (statement : Reader StatementTree) (o : OpeningTree) (s : StatementTree) → IsOpening o → StatementAgain checked room blocks_left statement s → (Fits : Type 0) → (Fits → KeepsOpening l o) → (Fits → HasRoom l checked room blocks_left s) → (rest behind : List Token) (y : StatementTree × List Token) → IsNearest s behind → behind_body statement o s behind ≡ ok y → IsAnswer Fits (headed_of p statement (opening_start o) (opening_place o) (opening_rest o ++ (statement_spelling s ++ behind))) y
  unfolding headed_of body_after
  headed_again checked room blocks_left statement o s f inner Fits keeps fits rest behind y nearest next =
      let us : List Token = statement_spelling s ++ behind in
      bind_answer (opening_of p (opening_start o) (opening_place o) (opening_rest o ++ us)) _ (o, us) y keeps (opening_again o us f)
      (bind_answer (statement us) _ (s, behind) y fits (inner behind nearest) (inl next))

  pub if_again : (checked : Bool) (room blocks_left : ℕ) (statement : ℕ → Reader StatementTree) (at : Span) (c : ConditionTree) (s : StatementTree) → IsExpression c.value → AreAgainAt checked room statement s → (rest : List Token) → IsNearest (If at c s) rest → IsAnswer (HasRoom l checked (suc room) blocks_left (If at c s)) (headed_of p (statement blocks_left) starts.If at ((condition_spelling c ++ statement_spelling s) ++ rest)) (If at c s, rest)
  unfolding behind_body else_after HasForms
  if_again checked room blocks_left statement at c s f inner rest nearest =
      rw append_assoc (headed_again checked room blocks_left (statement blocks_left) (OpensIf at c) s f (inner blocks_left) (HasRoom l checked (suc room) blocks_left (If at c s))
      (λ w. record { nested = omega (arith, w.nested); long = omega (arith, w.long) })
      (λ w. record { high = omega (arith, w.high); deep = w.deep; nested = omega (arith, w.nested); long = omega (arith, w.long); forms = w.forms })
      rest rest (If at c s, rest) (λ is. nearest refl) (rw (nearest refl) refl))

  pub while_again : (checked : Bool) (room blocks_left : ℕ) (statement : ℕ → Reader StatementTree) (at : Span) (c : ConditionTree) (s : StatementTree) → IsExpression c.value → AreAgainAt checked room statement s → (rest : List Token) → IsNearest (While at c s) rest → IsAnswer (HasRoom l checked (suc room) blocks_left (While at c s)) (headed_of p (statement blocks_left) starts.While at ((condition_spelling c ++ statement_spelling s) ++ rest)) (While at c s, rest)
  unfolding behind_body HasForms
  while_again checked room blocks_left statement at c s f inner rest nearest =
      rw append_assoc (headed_again checked room blocks_left (statement blocks_left) (OpensWhile at c) s f (inner blocks_left) (HasRoom l checked (suc room) blocks_left (While at c s))
      (λ w. record { nested = omega (arith, w.nested); long = omega (arith, w.long) })
      (λ w. record { high = omega (arith, w.high); deep = w.deep; nested = omega (arith, w.nested); long = omega (arith, w.long); forms = w.forms })
      rest rest (While at c s, rest) nearest refl)

  pub for_again : (checked : Bool) (room blocks_left : ℕ) (statement : ℕ → Reader StatementTree) (h : ForHeadTree) (s : StatementTree) → IsForHead h → AreAgainAt checked room statement s → (rest : List Token) → IsNearest (For h s) rest → IsAnswer (HasRoom l checked (suc room) blocks_left (For h s)) (headed_of p (statement blocks_left) starts.For h.word ((opening_rest (OpensFor h) ++ statement_spelling s) ++ rest)) (For h s, rest)
  unfolding behind_body HasForms
  for_again checked room blocks_left statement h s f inner rest nearest =
      let spelled : opening_rest (OpensFor h) ++ (statement_spelling s ++ rest) ≡ (opening_rest (OpensFor h) ++ statement_spelling s) ++ rest = sym (append_assoc (opening_rest (OpensFor h)) (statement_spelling s) rest) in
      subst (λ us. IsAnswer (HasRoom l checked (suc room) blocks_left (For h s)) (headed_of p (statement blocks_left) starts.For h.word us) (For h s, rest)) spelled (headed_again checked room blocks_left (statement blocks_left) (OpensFor h) s f (inner blocks_left) (HasRoom l checked (suc room) blocks_left (For h s))
      (λ w. record { start_nested = omega (arith, w.nested); start_long = omega (arith, w.long); condition = (omega (arith, w.nested), omega (arith, w.long)); step = (omega (arith, w.nested), omega (arith, w.long)) })
      (λ w. record { high = omega (arith, w.high); deep = w.deep; nested = omega (arith, w.nested); long = omega (arith, w.long); forms = w.forms })
      rest rest (For h s, rest) nearest refl)

  pub else_again : (checked : Bool) (room blocks_left : ℕ) (statement : ℕ → Reader StatementTree) (at : Span) (c : ConditionTree) (s : StatementTree) (other : Span) (t : StatementTree) → IsExpression c.value → ends_open s ≡ false → AreAgainAt checked room statement s → AreAgainAt checked room statement t → (rest : List Token) → IsNearest (IfElse at c s other t) rest → IsAnswer (HasRoom l checked (suc room) blocks_left (IfElse at c s other t)) (headed_of p (statement blocks_left) starts.If at ((condition_spelling c ++ statement_spelling s ++ word keywords.Else other ∷ statement_spelling t) ++ rest)) (IfElse at c s other t, rest)
  unfolding headed_of body_after behind_body else_after HasForms
  else_again checked room blocks_left statement at c s other t f closed inner second rest nearest =
      let last : List Token = statement_spelling t ++ rest in
      let behind : List Token = word keywords.Else other ∷ last in
      let us : List Token = statement_spelling s ++ behind in
      let whole : StatementTree = IfElse at c s other t in
      rw (append_assoc, append_assoc) (bind_answer (opening_of p starts.If at (condition_spelling c ++ us)) _ (OpensIf at c, us) (whole, rest) (λ w. record { nested = omega (arith, w.nested); long = omega (arith, w.long) }) (opening_again (OpensIf at c) us f)
      (bind_answer (statement blocks_left us) _ (s, behind) (whole, rest) (λ w. record { high = omega (arith, w.high); deep = omega (arith, w.deep); nested = omega (arith, w.nested); long = omega (arith, w.long); forms = w.forms.0 }) (inner blocks_left behind (λ yes. absurd (differ (sym yes ∙ closed))))
      (rw (take_word_again keywords.Else other last) (bind_answer (statement blocks_left last) _ (t, rest) (whole, rest) (λ w. record { high = omega (arith, w.high); deep = omega (arith, w.deep); nested = omega (arith, w.nested); long = omega (arith, w.long); forms = w.forms.1 }) (second blocks_left rest nearest) (inl refl)))))
    where
      differ : true ≡ false → ⊥
      differ e = absurd cc

  pub do_again : (checked : Bool) (room blocks_left : ℕ) (statement : ℕ → Reader StatementTree) (at : Span) (s : StatementTree) (w : Span) (c : ConditionTree) (e : Span) → IsExpression c.value → AreAgainAt checked room statement s → (rest : List Token) → IsAnswer (HasRoom l checked (suc room) blocks_left (Do at s w c e)) (do_after p (statement blocks_left) at ((statement_spelling s ++ word keywords.While w ∷ (condition_spelling c ++ mark punctuators.Semicolon e ∷ [])) ++ rest)) (Do at s w c e, rest)
  unfolding do_after do_end take_word take same_word HasForms
  do_again checked room blocks_left statement at s w c e f inner rest =
      let last : List Token = mark punctuators.Semicolon e ∷ rest in
      let behind : List Token = word keywords.While w ∷ (condition_spelling c ++ last) in
      let whole : StatementTree = Do at s w c e in
      let spelled : statement_spelling s ++ behind ≡ (statement_spelling s ++ word keywords.While w ∷ (condition_spelling c ++ mark punctuators.Semicolon e ∷ [])) ++ rest = simp append_assoc in
      subst (λ us. IsAnswer (HasRoom l checked (suc room) blocks_left whole) (do_after p (statement blocks_left) at us) (whole, rest)) spelled
      (bind_answer (statement blocks_left (statement_spelling s ++ behind)) _ (s, behind) (whole, rest) (λ v. record { high = omega (arith, v.high); deep = v.deep; nested = omega (arith, v.nested); long = omega (arith, v.long); forms = v.forms }) (inner blocks_left behind (λ yes. refl))
      (rw (word_again keywords.While w (condition_spelling c ++ last)) (bind_answer (condition_at p (condition_spelling c ++ last)) _ (c, last) (whole, rest) (λ v. record { nested = omega (arith, v.nested); long = omega (arith, v.long) }) (condition_again c last f)
      (inl (rw (mark_again punctuators.Semicolon e rest) refl)))))

  pub return_again : (checked : Bool) (room blocks_left : ℕ) (at : Span) (e : Option ExpressionTree) (s : Span) (rest : List Token) → IsOptional e → IsAnswer (HasRoom l checked (suc room) blocks_left (Return at e s)) (return_after p at ((perhaps expression_spelling e ++ mark punctuators.Semicolon s ∷ []) ++ rest)) (Return at e s, rest)
  unfolding return_after
  return_again checked room blocks_left at e s rest f =
      bind_answer (optional_before punctuators.Semicolon p.expression (optional_spelling punctuators.Semicolon (e, s) ++ rest)) _ ((e, s), rest) (Return at e s, rest) (λ w. (omega (arith, w.nested), w.long))
      (optional_again 0 punctuators.Semicolon p.expression (inl refl) again.expression e s rest f)
      (inl refl)

  pub expression_again : (checked : Bool) (room blocks_left : ℕ) (e : ExpressionTree) (s : Span) (rest : List Token) → IsExpression e → IsAnswer (HasRoom l checked (suc room) blocks_left (Expression e s)) (expression_statement_at p (expression_spelling e ++ mark punctuators.Semicolon s ∷ rest)) (Expression e s, rest)
  unfolding expression_statement_at
  expression_again checked room blocks_left e s rest f =
      let behind : List Token = mark punctuators.Semicolon s ∷ rest in
      bind_answer (p.expression (expression_spelling e ++ behind)) _ (e, behind) (Expression e s, rest) (λ w. record { nested = omega (arith, w.nested); long = w.long })
      (again.expression e punctuators.Semicolon s rest (inl refl) f)
      (inl (rw (mark_again punctuators.Semicolon s rest) refl))

  pub jump_again : (jump : Span → StatementTree) (s : Span) (rest : List Token) (Fits : Type 0) → IsAnswer Fits (jump_after jump (mark punctuators.Semicolon s ∷ rest)) (jump s, rest)
  unfolding jump_after
  jump_again jump s rest Fits = inl (rw (mark_again punctuators.Semicolon s rest) refl)

  -- ---- constructs

  pub stand_alone_again : (checked : Bool) (room blocks_left : ℕ) (d : Directive ExpressionTree) (rest : List Token) → IsLine d → IsAnswer (HasRoom l checked room blocks_left (StandAlone d)) (stand_alone_at p.line (directive_spelling expression_spelling d ++ rest)) (StandAlone d, rest)
  unfolding stand_alone_at
  stand_alone_again checked room blocks_left d rest f =
      bind_answer (p.line (directive_spelling expression_spelling d ++ rest)) _ (d, rest) (StandAlone d, rest) (λ w. record { nested = w.nested; long = w.long }) (again.line d rest f) (inl refl)

  -- an `atomic` whose statement is read, by whether it has one of its forms
  atomic_is : (checked : Bool) (room blocks_left : ℕ) (d : Directive ExpressionTree) (s : StatementTree) (rest : List Token) → is_atomic d.name ≡ true → IsAnswer (HasRoom l checked (suc room) blocks_left (Construct d s)) (atomic_of checked d s rest) (Construct d s, rest)
  unfolding atomic_of HasForms
  atomic_is checked room blocks_left d s rest atomic = go (not checked || has_atomic_form (atomic_kind d) s) refl
    where
      go : (b : Bool) → (not checked || has_atomic_form (atomic_kind d) s) ≡ b → IsAnswer {A = StatementTree × List Token} (HasRoom l checked (suc room) blocks_left (Construct d s)) (cond b (ok (Construct d s, rest)) (Err (bad_atomic d))) (Construct d s, rest)
      go true is = inl refl
      go false is = inr (record { fault = bad_atomic d; other = λ e. absurd cc }, refl, λ w. let form : (not checked || has_atomic_form (atomic_kind d) s) ≡ true = subst (λ a. Where a ((not checked || has_atomic_form (atomic_kind d) s) ≡ true) (HasForms checked s)) atomic w.forms in let both : false ≡ true = sym is ∙ form in absurd cc)

  -- a construct behind its line
  construct_after_again : (checked : Bool) (room blocks_left : ℕ) (statement : Bool → Reader StatementTree) (parts : PartsReader) (d : Directive ExpressionTree) (s : StatementTree) → is_sections d.name ≡ false → ((c : Bool) → StatementAgain c room blocks_left (statement c) s) → (rest : List Token) → IsNearest s rest → IsAnswer (HasRoom l checked (suc room) blocks_left (Construct d s)) (construct_after checked statement parts d (statement_spelling s ++ rest)) (Construct d s, rest)
  unfolding construct_after atomic_after constructed_after HasForms
  construct_after_again checked room blocks_left statement parts d s single inner rest nearest = rw single (go (is_atomic d.name) refl)
    where
      us : List Token
      us = statement_spelling s ++ rest

      go : (a : Bool) → is_atomic d.name ≡ a → IsAnswer (HasRoom l checked (suc room) blocks_left (Construct d s)) (cond a (atomic_after checked statement d us) (constructed_after (statement checked) d us)) (Construct d s, rest)
      go true is =
          bind_answer (statement false us) _ (s, rest) (Construct d s, rest) (λ w. record { high = omega (arith, w.high); deep = w.deep; nested = omega (arith, w.nested); long = omega (arith, w.long); forms = no_forms s }) (inner false rest nearest)
          (atomic_is checked room blocks_left d s rest is)
      go false is =
          bind_answer (statement checked us) _ (s, rest) (Construct d s, rest) (λ w. record { high = omega (arith, w.high); deep = w.deep; nested = omega (arith, w.nested); long = omega (arith, w.long); forms = subst (λ a. Where a ((not checked || has_atomic_form (atomic_kind d) s) ≡ true) (HasForms checked s)) is w.forms }) (inner checked rest nearest)
          (inl refl)

  pub construct_again : (checked : Bool) (room blocks_left : ℕ) (statement : Bool → Reader StatementTree) (parts : PartsReader) (d : Directive ExpressionTree) (s : StatementTree) → IsLine d → IsConstruct d.name → ((c : Bool) → StatementAgain c room blocks_left (statement c) s) → (rest : List Token) → IsNearest s rest → IsAnswer (HasRoom l checked (suc room) blocks_left (Construct d s)) (line_of p.line checked statement parts (line_start (directive_spelling expression_spelling d ++ (statement_spelling s ++ rest))) (directive_spelling expression_spelling d ++ (statement_spelling s ++ rest))) (Construct d s, rest)
  unfolding line_of construct_at
  construct_again checked room blocks_left statement parts d s f single inner rest nearest =
      let us : List Token = statement_spelling s ++ rest in
      rw (construct_starts d us single.0 single.1)
      (bind_answer (p.line (directive_spelling expression_spelling d ++ us)) _ (d, us) (Construct d s, rest) (λ w. record { nested = omega (arith, w.nested); long = omega (arith, w.long) }) (again.line d us f)
      (construct_after_again checked room blocks_left statement parts d s single.2 inner rest nearest))

  -- ---- what stands first

  abbrev pub NoElse : List Token → Type 0
  NoElse ts = take_word keywords.Else ts ≡ None

  brace_behind : (e : ExpressionTree) (semicolon : Span) (rest : List Token) → IsExpression e → take_mark punctuators.CloseBrace ((expression_spelling e ++ mark punctuators.Semicolon semicolon ∷ []) ++ rest) ≡ None
  brace_behind e semicolon rest f =
      let behind : List Token = mark punctuators.Semicolon semicolon ∷ rest in
      rw append_assoc (no_mark punctuators.CloseBrace (expression_spelling e ++ behind) (λ other. absurd cc) (expression_starts e behind f))

  else_behind : (e : ExpressionTree) (semicolon : Span) (rest : List Token) → IsExpression e → NoElse ((expression_spelling e ++ mark punctuators.Semicolon semicolon ∷ []) ++ rest)
  else_behind e semicolon rest f =
      let behind : List Token = mark punctuators.Semicolon semicolon ∷ rest in
      rw append_assoc (no_word keywords.Else (expression_spelling e ++ behind) (λ other. absurd cc) (expression_starts e behind f))

  int_behind : (e : ExpressionTree) (semicolon : Span) (rest : List Token) → IsExpression e → take_word keywords.Int ((expression_spelling e ++ mark punctuators.Semicolon semicolon ∷ []) ++ rest) ≡ None
  int_behind e semicolon rest f =
      let behind : List Token = mark punctuators.Semicolon semicolon ∷ rest in
      rw append_assoc (no_word keywords.Int (expression_spelling e ++ behind) (λ other. absurd cc) (expression_starts e behind f))

  -- neither a brace nor an `else` stands first
  pub no_brace : (s : StatementTree) (rest : List Token) → IsStatement s → take_mark punctuators.CloseBrace (statement_spelling s ++ rest) ≡ None
  unfolding statement_spelling IsStatement take_mark take same_mark declaration_spelling for_head_spelling directive_spelling line_opening
  no_brace (LocalDeclaration d) rest f = refl
  no_brace (Block left items right) rest f = refl
  no_brace (Empty semicolon) rest f = refl
  no_brace (Expression e semicolon) rest f = brace_behind e semicolon rest f
  no_brace (If at c s) rest f = refl
  no_brace (IfElse at c s other t) rest f = refl
  no_brace (While at c s) rest f = refl
  no_brace (Do at s w c semicolon) rest f = refl
  no_brace (For h s) rest f = refl
  no_brace (Return at value semicolon) rest f = refl
  no_brace (Break at semicolon) rest f = refl
  no_brace (Continue at semicolon) rest f = refl
  no_brace (Construct d s) rest f = refl
  no_brace (StandAlone d) rest f = refl
  no_brace (Sections d left parts right) rest f = refl

  pub no_else : (s : StatementTree) (rest : List Token) → IsStatement s → NoElse (statement_spelling s ++ rest)
  unfolding statement_spelling IsStatement take_word take same_word declaration_spelling for_head_spelling directive_spelling line_opening
  no_else (LocalDeclaration d) rest f = refl
  no_else (Block left items right) rest f = refl
  no_else (Empty semicolon) rest f = refl
  no_else (Expression e semicolon) rest f = else_behind e semicolon rest f
  no_else (If at c s) rest f = refl
  no_else (IfElse at c s other t) rest f = refl
  no_else (While at c s) rest f = refl
  no_else (Do at s w c semicolon) rest f = refl
  no_else (For h s) rest f = refl
  no_else (Return at value semicolon) rest f = refl
  no_else (Break at semicolon) rest f = refl
  no_else (Continue at semicolon) rest f = refl
  no_else (Construct d s) rest f = refl
  no_else (StandAlone d) rest f = refl
  no_else (Sections d left parts right) rest f = refl

  pub no_int : (s : StatementTree) (rest : List Token) → IsStatement s → IsPartItem s → take_word keywords.Int (statement_spelling s ++ rest) ≡ None
  unfolding statement_spelling IsStatement take_word take same_word for_head_spelling directive_spelling line_opening
  no_int (LocalDeclaration d) rest f b = absurd b
  no_int (Block left items right) rest f b = refl
  no_int (Empty semicolon) rest f b = refl
  no_int (Expression e semicolon) rest f b = int_behind e semicolon rest f
  no_int (If at c s) rest f b = refl
  no_int (IfElse at c s other t) rest f b = refl
  no_int (While at c s) rest f b = refl
  no_int (Do at s w c semicolon) rest f b = refl
  no_int (For h s) rest f b = refl
  no_int (Return at value semicolon) rest f b = refl
  no_int (Break at semicolon) rest f b = refl
  no_int (Continue at semicolon) rest f b = refl
  no_int (Construct d s) rest f b = refl
  no_int (StandAlone d) rest f b = refl
  no_int (Sections d left parts right) rest f b = refl

  pub body_begins : (s : StatementTree) (rest : List Token) → IsStatement s → IsBody s → BeginsBody (line_start (statement_spelling s ++ rest))
  unfolding statement_spelling IsStatement for_head_spelling
  body_begins (LocalDeclaration d) rest f b = absurd b
  body_begins (Block left items right) rest f b = BeginsNoLine
  body_begins (Empty semicolon) rest f b = BeginsNoLine
  body_begins (Expression e semicolon) rest f b =
      let behind : List Token = mark punctuators.Semicolon semicolon ∷ rest in
      rw append_assoc (subst BeginsBody (sym (no_line (expression_spelling e ++ behind) (expression_starts e behind f))) BeginsNoLine)
  body_begins (If at c s) rest f b = BeginsNoLine
  body_begins (IfElse at c s other t) rest f b = BeginsNoLine
  body_begins (While at c s) rest f b = BeginsNoLine
  body_begins (Do at s w c semicolon) rest f b = BeginsNoLine
  body_begins (For h s) rest f b = BeginsNoLine
  body_begins (Return at value semicolon) rest f b = BeginsNoLine
  body_begins (Break at semicolon) rest f b = BeginsNoLine
  body_begins (Continue at semicolon) rest f b = BeginsNoLine
  body_begins (Construct d s) rest f b = rw append_assoc (subst BeginsBody (sym (construct_starts d (statement_spelling s ++ rest) f.1.0 f.1.1)) BeginsConstruct)
  body_begins (StandAlone d) rest f b = absurd b
  body_begins (Sections d left parts right) rest f b =
      let inner : List Token = mark punctuators.OpenBrace left ∷ (parts_spelling parts ++ mark punctuators.CloseBrace right ∷ []) in
      rw append_assoc (subst BeginsBody (sym (sections_starts d (inner ++ rest) f.1)) BeginsConstruct)

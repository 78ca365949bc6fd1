-- The code of a statement does what the statement means.
use Rattle.std.proofs.Common.{◌≡◌, ℕ, suc, ◌+◌, ℤ, pos, Bool, true, false, List, [], ◌∷◌, length, Option, Some, None}
use Rattle.std.proofs.Common.{refl, sym, ap, ◌∙◌, subst, arith}
use Rattle.std.specs.Prelude.{slice_get, All, IfSome, if◌then◌else◌}
use Rattle.std.specs.List.{AllZip, list_any}
use Rattle.std.specs.Str.{bytes_eq}
use Rattle.std.proofs.lemmas.List.Elements.{All-head, All-tail}
use Rattle.om_code.specs.declared.frame.Operand.{Operand}
use Rattle.om_code.specs.declared.instruction.Instr.TheVariants as i
use Rattle.om_code.specs.declared.instruction.Serial.TheVariants as serials
use Rattle.om_code.specs.declared.instruction.Function.TheVariants as calls
use Rattle.om_code.specs.declared.raw.Body.{Body}
use Rattle.om_code.specs.declared.raw.Raw.{Raw}
use Rattle.om_code.specs.Frames as frames
use Rattle.om_code.specs.Frames.{Frame}
use Rattle.om_scope_tree.specs.declared.resolved.LocalVariable.{LocalVariable}
use Rattle.om_scope_tree.specs.declared.resolved.Variable.TheVariants as named
use Rattle.om_scope_tree.specs.ResolvedTree.{ResolvedExpressionTree, Constant, Variable, Element, Call, ThreadNumber}
use Rattle.om_scope_tree.specs.ResolvedTree.{TeamSize, Print, Unary, Binary, Conditional, Assign, AssignElement, Postfix}
use Rattle.om_scope_tree.specs.ResolvedTree.{PostfixElement, ValuesTree, NoValues, Value, ResolvedDeclaratorTree}
use Rattle.om_scope_tree.specs.ResolvedTree.{ResolvedStartTree, StartNothing, StartExpression, StartDeclaration}
use Rattle.om_scope_tree.specs.ResolvedTree.{ResolvedStatementTree, Declaration, Block, Empty, Expression, If, IfElse}
use Rattle.om_scope_tree.specs.ResolvedTree.{While, Do, For, Return, Break, Continue, Region, Loop, Sections}
use Rattle.om_scope_tree.specs.ResolvedTree.{Construct, Update, StandAlone, ResolvedStatementsTree, NoStatements}
use Rattle.om_scope_tree.specs.ResolvedTree.{Statement}
use Rattle.om_lower_rules.specs.Bodies.{Numbers, behind}
use Rattle.om_lower_rules.specs.Expressions.{value_count, constant, value, values, effect}
use Rattle.om_lower_rules.specs.Mentions.{IsTextOf}
use Rattle.om_lower_rules.specs.Operators.{compound_of, step_of}
use Rattle.om_lower_rules.specs.Rows.{Site, end, ins, part, ◌▸◌, given, perhaps, each}
use Rattle.om_lower_rules.specs.Slots.{place, slot}
use Rattle.om_lower_rules.specs.Statements.{Jumps, in_loop, jump, declared, declarator, start, test, returned, statement}
use Rattle.om_lower_rules.specs.Statements.{statements}
use Rattle.om_lower_rules.specs.Tables.{number_in}
use Rattle.om_lower_rules.specs.Meaning as flows
use Rattle.om_lower_rules.specs.Meaning.{is_zero, value_of, values_of, effect_of, Flow, flow_value, then_do, after_turn}
use Rattle.om_lower_rules.specs.Meaning.{turns, turns_first, tested, tested_if_any, effect_flow, effect_if_any}
use Rattle.om_lower_rules.specs.Meaning.{all_declared, begun, meaning, meanings}
use Rattle.om_lower_rules.specs.Running.{frame, with_int, ended, Leads, Comes, Ends, Gives, Drops, JumpsTo, Does}
use Rattle.om_lower_rules.specs.Serial.{IsSerial, AreSerial}
use Rattle.om_lower_rules.specs.MeaningLaws.{layout_of}
use Rattle.om_lower_rules.specs.Worlds.{World, Layout, Outcome, Got, Faulty, Values, GotAll, FaultyAt, after_value}
use Rattle.om_lower_rules.specs.Worlds.{with_first, store, clear, print}
use Rattle.om_lower_rules.proofs.Acting.{store_drops, clear_acts}
use Rattle.om_lower_rules.proofs.Expressions as expressions
use Rattle.om_lower_rules.proofs.Flows as runs
use Rattle.om_lower_rules.proofs.OperatorsAgree.{compounds_agree, steps_agree}
use Rattle.om_lower_rules.proofs.Printing.{with_ints, prints}
use Rattle.om_lower_rules.proofs.Spoken.{IsSpokenEffect, IsSpokenStart, IsSpokenStatement, AreSpoken}
use Rattle.om_lower_rules.proofs.Stepping as steps

module _ (raw : Raw) (body : Body) (at : Site) (same : at.code ≡ body.code) (texts : AllZip IsTextOf at.formats
    raw.texts) where
  abbrev L : Layout
  L = layout_of raw body at.slots

  abbrev pub Run : ℕ → Frame → ℕ → Jumps → List Operand → Flow → Type 0
  Run n c q jumps s r = Does raw body at.is_main n c q jumps s r

  value_gives : (e : ResolvedExpressionTree) (l p q : ℕ) (s : List Operand) (w : World) → IsSerial e → value at l e p q
      → Gives raw body (frame p s w) q s (value_of L e w)
  value_gives e l p q s w g h = expressions.value_means raw body at same e l g p q s w h

  -- ---- the values of `printf`

  abbrev GivesAll : Frame → ℕ → List Operand → ℕ → Values → Type 0
  GivesAll c q s count (GotAll vs w) = (length vs ≡ count) × Comes raw body c (frame q (with_ints vs s) w)
  GivesAll c q s count (FaultyAt f w) = Ends raw body c (frames.Faulted f) w

  more_values : (c : Frame) (q : ℕ) (s : List Operand) (count : ℕ) (v : ℤ) (r : Values)
      → GivesAll c q (with_int v s) count r
      → GivesAll c q s (count + 1) (with_first v r)
  more_values c q s count v (GotAll vs w) g = (omega (arith, g.0), g.1)
  more_values c q s count v (FaultyAt f w) g = g

  comes_all : (c d : Frame) (q : ℕ) (s : List Operand) (count : ℕ) (r : Values) → Leads raw body c d
      → GivesAll d q s count r → GivesAll c q s count r
  comes_all c d q s count (GotAll vs w) l g = (
    g.0,
    runs.comes_on raw body at.is_main c d _
        (runs.comes raw body at.is_main c d l) g.1,
  )
  comes_all c d q s count (FaultyAt f w) l g = steps.leads_end raw body c d _ w l g

  values_then : (c : Frame) (m q : ℕ) (s : List Operand) (count : ℕ) (r : Outcome) (f : ℤ → World → Values)
      → Gives raw body c m s r
      → ((v : ℤ) (u : World) → GivesAll (frame m (with_int v s) u) q s count (f v u)) → GivesAll c q s count
      (after_value r f)
  values_then c m q s count (Got v w) f g h = comes_all c _ q s count (f v w) g (h v w)
  values_then c m q s count (Faulty x w) f g h = g

  values_give : (es : ValuesTree) (l p q : ℕ) (s : List Operand) (w : World) → AreSerial es → values at l es p q
      → GivesAll (frame p s w) q s (value_count es) (values_of L es w)
  values_give NoValues l p q s w g h = (refl, runs.to_place raw body at.is_main p q s w h)
  values_give (Value e rest) l p q s w g h =
      values_then _ h.0 q s (value_count rest + 1) (value_of L e w) (λ v u. with_first v (values_of L rest u))
      (value_gives e l p h.0 s w g.0 h.1)
      (λ v u. more_values _ q s (value_count rest) v (values_of L rest u) (values_give rest l h.0 q (with_int v s) u
      g.1 h.2))

  come_lead : (c d f : Frame) → Comes raw body c d → Leads raw body d f → Leads raw body c f
  come_lead c d f l m = record {
    by = λ k. let b = m.by k in let a = l.by b.0 in (
      a.0,
      omega (arith, a.1, b.1),
      a.2
          ∙ b.2,
    );
  }

  printed_drops : (format : List ℕ) (count l m q : ℕ) (c : Frame) (s : List Operand) (r : Values)
      → list_any (bytes_eq format) at.formats ≡ true
      → GivesAll c m s count r → (ins at l (i.Serial (serials.Print (number_in (bytes_eq format) at.formats) count)) ▸ end) m q
      → Drops raw body c q s (flows.printed format r)
  printed_drops format count l m q c s (GotAll vs w) there g h =
      come_lead c _ _ g.1
      (steps.step raw body m l (i.Serial (serials.Print (number_in (bytes_eq format) at.formats) count)) (with_ints vs s) w _
      (expressions.has raw body at same _ h.0)
      (prints raw body.slots at.formats format vs count m s w texts there g.0
      ∙ ap (λ n. frames.Onward (frame n s (print format vs w))) h.1))
  printed_drops format count l m q c s (FaultyAt f w) there g h = g

  -- ---- expressions whose value nothing uses

  popped : (l m q : ℕ) (c : Frame) (s : List Operand) (r : Outcome) → Gives raw body c m s r
      → (ins at l (i.Serial serials.Pop) ▸ end) m q → Drops raw body c q s r
  popped l m q c s (Got v w) g h =
      steps.leads_on raw body c _ _ g
      (steps.step raw body m l (i.Serial serials.Pop) (with_int v s) w _ (expressions.has raw body at same _ h.0)
      (ap (λ n. frames.Onward (frame n s w)) h.1))
  popped l m q c s (Faulty f w) g h = g

  pub effect_drops : (e : ResolvedExpressionTree) (l p q : ℕ) (s : List Operand) (w : World)
      → IsSpokenEffect at.formats e → effect at l e p q
      → Drops raw body (frame p s w) q s (effect_of L e w)
  effect_drops (Assign x o e) l p q s w g h =
      subst (λ z. Drops raw body (frame p s w) q s (flows.assigned (place at x) z (λ u. value_of L e u) w))
      (sym (compounds_agree o))
      (expressions.assigned_spends raw body at same l x (compound_of o) (value at l e) (λ u. value_of L e u)
      (expressions.value_means raw body at same e l g) p q s w h)
  effect_drops (AssignElement a j o e) l p q s w g h =
      subst (λ z. Drops raw body (frame p s w) q s (flows.element_assigned (place at a) (L.cells (place at a))
      (λ u. value_of L j u) z (λ u. value_of L e u) w)) (sym (compounds_agree o))
      (expressions.element_assigned_spends raw body at same l a (value at l j) (compound_of o) (value at l e)
      (λ u. value_of L j u) (λ u. value_of L e u)
      (expressions.value_means raw body at same j l g.0) (expressions.value_means raw body at same e l g.1) p q s w h)
  effect_drops (Postfix x o) l p q s w g h =
      subst (λ z. Drops raw body (frame p s w) q s (flows.assigned (place at x) (Some z) flows.one w))
      (sym (steps_agree o).0)
      (expressions.assigned_spends raw body at same l x (Some (step_of o)) (constant at l (pos 1)) flows.one
      (expressions.constant_means raw body at same l (pos 1)) p q s w h)
  effect_drops (PostfixElement a j o) l p q s w g h =
      subst (λ z. Drops raw body (frame p s w) q s (flows.element_assigned (place at a) (L.cells (place at a))
      (λ u. value_of L j u) (Some z) flows.one w)) (sym (steps_agree o).0)
      (expressions.element_assigned_spends raw body at same l a (value at l j) (Some (step_of o))
      (constant at l (pos 1)) (λ u. value_of L j u) flows.one
      (expressions.value_means raw body at same j l g) (expressions.constant_means raw body at same l (pos 1)) p q s w h)
  effect_drops (Print format es) l p q s w g h =
      printed_drops format (value_count es) l h.0 q _ s (values_of L es w) g.0 (values_give es l p h.0 s w g.1 h.1) h.2
  effect_drops (Call f es) l p q s w g h = absurd g
  effect_drops ThreadNumber l p q s w g h = absurd g
  effect_drops TeamSize l p q s w g h = absurd g
  effect_drops (Constant n) l p q s w g h = popped l h.0 q _ s (value_of L (Constant n) w)
      (value_gives (Constant n) l p h.0 s w g h.1) h.2
  effect_drops (Variable x) l p q s w g h = popped l h.0 q _ s (value_of L (Variable x) w)
      (value_gives (Variable x) l p h.0 s w g h.1) h.2
  effect_drops (Element a j) l p q s w g h = popped l h.0 q _ s (value_of L (Element a j) w)
      (value_gives (Element a j) l p h.0 s w g h.1) h.2
  effect_drops (Unary o e) l p q s w g h = popped l h.0 q _ s (value_of L (Unary o e) w)
      (value_gives (Unary o e) l p h.0 s w g h.1) h.2
  effect_drops (Binary a o b) l p q s w g h = popped l h.0 q _ s (value_of L (Binary a o b) w)
      (value_gives (Binary a o b) l p h.0 s w g h.1) h.2
  effect_drops (Conditional c a b) l p q s w g h = popped l h.0 q _ s (value_of L (Conditional c a b) w)
      (value_gives (Conditional c a b) l p h.0 s w g h.1) h.2

  effect_runs : (e : ResolvedExpressionTree) (l n p q : ℕ) (jumps : Jumps) (s : List Operand) (w : World)
      → IsSpokenEffect at.formats e → effect at l e p q
      → Run n (frame p s w) q jumps s (effect_flow L e w)
  effect_runs e l n p q jumps s w g h =
      runs.effect_then raw body at.is_main n _ q q jumps s s (effect_of L e w) flows.Onward
      (effect_drops e l p q s w g h) (λ u. runs.stays raw body at.is_main (frame q s u))

  -- ---- heads

  declared_runs : (x : LocalVariable) (e : Option ResolvedExpressionTree) (l n p q : ℕ) (jumps : Jumps)
      (s : List Operand) (w : World) → IfSome e IsSerial
      → declared at l x e p q → Run n (frame p s w) q jumps s (flows.declared L x e w)
  declared_runs x None l n p q jumps s w g h =
      runs.comes raw body at.is_main _ _
      (steps.step raw body p l (i.Serial (serials.Clear (slot at x))) s w _ (expressions.has raw body at same _ h.0)
      (clear_acts raw body.slots (slot at x) p s w ∙ ap (λ m. frames.Onward (frame m s (clear (slot at x) w))) h.1))
  declared_runs x (Some e) l n p q jumps s w g h =
      runs.value_then raw body at.is_main n _ h.0 q jumps s s (value_of L e w)
      (λ v u. flow_value (store (place at (named.Local x.at)) 0 v u) (λ z t. flows.Onward t))
      (value_gives e l p h.0 s w g h.1)
      (λ v u. runs.effect_then raw body at.is_main n _ q q jumps s s (store (place at (named.Local x.at)) 0 v u)
      flows.Onward
      (steps.drops raw body h.0 l q (i.Serial (serials.Store (place at (named.Local x.at)) false)) (with_int v s) s u
      (store (place at (named.Local x.at)) 0 v u)
      (expressions.has raw body at same _ h.2.0) (store_drops raw body.slots (place at (named.Local x.at)) h.0 v s
      u) h.2.1)
      (λ t. runs.stays raw body at.is_main (frame q s t)))

  abbrev IsSerialDeclarator : ResolvedDeclaratorTree → Type 0
  IsSerialDeclarator d = IfSome d.initial IsSerial

  declarators_run : (ds : List ResolvedDeclaratorTree) (l n p q : ℕ) (jumps : Jumps) (s : List Operand) (w : World)
      → All IsSerialDeclarator ds
      → each (declarator at l) ds p q → Run n (frame p s w) q jumps s (all_declared L ds w)
  declarators_run [] l n p q jumps s w g h = runs.to_place raw body at.is_main p q s w h
  declarators_run (d ∷ ds) l n p q jumps s w g h =
      runs.flow_then raw body at.is_main n _ h.0 q jumps s (flows.declared L d.variable d.initial w) (all_declared L ds)
      (declared_runs d.variable d.initial l n p h.0 jumps s w (All-head IsSerialDeclarator d ds g) h.1)
      (λ u. declarators_run ds l n h.0 q jumps s u (All-tail IsSerialDeclarator d ds g) h.2)

  start_runs : (begin : ResolvedStartTree) (l n p q : ℕ) (jumps : Jumps) (s : List Operand) (w : World)
      → IsSpokenStart at.formats begin
      → start at l begin p q → Run n (frame p s w) q jumps s (begun L begin w)
  start_runs StartNothing l n p q jumps s w g h = runs.to_place raw body at.is_main p q s w h
  start_runs (StartExpression e) l n p q jumps s w g h = effect_runs e l n p q jumps s w g h
  start_runs (StartDeclaration ds) l n p q jumps s w g h = declarators_run ds l n p q jumps s w g h

  between_runs : (e : Option ResolvedExpressionTree) (l n p q : ℕ) (jumps : Jumps) (s : List Operand) (w : World)
      → IfSome e (IsSpokenEffect at.formats)
      → perhaps (effect at l) e p q → Run n (frame p s w) q jumps s (effect_if_any L e w)
  between_runs None l n p q jumps s w g h = runs.to_place raw body at.is_main p q s w h
  between_runs (Some e) l n p q jumps s w g h = effect_runs e l n p q jumps s w g h

  -- a test at the head of a loop that ends at `over`
  test_runs : (e : ResolvedExpressionTree) (l start pt over : ℕ) (jumps : Jumps) (s : List Operand) → IsSerial e
      → (part (value at l e) ▸ ins at l (i.Serial (serials.JumpIfZero over)) ▸ end) start pt
      → runs.Tests raw body at.is_main start pt over jumps s (tested (λ u. value_of L e u))
  test_runs e l start pt over jumps s g h n w f go =
      runs.value_then raw body at.is_main n _ h.0 over jumps s s (value_of L e w)
      (λ v u. if is_zero v then flows.Onward u else f u) (value_gives e l start h.0 s w g h.1)
      (λ v u. runs.test_at raw body at.is_main (is_zero v) n _ h.0 over over jumps s u (flows.Onward u) (f u)
      (steps.branches raw body h.0 l over v s u (expressions.has raw body at same _ h.2.0))
      (runs.stays raw body at.is_main (frame over s u))
      (runs.run_from raw body at.is_main n (h.0 + 1) pt over jumps s u (f u) h.2.1 (go u)))

  test_if_any : (c : Option ResolvedExpressionTree) (l start pt over : ℕ) (jumps : Jumps) (s : List Operand)
      → IfSome c IsSerial → perhaps (test at l over) c start pt
      → runs.Tests raw body at.is_main start pt over jumps s (tested_if_any L c)
  test_if_any None l start pt over jumps s g h n w f go = runs.run_from raw body at.is_main n start pt over jumps s
      w (f w) h (go w)
  test_if_any (Some e) l start pt over jumps s g h n w f go = test_runs e l start pt over jumps s g h n w f go

  -- the same, where the test is counted
  test_counts : (e : ResolvedExpressionTree) (l start pt over : ℕ) (jumps : Jumps) (s : List Operand) → IsSerial e
      → (part (value at l e) ▸ ins at l (i.Serial (serials.JumpIfZero over)) ▸ end) start pt → (n : ℕ) (w : World) (f : World → Flow)
      → ((u : World) → Run n (frame pt s u) over jumps s (f u)) → Run (suc n) (frame start s w) over jumps s
      (tested (λ u. value_of L e u) w f)
  test_counts e l start pt over jumps s g h n w f go =
      runs.value_then raw body at.is_main (suc n) _ h.0 over jumps s s (value_of L e w)
      (λ v u. if is_zero v then flows.Onward u else f u) (value_gives e l start h.0 s w g h.1)
      (λ v u. runs.turn_at raw body at.is_main (is_zero v) n _ h.0 over over jumps s u (f u)
      (steps.branches raw body h.0 l over v s u (expressions.has raw body at same _ h.2.0))
      (runs.stays raw body at.is_main (frame over s u))
      (runs.run_from raw body at.is_main n (h.0 + 1) pt over jumps s u (f u) h.2.1 (go u)))

  -- what stands between two turns, and the jump back
  step_back : (e : Option ResolvedExpressionTree) (f : World → Flow) (l n from m start over : ℕ) (jumps : Jumps)
      (s : List Operand) (w : World)
      → IfSome e (IsSpokenEffect at.formats) → perhaps (effect at l) e from m → slice_get at.code m
      ≡ Some (record { instruction = i.Serial (serials.Jump start); line = l })
      → ((u : World) → Run n (frame start s u) over jumps s (f u)) → Run (suc n) (frame from s w) over jumps s
      (then_do (effect_if_any L e w) f)
  step_back e f l n from m start over jumps s w g h back_jump back =
      runs.flow_then raw body at.is_main (suc n) _ m over jumps s (effect_if_any L e w) f
      (between_runs e l (suc n) from m jumps s w g h)
      (λ t. runs.jump_back raw body at.is_main n l m start over jumps s t (f t) (expressions.has raw body at same _
      back_jump) (back t))

  jump_runs : (to : Option ℕ) (l p q : ℕ) (s : List Operand) (w : World) → given to (jump at l) p q
      → JumpsTo raw body (frame p s w) to s w
  jump_runs None l p q s w h = absurd h
  jump_runs (Some to) l p q s w h = runs.comes raw body at.is_main _ _ (steps.jump raw body p l to to s w
      (expressions.has raw body at same _ h.0) refl)

  returned_runs : (b : Bool) (e : Option ResolvedExpressionTree) (l n p q : ℕ) (jumps : Jumps) (s : List Operand)
      (w : World) → IfSome e IsSerial
      → returned at l b e p q → Does raw body b n (frame p s w) q jumps s (flows.returned L e w)
  returned_runs true None l n p q jumps s w g h =
      steps.stop raw body p l (i.Function (calls.Finish false)) s w w (ended true None) (frame p s w)
      (expressions.has raw body at same _ h.0) refl refl refl
  returned_runs false None l n p q jumps s w g h =
      steps.stop raw body p l (i.Function calls.ReturnNothing) s w w (ended false None) (frame p s w)
      (expressions.has raw body at same _ h.0) refl refl refl
  returned_runs true (Some e) l n p q jumps s w g h =
      runs.value_then raw body true n _ h.0 q jumps s s (value_of L e w) (λ v u. flows.Returned (Some v) u)
      (value_gives e l p h.0 s w g h.1)
      (λ v u. steps.stop raw body h.0 l (i.Function (calls.Finish true)) (with_int v s) u u (ended true (Some v))
      (frame h.0 (with_int v s) u) (expressions.has raw body at same _ h.2.0) refl refl refl)
  returned_runs false (Some e) l n p q jumps s w g h =
      runs.value_then raw body false n _ h.0 q jumps s s (value_of L e w) (λ v u. flows.Returned (Some v) u)
      (value_gives e l p h.0 s w g h.1)
      (λ v u. steps.stop raw body h.0 l (i.Function calls.Return) (with_int v s) u u (ended false (Some v))
      (frame h.0 (with_int v s) u) (expressions.has raw body at same _ h.2.0) refl refl refl)

  -- ---- statements

  mutual
    pub statement_runs : (x : ResolvedStatementTree) (m : Numbers) (n : ℕ) (jumps : Jumps) (p q : ℕ)
        (s : List Operand) (w : World) → IsSpokenStatement at.formats x
        → statement at m x jumps p q → Run n (frame p s w) q jumps s (meaning L x n w)
    statement_runs (Declaration first ds) m n jumps p q s w g h = declarators_run ds first.line n p q jumps s w g h
    statement_runs (Block first items) m n jumps p q s w g h = statements_run items m n jumps p q s w g h
    statement_runs (Empty first) m n jumps p q s w g h = runs.to_place raw body at.is_main p q s w h
    statement_runs (Expression first e) m n jumps p q s w g h = effect_runs e first.line n p q jumps s w g h
    statement_runs (If first c y) m n jumps p q s w g h =
        let a = h.1 in let b = a.2.1 in
        runs.value_then raw body at.is_main n _ a.0 q jumps s s (value_of L c w)
        (λ v u. if is_zero v then flows.Onward u else meaning L y n u)
        (value_gives c first.line p a.0 s w g.0 a.1)
        (λ v u. runs.test_at raw body at.is_main (is_zero v) n _ a.0 h.0 q jumps s u (flows.Onward u) (meaning L y n u)
        (steps.branches raw body a.0 first.line h.0 v s u (expressions.has raw body at same _ a.2.0))
        (runs.to_place raw body at.is_main h.0 q s u (b.2.0 ∙ b.2.1))
        (runs.run_to raw body at.is_main n _ b.0 q jumps s (meaning L y n u) b.2.1
        (statement_runs y m n jumps (a.0 + 1) b.0 s u g.1 b.1)))
    statement_runs (IfElse first c y z) m n jumps p q s w g h =
        let a = h.2 in let b = a.2.1 in let d = b.2.1.1 in
        runs.value_then raw body at.is_main n _ a.0 q jumps s s (value_of L c w) (λ v u. if is_zero v then meaning L
        z n u else meaning L y n u)
        (value_gives c first.line p a.0 s w g.0 a.1)
        (λ v u. runs.test_at raw body at.is_main (is_zero v) n _ a.0 h.0 q jumps s u (meaning L z n u) (meaning L y n u)
        (steps.branches raw body a.0 first.line h.0 v s u (expressions.has raw body at same _ a.2.0))
        (runs.run_from raw body at.is_main n h.0 (b.0 + 1) q jumps s u (meaning L z n u) b.2.1.0
        (runs.run_to raw body at.is_main n _ d.0 q jumps s (meaning L z n u) d.2.1
        (statement_runs z (behind m y) n jumps (b.0 + 1) d.0 s u g.2 d.1)))
        (runs.then_jump raw body at.is_main n _ b.0 q jumps first.line h.1 s (meaning L y n u)
        (expressions.has raw body at same _ b.2.0) (d.2.0 ∙ d.2.1)
        (statement_runs y m n jumps (a.0 + 1) b.0 s u g.1 b.1)))
    statement_runs (While first c y) m n jumps p q s w g h =
        let start = h.0 in let over = h.1 in let r = h.2.1 in let b = r.2.1 in
        runs.run_to raw body at.is_main n _ over q jumps s (meaning L (While first c y) n w) (b.2.1.0 ∙ b.2.1.1)
        (runs.run_from raw body at.is_main n p start over jumps s w (meaning L (While first c y) n w) (sym h.2.0)
        (runs.loop_run raw body at.is_main n start over jumps s (tested (λ u. value_of L c u))
        (λ u. meaning L y n u) flows.Onward
        (λ k f le back u.
        test_counts c first.line start (r.0 + 1) over jumps s g.0
        (subst (λ z. (part (value at first.line c) ▸ ins at first.line (i.Serial (serials.JumpIfZero over)) ▸ end) z (r.0 + 1))
        (sym h.2.0) (r.0, r.1, (r.2.0, refl)))
        k u (λ t. after_turn (meaning L y n t) f)
        (λ t. runs.after_body raw body at.is_main k n _ b.0 over start jumps s (meaning L y n t) f (omega (arith, le))
        (statement_runs y m n (in_loop over start) (r.0 + 1) b.0 s t g.1 b.1)
        (λ v. runs.comes_run raw body at.is_main k _ _ over jumps s (f v)
        (runs.comes raw body at.is_main _ _ (steps.jump raw body b.0 first.line start start s v
        (expressions.has raw body at same _ b.2.0) refl)) (back v))
        back))
        n (omega arith) w))
    statement_runs (Do first y c) m n jumps p q s w g h =
        let start = h.0 in let next = h.1 in let over = h.2 in let b = h.3.1 in let r = b.2.1 in
        runs.run_to raw body at.is_main n _ over q jumps s (meaning L (Do first y c) n w) (r.2.1.1.0 ∙ r.2.1.1.1)
        (runs.run_from raw body at.is_main n p start over jumps s w (meaning L (Do first y c) n w) (sym h.3.0)
        (runs.first_run raw body at.is_main n start b.0 next over jumps s (tested (λ u. value_of L c u))
        (λ u. meaning L y n u)
        (λ u. runs.run_from raw body at.is_main n start p b.0 (in_loop over next) s u (meaning L y n u) h.3.0
        (statement_runs y m n (in_loop over next) p b.0 s u g.0 b.1))
        b.2.0
        (λ k u f back. runs.run_from raw body at.is_main (suc k) next b.0 over jumps s u
        (tested (λ t. value_of L c t) u f) b.2.0
        (test_runs c first.line b.0 (r.0 + 1) over jumps s g.1 (r.0, r.1, (r.2.0, refl)) (suc k) u f
        (λ t. runs.jump_back raw body at.is_main k first.line (r.0 + 1) start over jumps s t (f t)
        (expressions.has raw body at same _ r.2.1.0) (back t))))
        n (omega arith) w))
    statement_runs (For first begin c step y) m n jumps p q s w g h =
        let start = h.0 in let next = h.1 in let over = h.2 in let a = h.3 in let r = a.2.1 in let b = r.2 in
        let j = b.2.1 in
        runs.run_to raw body at.is_main n _ over q jumps s (meaning L (For first begin c step y) n w)
        (j.2.1.0 ∙ j.2.1.1)
        (runs.flow_then raw body at.is_main n _ a.0 over jumps s (begun L begin w)
        (turns n (tested_if_any L c) (λ u. meaning L y n u) (effect_if_any L step))
        (start_runs begin first.line n p a.0 jumps s w g.0 a.1)
        (λ v. runs.run_from raw body at.is_main n a.0 start over jumps s v
        (turns n (tested_if_any L c) (λ u. meaning L y n u) (effect_if_any L step) v) (sym a.2.0)
        (runs.loop_run raw body at.is_main n start over jumps s (tested_if_any L c) (λ u. meaning L y n u)
        (effect_if_any L step)
        (λ k f le back u.
        test_if_any c first.line start r.0 over jumps s g.1 (subst (λ z. perhaps (test at first.line over) c z r.0)
        (sym a.2.0) r.1)
        (suc k) u (λ t. after_turn (meaning L y n t) (λ v. then_do (effect_if_any L step v) f))
        (λ t. runs.after_body raw body at.is_main (suc k) n _ b.0 over next jumps s (meaning L y n t)
        (λ v. then_do (effect_if_any L step v) f) le
        (statement_runs y m n (in_loop over next) r.0 b.0 s t g.3 b.1)
        (λ v. step_back step f first.line k b.0 j.0 start over jumps s v g.2 j.1 j.2.0 back)
        (λ v. runs.run_from raw body at.is_main (suc k) next b.0 over jumps s v (then_do (effect_if_any L step v) f)
        b.2.0
        (step_back step f first.line k b.0 j.0 start over jumps s v g.2 j.1 j.2.0 back))))
        n (omega arith) v)))
    statement_runs (Return first e) m n jumps p q s w g h = returned_runs at.is_main e first.line n p q jumps s w g h
    statement_runs (Break first) m n jumps p q s w g h = jump_runs jumps.over first.line p q s w h
    statement_runs (Continue first) m n jumps p q s w g h = jump_runs jumps.next first.line p q s w h
    statement_runs (Region first kind clauses captures y) m n jumps p q s w g h = absurd g
    statement_runs (Loop first clauses nowait l y) m n jumps p q s w g h = absurd g
    statement_runs (Sections first clauses nowait parts) m n jumps p q s w g h = absurd g
    statement_runs (Construct first kind clauses y) m n jumps p q s w g h = absurd g
    statement_runs (Update first u) m n jumps p q s w g h = absurd g
    statement_runs (StandAlone first directive) m n jumps p q s w g h = absurd g

    pub statements_run : (xs : ResolvedStatementsTree) (m : Numbers) (n : ℕ) (jumps : Jumps) (p q : ℕ)
        (s : List Operand) (w : World) → AreSpoken at.formats xs
        → statements at m xs jumps p q → Run n (frame p s w) q jumps s (meanings L xs n w)
    statements_run NoStatements m n jumps p q s w g h = runs.to_place raw body at.is_main p q s w h
    statements_run (Statement x xs) m n jumps p q s w g h =
        runs.flow_then raw body at.is_main n _ h.0 q jumps s (meaning L x n w) (λ u. meanings L xs n u)
        (statement_runs x m n jumps p h.0 s w g.0 h.1)
        (λ u. statements_run xs (behind m x) n jumps h.0 q s u g.1 h.2)

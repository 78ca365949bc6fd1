-- The code of an expression does what the expression means.
use Rattle.std.proofs.Common.{◌≡◌, ℕ, ◌+◌, ℤ, pos, Bool, true, false, List, Option, Some, None, refl, sym, ap, ◌∙◌}
use Rattle.std.proofs.Common.{subst}
use Rattle.std.specs.Prelude.{slice_get, not, option_map, if◌then◌else◌}
use Rattle.om_code.specs.declared.frame.Operand.{Operand}
use Rattle.om_code.specs.declared.instruction.BinaryOperator as machine
use Rattle.om_code.specs.declared.instruction.Instr.{Instr}
use Rattle.om_code.specs.declared.instruction.Instr.TheVariants as i
use Rattle.om_code.specs.declared.instruction.Serial.TheVariants as serials
use Rattle.om_code.specs.declared.instruction.UnaryOperator.TheVariants as unary
use Rattle.om_code.specs.declared.raw.Body.{Body}
use Rattle.om_code.specs.declared.raw.Raw.{Raw}
use Rattle.om_code.specs.Arithmetic.{operate}
use Rattle.om_code.specs.Frames as frames
use Rattle.om_code.specs.Frames.{Frame, cells_in}
use Rattle.om_scope_tree.specs.declared.resolved.UnaryOperator.{UnaryOperator}
use Rattle.om_scope_tree.specs.declared.resolved.UnaryOperator.TheVariants as unaries
use Rattle.om_scope_tree.specs.declared.resolved.Variable as variables
use Rattle.om_scope_tree.specs.ResolvedTree.{ResolvedExpressionTree, Constant, Variable, Element, Call, ThreadNumber}
use Rattle.om_scope_tree.specs.ResolvedTree.{TeamSize, Print, Unary, Binary, Conditional, Assign, AssignElement, Postfix}
use Rattle.om_scope_tree.specs.ResolvedTree.{PostfixElement}
use Rattle.om_lower_rules.specs.Expressions.{constant, unary_row, binary_row, conditional_row, assigned, element_assigned}
use Rattle.om_lower_rules.specs.Expressions.{stepped_back, value}
use Rattle.om_lower_rules.specs.Operators.{BinaryForm, Both, Either, Plain, form_of, compound_of, step_of, inverse_step_of}
use Rattle.om_lower_rules.specs.SourceOperators.{Operation, one_if, form_meaning}
use Rattle.om_lower_rules.specs.Rows.{Site, Row, end, ins, part, here, ◌▸◌}
use Rattle.om_lower_rules.specs.Slots.{place}
use Rattle.om_lower_rules.specs.Meaning as means
use Rattle.om_lower_rules.specs.Meaning.{is_zero, truth_of, unary_value, binary_value, load_element, store_element}
use Rattle.om_lower_rules.specs.Meaning.{value_of}
use Rattle.om_lower_rules.specs.Running.{frame, with_int, Leads, Gives, Drops}
use Rattle.om_lower_rules.specs.Serial.{IsSerial}
use Rattle.om_lower_rules.specs.Worlds.{World, Outcome, Got, Faulty, with_value, result, load, store}
use Rattle.om_lower_rules.specs.MeaningLaws.{layout_of}
use Rattle.om_lower_rules.proofs.Acting.{Pushed, turn_on, unary_acts, binary_acts, load_acts, load_element_acts}
use Rattle.om_lower_rules.proofs.Acting.{store_keeps, store_drops}
use Rattle.om_lower_rules.proofs.Acting.{store_element_keeps, store_element_drops}
use Rattle.om_lower_rules.proofs.OperatorsAgree.{binaries_agree, unaries_agree, compounds_agree, step_pair}
use Rattle.om_lower_rules.proofs.Stepping as steps

module _ (raw : Raw) (body : Body) (at : Site) (same : at.code ≡ body.code) where
  -- the code of a row has this outcome on any operands
  abbrev pub Means : Row → (World → Outcome) → Type 0
  Means r f = (p q : ℕ) (s : List Operand) (w : World) → r p q → Gives raw body (frame p s w) q s (f w)

  -- the same, where it leaves no value
  abbrev pub Spends : Row → (World → Outcome) → Type 0
  Spends r f = (p q : ℕ) (s : List Operand) (w : World) → r p q → Drops raw body (frame p s w) q s (f w)

  pub has : (p : ℕ) {l : ℕ} {x : Instr} → slice_get at.code p ≡ Some (record { instruction = x; line = l })
      → steps.Has raw body p l x
  has p {l} {x} e = ap (λ z. slice_get z p) (sym same) ∙ e

  pub constant_means : (l : ℕ) (n : ℤ) → Means (constant at l n) (λ w. Got n w)
  constant_means l n p q s w h = steps.pushes raw body p l q (i.Serial (serials.Constant n)) s s w (Got n w) (has _ h.0) refl h.1

  same_outcome : (c : Frame) (q : ℕ) (s : List Operand) (r : Outcome) → Gives raw body c q s r → Gives raw body c q
      s (with_value r (λ v w. Got v w))
  same_outcome c q s (Got v w) g = g
  same_outcome c q s (Faulty f w) g = g

  unary_means : (l : ℕ) (o : UnaryOperator) (a : Row) (f : World → Outcome) → Means a f
      → Means (unary_row at l o a) (λ w. with_value (f w) (λ v u. unary_value o v u))
  unary_means l unaries.Plus a f ha p q s w h = same_outcome _ q s (f w) (ha p q s w h)
  unary_means l unaries.Negate a f ha p q s w h =
      steps.gives_then raw body _ h.0 q s s (f w) (λ v u. unary_value unaries.Negate v u) (ha p h.0 s w h.1)
      (λ v u. steps.pushes raw body h.0 l q (i.Serial (serials.Unary unary.Negate)) (with_int v s) s u
      (unary_value unaries.Negate v u) (has _ h.2.0)
      (subst (λ r. Pushed (turn_on raw body.slots (i.Serial (serials.Unary unary.Negate)) h.0 (with_int v s) u) (h.0 + 1) s
      (result r u)) (sym (unaries_agree v).0) (unary_acts raw body.slots unary.Negate h.0 v s u)) h.2.1)
  unary_means l unaries.Not a f ha p q s w h =
      steps.gives_then raw body _ h.0 q s s (f w) (λ v u. unary_value unaries.Not v u) (ha p h.0 s w h.1)
      (λ v u. steps.pushes raw body h.0 l q (i.Serial (serials.Unary unary.Not)) (with_int v s) s u (unary_value unaries.Not v u)
      (has _ h.2.0)
      (subst (λ r. Pushed (turn_on raw body.slots (i.Serial (serials.Unary unary.Not)) h.0 (with_int v s) u) (h.0 + 1) s
      (result r u)) (sym (unaries_agree v).1) (unary_acts raw body.slots unary.Not h.0 v s u)) h.2.1)

  -- ---- `&&`, `||` and `? :`

  -- 1 unless the operand is 0
  abbrev TruthRow : ℕ → ℕ → ℕ → Row
  TruthRow l f e =
      ins at l (i.Serial (serials.JumpIfZero f)) ▸ ins at l (i.Serial (serials.Constant (pos 1))) ▸ ins at l (i.Serial (serials.Jump e)) ▸ here f ▸ ins at l
      (i.Serial (serials.Constant (pos 0))) ▸ here e ▸ end

  truth_at : (b : Bool) (l f e p q : ℕ) (c : Frame) (s : List Operand) (w : World) → TruthRow l f e p q
      → Leads raw body c (frame (if b then f else p + 1) s w) → Leads raw body c
      (frame q (with_int (one_if (not b)) s) w)
  truth_at true l f e p q c s w h go =
      steps.leads_on raw body c _ _ go
      (steps.leads_from raw body f _ s w _ h.1.1.1.0
      (steps.step raw body _ l (i.Serial (serials.Constant (pos 0))) s w _ (has _ h.1.1.1.1.0)
      (ap (λ n. frames.Onward (frame n (with_int (pos 0) s) w)) h.1.1.1.1.1.1)))
  truth_at false l f e p q c s w h go =
      steps.leads_on raw body c _ _ go
      (steps.leads_on raw body _ _ _ (steps.step raw body (p + 1) l (i.Serial (serials.Constant (pos 1))) s w _ (has _ h.1.0) refl)
      (steps.jump raw body _ l e q _ w (has _ h.1.1.0) (h.1.1.1.1.1.0 ∙ h.1.1.1.1.1.1)))

  -- a value, and then its truth
  truth_run : (l f e m q : ℕ) (c : Frame) (s : List Operand) (r : Outcome) → TruthRow l f e m q → Gives raw body c m s r
      → Gives raw body c q s (with_value r (λ y t. Got (truth_of y) t))
  truth_run l f e m q c s r h g =
      steps.gives_then raw body c m q s s r (λ y t. Got (truth_of y) t) g
      (λ y t. truth_at (is_zero y) l f e m q _ s t h (steps.branches raw body m l f y s t (has _ h.0)))

  both_at : (b : Bool) (l f e m q : ℕ) (s : List Operand) (w : World) (c : Frame) (n : ℕ) (r : Outcome)
      → TruthRow l f e n q
      → Leads raw body c (frame (if b then f else m + 1) s w) → Gives raw body (frame (m + 1) s w) n s r
      → Gives raw body c q s (if b then Got (pos 0) w else with_value r (λ y t. Got (truth_of y) t))
  both_at true l f e m q s w c n r h go g = truth_at true l f e n q c s w h go
  both_at false l f e m q s w c n r h go g =
      steps.leads_gives raw body c _ q s (with_value r (λ y t. Got (truth_of y) t)) go (truth_run l f e n q _ s r h g)

  either_at : (b : Bool) (l z f e m q : ℕ) (s : List Operand) (w : World) (c : Frame) (n : ℕ) (r : Outcome)
      → TruthRow l f e n q
      → steps.Has raw body (m + 1) l (i.Serial (serials.Constant (pos 1))) → steps.Has raw body (m + 1 + 1) l (i.Serial (serials.Jump e)) → z
      ≡ m + 1 + 1 + 1
      → Leads raw body c (frame (if b then z else m + 1) s w) → Gives raw body (frame (m + 1 + 1 + 1) s w) n s r
      → Gives raw body c q s (if b then with_value r (λ y t. Got (truth_of y) t) else Got (pos 1) w)
  either_at true l z f e m q s w c n r h one over at_z go g =
      steps.leads_gives raw body c _ q s (with_value r (λ y t. Got (truth_of y) t)) go
      (steps.gives_from raw body z _ q s s w (with_value r (λ y t. Got (truth_of y) t)) at_z
      (truth_run l f e n q _ s r h g))
  either_at false l z f e m q s w c n r h one over at_z go g =
      steps.leads_on raw body c _ _ go
      (steps.leads_on raw body _ _ _ (steps.step raw body (m + 1) l (i.Serial (serials.Constant (pos 1))) s w _ one refl)
      (steps.jump raw body _ l e q _ w over (h.1.1.1.1.1.0 ∙ h.1.1.1.1.1.1)))

  choice_at : (b : Bool) (l f e m n q : ℕ) (s : List Operand) (w : World) (c : Frame) (ra rb : Outcome)
      → Leads raw body c (frame (if b then f else m + 1) s w) → Gives raw body (frame (m + 1) s w) n s ra
      → steps.Has raw body n l (i.Serial (serials.Jump e)) → e ≡ q
      → f ≡ n + 1 → Gives raw body (frame (n + 1) s w) q s rb → Gives raw body c q s (if b then rb else ra)
  choice_at true l f e m n q s w c ra rb go ga over ee fe gb = steps.leads_gives raw body c _ q s rb go
      (steps.gives_from raw body f _ q s s w rb fe gb)
  choice_at false l f e m n q s w c (Got v u) rb go ga over ee fe gb =
      steps.leads_on raw body c _ _ go (steps.leads_on raw body _ _ _ ga (steps.jump raw body n l e q _ u over ee))
  choice_at false l f e m n q s w c (Faulty x u) rb go ga over ee fe gb = steps.leads_end raw body c _ _ u go ga

  binary_means : (l : ℕ) (form : BinaryForm) (a b : Row) (f g : World → Outcome) → Means a f → Means b g
      → Means (binary_row at l form a b) (λ w. binary_value (form_meaning form) (f w) g)
  binary_means l Both a b f g ha hb p q s w h =
      steps.gives_then raw body _ h.2.0 q s s (f w) (λ x u. if is_zero x then Got (pos 0) u else with_value (g u)
      (λ y t. Got (truth_of y) t)) (ha p h.2.0 s w h.2.1)
      (λ x u. both_at (is_zero x) l h.0 h.1 h.2.0 q s u _ h.2.2.1.0 (g u) h.2.2.1.2
      (steps.branches raw body _ l h.0 x s u (has _ h.2.2.0)) (hb _ _ s u h.2.2.1.1))
  binary_means l Either a b f g ha hb p q s w h =
      steps.gives_then raw body _ h.3.0 q s s (f w) (λ x u. if is_zero x then with_value (g u)
      (λ y t. Got (truth_of y) t) else Got (pos 1) u) (ha p h.3.0 s w h.3.1)
      (λ x u. either_at (is_zero x) l h.0 h.1 h.2 h.3.0 q s u _ h.3.2.1.1.1.1.0 (g u) h.3.2.1.1.1.1.2
      (has _ h.3.2.1.0) (has _ h.3.2.1.1.0) h.3.2.1.1.1.0
      (steps.branches raw body _ l h.0 x s u (has _ h.3.2.0)) (hb _ _ s u h.3.2.1.1.1.1.1))
  binary_means l (Plain o) a b f g ha hb p q s w h =
      steps.gives_then raw body _ h.0 q s s (f w) (λ x u. with_value (g u) (λ y t. result (operate o x y) t))
      (ha p h.0 s w h.1)
      (λ x u. steps.gives_then raw body _ h.2.0 q (with_int x s) s (g u) (λ y t. result (operate o x y) t)
      (hb h.0 h.2.0 (with_int x s) u h.2.1)
      (λ y t. steps.pushes raw body _ l q (i.Serial (serials.Binary o)) (with_int y (with_int x s)) s t (result (operate o x y) t)
      (has _ h.2.2.0) (binary_acts raw body.slots o h.2.0 x y s t) h.2.2.1))

  conditional_means : (l : ℕ) (c a b : Row) (fc fa fb : World → Outcome) → Means c fc → Means a fa → Means b fb
      → Means (conditional_row at l c a b) (λ w. with_value (fc w) (λ v u. if is_zero v then fb u else fa u))
  conditional_means l c a b fc fa fb hc ha hb p q s w h =
      steps.gives_then raw body _ h.2.0 q s s (fc w) (λ v u. if is_zero v then fb u else fa u) (hc p h.2.0 s w h.2.1)
      (λ x u. choice_at (is_zero x) l h.0 h.1 h.2.0 h.2.2.1.0 q s u _ (fa u) (fb u)
      (steps.branches raw body _ l h.0 x s u (has _ h.2.2.0)) (ha _ _ s u h.2.2.1.1) (has _ h.2.2.1.2.0)
      (h.2.2.1.2.1.1.2.0 ∙ h.2.2.1.2.1.1.2.1) h.2.2.1.2.1.0
      (steps.gives_to raw body _ _ q s (fb u) h.2.2.1.2.1.1.2.1 (hb _ _ s u h.2.2.1.2.1.1.1)))

  -- ---- assignments

  assigned_means : (l : ℕ) (x : variables.Variable) (o : Option machine.BinaryOperator) (e : Row)
      (f : World → Outcome) → Means e f
      → Means (assigned at l true x o e) (λ w. means.assigned (place at x) (option_map operate o) f w)
  assigned_means l x None e f he p q s w h =
      steps.gives_then raw body _ h.0 q s s (f w) (λ v u. store (place at x) 0 v u) (he p h.0 s w h.1)
      (λ v u. steps.pushes raw body _ l q (i.Serial (serials.Store (place at x) true)) (with_int v s) s u (store (place at x) 0 v u)
      (has _ h.2.0) (store_keeps raw body.slots (place at x) h.0 v s u) h.2.1)
  assigned_means l x (Some o) e f he p q s w h =
      steps.gives_then raw body _ (p + 1) q s s (load (place at x) 0 w)
      (λ y u. with_value (f u) (λ z t. with_value (result (operate o y z) t) (λ v r. store (place at x) 0 v r)))
      (steps.pushes raw body p l (p + 1) (i.Serial (serials.Load (place at x))) s s w (load (place at x) 0 w) (has _ h.0)
      (load_acts raw body.slots (place at x) p s w) refl)
      (λ y u. steps.gives_then raw body _ h.1.0 q (with_int y s) s (f u)
      (λ z t. with_value (result (operate o y z) t) (λ v r. store (place at x) 0 v r))
      (he (p + 1) h.1.0 (with_int y s) u h.1.1)
      (λ z t. steps.gives_then raw body _ (h.1.0 + 1) q s s (result (operate o y z) t) (λ v r. store (place at x) 0 v r)
      (steps.pushes raw body h.1.0 l (h.1.0 + 1) (i.Serial (serials.Binary o)) (with_int z (with_int y s)) s t
      (result (operate o y z) t) (has _ h.1.2.0) (binary_acts raw body.slots o h.1.0 y z s t) refl)
      (λ v r. steps.pushes raw body _ l q (i.Serial (serials.Store (place at x) true)) (with_int v s) s r (store (place at x) 0 v r)
      (has _ h.1.2.1.0)
      (store_keeps raw body.slots (place at x) (h.1.0 + 1) v s r) h.1.2.1.1)))

  pub assigned_spends : (l : ℕ) (x : variables.Variable) (o : Option machine.BinaryOperator) (e : Row)
      (f : World → Outcome) → Means e f
      → Spends (assigned at l false x o e) (λ w. means.assigned (place at x) (option_map operate o) f w)
  assigned_spends l x None e f he p q s w h =
      steps.drops_then raw body _ h.0 q s s (f w) (λ v u. store (place at x) 0 v u) (he p h.0 s w h.1)
      (λ v u. steps.drops raw body _ l q (i.Serial (serials.Store (place at x) false)) (with_int v s) s u (store (place at x) 0 v u)
      (has _ h.2.0) (store_drops raw body.slots (place at x) h.0 v s u) h.2.1)
  assigned_spends l x (Some o) e f he p q s w h =
      steps.drops_then raw body _ (p + 1) q s s (load (place at x) 0 w)
      (λ y u. with_value (f u) (λ z t. with_value (result (operate o y z) t) (λ v r. store (place at x) 0 v r)))
      (steps.pushes raw body p l (p + 1) (i.Serial (serials.Load (place at x))) s s w (load (place at x) 0 w) (has _ h.0)
      (load_acts raw body.slots (place at x) p s w) refl)
      (λ y u. steps.drops_then raw body _ h.1.0 q (with_int y s) s (f u)
      (λ z t. with_value (result (operate o y z) t) (λ v r. store (place at x) 0 v r))
      (he (p + 1) h.1.0 (with_int y s) u h.1.1)
      (λ z t. steps.drops_then raw body _ (h.1.0 + 1) q s s (result (operate o y z) t) (λ v r. store (place at x) 0 v r)
      (steps.pushes raw body h.1.0 l (h.1.0 + 1) (i.Serial (serials.Binary o)) (with_int z (with_int y s)) s t
      (result (operate o y z) t) (has _ h.1.2.0) (binary_acts raw body.slots o h.1.0 y z s t) refl)
      (λ v r. steps.drops raw body _ l q (i.Serial (serials.Store (place at x) false)) (with_int v s) s r (store (place at x) 0 v r)
      (has _ h.1.2.1.0)
      (store_drops raw body.slots (place at x) (h.1.0 + 1) v s r) h.1.2.1.1)))

  abbrev Cells : variables.Variable → ℕ
  Cells a = cells_in raw body.slots (place at a)

  -- what is left to do of a compound assignment to an element behind its index
  abbrev compound : variables.Variable → machine.BinaryOperator → (World → Outcome) → ℤ → World → Outcome
  compound a o f n u =
      with_value (load_element (place at a) (Cells a) n u) (λ y t. with_value (f t) (λ z r.
      with_value (result (operate o y z) r) (λ v d. store_element (place at a) (Cells a) n v d)))

  element_assigned_means : (l : ℕ) (a : variables.Variable) (j : Row) (o : Option machine.BinaryOperator) (e : Row)
      (fj f : World → Outcome) → Means j fj → Means e f
      → Means (element_assigned at l true a j o e) (λ w. means.element_assigned (place at a) (Cells a) fj (option_map operate o) f w)
  element_assigned_means l a j None e fj f hj he p q s w h =
      steps.gives_then raw body _ h.0 q s s (fj w)
      (λ n u. with_value (f u) (λ v t. store_element (place at a) (Cells a) n v t)) (hj p h.0 s w h.1)
      (λ n u. steps.gives_then raw body _ h.2.0 q (with_int n s) s (f u) (λ v t. store_element (place at a)
      (Cells a) n v t) (he h.0 h.2.0 (with_int n s) u h.2.1)
      (λ v t. steps.pushes raw body _ l q (i.Serial (serials.StoreElement (place at a) true)) (with_int v (with_int n s)) s t
      (store_element (place at a) (Cells a) n v t) (has _ h.2.2.0)
      (store_element_keeps raw body.slots (place at a) h.2.0 n v s t) h.2.2.1))
  element_assigned_means l a j (Some o) e fj f hj he p q s w h =
      let b = h.2.1.1 in
      steps.gives_then raw body _ h.0 q s s (fj w) (compound a o f) (hj p h.0 s w h.1)
      (λ n u. steps.leads_gives raw body _ _ q s (compound a o f n u) (steps.step raw body h.0 l (i.Serial serials.Duplicate)
      (with_int n s) u _ (has _ h.2.0) refl)
      (steps.gives_then raw body _ (h.0 + 1 + 1) q (with_int n s) s (load_element (place at a) (Cells a) n u)
      (λ y t. with_value (f t) (λ z r. with_value (result (operate o y z) r) (λ v d. store_element (place at a)
      (Cells a) n v d)))
      (steps.pushes raw body _ l (h.0 + 1 + 1) (i.Serial (serials.LoadElement (place at a))) (with_int n (with_int n s))
      (with_int n s) u (load_element (place at a) (Cells a) n u) (has _ h.2.1.0)
      (load_element_acts raw body.slots (place at a) (h.0 + 1) n (with_int n s) u) refl)
      (λ y t. steps.gives_then raw body _ b.0 q (with_int y (with_int n s)) s (f t)
      (λ z r. with_value (result (operate o y z) r) (λ v d. store_element (place at a) (Cells a) n v d))
      (he (h.0 + 1 + 1) b.0 (with_int y (with_int n s)) t b.1)
      (λ z r. steps.gives_then raw body _ (b.0 + 1) q (with_int n s) s (result (operate o y z) r)
      (λ v d. store_element (place at a) (Cells a) n v d)
      (steps.pushes raw body _ l (b.0 + 1) (i.Serial (serials.Binary o)) (with_int z (with_int y (with_int n s))) (with_int n s) r
      (result (operate o y z) r) (has _ b.2.0)
      (binary_acts raw body.slots o b.0 y z (with_int n s) r) refl)
      (λ v d. steps.pushes raw body _ l q (i.Serial (serials.StoreElement (place at a) true)) (with_int v (with_int n s)) s d
      (store_element (place at a) (Cells a) n v d) (has _ b.2.1.0)
      (store_element_keeps raw body.slots (place at a) (b.0 + 1) n v s d) b.2.1.1)))))

  pub element_assigned_spends : (l : ℕ) (a : variables.Variable) (j : Row) (o : Option machine.BinaryOperator)
      (e : Row) (fj f : World → Outcome) → Means j fj → Means e f
      → Spends (element_assigned at l false a j o e) (λ w. means.element_assigned (place at a) (Cells a) fj (option_map operate o) f w)
  element_assigned_spends l a j None e fj f hj he p q s w h =
      steps.drops_then raw body _ h.0 q s s (fj w)
      (λ n u. with_value (f u) (λ v t. store_element (place at a) (Cells a) n v t)) (hj p h.0 s w h.1)
      (λ n u. steps.drops_then raw body _ h.2.0 q (with_int n s) s (f u) (λ v t. store_element (place at a)
      (Cells a) n v t) (he h.0 h.2.0 (with_int n s) u h.2.1)
      (λ v t. steps.drops raw body _ l q (i.Serial (serials.StoreElement (place at a) false)) (with_int v (with_int n s)) s t
      (store_element (place at a) (Cells a) n v t) (has _ h.2.2.0)
      (store_element_drops raw body.slots (place at a) h.2.0 n v s t) h.2.2.1))
  element_assigned_spends l a j (Some o) e fj f hj he p q s w h =
      let b = h.2.1.1 in
      steps.drops_then raw body _ h.0 q s s (fj w) (compound a o f) (hj p h.0 s w h.1)
      (λ n u. steps.leads_drops raw body _ _ q s (compound a o f n u) (steps.step raw body h.0 l (i.Serial serials.Duplicate)
      (with_int n s) u _ (has _ h.2.0) refl)
      (steps.drops_then raw body _ (h.0 + 1 + 1) q (with_int n s) s (load_element (place at a) (Cells a) n u)
      (λ y t. with_value (f t) (λ z r. with_value (result (operate o y z) r) (λ v d. store_element (place at a)
      (Cells a) n v d)))
      (steps.pushes raw body _ l (h.0 + 1 + 1) (i.Serial (serials.LoadElement (place at a))) (with_int n (with_int n s))
      (with_int n s) u (load_element (place at a) (Cells a) n u) (has _ h.2.1.0)
      (load_element_acts raw body.slots (place at a) (h.0 + 1) n (with_int n s) u) refl)
      (λ y t. steps.drops_then raw body _ b.0 q (with_int y (with_int n s)) s (f t)
      (λ z r. with_value (result (operate o y z) r) (λ v d. store_element (place at a) (Cells a) n v d))
      (he (h.0 + 1 + 1) b.0 (with_int y (with_int n s)) t b.1)
      (λ z r. steps.drops_then raw body _ (b.0 + 1) q (with_int n s) s (result (operate o y z) r)
      (λ v d. store_element (place at a) (Cells a) n v d)
      (steps.pushes raw body _ l (b.0 + 1) (i.Serial (serials.Binary o)) (with_int z (with_int y (with_int n s))) (with_int n s) r
      (result (operate o y z) r) (has _ b.2.0)
      (binary_acts raw body.slots o b.0 y z (with_int n s) r) refl)
      (λ v d. steps.drops raw body _ l q (i.Serial (serials.StoreElement (place at a) false)) (with_int v (with_int n s)) s d
      (store_element (place at a) (Cells a) n v d) (has _ b.2.1.0)
      (store_element_drops raw body.slots (place at a) (b.0 + 1) n v s d) b.2.1.1)))))

  -- the step of a postfix operator, taken back
  stepped_back_means : (l : ℕ) (o : machine.BinaryOperator) (a : Row) (f : World → Outcome) → Means a f
      → Means (part a ▸ stepped_back at l o) (λ w. means.stepped_back (operate o) (f w))
  stepped_back_means l o a f ha p q s w h =
      steps.gives_then raw body _ h.0 q s s (f w) (λ z u. result (operate o z (pos 1)) u) (ha p h.0 s w h.1)
      (λ z u. steps.leads_gives raw body _ _ q s (result (operate o z (pos 1)) u)
      (steps.step raw body h.0 l (i.Serial (serials.Constant (pos 1))) (with_int z s) u _ (has _ h.2.0) refl)
      (steps.pushes raw body _ l q (i.Serial (serials.Binary o)) (with_int (pos 1) (with_int z s)) s u
      (result (operate o z (pos 1)) u) (has _ h.2.1.0)
      (binary_acts raw body.slots o (h.0 + 1) z (pos 1) s u) h.2.1.1))

  pub value_means : (e : ResolvedExpressionTree) (l : ℕ) → IsSerial e → Means (value at l e)
      (λ w. value_of (layout_of raw body at.slots) e w)
  value_means (Constant n) l g p q s w h = constant_means l n p q s w h
  value_means (Variable x) l g p q s w h =
      steps.pushes raw body p l q (i.Serial (serials.Load (place at x))) s s w (load (place at x) 0 w) (has _ h.0)
      (load_acts raw body.slots (place at x) p s w) h.1
  value_means (Element a j) l g p q s w h =
      steps.gives_then raw body _ h.0 q s s (value_of (layout_of raw body at.slots) j w)
      (λ n u. load_element (place at a) (Cells a) n u) (value_means j l g p h.0 s w h.1)
      (λ n u. steps.pushes raw body _ l q (i.Serial (serials.LoadElement (place at a))) (with_int n s) s u
      (load_element (place at a) (Cells a) n u) (has _ h.2.0)
      (load_element_acts raw body.slots (place at a) h.0 n s u) h.2.1)
  value_means (Call f es) l g p q s w h = absurd g
  value_means ThreadNumber l g p q s w h = absurd g
  value_means TeamSize l g p q s w h = absurd g
  value_means (Print format es) l g p q s w h = absurd g
  value_means (Unary o e) l g p q s w h = unary_means l o (value at l e)
      (λ u. value_of (layout_of raw body at.slots) e u) (value_means e l g) p q s w h
  value_means (Binary a o b) l g p q s w h =
      subst (λ z. Gives raw body (frame p s w) q s (binary_value z (value_of (layout_of raw body at.slots) a w)
      (λ u. value_of (layout_of raw body at.slots) b u))) (sym (binaries_agree o))
      (binary_means l (form_of o) (value at l a) (value at l b) (λ u. value_of (layout_of raw body at.slots) a u)
      (λ u. value_of (layout_of raw body at.slots) b u)
      (value_means a l g.0) (value_means b l g.1) p q s w h)
  value_means (Conditional c a b) l g p q s w h =
      conditional_means l (value at l c) (value at l a) (value at l b) (λ u. value_of (layout_of raw body at.slots)
      c u) (λ u. value_of (layout_of raw body at.slots) a u)
      (λ u. value_of (layout_of raw body at.slots) b u) (value_means c l g.0) (value_means a l g.1)
      (value_means b l g.2) p q s w h
  value_means (Assign x o e) l g p q s w h =
      subst (λ z. Gives raw body (frame p s w) q s (means.assigned (place at x) z
      (λ u. value_of (layout_of raw body at.slots) e u) w)) (sym (compounds_agree o))
      (assigned_means l x (compound_of o) (value at l e) (λ u. value_of (layout_of raw body at.slots) e u)
      (value_means e l g) p q s w h)
  value_means (AssignElement a j o e) l g p q s w h =
      subst (λ z. Gives raw body (frame p s w) q s (means.element_assigned (place at a) (Cells a)
      (λ u. value_of (layout_of raw body at.slots) j u) z (λ u. value_of (layout_of raw body at.slots) e u) w))
      (sym (compounds_agree o))
      (element_assigned_means l a (value at l j) (compound_of o) (value at l e)
      (λ u. value_of (layout_of raw body at.slots) j u) (λ u. value_of (layout_of raw body at.slots) e u)
      (value_means j l g.0) (value_means e l g.1) p q s w h)
  value_means (Postfix x o) l g p q s w h =
      subst (λ (z : Operation × Operation). Gives raw body (frame p s w) q s
      (means.stepped_back z.1 (means.assigned (place at x) (Some z.0) means.one w))) (sym (step_pair o))
      (stepped_back_means l (inverse_step_of o) (assigned at l true x (Some (step_of o)) (constant at l (pos 1)))
      (λ u. means.assigned (place at x) (Some (operate (step_of o))) means.one u)
      (assigned_means l x (Some (step_of o)) (constant at l (pos 1)) means.one (constant_means l (pos 1))) p q s w h)
  value_means (PostfixElement a j o) l g p q s w h =
      subst (λ (z : Operation × Operation). Gives raw body (frame p s w) q s
      (means.stepped_back z.1 (means.element_assigned (place at a) (Cells a)
      (λ t. value_of (layout_of raw body at.slots) j t) (Some z.0) means.one w))) (sym (step_pair o))
      (stepped_back_means l (inverse_step_of o) (element_assigned at l true a (value at l j) (Some (step_of o))
      (constant at l (pos 1)))
      (λ u. means.element_assigned (place at a) (Cells a) (λ t. value_of (layout_of raw body at.slots) j t)
      (Some (operate (step_of o))) means.one u)
      (element_assigned_means l a (value at l j) (Some (step_of o)) (constant at l (pos 1))
      (λ t. value_of (layout_of raw body at.slots) j t) means.one
      (value_means j l g) (constant_means l (pos 1))) p q s w h)

-- Runs of statements, put together from those of their parts.
use Rattle.std.proofs.Common.{◌≡◌, ℕ, zero, suc, ◌+◌, ◌≤◌, ℤ, Bool, true, false, List, Option, Some, None, refl, sym}
use Rattle.std.proofs.Common.{◌∙◌, subst, arith}
use Rattle.std.specs.Prelude.{if◌then◌else◌}
use Rattle.om_code.specs.declared.frame.Operand.{Operand}
use Rattle.om_code.specs.declared.instruction.Instr.TheVariants as i
use Rattle.om_code.specs.declared.instruction.Serial.TheVariants as serials
use Rattle.om_code.specs.declared.raw.Body.{Body}
use Rattle.om_code.specs.declared.raw.Raw.{Raw}
use Rattle.om_code.specs.Frames.{Frame, FrameTurn}
use Rattle.om_lower_rules.specs.Statements.{Jumps, in_loop}
use Rattle.om_lower_rules.specs.Meaning as flows
use Rattle.om_lower_rules.specs.Meaning.{is_zero, Flow, Broke, Continued, Failed, OutOfTurns, flow_value, then_do}
use Rattle.om_lower_rules.specs.Meaning.{after_turn, turns, turns_first, tested}
use Rattle.om_lower_rules.specs.Running.{frame, with_int, Leads, Comes, Ends, Gives, Drops, JumpsTo, Does}
use Rattle.om_lower_rules.specs.Worlds.{World, Outcome, Got, Faulty}
use Rattle.om_lower_rules.proofs.Stepping as steps

module _ (raw : Raw) (body : Body) (is_main : Bool) where
  abbrev pub Run : ℕ → Frame → ℕ → Jumps → List Operand → Flow → Type 0
  Run n c q jumps s r = Does raw body is_main n c q jumps s r

  pub comes_on : (c d f : Frame) → Comes raw body c d → Comes raw body d f → Comes raw body c f
  comes_on c d f l m = record {
    by = λ k. let b = m.by k in let a = l.by b.0 in (
      a.0,
      omega (arith, a.1, b.1),
      a.2
          ∙ b.2,
    );
  }

  pub comes : (c d : Frame) → Leads raw body c d → Comes raw body c d
  comes c d l = record { by = λ k. let a = l.by k in (a.0, omega (arith, a.1), a.2) }

  pub stays : (c : Frame) → Comes raw body c c
  stays c = record { by = λ k. (k, omega arith, refl) }

  pub to_place : (p q : ℕ) (s : List Operand) (w : World) → p ≡ q → Comes raw body (frame p s w) (frame q s w)
  to_place p q s w e = subst (λ a. Comes raw body (frame p s w) (frame a s w)) e (stays (frame p s w))

  comes_end : (c d : Frame) (end : Frame → FrameTurn) (w : World) → Comes raw body c d → Ends raw body d end w
      → Ends raw body c end w
  comes_end c d end w l h = let a = l.by h.turns in record {
    turns = a.0;
    last = h.last;
    over = a.2
        ∙ h.over;
    world = h.world;
  }

  comes_jump : (c d : Frame) (to : Option ℕ) (s : List Operand) (w : World) → Comes raw body c d → JumpsTo raw body
      d to s w → JumpsTo raw body c to s w
  comes_jump c d None s w l m = m
  comes_jump c d (Some to) s w l m = comes_on c d _ l m

  pub comes_run : (n : ℕ) (c d : Frame) (q : ℕ) (jumps : Jumps) (s : List Operand) (r : Flow) → Comes raw body c d
      → Run n d q jumps s r → Run n c q jumps s r
  comes_run n c d q jumps s (flows.Onward w) l m = comes_on c d _ l m
  comes_run n c d q jumps s (Broke w) l m = comes_jump c d jumps.over s w l m
  comes_run n c d q jumps s (Continued w) l m = comes_jump c d jumps.next s w l m
  comes_run n c d q jumps s (flows.Returned v w) l m = comes_end c d _ w l m
  comes_run n c d q jumps s (Failed f w) l m = comes_end c d _ w l m
  comes_run n c d q jumps s OutOfTurns l m = let a = l.by m.0 in (a.0, m.1, omega (arith, a.1, m.2), a.2 ∙ m.3)

  -- where an instruction is behind it, one more can be counted
  pub leads_run : (n : ℕ) (c d : Frame) (q : ℕ) (jumps : Jumps) (s : List Operand) (r : Flow) → Leads raw body c d
      → Run n d q jumps s r → Run (suc n) c q jumps s r
  leads_run n c d q jumps s (flows.Onward w) l m = comes_on c d _ (comes c d l) m
  leads_run n c d q jumps s (Broke w) l m = comes_jump c d jumps.over s w (comes c d l) m
  leads_run n c d q jumps s (Continued w) l m = comes_jump c d jumps.next s w (comes c d l) m
  leads_run n c d q jumps s (flows.Returned v w) l m = comes_end c d _ w (comes c d l) m
  leads_run n c d q jumps s (Failed f w) l m = comes_end c d _ w (comes c d l) m
  leads_run n c d q jumps s OutOfTurns l m = let a = l.by m.0 in (a.0, m.1, omega (arith, a.1, m.2), a.2 ∙ m.3)

  pub value_then : (n : ℕ) (c : Frame) (m q : ℕ) (jumps : Jumps) (s t : List Operand) (r : Outcome)
      (f : ℤ → World → Flow) → Gives raw body c m s r
      → ((v : ℤ) (u : World) → Run n (frame m (with_int v s) u) q jumps t (f v u)) → Run n c q jumps t (flow_value r f)
  value_then n c m q jumps s t (Got v w) f g h = comes_run n c _ q jumps t (f v w) (comes c _ g) (h v w)
  value_then n c m q jumps s t (Faulty x w) f g h = g

  pub effect_then : (n : ℕ) (c : Frame) (m q : ℕ) (jumps : Jumps) (s t : List Operand) (r : Outcome)
      (f : World → Flow) → Drops raw body c m s r
      → ((u : World) → Run n (frame m s u) q jumps t (f u)) → Run n c q jumps t (flow_value r (λ v u. f u))
  effect_then n c m q jumps s t (Got v w) f g h = comes_run n c _ q jumps t (f w) (comes c _ g) (h w)
  effect_then n c m q jumps s t (Faulty x w) f g h = g

  pub flow_then : (n : ℕ) (c : Frame) (m q : ℕ) (jumps : Jumps) (s : List Operand) (r : Flow) (f : World → Flow)
      → Run n c m jumps s r
      → ((u : World) → Run n (frame m s u) q jumps s (f u)) → Run n c q jumps s (then_do r f)
  flow_then n c m q jumps s (flows.Onward w) f g h = comes_run n c _ q jumps s (f w) g (h w)
  flow_then n c m q jumps s (Broke w) f g h = g
  flow_then n c m q jumps s (Continued w) f g h = g
  flow_then n c m q jumps s (flows.Returned v w) f g h = g
  flow_then n c m q jumps s (Failed x w) f g h = g
  flow_then n c m q jumps s OutOfTurns f g h = g

  -- behind the body of a loop that ends at `over` and goes on at `next`
  pub after_body : (m n : ℕ) (c : Frame) (b over next : ℕ) (jumps : Jumps) (s : List Operand) (r : Flow)
      (f : World → Flow) → m ≤ n
      → Run n c b (in_loop over next) s r → ((u : World) → Run m (frame b s u) over jumps s (f u))
      → ((u : World) → Run m (frame next s u) over jumps s (f u))
      → Run m c over jumps s (after_turn r f)
  after_body m n c b over next jumps s (flows.Onward w) f le g h j = comes_run m c _ over jumps s (f w) g (h w)
  after_body m n c b over next jumps s (Broke w) f le g h j = g
  after_body m n c b over next jumps s (Continued w) f le g h j = comes_run m c _ over jumps s (f w) g (j w)
  after_body m n c b over next jumps s (flows.Returned v w) f le g h j = g
  after_body m n c b over next jumps s (Failed x w) f le g h j = g
  after_body m n c b over next jumps s OutOfTurns f le g h j = (g.0, g.1, omega (arith, g.2, le), g.3)

  pub run_from : (n p m q : ℕ) (jumps : Jumps) (s : List Operand) (w : World) (r : Flow) → p ≡ m
      → Run n (frame m s w) q jumps s r → Run n (frame p s w) q jumps s r
  run_from n p m q jumps s w r e g = subst (λ a. Run n (frame a s w) q jumps s r) (sym e) g

  pub run_to : (n : ℕ) (c : Frame) (m q : ℕ) (jumps : Jumps) (s : List Operand) (r : Flow) → m ≡ q → Run n c m jumps
      s r → Run n c q jumps s r
  run_to n c m q jumps s r e g = subst (λ a. Run n c a jumps s r) e g

  -- behind a test: on at `a` for 0, else at the next place
  pub test_at : (b : Bool) (n : ℕ) (c : Frame) (m a q : ℕ) (jumps : Jumps) (s : List Operand) (w : World) (rz ro : Flow)
      → Leads raw body c (frame (if b then a else m + 1) s w) → Run n (frame a s w) q jumps s rz
      → Run n (frame (m + 1) s w) q jumps s ro
      → Run n c q jumps s (if b then rz else ro)
  test_at true n c m a q jumps s w rz ro go hz ho = comes_run n c _ q jumps s rz (comes c _ go) hz
  test_at false n c m a q jumps s w rz ro go hz ho = comes_run n c _ q jumps s ro (comes c _ go) ho

  -- the same, where the test is counted
  pub turn_at : (b : Bool) (n : ℕ) (c : Frame) (m a q : ℕ) (jumps : Jumps) (s : List Operand) (w : World) (ro : Flow)
      → Leads raw body c (frame (if b then a else m + 1) s w) → Comes raw body (frame a s w) (frame q s w)
      → Run n (frame (m + 1) s w) q jumps s ro
      → Run (suc n) c q jumps s (if b then flows.Onward w else ro)
  turn_at true n c m a q jumps s w ro go hz ho = comes_on c _ _ (comes c _ go) hz
  turn_at false n c m a q jumps s w ro go hz ho = leads_run n c _ q jumps s ro go ho

  pub then_jump : (n : ℕ) (c : Frame) (m q : ℕ) (jumps : Jumps) (l g : ℕ) (s : List Operand) (r : Flow)
      → steps.Has raw body m l (i.Serial (serials.Jump g)) → g ≡ q
      → Run n c m jumps s r → Run n c q jumps s r
  then_jump n c m q jumps l g s (flows.Onward w) has e h = comes_on c _ _ h
      (comes _ _ (steps.jump raw body m l g q s w has e))
  then_jump n c m q jumps l g s (Broke w) has e h = h
  then_jump n c m q jumps l g s (Continued w) has e h = h
  then_jump n c m q jumps l g s (flows.Returned v w) has e h = h
  then_jump n c m q jumps l g s (Failed f w) has e h = h
  then_jump n c m q jumps l g s OutOfTurns has e h = h

  -- a jump that goes back, which is counted
  pub jump_back : (n l from to q : ℕ) (jumps : Jumps) (s : List Operand) (w : World) (r : Flow) → steps.Has raw body
      from l (i.Serial (serials.Jump to))
      → Run n (frame to s w) q jumps s r → Run (suc n) (frame from s w) q jumps s r
  jump_back n l from to q jumps s w r has h = leads_run n _ _ q jumps s r (steps.jump raw body from l to to s w has
      refl) h

  -- ---- loops

  -- What a test does: where it lets go on, at pt, and where not, at `over`.
  abbrev pub Tests : ℕ → ℕ → ℕ → Jumps → List Operand → (World → (World → Flow) → Flow) → Type 0
  Tests start pt over jumps s test =
      (n : ℕ) (w : World) (f : World → Flow) → ((u : World) → Run n (frame pt s u) over jumps s (f u))
      → Run n (frame start s w) over jumps s (test w f)

  -- fewer instructions are asked for
  pub fewer : (m n : ℕ) (c : Frame) (q : ℕ) (jumps : Jumps) (s : List Operand) (r : Flow) → m ≤ n → Run n c q jumps
      s r → Run m c q jumps s r
  fewer m n c q jumps s (flows.Onward w) le h = h
  fewer m n c q jumps s (Broke w) le h = h
  fewer m n c q jumps s (Continued w) le h = h
  fewer m n c q jumps s (flows.Returned v w) le h = h
  fewer m n c q jumps s (Failed f w) le h = h
  fewer m n c q jumps s OutOfTurns le h = (h.0, h.1, omega (arith, le, h.2), h.3)

  -- a loop with its test first, each of whose turns has an instruction
  pub loop_run : (n start over : ℕ) (jumps : Jumps) (s : List Operand) (test : World → (World → Flow) → Flow)
      (body_of between_turns : World → Flow)
      → ((m : ℕ) (f : World → Flow) → suc m ≤ n → ((u : World) → Run m (frame start s u) over jumps s (f u))
      → (w : World)
      → Run (suc m) (frame start s w) over jumps s
      (test w (λ u. after_turn (body_of u) (λ t. then_do (between_turns t) f))))
      → (m : ℕ) → m ≤ n → (w : World) → Run m (frame start s w) over jumps s (turns m test body_of between_turns w)
  loop_run n start over jumps s test body_of between_turns turn zero le w = (0, _, omega arith, refl)
  loop_run n start over jumps s test body_of between_turns turn (suc m) le w =
      turn m (turns m test body_of between_turns) le (loop_run n start over jumps s test body_of between_turns turn
      m (omega (arith, le))) w

  -- a loop with its body first
  pub first_run : (n start pb next over : ℕ) (jumps : Jumps) (s : List Operand) (test : World → (World → Flow)
      → Flow) (body_of : World → Flow)
      → ((w : World) → Run n (frame start s w) pb (in_loop over next) s (body_of w))
      → next ≡ pb
      → ((m : ℕ) (w : World) (f : World → Flow) → ((u : World) → Run m (frame start s u) over jumps s (f u))
      → Run (suc m) (frame next s w) over jumps s (test w f))
      → (m : ℕ) → m ≤ n → (w : World) → Run m (frame start s w) over jumps s (turns_first m body_of test w)
  first_run n start pb next over jumps s test body_of hb hn ht zero le w = (0, _, omega arith, refl)
  first_run n start pb next over jumps s test body_of hb hn ht (suc m) le w =
      let again = first_run n start pb next over jumps s test body_of hb hn ht m (omega (arith, le)) in
      after_body (suc m) n _ pb over next jumps s (body_of w) (λ u. test u (turns_first m body_of test)) le (hb w)
      (λ u. run_from (suc m) pb next over jumps s u (test u (turns_first m body_of test)) (sym hn)
      (ht m u (turns_first m body_of test) again))
      (λ u. ht m u (turns_first m body_of test) again)

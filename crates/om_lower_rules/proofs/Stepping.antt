-- Runs of a frame, put together from turns.
use Rattle.std.proofs.Common.{◌≡◌, ℕ, suc, ◌+◌, ℤ, Bool, true, false, List, Some, refl, sym, ap, ◌∙◌, subst, arith}
use Rattle.std.specs.Prelude.{slice_get, if◌then◌else◌}
use Rattle.om_code.specs.declared.frame.Fault.{Fault}
use Rattle.om_code.specs.declared.frame.Operand.{Operand}
use Rattle.om_code.specs.declared.instruction.Instr.{Instr}
use Rattle.om_code.specs.declared.instruction.Instr.TheVariants as i
use Rattle.om_code.specs.declared.instruction.Serial.TheVariants as serials
use Rattle.om_code.specs.declared.raw.Body.{Body}
use Rattle.om_code.specs.declared.raw.Raw.{Raw}
use Rattle.om_code.specs.Frames as frames
use Rattle.om_code.specs.Frames.{Frame, FrameTurn, Faulted, frame_turn, turn_at, acted, act_at}
use Rattle.om_lower_rules.specs.Meaning.{is_zero}
use Rattle.om_lower_rules.specs.Running.{frame, world_of, on_from, run, with_int, Leads, Ends, Gives, Drops}
use Rattle.om_lower_rules.specs.Worlds.{World, Outcome, Got, Faulty, with_value}
use Rattle.om_lower_rules.proofs.Acting.{Pushed, Dropped, turn_on}

module _ (raw : Raw) (body : Body) where
  -- ---- one turn

  abbrev pub Has : ℕ → ℕ → Instr → Type 0
  Has p l x = slice_get body.code p ≡ Some (record { instruction = x; line = l })

  turn_is : (p l : ℕ) (x : Instr) (s : List Operand) (w : World) → Has p l x → frame_turn raw body (frame p s w)
      ≡ turn_on raw body.slots x p s w
  turn_is p l x s w has = ap (λ z. turn_at raw body (frame p s w) z) has

  one : (c : Frame) (t : FrameTurn) (k : ℕ) → frame_turn raw body c ≡ t → run raw body (suc k) c
      ≡ on_from t (run raw body k)
  one c t k e = ap (λ z. on_from z (run raw body k)) e

  turn_leads : (c d : Frame) → frame_turn raw body c ≡ frames.Onward d → Leads raw body c d
  turn_leads c d e = record { by = λ k. (suc k, omega arith, one c (frames.Onward d) k e) }

  pub step : (p l : ℕ) (x : Instr) (s : List Operand) (w : World) (d : Frame) → Has p l x → turn_on raw body.slots x
      p s w ≡ frames.Onward d
      → Leads raw body (frame p s w) d
  step p l x s w d has e = turn_leads (frame p s w) d (turn_is p l x s w has ∙ e)

  -- an instruction that ends the run
  pub stop : (p l : ℕ) (x : Instr) (s : List Operand) (w u : World) (end : Frame → FrameTurn) (last : Frame) → Has p l x
      → turn_on raw body.slots x p s w ≡ end last → on_from (end last) (run raw body 0) ≡ end last → world_of last
      ≡ u → Ends raw body (frame p s w) end u
  stop p l x s w u end last has e over world = record {
    turns = 1;
    last = last;
    over = one (frame p s w) (end last) 0 (turn_is p l x s w has ∙ e) ∙ over;
    world = world;
  }

  -- ---- one behind the other

  pub leads_on : (c d f : Frame) → Leads raw body c d → Leads raw body d f → Leads raw body c f
  leads_on c d f l m = record {
    by = λ k. let b = m.by k in let a = l.by b.0 in (
      a.0,
      omega (arith, a.1, b.1),
      a.2
          ∙ b.2,
    );
  }

  pub leads_end : (c d : Frame) (end : Frame → FrameTurn) (w : World) → Leads raw body c d → Ends raw body d end w
      → Ends raw body c end w
  leads_end c d end w l h = let a = l.by h.turns in record {
    turns = a.0;
    last = h.last;
    over = a.2
        ∙ h.over;
    world = h.world;
  }

  pub leads_gives : (c d : Frame) (q : ℕ) (s : List Operand) (r : Outcome) → Leads raw body c d → Gives raw body d q
      s r → Gives raw body c q s r
  leads_gives c d q s (Got v w) l g = leads_on c d _ l g
  leads_gives c d q s (Faulty f w) l g = leads_end c d _ w l g

  pub leads_drops : (c d : Frame) (q : ℕ) (s : List Operand) (r : Outcome) → Leads raw body c d → Drops raw body d q
      s r → Drops raw body c q s r
  leads_drops c d q s (Got v w) l g = leads_on c d _ l g
  leads_drops c d q s (Faulty f w) l g = leads_end c d _ w l g

  pub gives_then : (c : Frame) (m q : ℕ) (s t : List Operand) (r : Outcome) (f : ℤ → World → Outcome)
      → Gives raw body c m s r
      → ((v : ℤ) (u : World) → Gives raw body (frame m (with_int v s) u) q t (f v u)) → Gives raw body c q t
      (with_value r f)
  gives_then c m q s t (Got v w) f g h = leads_gives c _ q t (f v w) g (h v w)
  gives_then c m q s t (Faulty x w) f g h = g

  pub drops_then : (c : Frame) (m q : ℕ) (s t : List Operand) (r : Outcome) (f : ℤ → World → Outcome)
      → Gives raw body c m s r
      → ((v : ℤ) (u : World) → Drops raw body (frame m (with_int v s) u) q t (f v u)) → Drops raw body c q t
      (with_value r f)
  drops_then c m q s t (Got v w) f g h = leads_drops c _ q t (f v w) g (h v w)
  drops_then c m q s t (Faulty x w) f g h = g

  faulted : (p l : ℕ) (x : Instr) (s : List Operand) (w u : World) (f : Fault) → Has p l x
      → (q : ℕ) × (r : List Operand) × (turn_on raw body.slots x p s w ≡ Faulted f (frame q r u))
      → Ends raw body (frame p s w) (Faulted f) u
  faulted p l x s w u f has e = stop p l x s w u (Faulted f) (frame e.0 e.1 u) has e.2 refl refl

  -- an instruction that pushes a value, or faults
  pub pushes : (p l q : ℕ) (x : Instr) (s t : List Operand) (w : World) (r : Outcome) → Has p l x
      → Pushed (turn_on raw body.slots x p s w) (p + 1) t r → p + 1 ≡ q
      → Gives raw body (frame p s w) q t r
  pushes p l q x s t w (Got v u) has e at = step p l x s w _ has
      (e ∙ ap (λ n. frames.Onward (frame n (with_int v t) u)) at)
  pushes p l q x s t w (Faulty f u) has e at = faulted p l x s w u f has e

  pub drops : (p l q : ℕ) (x : Instr) (s t : List Operand) (w : World) (r : Outcome) → Has p l x
      → Dropped (turn_on raw body.slots x p s w) (p + 1) t r → p + 1 ≡ q
      → Drops raw body (frame p s w) q t r
  drops p l q x s t w (Got v u) has e at = step p l x s w _ has (e ∙ ap (λ n. frames.Onward (frame n t u)) at)
  drops p l q x s t w (Faulty f u) has e at = faulted p l x s w u f has e

  -- ---- places

  pub leads_from : (p m : ℕ) (s : List Operand) (w : World) (d : Frame) → p ≡ m → Leads raw body (frame m s w) d
      → Leads raw body (frame p s w) d
  leads_from p m s w d e l = subst (λ n. Leads raw body (frame n s w) d) (sym e) l

  pub gives_from : (p m q : ℕ) (s t : List Operand) (w : World) (r : Outcome) → p ≡ m → Gives raw body (frame m s w)
      q t r → Gives raw body (frame p s w) q t r
  gives_from p m q s t w r e g = subst (λ n. Gives raw body (frame n s w) q t r) (sym e) g

  pub gives_to : (c : Frame) (m q : ℕ) (t : List Operand) (r : Outcome) → m ≡ q → Gives raw body c m t r
      → Gives raw body c q t r
  gives_to c m q t r e g = subst (λ n. Gives raw body c n t r) e g

  pub jump : (p l a q : ℕ) (s : List Operand) (w : World) → Has p l (i.Serial (serials.Jump a)) → a ≡ q
      → Leads raw body (frame p s w) (frame q s w)
  jump p l a q s w has e = step p l (i.Serial (serials.Jump a)) s w _ has (ap (λ n. frames.Onward (frame n s w)) e)

  jumped : (b : Bool) (p a : ℕ) (v : ℤ) (s : List Operand) (w : World)
      → acted raw (frame p (with_int v s) w) (frames.decided (frames.jump_if b a))
      ≡ frames.Onward (frame (if b then a else p + 1) s w)
  jumped true p a v s w = refl
  jumped false p a v s w = refl

  pub branches : (p l a : ℕ) (v : ℤ) (s : List Operand) (w : World) → Has p l (i.Serial (serials.JumpIfZero a))
      → Leads raw body (frame p (with_int v s) w) (frame (if is_zero v then a else p + 1) s w)
  branches p l a v s w has = step p l (i.Serial (serials.JumpIfZero a)) (with_int v s) w _ has (jumped (is_zero v) p a v s w)

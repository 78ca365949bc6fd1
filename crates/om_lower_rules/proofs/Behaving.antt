-- A run and a meaning agree in both directions.
use Rattle.std.proofs.Common.{◌≡◌, ℕ, zero, suc, ◌<◌, ◌≤◌, ℤ, Bool, true, false, List, [], ◌∷◌, Option, Some, None}
use Rattle.std.proofs.Common.{refl, sym, ◌∙◌, subst, ⊎_elim, arith}
use Rattle.std.specs.Prelude.{All, IsSomeAnd, slice_get}
use Rattle.std.specs.List.{flat_map}
use Rattle.std.proofs.lemmas.Bool.{cases_lt}
use Rattle.om_code.specs.declared.instruction.Instr.TheVariants as i
use Rattle.om_code.specs.declared.instruction.Function.TheVariants as calls
use Rattle.om_code.specs.declared.raw.Body.{Body}
use Rattle.om_code.specs.declared.raw.Raw.{Raw}
use Rattle.om_code.specs.Frames as frames
use Rattle.om_code.specs.Frames.{Frame, FrameTurn, Finished, Faulted, Stuck, frame_turn}
use Rattle.om_scope_tree.specs.ResolvedTree.{ResolvedFunctionTree, ResolvedTree}
use Rattle.om_scope_tree.specs.Uses.{is_main_function}
use Rattle.om_lower_rules.specs.Bodies.{Numbers, FunctionBody, called_body, function_variables}
use Rattle.om_lower_rules.specs.Code.{IsBodyOf, IsCodeOf, site_of}
use Rattle.om_lower_rules.specs.Mentions.{format_mention, formats_of, function_mentioned}
use Rattle.om_lower_rules.specs.Laws.{FunctionBodies, FormatsAreNumbered}
use Rattle.om_lower_rules.specs.Rows.{Site}
use Rattle.om_lower_rules.specs.Statements.{last_instruction, nowhere}
use Rattle.om_lower_rules.specs.MeaningLaws.{layout_of, source, IsOver, Agrees, Behaves, SerialMeaning}
use Rattle.om_lower_rules.specs.Meaning as flows
use Rattle.om_lower_rules.specs.Meaning.{Flow, Broke, Continued, Failed, OutOfTurns, then_do, meanings}
use Rattle.om_lower_rules.specs.Running.{frame, on_from, run, ended, Comes, Ends, Does}
use Rattle.om_lower_rules.specs.Worlds.{World}
use Rattle.om_lower_rules.proofs.Spoken.{AreSpoken, Found, front, back, all_spoken}
use Rattle.om_lower_rules.proofs.Statements as statements
use Rattle.om_lower_rules.proofs.Stepping as steps

ended_over : (is_main : Bool) (v : Option ℤ) (f : Frame) → IsOver (ended is_main v f)
ended_over true None f = tt
ended_over true (Some v) f = tt
ended_over false None f = tt
ended_over false (Some v) f = tt

ended_moves : (is_main : Bool) (v : Option ℤ) (f : Frame) → Stuck ≡ ended is_main v f → ⊥
ended_moves true None f e = cc
ended_moves true (Some v) f e = cc
ended_moves false None f e = cc
ended_moves false (Some v) f e = cc

module _ (raw : Raw) (body : Body) where
  -- more instructions change nothing of a run that is over
  longer : (m n : ℕ) → m ≤ n → (c : Frame) (o : FrameTurn) → IsOver o → run raw body m c ≡ o → run raw body n c ≡ o
  longer zero n le c o over e = absurd (subst IsOver (sym e) over)
  longer (suc m) zero le c o over e = absurd (omega (arith, le))
  longer (suc m) (suc n) le c o over e = behind_turn (frame_turn raw body c) e (longer m n (omega (arith, le)))
    where
      behind_turn : (t : FrameTurn) → on_from t (run raw body m) ≡ o → ((d : Frame) (p : FrameTurn) → IsOver p
          → run raw body m d ≡ p → run raw body n d ≡ p)
          → on_from t (run raw body n) ≡ o
      behind_turn (frames.Onward d) e more = more d o over e
      behind_turn (frames.Returned v d) e more = e
      behind_turn (Finished v d) e more = e
      behind_turn (Faulted x d) e more = e
      behind_turn Stuck e more = e

  one_end : (m n : ℕ) (c : Frame) (o p : FrameTurn) → IsOver o → IsOver p → run raw body m c ≡ o → run raw body n c
      ≡ p → o ≡ p
  one_end m n c o p over_o over_p e f =
      ⊎_elim
      (λ (lt : m < n). sym (longer m n (omega (arith, lt)) c o over_o e) ∙ f)
      (λ (le : n ≤ m). sym e ∙ longer n m le c p over_p f)
      (cases_lt m n)

  module _ (is_main : Bool) where
    -- what a run says of a meaning that a body has
    abbrev Follows : ℕ → Frame → Flow → Type 0
    Follows n c (flows.Returned v w) = Ends raw body c (ended is_main v) w
    Follows n c (Failed x w) = Ends raw body c (Faulted x) w
    Follows n c OutOfTurns = (j : ℕ) × (f : Frame) × (n ≤ j) × (run raw body j c ≡ frames.Onward f)
    Follows n c _ = ⊥

    comes_end : (c d : Frame) (end : Frame → FrameTurn) (w : World) → Comes raw body c d → Ends raw body d end w
        → Ends raw body c end w
    comes_end c d end w l h = let a = l.by h.turns in record {
      turns = a.0;
      last = h.last;
      over = a.2
          ∙ h.over;
      world = h.world;
    }

    follows_from : (n m : ℕ) (c : Frame) (r : Flow)
        → ((u : World) → Ends raw body (frame m [] u) (ended is_main None) u) → Does raw body is_main n c m nowhere [] r
        → Follows n c (then_do r (flows.Returned None))
    follows_from n m c (flows.Onward u) h g = comes_end c (frame m [] u) (ended is_main None) u g (h u)
    follows_from n m c (Broke u) h g = g
    follows_from n m c (Continued u) h g = g
    follows_from n m c (flows.Returned v u) h g = g
    follows_from n m c (Failed x u) h g = g
    follows_from n m c OutOfTurns h g = g

    over_too : (m : ℕ) (c : Frame) (r : Flow) (t : FrameTurn) → IsOver t → run raw body m c ≡ t → Follows m c r
        → Agrees is_main r t
    over_too m c (flows.Returned v u) t over e f =
        (f.last, one_end m f.turns c t (ended is_main v f.last) over (ended_over is_main v f.last) e f.over, f.world)
    over_too m c (Failed x u) t over e f = (f.last, one_end m f.turns c t (Faulted x f.last) over tt e f.over, f.world)
    over_too m c OutOfTurns t over e f = subst IsOver (sym (longer m f.0 f.2 c t over e) ∙ f.3) over
    over_too m c (flows.Onward u) t over e f = absurd f
    over_too m c (Broke u) t over e f = absurd f
    over_too m c (Continued u) t over e f = absurd f

    stuck_never : (r : Flow) → Agrees is_main r Stuck → ⊥
    stuck_never (flows.Returned v u) a = ended_moves is_main v a.0 a.1
    stuck_never (Failed x u) a = let e = a.1 in cc
    stuck_never OutOfTurns a = a
    stuck_never (flows.Onward u) a = a
    stuck_never (Broke u) a = a
    stuck_never (Continued u) a = a

  not_yet : (n j : ℕ) (c f : Frame) (t : FrameTurn) → n ≤ j → run raw body j c ≡ frames.Onward f → run raw body n c
      ≡ t → (d : Frame) × (t ≡ frames.Onward d)
  not_yet n j c f (frames.Onward d) le e at = (d, refl)
  not_yet n j c f (frames.Returned v d) le e at = absurd (let o = longer n j le c (frames.Returned v d) tt at in cc)
  not_yet n j c f (Finished v d) le e at = absurd (let o = longer n j le c (Finished v d) tt at in cc)
  not_yet n j c f (Faulted x d) le e at = absurd (let o = longer n j le c (Faulted x d) tt at in cc)
  not_yet n j c f Stuck le e at = absurd (let o = longer n j le c Stuck tt at in cc)

  pub behaves : (is_main : Bool) (means : ℕ → World → Flow)
      → ((n : ℕ) (w : World) → Follows is_main n (frame 0 [] w) (means n w)) → Behaves raw body is_main means
  behaves is_main means follows = record {
    ends = λ w n v u e. subst (λ z. Follows is_main n (frame 0 [] w) z) e (follows n w);
    faults = λ w n x u e. subst (λ z. Follows is_main n (frame 0 [] w) z) e (follows n w);
    goes_on = λ w n e.
        let f = subst (λ z. Follows is_main n (frame 0 [] w) z) e (follows n w) in
        not_yet n f.0 (frame 0 [] w) f.1 (run raw body n (frame 0 [] w)) f.2 f.3 refl;
    only = λ w n t over e. over_too is_main n (frame 0 [] w) (means n w) t over e (follows n w);
    never_stuck = λ w n e. stuck_never is_main (means n w) (over_too is_main n (frame 0 [] w) (means n w) Stuck tt e
        (follows n w));
  }

  -- the end of a function
  closes : (is_main : Bool) (m l : ℕ) (u : World) → steps.Has raw body m l (last_instruction is_main false)
      → Ends raw body (frame m [] u) (ended is_main None) u
  closes true m l u has = steps.stop raw body m l (i.Function (calls.Finish false)) [] u u (ended true None) (frame m [] u) has refl
      refl refl
  closes false m l u has = steps.stop raw body m l (i.Function calls.ReturnNothing) [] u u (ended false None) (frame m [] u) has refl
      refl refl

-- the formats of a function are among those of its program
function_formats : (formats : List (List ℕ)) (fs : List ResolvedFunctionTree) (k : ℕ) (f : ResolvedFunctionTree)
    → slice_get fs k ≡ Some f
    → All (Found formats) (flat_map (function_mentioned format_mention) fs) → All (Found formats)
    (function_mentioned format_mention f)
function_formats formats [] k f e h = absurd cc
function_formats formats (g ∷ fs) zero f e h =
    let same : g ≡ f = cc e in
    subst (λ z. All (Found formats) (function_mentioned format_mention z)) same
    (front formats (function_mentioned format_mention g) (flat_map (function_mentioned format_mention) fs) h)
function_formats formats (g ∷ fs) (suc k) f e h =
    function_formats formats fs k f e (back formats (function_mentioned format_mention g)
    (flat_map (function_mentioned format_mention) fs) h)

body_behaves : (tree : ResolvedTree) (raw : Raw) (f : ResolvedFunctionTree) (n : Numbers) (body : Body)
    → IsCodeOf tree raw
    → IsBodyOf tree raw (record { function = f; tree = FunctionBody; outer = []; numbers = n }) body
    → AreSpoken (formats_of tree) f.body
    → Behaves raw body (is_main_function f) (source (layout_of raw body (function_variables f)) f.body)
body_behaves tree raw f n body code is serial =
    let at : Site = site_of tree raw (record { function = f; tree = FunctionBody; outer = []; numbers = n }) body in
    let row = is.code in
    behaves raw body (is_main_function f) (source (layout_of raw body (function_variables f)) f.body)
    (λ k w. follows_from raw body (is_main_function f) k row.0 (frame 0 [] w)
    (meanings (layout_of raw body (function_variables f)) f.body k w)
    (λ u. closes raw body (is_main_function f) row.0 f.closing_line u row.2.0)
    (statements.statements_run raw body at refl code.texts f.body n k nowhere 0 row.0 [] w serial row.1))

-- by what is known of the bodies and the formats of a program
pub serial_meaning : FunctionBodies → FormatsAreNumbered → SerialMeaning
serial_meaning bodies formats tree raw code k f e serial =
    let found = bodies tree raw code k f e in there (slice_get raw.bodies (called_body tree.functions k)) found.0
    found.1
  where
    there : (o : Option Body) (n : Numbers)
        → IsSomeAnd o (IsBodyOf tree raw (record { function = f; tree = FunctionBody; outer = []; numbers = n }))
        → IsSomeAnd o (λ body. Behaves raw body (is_main_function f)
        (source (layout_of raw body (function_variables f)) f.body))
    there None n is = absurd is
    there (Some body) n is =
        body_behaves tree raw f n body code is
        (all_spoken (formats_of tree) f.body serial (function_formats (formats_of tree) tree.functions k f e
        (formats tree)))

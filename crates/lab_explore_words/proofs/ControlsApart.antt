-- The words of controls tell these apart.
use Rattle.std.proofs.Common.{◌≡◌, refl, sym, ◌∙◌, ℕ, List, ◌++◌, reverse}
use Rattle.std.proofs.lemmas.List.{append_assoc}
use Rattle.om_code.specs.declared.frame.Fault.{Fault}
use Rattle.om_code.specs.declared.frame.Fault.TheVariants as fault
use Rattle.om_code.specs.declared.frame.Operand.TheVariants as operand
use Rattle.om_code.specs.declared.instruction.Schedule.TheVariants.{Static, StaticChunk, Dynamic}
use Rattle.om_code.specs.Faults.{fault_number}
use Rattle.om_state.specs.declared.control.Construct.TheVariants as construct
use Rattle.om_state.specs.declared.control.Context.{Context}
use Rattle.om_state.specs.declared.control.Control.TheVariants as control
use Rattle.om_state.specs.declared.control.Home.TheVariants.{Own, Elsewhere}
use Rattle.om_state.specs.declared.control.Kind.TheVariants as kind
use Rattle.om_state.specs.declared.control.Sharing.TheVariants as sharing
use Rattle.lab_explore_words.specs.Laws.{TellApart}
use Rattle.lab_explore_words.specs.Lists.{number_words, int_words, list_words, option_words, name_words}
use Rattle.lab_explore_words.specs.Words.{operand_words, home_words, frame_words, team_words, kind_words, sharing_words}
use Rattle.lab_explore_words.specs.Words.{schedule_words, bounds_words, chunk_words, share_words, construct_words}
use Rattle.lab_explore_words.specs.Words.{counted_words, running_words}
use Rattle.lab_explore_words.specs.Words.{context_words, stack_words, control_words}
use Rattle.lab_explore_words.proofs.NumbersApart.{behind, heads, differ, number_apart, cut, cut_in, numbered}
use Rattle.lab_explore_words.proofs.NumbersApart.{int_apart, flag_apart, list_apart}
use Rattle.lab_explore_words.proofs.NumbersApart.{pile_apart, option_apart, name_apart}

operand_apart : TellApart operand_words
operand_apart (operand.Int a) (operand.Int b) x y h =
    let p = int_apart a b x y (behind _ _ _ _ h) in ((λ i. operand.Int (p.0 i)), p.1)
operand_apart operand.NoValue operand.NoValue x y h = (refl, behind _ _ _ _ h)
operand_apart (operand.Int a) operand.NoValue x y h = absurd (heads _ _ _ _ h refl)
operand_apart operand.NoValue (operand.Int b) x y h = absurd (heads _ _ _ _ h refl)

pub home_apart : TellApart home_words
home_apart Own Own x y h = (refl, behind _ _ _ _ h)
home_apart (Elsewhere t f s) (Elsewhere u g r) x y h =
    let p = cut name_words name_apart t u _ _ x y (behind _ _ _ _ h) in
    let q = cut number_words number_apart f g _ _ x y p.1 in
    let w = number_apart s r x y q.1 in
    ((λ i. Elsewhere (p.0 i) (q.0 i) (w.0 i)), w.1)
home_apart Own (Elsewhere u g r) x y h = absurd (heads _ _ _ _ h refl)
home_apart (Elsewhere t f s) Own x y h = absurd (heads _ _ _ _ h refl)

frame_apart : TellApart frame_words
unfolding frame_words
frame_apart a b x y h =
    let p = cut number_words number_apart a.body b.body _ _ x y h in
    let q = cut number_words number_apart a.next b.next _ _ x y p.1 in
    let r = cut number_words number_apart a.ordinal b.ordinal _ _ x y q.1 in
    let s = cut (λ xs. list_words operand_words (reverse xs)) (pile_apart operand_words operand_apart) a.operands
    b.operands _ _ x y r.1 in
    let t = list_apart home_words home_apart a.homes b.homes x y s.1 in
    ((λ i. record { body = p.0 i; next = q.0 i; ordinal = r.0 i; operands = s.0 i; homes = t.0 i }), t.1)

team_apart : TellApart team_words
unfolding team_words
team_apart a b x y h =
    let p = cut name_words name_apart a.name b.name _ _ x y h in
    let q = cut number_words number_apart a.number b.number _ _ x y p.1 in
    let r = cut number_words number_apart a.size b.size _ _ x y q.1 in
    let s = number_apart a.level b.level x y r.1 in
    ((λ i. record { name = p.0 i; number = q.0 i; size = r.0 i; level = s.0 i }), s.1)

kind_apart : TellApart kind_words
kind_apart kind.Initial kind.Initial x y h = (refl, behind _ _ _ _ h)
kind_apart kind.Implicit kind.Implicit x y h = (refl, behind _ _ _ _ h)
kind_apart kind.Explicit kind.Explicit x y h = (refl, behind _ _ _ _ h)
kind_apart _ _ x y h = absurd (heads _ _ _ _ h refl)

sharing_apart : TellApart sharing_words
sharing_apart sharing.Loop sharing.Loop x y h = (refl, behind _ _ _ _ h)
sharing_apart sharing.Sections sharing.Sections x y h = (refl, behind _ _ _ _ h)
sharing_apart _ _ x y h = absurd (heads _ _ _ _ h refl)

schedule_apart : TellApart schedule_words
schedule_apart Static Static x y h = (refl, behind _ _ _ _ h)
schedule_apart (StaticChunk a) (StaticChunk b) x y h =
    let p = number_apart a b x y (behind _ _ _ _ h) in ((λ i. StaticChunk (p.0 i)), p.1)
schedule_apart (Dynamic a) (Dynamic b) x y h =
    let p = number_apart a b x y (behind _ _ _ _ h) in ((λ i. Dynamic (p.0 i)), p.1)
schedule_apart _ _ x y h = absurd (heads _ _ _ _ h refl)

share_apart : TellApart share_words
unfolding share_words bounds_words chunk_words
share_apart a b x y h =
    let p0 = cut sharing_words sharing_apart a.sharing b.sharing _ _ x y h in
    let p1 = cut_in number_words number_apart a.region b.region _ _ _ _ x y p0.1 in
    let p2 = cut_in number_words number_apart a.count b.count _ _ _ _ x y p1.1 in
    let p3 = cut_in int_words int_apart a.lower b.lower _ _ _ _ x y p2.1 in
    let p4 = cut int_words int_apart a.step b.step _ _ x y p3.1 in
    let p5 = cut schedule_words schedule_apart a.schedule b.schedule _ _ x y p4.1 in
    let p6 = cut number_words number_apart a.taken b.taken _ _ x y p5.1 in
    let p7 = cut number_words number_apart a.next b.next _ _ x y p6.1 in
    let p8 = number_apart a.end b.end x y p7.1 in (
      (λ i. record {
        sharing = p0.0 i;
        region = p1.0 i;
        count = p2.0 i;
        lower = p3.0 i;
        step = p4.0 i;
        schedule = p5.0 i;
        taken = p6.0 i;
        next = p7.0 i;
        end = p8.0 i;
      }),
      p8.1,
    )

construct_apart : TellApart construct_words
construct_apart (construct.Share a) (construct.Share b) x y h =
    let p = share_apart a b x y (behind _ _ _ _ h) in ((λ i. construct.Share (p.0 i)), p.1)
construct_apart (construct.Single a) (construct.Single b) x y h =
    let p = flag_apart a b x y (behind _ _ _ _ h) in ((λ i. construct.Single (p.0 i)), p.1)
construct_apart construct.Masked construct.Masked x y h = (refl, behind _ _ _ _ h)
construct_apart (construct.Critical a) (construct.Critical b) x y h =
    let p = number_apart a b x y (behind _ _ _ _ h) in ((λ i. construct.Critical (p.0 i)), p.1)
construct_apart (construct.Group a) (construct.Group b) x y h =
    let p = name_apart a b x y (behind _ _ _ _ h) in ((λ i. construct.Group (p.0 i)), p.1)
construct_apart _ _ x y h = absurd (heads _ _ _ _ h refl)

-- a context's numbers
record SameCounts (a b : Context) (rest : Type 0) : Type 0 where
  phase : a.phase ≡ b.phase
  births : a.births ≡ b.births
  regions : a.regions ≡ b.regions
  frames : a.frames ≡ b.frames
  left : rest

counted_parts : (a b : Context) (u v x y : List ℕ) → (counted_words a ++ u) ++ x ≡ (counted_words b ++ v) ++ y
    → SameCounts a b (u ++ x ≡ v ++ y)
unfolding counted_words
counted_parts a b u v x y h =
    let g : counted_words a ++ (u ++ x) ≡ counted_words b ++ (v ++ y) =
    sym (append_assoc (counted_words a) u x) ∙ h ∙ append_assoc (counted_words b) v y in
    let p0 = cut number_words number_apart a.phase b.phase _ _ (u ++ x) (v ++ y) g in
    let p1 = cut number_words number_apart a.births b.births _ _ (u ++ x) (v ++ y) p0.1 in
    let p2 = cut number_words number_apart a.regions b.regions _ _ (u ++ x) (v ++ y) p1.1 in
    let p3 = number_apart a.frames b.frames (u ++ x) (v ++ y) p2.1 in
    record { phase = p0.0; births = p1.0; regions = p2.0; frames = p3.0; left = p3.1 }

context_apart : TellApart context_words
unfolding context_words running_words
context_apart a b x y h =
    let p0 = cut name_words name_apart a.task b.task _ _ x y h in
    let p1 = cut kind_words kind_apart a.kind b.kind _ _ x y p0.1 in
    let p2 = cut team_words team_apart a.team b.team _ _ x y p1.1 in
    let p3 = counted_parts a b _ _ x y p2.1 in
    let p4 = cut (option_words name_words) (option_apart name_words name_apart) a.group b.group _ _ x y p3.left in
    let p5 = cut (λ xs. list_words construct_words (reverse xs)) (pile_apart construct_words construct_apart)
    a.constructs b.constructs _ _ x y p4.1 in
    let p6 = cut frame_words frame_apart a.frame b.frame _ _ x y p5.1 in
    let p7 = pile_apart frame_words frame_apart a.callers b.callers x y p6.1 in (
      (λ i. record {
        task = p0.0 i;
        kind = p1.0 i;
        team = p2.0 i;
        phase = p3.phase i;
        births = p3.births i;
        regions = p3.regions i;
        frames = p3.frames i;
        group = p4.0 i;
        constructs = p5.0 i;
        frame = p6.0 i;
        callers = p7.0 i;
      }),
      p7.1,
    )

stack_apart : TellApart stack_words
unfolding stack_words
stack_apart a b x y h =
    let p = cut context_words context_apart a.top b.top _ _ x y h in
    let q = pile_apart context_words context_apart a.below b.below x y p.1 in
    ((λ i. record { top = p.0 i; below = q.0 i }), q.1)

fault_same : (a b : Fault) → fault_number a ≡ fault_number b → a ≡ b
fault_same fault.Overflow fault.Overflow h = refl
fault_same fault.ZeroDivisor fault.ZeroDivisor h = refl
fault_same fault.Index fault.Index h = refl
fault_same fault.Unset fault.Unset h = refl
fault_same fault.Dead fault.Dead h = refl
fault_same fault.NoValue fault.NoValue h = refl
fault_same fault.Frames fault.Frames h = refl
fault_same fault.Size fault.Size h = refl
fault_same fault.Nesting fault.Nesting h = refl
fault_same fault.Name fault.Name h = refl
fault_same _ _ h = absurd (differ _ _ h refl)

pub control_apart : TellApart control_words
control_apart control.Idle control.Idle x y h = (refl, behind _ _ _ _ h)
control_apart (control.Running a) (control.Running b) x y h =
    let p = stack_apart a b x y (behind _ _ _ _ h) in ((λ i. control.Running (p.0 i)), p.1)
control_apart (control.Faulted f a) (control.Faulted g b) x y h =
    let p = cut (λ (k : Fault). number_words (fault_number k)) (numbered fault_number fault_same) f g _ _ x y
    (behind _ _ _ _ h) in
    let q = stack_apart a b x y p.1 in ((λ i. control.Faulted (p.0 i) (q.0 i)), q.1)
control_apart (control.Ended a) (control.Ended b) x y h =
    let p = int_apart a b x y (behind _ _ _ _ h) in ((λ i. control.Ended (p.0 i)), p.1)
control_apart _ _ x y h = absurd (heads _ _ _ _ h refl)

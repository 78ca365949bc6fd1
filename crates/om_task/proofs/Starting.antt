-- The start of a program, a global and a worker after the other.
use Rattle.std.proofs.Common.{◌≡◌, refl, ◌∙◌, ap, Bool, true, false, cond, ◌&&◌, List, [], ◌∷◌, ℕ, zero, suc, ◌+◌, ◌<◌, ◌≤◌}
use Rattle.std.proofs.Common.{ℤ, pos, length, take, arith, nat_eq, get_or, Some}
use Rattle.std.proofs.Math.Path.{fun_ext}
use Rattle.std.specs.Prelude.{if◌then◌else◌, slice_get, nat_lt}
use Rattle.om_code.specs.declared.raw.GlobalVariable.{GlobalVariable}
use Rattle.om_code.specs.declared.raw.Raw.{Raw}
use Rattle.om_code.specs.declared.frame.Cell.TheVariants as cell
use Rattle.om_events.specs.declared.event.Record.{Record}
use Rattle.om_events.specs.declared.event.Record.TheVariants as event_record
use Rattle.om_events.specs.declared.kind.Thread.TheVariants as thread
use Rattle.om_foot.specs.declared.object.Obj.{Obj}
use Rattle.om_foot.specs.declared.object.Obj.TheVariants as obj
use Rattle.om_state.specs.declared.control.Control.{Control}
use Rattle.om_state.specs.declared.control.Control.TheVariants.{Idle}
use Rattle.om_state.specs.declared.value.Val.{Val}
use Rattle.om_state.specs.declared.value.Val.TheVariants as value
use Rattle.std.proofs.Math.Dec.{eqb-zero-suc, eqb-suc-zero}
use Rattle.std.proofs.lemmas.Bool.Decides.{nat_tests}
use Rattle.std.proofs.lemmas.List.{take_all}
use Rattle.om_state.specs.Values.{default_of}
use Rattle.om_state.specs.State.{State, with_value}
use Rattle.om_task.specs.Rules.{start_of, first_control, first_records, initial_in}

-- the start of a program with its first n globals alone, and one worker
abbrev pub start_below : Raw → ℕ → State
start_below program n = start_of (record program { globals = take n program.globals }) 1

-- the value of a cell
abbrev pub int : ℤ → Val
int n = value.Cell (cell.Int n)

eq_flip : (m n : ℕ) → nat_eq m n ≡ nat_eq n m
eq_flip m n = grind (arith, nat_tests)

control_if : (b : Bool) (c d : Control) → cond b (value.Control c) (value.Control d)
    ≡ value.Control (if b then c else d)
control_if true c d = refl
control_if false c d = refl

int_zero : (b : Bool) → int (pos 0) ≡ int (if b then pos 0 else pos 0)
int_zero true = refl
int_zero false = refl

first_if : (same first within : Bool) (records others : List Record) → same ≡ first
    → (first ≡ false → within ≡ false) → cond same (value.Events records) (value.Events [])
    ≡ value.Events (if first then records else if within then others else [])
first_if true true within records others p q = refl
first_if true false within records others p q = cc
first_if false true within records others p q = cc
first_if false false true records others p q = cc (q refl)
first_if false false false records others p q = refl

first_events : (w : ℕ) → cond (nat_eq 0 w) (value.Events (first_records 1 0)) (value.Events [])
    ≡ value.Events (first_records 1 w)
first_events w = first_if (nat_eq 0 w) (nat_eq w 0) (nat_lt w 1) (first_records 1 0)
    (event_record.ThreadBegin thread.Worker ∷ []) (eq_flip 0 w) (λ e. grind (arith, nat_tests))

-- the first two values
abbrev pub before_globals : Raw → State
before_globals program = with_value (obj.Events 0) (value.Events (first_records 1 0))
    (with_value (obj.Control 0) (value.Control (first_control program 0)) default_of)

at_first : (program : Raw) (q : Obj) → before_globals program q ≡ start_below program 0 q
at_first program (obj.Control w) = ap (λ b. cond b (value.Control (first_control program 0)) (value.Control Idle))
    (eq_flip 0 w) ∙ control_if (nat_eq w 0) (first_control program 0) Idle
at_first program (obj.Global v i) = int_zero (nat_eq i 0)
at_first program (obj.Cell t f s i) = refl
at_first program (obj.Task t) = refl
at_first program (obj.Kids t) = refl
at_first program (obj.Pending t p) = refl
at_first program (obj.Arrived t n) = refl
at_first program (obj.Work t n) = refl
at_first program (obj.Lock n) = refl
at_first program (obj.Group t) = refl
at_first program obj.Output = refl
at_first program (obj.Events w) = first_events w

pub start-none : (program : Raw) → before_globals program ≡ start_below program 0
start-none program = fun_ext (at_first program)

-- what a variable starts with
abbrev initial_of : List GlobalVariable → ℕ → ℤ
initial_of gs v = initial_in (slice_get gs v)

eq_less : (m n : ℕ) → nat_eq (suc m) (suc n) ≡ nat_eq m n
eq_less m n = grind (arith, nat_tests)

one_more : (gs : List GlobalVariable) (n v : ℕ) (d : GlobalVariable) → n < length gs → cond (nat_eq n v)
    (initial_in (Some (get_or gs n d))) (initial_of (take n gs) v) ≡ initial_of (take (suc n) gs) v
one_more [] n v d h = absurd (omega arith)
one_more (g ∷ gs) zero zero d h = refl
one_more (g ∷ gs) zero (suc v) d h = ap (λ b. cond b (initial_in (Some g)) (pos 0)) (eqb-zero-suc v)
one_more (g ∷ gs) (suc n) zero d h = ap (λ b. cond b (initial_in (Some (get_or gs n d))) (initial_in (Some g)))
    (eqb-suc-zero n)
one_more (g ∷ gs) (suc n) (suc v) d h = ap (λ b. cond b (initial_in (Some (get_or gs n d)))
    (initial_of (take n gs) v)) (eq_less n v) ∙ one_more gs n v d (omega arith)

put_cell : (same zero_index : Bool) (new old : ℤ) → cond (same && zero_index) (int new)
    (int (if zero_index then old else pos 0)) ≡ int (if zero_index then cond same new old else pos 0)
put_cell true true new old = refl
put_cell true false new old = refl
put_cell false true new old = refl
put_cell false false new old = refl

at_next : (program : Raw) (n : ℕ) (d : GlobalVariable) → n < length program.globals → (q : Obj)
    → with_value (obj.Global n 0) (int (initial_in (Some (get_or program.globals n d)))) (start_below program n) q
    ≡ start_below program (suc n) q
at_next program n d h (obj.Global v i) =
    ap (λ b. cond (nat_eq n v && b) (int (initial_in (Some (get_or program.globals n d))))
    (start_below program n (obj.Global v i))) (eq_flip 0 i)
    ∙ put_cell (nat_eq n v) (nat_eq i 0) (initial_in (Some (get_or program.globals n d)))
    (initial_of (take n program.globals) v)
    ∙ ap (λ x. int (if nat_eq i 0 then x else pos 0)) (one_more program.globals n v d h)
at_next program n d h (obj.Control w) = refl
at_next program n d h (obj.Cell t f s j) = refl
at_next program n d h (obj.Task t) = refl
at_next program n d h (obj.Kids t) = refl
at_next program n d h (obj.Pending t p) = refl
at_next program n d h (obj.Arrived t m) = refl
at_next program n d h (obj.Work t m) = refl
at_next program n d h (obj.Lock m) = refl
at_next program n d h (obj.Group t) = refl
at_next program n d h obj.Output = refl
at_next program n d h (obj.Events w) = refl

-- one more global has its initial value
pub start-more : (program : Raw) (n : ℕ) (d : GlobalVariable) → n < length program.globals
    → with_value (obj.Global n 0) (int (initial_in (Some (get_or program.globals n d)))) (start_below program n)
    ≡ start_below program (suc n)
start-more program n d h = fun_ext (at_next program n d h)

pub start-all : (program : Raw) → start_below program (length program.globals) ≡ start_of program 1
start-all program = ap (λ gs. start_of (record program { globals = gs }) 1) (take_all (length program.globals)
    program.globals (omega arith))

-- what is recorded of a worker other than the first
abbrev pub other_records : List Record
other_records = event_record.ThreadBegin thread.Worker ∷ []

put_events : (same first before after : Bool) (records : List Record) → (same ≡ true → first ≡ false)
    → (same ≡ true → after ≡ true) → (same ≡ false → before ≡ after)
    → cond same (value.Events other_records) (value.Events (if first then records else if before then other_records
    else [])) ≡ value.Events (if first then records else if after then other_records else [])
put_events true true before after records p q r = cc (p refl)
put_events true false before true records p q r = refl
put_events true false before false records p q r = cc (q refl)
put_events false true before after records p q r = refl
put_events false false before after records p q r = ap (λ b. value.Events (if b then other_records else [])) (r refl)

at_worker : (program : Raw) (n : ℕ) → 1 ≤ n → (q : Obj) → with_value (obj.Events n) (value.Events other_records)
    (start_of program n) q ≡ start_of program (suc n) q
at_worker program n h (obj.Events w) = put_events (nat_eq n w) (nat_eq w 0) (nat_lt w n) (nat_lt w (suc n)) _
    (λ e. grind (arith, nat_tests)) (λ e. grind (arith, nat_tests)) (λ e. grind (arith, nat_tests))
at_worker program n h (obj.Global v i) = refl
at_worker program n h (obj.Control w) = refl
at_worker program n h (obj.Cell t f s j) = refl
at_worker program n h (obj.Task t) = refl
at_worker program n h (obj.Kids t) = refl
at_worker program n h (obj.Pending t p) = refl
at_worker program n h (obj.Arrived t m) = refl
at_worker program n h (obj.Work t m) = refl
at_worker program n h (obj.Lock m) = refl
at_worker program n h (obj.Group t) = refl
at_worker program n h obj.Output = refl

-- one more worker has its record
pub worker-more : (program : Raw) (n : ℕ) → 1 ≤ n → with_value (obj.Events n) (value.Events other_records)
    (start_of program n) ≡ start_of program (suc n)
worker-more program n h = fun_ext (at_worker program n h)

pub worker-next : (program : Raw) (n : ℕ) → 1 ≤ n → with_value (obj.Events n) (value.Events other_records)
    (start_of program n) ≡ start_of program (n + 1)
worker-next program n h = worker-more program n h ∙ ap (start_of program) (next n)
  where
    next : (k : ℕ) → suc k ≡ k + 1
    next k = omega arith

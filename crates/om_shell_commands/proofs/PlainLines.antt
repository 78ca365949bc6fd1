-- A line of a word, a space and a worker asks for what the word says of that worker.
use Rattle.std.proofs.Common.{◌≡◌, ℕ, ◌+◌, ◌*◌, ◌-◌, Bool, true, false, cond, not, ◌&&◌, nat_lt, nat_le, List, [], ◌∷◌}
use Rattle.std.proofs.Common.{◌≤◌, get_or, drop}
use Rattle.std.proofs.Common.{◌==◌, length, filter, Option, None, Some, option_map, refl, sym, ap, ◌∙◌, arith}
use Rattle.std.proofs.lemmas.Bool.Decides.{nat_tests}
use Rattle.std.proofs.lemmas.List.Splits.{slice_split-cons_no}
use Rattle.std.specs.List.{slice_split, onto_first}
use Rattle.om_shell_commands.specs.declared.command.Command.TheVariants as command
use Rattle.om_shell_commands.specs.declared.command.Request.TheVariants as request
use Rattle.om_shell_commands.specs.Arguments.{is_digit, value_after, number_of, below, worker_of}
use Rattle.om_shell_commands.specs.Commands.{request_in, taken}
use Rattle.om_shell_commands.specs.Words.{words_of}

no_space : (byte : ℕ) → is_digit byte ≡ true → (byte == 32) ≡ false
no_space byte digit = grind (arith, nat_tests)

one_more : (byte n m : ℕ) (bytes : List ℕ) (digit : Bool) → is_digit byte ≡ digit
    → ((k : ℕ) → Some m ≡ value_after k bytes → slice_split (λ byte. byte == 32) bytes ≡ bytes ∷ [])
    → Some m ≡ cond digit (value_after (n * 10 + (byte - 48)) bytes) None
    → slice_split (λ byte. byte == 32) (byte ∷ bytes) ≡ (byte ∷ bytes) ∷ []
one_more byte n m bytes true is more h =
    slice_split-cons_no (λ byte. byte == 32) byte bytes (no_space byte is) ∙ ap (onto_first byte) (more _ h)
one_more byte n m bytes false is more h = cc

-- digits are one word
digits_whole : (n m : ℕ) (digits : List ℕ) → Some m ≡ value_after n digits
    → slice_split (λ byte. byte == 32) digits ≡ digits ∷ []
digits_whole n m [] h = refl
digits_whole n m (byte ∷ bytes) h = one_more byte n m bytes (is_digit byte) refl (λ k. digits_whole k m bytes) h

-- a number has one to ten digits
long_enough : (digits : List ℕ) (m : ℕ) (long : Bool) → Some m ≡ cond long (value_after 0 digits) None
    → (long ≡ true) × (Some m ≡ value_after 0 digits)
long_enough digits m true h = (refl, h)
long_enough digits m false h = cc

some_number : (workers w : ℕ) (number : Option ℕ) → Some w ≡ below workers number → (m : ℕ) × (Some m ≡ number)
some_number workers w None h = cc
some_number workers w (Some m) h = (m, refl)

no_empty : (digits : List ℕ) → (nat_lt 0 (length digits) && nat_le (length digits) 10) ≡ true
    → not (length digits == 0) ≡ true
no_empty digits h = grind (arith, nat_tests)

-- so the worker behind a word is one word more
one_behind : (workers w : ℕ) (digits : List ℕ) → Some w ≡ worker_of workers digits
    → filter (λ word. not (length word == 0)) (slice_split (λ byte. byte == 32) digits) ≡ digits ∷ []
one_behind workers w digits h =
    let number = some_number workers w (number_of digits) h in
    let spelled = long_enough digits number.0 (nat_lt 0 (length digits) && nat_le (length digits) 10) number.1 in
    ap (filter (λ word. not (length word == 0))) (digits_whole 0 number.0 digits spelled.1)
    ∙ ap (λ b. cond b (digits ∷ []) []) (no_empty digits spelled.0)

step_by : (workers w : ℕ) (digits : List ℕ) → Some w ≡ worker_of workers digits
    → request_in workers (words_of (115 ∷ 116 ∷ 101 ∷ 112 ∷ 32 ∷ digits)) ≡ request.Command (command.Step w)
step_by workers w digits h =
    ap (λ words. request_in workers ((115 ∷ 116 ∷ 101 ∷ 112 ∷ []) ∷ words)) (one_behind workers w digits h)
    ∙ ap (λ worker. taken (option_map (λ w. command.Step w) worker)) (sym h)

undo_by : (workers w : ℕ) (digits : List ℕ) → Some w ≡ worker_of workers digits
    → request_in workers (words_of (117 ∷ 110 ∷ 100 ∷ 111 ∷ 32 ∷ digits)) ≡ request.Command (command.Undo w)
undo_by workers w digits h =
    ap (λ words. request_in workers ((117 ∷ 110 ∷ 100 ∷ 111 ∷ []) ∷ words)) (one_behind workers w digits h)
    ∙ ap (λ worker. taken (option_map (λ w. command.Undo w) worker)) (sym h)

-- bytes begin with these five
abbrev pub BeginsWith : List ℕ → ℕ → ℕ → ℕ → ℕ → ℕ → Type 0
BeginsWith line a b c d e = (5 ≤ length line) × (get_or line 0 0 ≡ a) × (get_or line 1 0 ≡ b) × (get_or line 2 0 ≡ c)
    × (get_or line 3 0 ≡ d) × (get_or line 4 0 ≡ e)

begins : (line : List ℕ) (a b c d e : ℕ) → BeginsWith line a b c d e → line ≡ a ∷ b ∷ c ∷ d ∷ e ∷ drop 5 line
begins [] a b c d e h = absurd (omega (arith, h.0))
begins (_ ∷ []) a b c d e h = absurd (omega (arith, h.0))
begins (_ ∷ (_ ∷ [])) a b c d e h = absurd (omega (arith, h.0))
begins (_ ∷ (_ ∷ (_ ∷ []))) a b c d e h = absurd (omega (arith, h.0))
begins (_ ∷ (_ ∷ (_ ∷ (_ ∷ [])))) a b c d e h = absurd (omega (arith, h.0))
begins (_ ∷ (_ ∷ (_ ∷ (_ ∷ (_ ∷ digits))))) a b c d e h =
    λ i. h.1 i ∷ h.2 i ∷ h.3 i ∷ h.4 i ∷ h.5 i ∷ digits

pub plain_step : (workers w : ℕ) (line : List ℕ) → BeginsWith line 115 116 101 112 32
    → Some w ≡ worker_of workers (drop 5 line)
    → request_in workers (words_of line) ≡ request.Command (command.Step w)
plain_step workers w line h worker =
    ap (λ bytes. request_in workers (words_of bytes)) (begins line 115 116 101 112 32 h)
    ∙ step_by workers w (drop 5 line) worker

pub plain_undo : (workers w : ℕ) (line : List ℕ) → BeginsWith line 117 110 100 111 32
    → Some w ≡ worker_of workers (drop 5 line)
    → request_in workers (words_of line) ≡ request.Command (command.Undo w)
plain_undo workers w line h worker =
    ap (λ bytes. request_in workers (words_of bytes)) (begins line 117 110 100 111 32 h)
    ∙ undo_by workers w (drop 5 line) worker

-- Texts that are written again and again.
use Rattle.std.proofs.Common.{◌≡◌, ◌<◌, ◌-◌, ℕ, zero, suc, List, ◌++◌, sym, ap, ◌∙◌, append_assoc, arith}
use Rattle.lab_schedules.specs.Schedules.{times}

pub times_first : (n : ℕ) (text : List ℕ) → 0 < n → times n text ≡ text ++ times (n - 1) text
times_first zero text h = absurd (omega arith)
times_first (suc n) text h =
    let same : n ≡ suc n - 1 = omega arith in
    ap (λ k. text ++ times k text) same

pub times_next : (now more all text : List ℕ) (n : ℕ) → 0 < n → now ++ times n text ≡ all → more ≡ now ++ text
    → more ++ times (n - 1) text ≡ all
times_next now more all text n h so_far added =
    ap (λ t. t ++ times (n - 1) text) added ∙ append_assoc now text (times (n - 1) text)
    ∙ ap (λ t. now ++ t) (sym (times_first n text h)) ∙ so_far

-- two texts that are appended in turn
pub appended_two : (old one two first second : List ℕ) → one ≡ old ++ first → two ≡ one ++ second → two ≡ old
    ++ (first ++ second)
appended_two old one two first second e f = f ∙ ap (λ t. t ++ second) e ∙ append_assoc old first second

use Rattle.std.proofs.Common.{◌≡◌, ◌∙◌, sym, ap, arith, ℕ, ◌+◌, ◌-◌, List, [], ◌∷◌, ◌++◌, take, length, length-append, Bool, true, false, cond, Some, None}
use Rattle.std.specs.Prelude.{nat_le, unwrap_or}
use Rattle.std.proofs.Math.Seq.{take-append_seam}
use Rattle.om_foot.specs.Names.{above}
use Rattle.om_task.proofs.laws.born_below.Goals as goal

-- a name that is given is the one that was asked for
given : (b : Bool) (name new : List ℕ) → cond b (Some name) None ≡ Some new → name ≡ new
given true name new e = ap (λ o. unwrap_or o name) e
given false name new e = cc

above_more : (name : List ℕ) (number : ℕ) → above (name ++ number ∷ []) ≡ name
above_more name number =
    ap (λ k. take (k - 1) (name ++ number ∷ [])) (length-append name (number ∷ []))
    ∙ ap (λ k. take k (name ++ number ∷ [])) (let e : length name + 1 - 1 ≡ length name = omega arith in e)
    ∙ take-append_seam name (number ∷ [])

pub returns : goal.returns
returns c = λ context new e. let name = context.task ++ (context.births + 1) ∷ [] in
    ap above (sym (given (nat_le (length name) 64) name new e)) ∙ above_more context.task (context.births + 1)

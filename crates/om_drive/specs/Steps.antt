-- The steps that calls made.
use Rattle.std.specs.Prelude.{◌≡◌, ◌+◌, ℕ, suc, Bool, true, false, cond, List, [], ◌∷◌, sum_by}
use Rattle.om_book_journal.specs.Runs.{is_step_made}
use Rattle.om_book.specs.Seats.{SeatView}
use Rattle.om_book_journal.specs.declared.command.Command.{Command}
use Rattle.om_book_journal.specs.declared.command.Command.TheVariants as command
use Rattle.om_book.specs.declared.receipt.Receipt.{Receipt}
use Rattle.om_book_journal.specs.declared.reply.Reply.{Reply}

-- the call asked for a step, and it was made
abbrev pub makes_step : Command → Reply → Bool
makes_step (command.Step worker choice) x = is_step_made x
makes_step _ x = false

-- how many of the calls made a step
abbrev pub steps_in : List Receipt → ℕ
steps_in [] = 0
steps_in (r ∷ rs) = cond (makes_step r.command r.reply) (suc (steps_in rs)) (steps_in rs)

-- how many steps a seat made
abbrev pub steps_of : SeatView → ℕ
steps_of s = steps_in s.receipts

-- the new one made so many more steps than the old one
abbrev pub MakesSteps : {A : Type 0} → (A → List Receipt) → A → A → ℕ → Type 0
MakesSteps made old new n = steps_in (made new) ≡ steps_in (made old) + n

-- the new one made one more step than the old one where this is true, and no more where it is false
abbrev pub StepIf : {A : Type 0} → (A → List Receipt) → A → A → Bool → Type 0
StepIf made old new step = MakesSteps made old new (cond step 1 0)

-- the new one made as many steps as the old one
abbrev pub NoStep : {A : Type 0} → (A → List Receipt) → A → A → Type 0
NoStep made old new = steps_in (made new) ≡ steps_in (made old)

-- how many steps all of these made
abbrev pub steps_by : {A : Type 0} → (A → List Receipt) → List A → ℕ
steps_by made xs = sum_by (λ x. steps_in (made x)) xs

-- all of these made so many steps since then
abbrev pub AllMakeSteps : {A : Type 0} → (A → List Receipt) → List A → List A → ℕ → Type 0
AllMakeSteps made old new n = steps_by made new ≡ steps_by made old + n

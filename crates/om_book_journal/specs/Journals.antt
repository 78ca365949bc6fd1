-- Journals: which are legal, and the machine that they leave.
use Rattle.std.specs.Prelude.{◌≡◌, ◌≤◌, ◌-◌, ℕ, suc, cond, List, [], ◌∷◌, length, slice_get, Option, option_map}
use Rattle.om_undo.specs.Machines.{MachineView}
use Rattle.om_book_journal.specs.Runs.{IsReply, after, is_step_made}
use Rattle.om_book_journal.specs.Records.{JournalRecord}
use Rattle.om_book_journal.specs.declared.command.Command.{Command}
use Rattle.om_book_journal.specs.declared.reply.Reply.{Reply}

-- each reply is the one that a machine of one thread gives there
abbrev pub IsLegal : MachineView → List JournalRecord → Type 0
IsLegal m [] = Unit {0}
IsLegal m (r ∷ rs) = IsReply m r.command r.reply × IsLegal (after m r.command) rs

-- the machine after all commands of a journal
abbrev pub left_by : MachineView → List JournalRecord → MachineView
left_by m [] = m
left_by m (r ∷ rs) = left_by (after m r.command) rs

-- what the last call asked, where there is one
abbrev pub last_asked : List JournalRecord → Option Command
last_asked rs = option_map (λ (r : JournalRecord). r.command) (slice_get rs (length rs - 1))

-- what the last call was answered, where there is one
abbrev pub last_told : List JournalRecord → Option Reply
last_told rs = option_map (λ (r : JournalRecord). r.reply) (slice_get rs (length rs - 1))

-- how many steps the calls made
abbrev pub done_in : List JournalRecord → ℕ
done_in [] = 0
done_in (r ∷ rs) = cond (is_step_made r.reply) (suc (done_in rs)) (done_in rs)

-- the machine is what its journal leaves of the machine at the start
pub record IsSound (machine start : MachineView) (journal : List JournalRecord) : Type 0 where
  pub legal : IsLegal start journal
  pub left : machine ≡ left_by start journal
  pub program : machine.program ≡ start.program
  pub workers : machine.workers ≡ start.workers
  pub most : length journal ≤ 200000
  -- so that serials fit
  pub few_made : machine.history.made ≤ length journal

-- What a cone has is what its roll replies.
use Rattle.std.proofs.Common.{◌≡◌, ◌∙◌, sym, ap, refl, ◌↔◌, List, [], ◌∷◌, Option, Some, None, Vec, true, false}
use Rattle.std.specs.Prelude.{IfSome, IsNone}
use Rattle.std.specs.declared.alloc.Global.{Global}
use Rattle.om_undo_history.specs.declared.reply.Taken.{Taken}
use Rattle.om_undo_history.specs.declared.reply.RollReply.{RollReply}
use Rattle.om_undo_history.specs.declared.reply.RollReply.TheVariants.{Rolled, NoEntry}
use Rattle.om_undo_history.specs.Cones.{rolled}
use Rattle.om_book_journal.specs.declared.reply.Reply.{Reply}
use Rattle.om_book_journal.specs.declared.reply.Reply.TheVariants as replies

-- a roll that finds its entry takes something out
takes_some : (ts : List Taken) (x : RollReply) → x ≡ rolled ts → (x ≡ NoEntry → ⊥) → Rolled ts ≡ x
takes_some [] x is not = absurd (not is)
takes_some (t ∷ ts) x is not = sym is

pub roll_told : (o : Option (Vec Taken Global)) (ts : List Taken) (x : RollReply) (gone : Type 0) (y : Reply)
    → (IsNone o ↔ gone) → IfSome o (λ v. v.items ≡ ts) → x ≡ rolled ts → ((x ≡ NoEntry) ↔ gone)
    → IfSome o (λ v. y ≡ replies.Roll (Rolled v.items)) → (IsNone o → y ≡ replies.Roll NoEntry)
    → y ≡ replies.Roll x
roll_told None ts x gone y none found is no_entry some nothing =
    nothing refl ∙ ap replies.Roll (sym (no_entry.1 (none.0 refl)))
roll_told (Some v) ts x gone y none found is no_entry some nothing =
    some
    ∙ ap (λ us. replies.Roll (Rolled us)) found
    ∙ ap replies.Roll (takes_some ts x is (λ e. let no : true ≡ false = none.1 (no_entry.0 e) in cc))

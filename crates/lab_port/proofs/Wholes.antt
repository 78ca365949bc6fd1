-- What is made of the pieces of a text is what its definition says.
use Rattle.std.proofs.Common.{◌≡◌, ℕ, List, sym, subst, ap, ◌∙◌}
use Rattle.lab_port_tokens.specs.declared.piece.Piece.{Piece}
use Rattle.lab_port_tokens.specs.Pieces.{pieces_of}
use Rattle.lab_port.specs.declared.ported.Change.{Change}
use Rattle.lab_port.specs.declared.ported.Step.{Step}
use Rattle.lab_port.specs.declared.stage.Stage.{Stage}
use Rattle.lab_port.specs.Written.{with_changes, line_feeds, Stand}
use Rattle.lab_port.specs.Portings.{stage_changes, changes_in, IsStep}
use Rattle.lab_port.proofs.Feeds.{lines_from}
use Rattle.lab_port.proofs.Stands.{changes_stand}

-- the changes of the pieces of a text are its changes, and stand in it
pub whole_changes : (stage : Stage) (text : List ℕ) (pieces seen : List Piece) (changes : List Change)
    → pieces ≡ pieces_of text
    → seen ≡ pieces
    → changes ≡ stage_changes stage seen
    → changes ≡ changes_in stage text
whole_changes stage text pieces seen changes cut sees made = made ∙ ap (stage_changes stage) (sees ∙ cut)

pub whole_stand : (stage : Stage) (text : List ℕ) (changes : List Change)
    → changes ≡ changes_in stage text
    → Stand text 0 changes
whole_stand stage text changes made = subst (Stand text 0) (sym made) (changes_stand stage text)

-- a text with changes that stand in it is a step
pub whole_step : (stage : Stage) (text : List ℕ) (step : Step) (seen : List Change)
    → step.changes.items ≡ changes_in stage text
    → Stand text 0 step.changes.items
    → seen ≡ step.changes.items
    → step.text.items ≡ with_changes text 0 seen
    → IsStep stage text step
whole_step stage text step seen changes apart sees made =
    let text_is = made ∙ ap (with_changes text 0) sees in record {
      changes = changes;
      apart = apart;
      made = text_is;
      lines = ap line_feeds text_is ∙ lines_from text 0 step.changes.items apart;
    }

-- a step on a text that is seen as another one
pub step_on : (stage : Stage) (text seen : List ℕ) (step : Step) → seen ≡ text → IsStep stage seen step
    → IsStep stage text step
step_on stage text seen step same is = subst (λ t. IsStep stage t step) same is

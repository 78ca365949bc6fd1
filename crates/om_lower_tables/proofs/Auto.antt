-- What the tactic of `src/lib.rt` may open and cite at a goal that has no answer.
-- To open `definitions` is to open all that its line `unfolding` names.
use Rattle.om_lower_rules.specs.Bodies.{regions, all_regions, parts_regions}
use Rattle.om_lower_rules.specs.Mentions.{mentioned, all_mentioned, parts_mentioned, expression_formats, values_formats}
use Rattle.om_lower_rules.specs.Slots.{statement_sights, statements_sights, parts_sights}
use Rattle.om_lower_tables.specs.Room.{IsRoomFor}
use Rattle.om_lower_tables.proofs.Cells.{cells_measured}
use Rattle.om_lower_tables.proofs.Copied.{original_seen, combined_seen}
use Rattle.om_lower_tables.proofs.Ending.{end_placed, end_there}
use Rattle.om_lower_tables.proofs.Noting.{cells_next, cells_done}
use Rattle.om_lower_tables.proofs.SiteBodies.{round_below, round_kept, kept_then}

unfoldable pub definitions : Unit {0}
unfolding
    regions all_regions parts_regions
    mentioned all_mentioned parts_mentioned expression_formats values_formats
    statement_sights statements_sights parts_sights
    IsRoomFor
definitions = tt

pub ruleset lemmas = (
  end_placed,
  end_there,
  original_seen,
  combined_seen,
  round_below,
  round_kept,
  kept_then,
  cells_next,
  cells_done,
  cells_measured,
)

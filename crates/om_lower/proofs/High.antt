-- The first function with too many operands at once.
use Rattle.std.proofs.Common.{◌≡◌, ◌<◌, ℕ, List, Some, All, length, take, get_or}
use Rattle.om_code.specs.declared.raw.Body.{Body}
use Rattle.om_lower.specs.Heights.{AreLow, IsFirstHigh, IsHigh}
use Rattle.om_lower.proofs.Items.{item_get}

pub first_is : (picks : List (List ℕ)) (functions : List (List Body)) (index : ℕ) (bodies : List Body)
    → index < length functions → bodies ≡ get_or functions index bodies
    → IsHigh picks bodies → All (λ all. AreLow picks all) (take index functions)
    → IsFirstHigh picks functions (Some index)
first_is picks functions index bodies lt is high before =
    record {
      within = lt;
      bodies = bodies;
      there = item_get functions index bodies lt is;
      high = high;
      before = before;
    }

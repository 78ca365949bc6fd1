-- Critical regions of one name have one lock, and those of different names have different ones (OpenMP API 5.2,
-- section 15.2). Those without a name have one name.
use Rattle.std.specs.Prelude.{◌≡◌, ℕ, List, Option, Some, slice_get}
use Rattle.om_code.specs.declared.raw.Body.{Body}
use Rattle.om_code.specs.declared.raw.Raw.{Raw}
use Rattle.om_scope_tree.specs.ResolvedTree.{ResolvedTree}
use Rattle.om_lower_rules.specs.Bodies.{BodySite}
use Rattle.om_lower_rules.specs.Code.{IsCodeOf, site_of}
use Rattle.om_lower_rules.specs.Mentions.{lock_mention, lock_name, tree_mentioned}
use Rattle.om_lower_rules.specs.Statements.{lock_number}

-- In the code of a tree no two locks have one name.
abbrev pub LocksDiffer : Type 0
LocksDiffer = (tree : ResolvedTree) (raw : Raw) (i j : ℕ) (name : List ℕ) → IsCodeOf tree raw
    → slice_get raw.locks i ≡ Some name → slice_get raw.locks j ≡ Some name → i ≡ j

-- The k-th `critical` directive of the text has this name, if it has one.
abbrev pub IsCritical : ResolvedTree → (k : ℕ) → Option (List ℕ) → Type 0
IsCritical tree k name = slice_get (tree_mentioned lock_mention tree) k ≡ Some (lock_name name)

-- Its code enters and leaves the lock of its name, in whichever body it stands.
abbrev pub DirectivesHaveLocks : Type 0
DirectivesHaveLocks = (tree : ResolvedTree) (raw : Raw) (b : BodySite) (body : Body) (k : ℕ) (name : Option (List ℕ))
    → IsCodeOf tree raw → IsCritical tree k name
    → slice_get raw.locks (lock_number (site_of tree raw b body) name) ≡ Some (lock_name name)

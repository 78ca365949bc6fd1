use Rattle.std.proofs.Common.{◌≡◌, sym, subst, List, ℕ}
use Rattle.om_foot.specs.declared.object.Obj.{Obj}
use Rattle.lab_races.specs.Sweeps.{AreJoined, Joins, items_at}
use Rattle.lab_races.proofs.Tables.{are_joined}
use Rattle.lab_races.proofs.strands.join_at.Goals as goal

pub returns : goal.returns
returns c =
    let es = c.args.clocks.now.entries in
    let q : Obj = c.args.object.now in
    let k : Obj = c.in_ok-key.key in
    let same : k ≡ q = c.in_ok-key.ensures in
    let clock : List ℕ = c.args.clock.now in
    let joins : Joins (items_at es q) clock c.in_ok-more.more.items =
    subst (λ (l : List ℕ). Joins l clock c.in_ok-more.more.items) c.clock_at.ensures c.in_ok-more.ensures in
    subst (λ (x : Obj). AreJoined es c.insert.new.self.entries x clock) same
    (are_joined es c.insert.new.self.entries k c.in_ok-more.more clock c.in_ok-insert.ensures.updates.0
    (subst (λ (x : Obj). Joins (items_at es x) clock c.in_ok-more.more.items) (sym same) joins))

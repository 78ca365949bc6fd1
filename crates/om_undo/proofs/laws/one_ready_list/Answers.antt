use Rattle.std.specs.Cmp.Lexicographic.{nat_list_cmp_total}
use Rattle.om_undo.proofs.OneList.{one_list}
use Rattle.om_undo.proofs.laws.one_ready_list.Goals as goal

pub returns : goal.returns
returns c = λ s names others x y.
    one_list nat_list_cmp_total names others x.ascending y.ascending (λ name. (
      λ at. (y.members name).1 ((x.members name).0 at),
      λ at. (x.members name).1 ((y.members name).0 at),
    ))

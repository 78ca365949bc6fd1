-- Matter of proofs: lists may cross threads where their items may.
use Rattle.std.proofs.Crossing.{crosses}
use denote.RattleType.{RattleType}
use denote.Param.Send.{IsSend, IsSync, sendable}
use Rattle.om_seq.specs.contracts.Seq as seq
use Rattle.om_seq.specs.contracts.pile.Pile as pile

module _ (T : RattleType) where
  pub seq_send : IsSend T → IsSend (seq.the_row T)
  seq_send s = search (crosses, sendable) depth 40

  pub seq_sync : IsSync T → IsSync (seq.the_row T)
  seq_sync y = search (crosses, sendable) depth 40

  pub pile_send : IsSend T → IsSend (pile.the_row T)
  pile_send s = search (crosses, sendable) depth 40

  pub pile_sync : IsSync T → IsSync (pile.the_row T)
  pile_sync y = search (crosses, sendable) depth 40

-- Matter of proofs: what is shared may cross threads where a thread may have it, and may look at it beside others.
use Rattle.std.proofs.Crossing.{crosses}
use denote.RattleType.{RattleType}
use denote.Struct.Declared.{shape}
use denote.Param.Send.{IsSend, IsSync, recorded_send, recorded_sync, sendable, struct_send, struct_sync, view_send}
use denote.Param.Send.{view_sync}
use Rattle.om_seq.specs.contracts.pile.Pile as pile
use Rattle.om_foot.specs.contracts.shared.Shared as shared
use Rattle.om_state.specs.contracts.shared_pile.SharedPile as stack
use Rattle.om_state.specs.contracts.shared_pile.SharedPile.TheInside as inside
use Rattle.om_undo.specs.Lists.{pile_send, pile_sync}

module _ (T : RattleType) (s : IsSend T) (y : IsSync T) where
  pub shared_send : IsSend (shared.the_row T)
  shared_send = search (crosses, sendable) depth 40

  pub shared_sync : IsSync (shared.the_row T)
  shared_sync = search (crosses, sendable) depth 40

-- a pile of shared items, which is shared itself
module _ (T : RattleType) (s : IsSend T) (y : IsSync T) where
  abbrev items : RattleType
  items = pile.the_row (shared.the_row T)

  items_send : IsSend items
  items_send = pile_send _ (shared_send T s y)

  items_sync : IsSync items
  items_sync = pile_sync _ (shared_sync T s y)

  pub stack_send : IsSend (stack.the_row T)
  stack_send =
      view_send (inside.the_row T) _ _ _ _ (recorded_send _ _ _ (inside.the_type T).to_one
      (struct_send (shape (inside.the_type T)) (shared_send items items_send items_sync, tt)))

  pub stack_sync : IsSync (stack.the_row T)
  stack_sync =
      view_sync (inside.the_row T) _ _ _ _ (recorded_sync _ _ _ (inside.the_type T).to_one
      (struct_sync (shape (inside.the_type T)) (shared_sync items items_send items_sync, tt)))

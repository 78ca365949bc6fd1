-- A seat beside its session may go to another thread.
use denote.RattleType.{RattleType}
use denote.Ref.{NamedLft}
use denote.Param.Send.{IsSend, IsSync, sendable}
use Rattle.std.specs.declared.sync.ledger.Ledger as ledger
use Rattle.om_book.specs.declared.session.Sitting as sitting
use Rattle.om_book.specs.Crossing.{session_sync, seat_send}
use Rattle.om_drive.specs.contracts.sitter.Sitter as sitter

pub sitter_send : (s : NamedLft) (L : RattleType) (g : sitting.Ghosts L.Denot) (l : ledger.Ghosts L.Denot)
    → IsSend L → IsSync L → IsSend (sitter.the_row s L g l)
sitter_send s L g l a b =
    let shared = session_sync L g l a b in
    let sent = seat_send L g l a b in
    search sendable depth 40

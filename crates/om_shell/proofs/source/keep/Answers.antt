use Rattle.std.proofs.Common.{arith, ◌-◌}
use Rattle.om_shell.proofs.KeptSource.{kept_room, kept_within}
use Rattle.om_shell.proofs.source.keep.Goals as goal

pub returns-in_ok-extend_from_slice-clause-kept : goal.returns-in_ok-extend_from_slice-clause-kept
returns-in_ok-extend_from_slice-clause-kept c =
    kept_room c.args.source.now.items c.args.bytes.now _ (4194304 - c.len-room.result) c.requires
    (omega (arith, c.len-room.ensures, c.args.source.now.ok.0)) c.in_ok-extend_from_slice.ensures.items

pub returns-in_ok-extend_from_slice-2-clause-kept : goal.returns-in_ok-extend_from_slice-2-clause-kept
returns-in_ok-extend_from_slice-2-clause-kept c =
    kept_within c.args.source.now.items c.args.bytes.now _ (4194304 - c.len-room.result) c.requires
    (omega (arith, c.len-room.ensures, c.args.source.now.ok.0)) c.if-bytes-room.false
    c.in_ok-extend_from_slice-2.ensures.items

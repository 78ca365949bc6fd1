-- Matter of proofs: a program may cross threads.
use denote.Param.Send.{IsSend, sendable}
use Rattle.om_code.specs.contracts.instruction.Instr as instr
use Rattle.om_code.specs.contracts.raw.Body as body
use Rattle.om_code.specs.contracts.raw.GlobalVariable as global
use Rattle.om_code.specs.contracts.raw.Line as line
use Rattle.om_code.specs.contracts.raw.Names as names
use Rattle.om_code.specs.contracts.raw.Piece as piece
use Rattle.om_code.specs.contracts.raw.Raw as raw
use Rattle.om_code.specs.contracts.raw.Scope as scope
use Rattle.om_code.specs.contracts.raw.Slot as slot
use Rattle.om_code.specs.contracts.program.Program as program
use Rattle.om_undo.specs.Lists.{seq_send}

instr_send : IsSend instr.the_field.row
instr_send = search sendable depth 60 fits 20000

line_send : IsSend line.the_row
line_send = search (instr_send, sendable) depth 40

slot_send : IsSend slot.the_row
slot_send = search sendable depth 40

scope_send : IsSend scope.the_row
scope_send = search (seq_send, sendable) depth 40

names_send : IsSend names.the_field.row
names_send = search (scope_send, seq_send, sendable) depth 40

body_send : IsSend body.the_row
body_send = search (line_send, slot_send, names_send, seq_send, sendable) depth 40

global_send : IsSend global.the_row
global_send = search (seq_send, sendable) depth 40

piece_send : IsSend piece.the_row
piece_send = search (seq_send, sendable) depth 40

raw_send : IsSend raw.the_field.row
raw_send = search (body_send, global_send, piece_send, seq_send, sendable) depth 40

pub program_send : IsSend program.the_row
program_send = search (raw_send, sendable) depth 40

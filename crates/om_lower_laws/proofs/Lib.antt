mod Tables
mod Captured
mod Shares
mod Uses
mod Wholes
mod SharedSlots
mod Locks
mod DeclaredCells

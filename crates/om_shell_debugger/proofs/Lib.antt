mod Bounded
mod Undone
mod Told
mod Saying

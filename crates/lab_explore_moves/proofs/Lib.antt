pub mod LetterLemmas
pub mod PossibleLemmas
pub mod LockLemmas
pub mod EndingLemmas

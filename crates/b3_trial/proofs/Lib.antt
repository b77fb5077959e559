pub mod ShownLemmas
pub mod WordLemmas
pub mod PieceLemmas
pub mod BadLines
pub mod GeneratedLemmas
pub mod GeneratedSizes

pub mod TextLemmas
pub mod AgainLemmas
pub mod ShortLemmas

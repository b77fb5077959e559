pub mod Examples
pub mod ValueLemmas
pub mod RowLemmas
pub mod FitLemmas
pub mod RangeLemmas

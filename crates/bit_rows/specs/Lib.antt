pub mod BitRows
pub mod Words

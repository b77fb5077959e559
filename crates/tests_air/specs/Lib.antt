pub mod Orderable

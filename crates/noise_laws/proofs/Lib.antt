pub mod NoticedLaws
pub mod Theorem

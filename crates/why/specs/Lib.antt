pub mod Why
pub mod WhyLaws
pub mod Book

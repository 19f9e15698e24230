pub mod HeldLaws
pub mod RaisedLaws
pub mod SharedLaws

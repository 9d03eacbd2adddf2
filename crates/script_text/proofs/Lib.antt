pub mod WordLaws
pub mod NumberLaws
pub mod FrontLaws
pub mod VerbLaws
pub mod KindLaws
pub mod RowLaws
pub mod CommandLaws
pub mod Reading

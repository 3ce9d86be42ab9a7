pub mod Kind
pub mod Table

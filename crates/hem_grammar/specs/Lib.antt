pub mod Grammar
pub mod Draft

pub mod Carried
pub mod Along
pub mod Transactions

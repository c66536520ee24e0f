pub mod Accounts
pub mod Going

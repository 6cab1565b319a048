pub mod LedgerStands
pub mod Open

pub mod Bank
pub mod BankCalls
pub mod Counts
pub mod Streams

pub mod BankCalls
pub mod Called
pub mod Copying
pub mod Entering
pub mod OwnBlocks
pub mod Registering
pub mod Requests

pub mod Answering
pub mod Asking
pub mod Managing
pub mod Refusing
pub mod Steps
pub mod Verdicts

pub mod Asking
pub mod Handing
pub mod Ready
pub mod Renewing

pub mod Answering
pub mod Kit

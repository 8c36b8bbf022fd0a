pub mod Files
pub mod StoreFile

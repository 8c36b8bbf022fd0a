pub mod StoreVectors

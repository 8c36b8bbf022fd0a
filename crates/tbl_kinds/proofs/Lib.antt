pub mod Names
mod EachByte
pub mod NameFields
pub mod PositionLaws
pub mod FreeLaws
pub mod RecordLaws
pub mod RequestLaws
pub mod InputLaws
pub mod TranscriptLaws
pub mod Tries
pub mod PlainNotes

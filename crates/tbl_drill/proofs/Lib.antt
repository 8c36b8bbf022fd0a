pub mod Sessions
pub mod DrillRecords

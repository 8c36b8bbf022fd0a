pub mod CommandReadings

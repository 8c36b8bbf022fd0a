pub mod Laws
pub mod CrashesOnward
pub mod CrashLemmas
pub mod TroubleLemmas
pub mod ServingLemmas
pub mod Openings

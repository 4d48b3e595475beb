pub mod Rehearsal
pub mod Saying

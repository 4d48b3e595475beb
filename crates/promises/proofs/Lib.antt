pub mod Ran
pub mod Follow
pub mod OneAnswer
pub mod HitShown
pub mod ExamplesRun
pub mod Linked
pub mod Witness

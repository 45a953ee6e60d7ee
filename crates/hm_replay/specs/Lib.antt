pub mod Wishes
pub mod Loading
pub mod Reading
pub mod Refusals
pub mod Concluding
pub mod Working
pub mod Headline
pub mod Outcomes

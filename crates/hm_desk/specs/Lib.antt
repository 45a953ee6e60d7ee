pub mod Admission
pub mod Desk
pub mod Progress
pub mod Stalling
pub mod Working
pub mod Hindered

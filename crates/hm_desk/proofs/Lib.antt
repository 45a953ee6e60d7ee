pub mod Tended
pub mod Quiet
pub mod Coming
pub mod Attempting
pub mod Storing
pub mod Beginning
pub mod Fresh
pub mod Hindering

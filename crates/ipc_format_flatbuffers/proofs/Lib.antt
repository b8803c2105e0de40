pub mod Text
pub mod Numbers
pub mod Rest
pub mod Slots
pub mod References

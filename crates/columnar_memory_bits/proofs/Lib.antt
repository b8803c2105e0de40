pub mod WholeWords
pub mod Windows
pub mod Bits
pub mod Words
pub mod Counts
mod Loads
pub mod Appends
mod LastBytes
pub mod Places
mod Texts

pub mod Windows
pub mod Bits
pub mod Words
pub mod Appends
pub mod ZipValidity
pub mod ZipValidityCases
pub mod Text

pub mod Reading
pub mod FlatBuffers
pub mod Laying
pub mod Objects
pub mod Views

pub mod Lookups
pub mod KeptLists
pub mod LogicalTypes
pub mod TextLaws

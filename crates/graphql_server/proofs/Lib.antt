pub mod Changes
pub mod Edited
pub mod Items
pub mod Names
pub mod Shown

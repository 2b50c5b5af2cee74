pub mod Constant
pub mod Clones
pub mod TreeLists
pub mod TypeTexts
pub mod ValueTexts
pub mod StringTexts

-- Public: the trees that values, types, arguments and directives stand for.
pub mod PartViews
pub mod Parts
pub mod TreeEquality
pub mod TypeEquality
pub mod TypeTree
pub mod ValueText
pub mod ValueTree
pub mod ValueViews

-- Public: what a reader of the contracts of the calls in C has to believe.
pub mod Blocks
pub mod Documents
pub mod Explaining
pub mod Handing
pub mod Lending
pub mod Packing
pub mod Rewriting
pub mod Statuses
pub mod Telling

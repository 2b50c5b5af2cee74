-- Public: what a reader of the contracts of the program has to believe.
pub mod checked

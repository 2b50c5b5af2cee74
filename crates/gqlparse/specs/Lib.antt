-- Public: what a reader of the program's contracts has to believe.
pub mod Words

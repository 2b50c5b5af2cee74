-- Public: what the options of a call say, when the files are good that `gql check` finds good, and what `gql format` puts in their
-- place.
pub mod Files
pub mod Options
pub mod Replaced

-- Public: the notation of the grammar, limits, places, fronts and verdicts.
pub mod Fronts
pub mod Limits
pub mod Places
pub mod Relations
pub mod Tests

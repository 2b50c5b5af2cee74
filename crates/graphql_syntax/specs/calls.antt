-- Public: what accessors and conversions give.
pub mod Constants
pub mod Named
pub mod TypeText
pub mod Views
pub mod Words

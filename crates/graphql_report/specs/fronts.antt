-- Public: the texts of which `is_front` is asked, and what it answers.
pub mod Front

-- Public: the buffer that bytes are written into.
pub mod Buffered

-- What a `Block` says of memory.
-- Source: this project's choice.
use Rattle.std.specs.Prelude.{ℕ, List, [], length, Option, Some, None}
use Rattle.std.specs.Borrow.{u8}
use Rattle.std.specs.Ptr.{Ptr, block_ptr, null_ptr}
use base.Fml.{Fml, ftrue, ffalse, fsep, feq, fhide}
use denote.Slice.{elements_shared}

-- these bytes lie at the pointer, which isn't null, and nothing changes them: what a `&'static [u8]` holds
abbrev pub lie_at : Ptr → List ℕ → Fml
lie_at (block_ptr block offset) bytes = fhide (elements_shared u8 bytes block offset [])
lie_at null_ptr bytes = ffalse

-- a known text lies at the pointer, whole; where none is known, the pointer may be any
abbrev pub holds : Ptr → ℕ → Option (List ℕ) → Fml
holds start len (Some text) = fsep (feq ℕ len (length text)) (lie_at start text)
holds start len None = ftrue

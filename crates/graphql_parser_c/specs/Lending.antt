-- What a caller in C lends to a call, and is given back: the bytes of a text, and room for places.
-- Source: this project's choice.
use Rattle.std.specs.Prelude.{ℕ, List, [], ◌∷◌, length}
use Rattle.std.specs.Borrow.{u8, full_share}
use Rattle.std.specs.Ptr.{Ptr, block_ptr, null_ptr, lies_at}
use base.Fml.{Lft, Fml, ftrue, fsep, fex, feq, flft}
use denote.RawPtr.{Testable}
use denote.Sharing.{said, beside}
use denote.Slice.{elements_shared, room}
use Rattle.graphql_parser_c.specs.declared.telling.Places.{Places}
use Rattle.graphql_parser_c.specs.contracts.telling.Places.{the_row}

-- ---- a text

-- these bytes lie at the pointer, and nothing changes them during a lifetime; at null there is no byte
abbrev pub bytes_lie_at : Ptr → List ℕ → Lft → Fml
bytes_lie_at (block_ptr block offset) bytes = elements_shared u8 bytes block offset
bytes_lie_at null_ptr bytes = said (feq (List ℕ) bytes [])

-- the same, of as many bytes as a slice may have
abbrev pub text_lies_at : Ptr → List ℕ → Lft → Fml
text_lies_at start bytes = beside (said (room u8 (length bytes))) (bytes_lie_at start bytes)

-- the right to end a lifetime
abbrev pub token : ℕ → Fml
token life = flft (life ∷ []) full_share

-- a text is lent for a lifetime, with the right to end it
abbrev pub is_lent : Ptr → List ℕ → ℕ → Fml
is_lent start bytes life = fsep (token life) (text_lies_at start bytes (life ∷ []))

-- the same, beside the number of its bytes
abbrev pub is_counted : Ptr → ℕ → List ℕ → ℕ → Fml
is_counted start count bytes life = fsep (feq ℕ count (length bytes)) (is_lent start bytes life)

-- ---- room for places

-- these places lie at the pointer; at null lies nothing
abbrev pub places_lie_at : Ptr → Places → Fml
places_lie_at (block_ptr block offset) places = lies_at the_row full_share (block_ptr block offset) places
places_lie_at null_ptr places = ftrue

-- some places lie at the pointer, or it is null; it can be compared with null
abbrev pub is_room : Ptr → Fml
is_room at = fsep (fex (Testable at) (λ _. ftrue)) (fex Places (λ places. places_lie_at at places))

-- ---- what is given back

-- the right to end a text's lifetime, so that its bytes are the caller's again; and these places, where there was room
abbrev pub is_back : ℕ → Ptr → Places → Fml
is_back life at places = fsep (token life) (places_lie_at at places)

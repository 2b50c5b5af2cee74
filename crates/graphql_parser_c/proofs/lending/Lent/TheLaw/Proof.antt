-- A `&` to a text that is lent borrows the token of its lifetime, and so reaches the bytes. Assumes `Logic`.
use Rattle.std.proofs.Common.{ℕ, List, [], length, w8}
use base.Fml.{feq}
use denote.Builtin.{u8}
use denote.Param.Shared.{copy_shared}
use denote.Plain.{uint_row_laws}
use denote.RawPtr.{Ptr, block_ptr, null_ptr}
use denote.Sharing.{ShrLaws, said}
use denote.SharingLaws.{beside_shr_laws, said_shr_laws}
use denote.Slice.{room, elements_shr_laws}
use denote.Struct.Field.{RawPtr-field}
use denote.Struct.Laws.{RawPtr-copy}
use denote.Struct.Lending.{of_Lends}
use Rattle.graphql_parser_c.specs.Lending.{bytes_lie_at, text_lies_at}
use Rattle.graphql_parser_c.specs.contracts.lending.Lent as C
use Rattle.graphql_parser_c.proofs.lending.Lent.TheLaw.Statement.{statement}
use Rattle.graphql_parser_c.proofs.Loans.{lends}

bytes_laws : (start : Ptr) (bytes : List ℕ) → ShrLaws (bytes_lie_at start bytes)
bytes_laws (block_ptr block offset) bytes = elements_shr_laws u8 (uint_row_laws w8) bytes block offset
bytes_laws null_ptr bytes = said_shr_laws (feq (List ℕ) bytes []) tt

text_laws : (start : Ptr) (bytes : List ℕ) → ShrLaws (text_lies_at start bytes)
text_laws start bytes = beside_shr_laws (said (room u8 (length bytes))) (bytes_lie_at start bytes) (said_shr_laws (room u8 (length bytes)) (tt, tt)) (bytes_laws start bytes)

pub shares : statement
shares = of_Lends C.struct C.the_codes C.the_heap C.the_lent (λ lent p. text_laws lent.start lent.bytes) (copy_shared RawPtr-field RawPtr-copy, tt)
    (λ M 𝓤 𝓛 lent p. lends 𝓛 (text_lies_at lent.start lent.bytes) (text_laws lent.start lent.bytes) lent.life (C.the_row).lives)

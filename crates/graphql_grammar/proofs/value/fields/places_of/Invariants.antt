use Rattle.std.proofs.Common.{◌≡◌, ◌+◌, ◌*◌, vec_len, vec_capacity, [], ◌++◌, length, take, drop}
use Rattle.graphql_memory.specs.Memory.{Takes}
use Rattle.graphql_reading.specs.reading.Ahead.{Stays}
use Rattle.graphql_grammar.specs.reading.Fields.{put_all, places, Knows}
use Rattle.graphql_grammar.proofs.value.fields.places_of.Given as goal

abbrev pub invariant-loop-name : goal.invariant-loop-name
invariant-loop-name g l =
    let front = put_all [] (take l.name-index l.fields) in
    Knows l.known front × (length l.known.entries ≡ length front) × (l.found.items ++ places front (drop l.name-index l.fields) ≡ places [] l.fn.fields) × (l.fields ≡ l.fn.fields) × Stays l.fn.parser l.parser
    × (vec_len l.found ≡ l.name-index) × (vec_capacity l.found ≡ length l.fields) × Takes (8 * length l.fields + 32 * l.name-index) l.fn.parser.memory l.parser.memory

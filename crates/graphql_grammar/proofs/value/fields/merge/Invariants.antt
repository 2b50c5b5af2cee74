use Rattle.std.proofs.Common.{◌≡◌, ◌≤◌, ◌+◌, ◌*◌, [], length, vec_len, vec_capacity}
use Rattle.graphql_memory.specs.Memory.{Takes}
use Rattle.graphql_syntax.specs.inner.Rows.{merging}
use Rattle.graphql_grammar.specs.contracts.value.fields.merge.{V-row}
use Rattle.graphql_reading.specs.reading.Ahead.{Stays}
use Rattle.graphql_grammar.specs.reading.Fields.{put_all, places}
use Rattle.graphql_grammar.proofs.value.fields.merge.Given as goal

abbrev pub invariant-loop-field : goal.invariant-loop-field
invariant-loop-field g l = (put_all l.merged.items l.field-iterator.a.rest.items ≡ put_all [] l.fn.fields.items) × (l.field-iterator.b.rest.items ≡ places l.merged.items l.field-iterator.a.rest.items) × Stays l.fn.parser l.parser
    × (vec_len l.merged + length l.field-iterator.a.rest.items ≤ vec_capacity l.merged) × Takes (merging (V-row g.row.V) * vec_len l.fn.fields) l.fn.parser.memory l.parser.memory

use Rattle.std.proofs.Common.{◌≡◌, ◌++◌, map, ◌*◌, length, vec_len, vec_capacity}
use Rattle.std.specs.Vec.Iter.{into_iter_items}
use Rattle.graphql_trees.specs.trees.SchemaViews as views
use Rattle.graphql_grammar.specs.answers.Answers.{AreUnbroken}
use Rattle.graphql_schemas.specs.grammar.Documents as documents
use Rattle.graphql_schemas.specs.grammar.Schemas.{schemas}
use Rattle.graphql_schemas.specs.reading.Views.{definition_trees}
use Rattle.graphql_memory.specs.Memory.{Takes, bytes}
use Rattle.graphql_schemas.specs.reading.Funds.{definition_row}
use Rattle.graphql_schemas.proofs.rules.document_of.Given as goal

abbrev pub invariant-loop-definition : goal.invariant-loop-definition
invariant-loop-definition l =
    (goal.iterator-loop-definition).can_next l.definition-iterator ×
    (goal.iterator-loop-definition).is_finite l.definition-iterator ×
    (l.fn.definitions.items ≡ l.yielded ++ into_iter_items l.definition-iterator) ×
    AreUnbroken schemas (definition_trees l.yielded) ×
    (map views.definition_tree l.finished.items ≡ documents.document_of (definition_trees l.yielded)) ×
    (vec_len l.finished ≡ length l.yielded) ×
    (vec_capacity l.finished ≡ vec_len l.fn.definitions) ×
    Takes (bytes definition_row * vec_len l.fn.definitions) l.fn.memory l.memory

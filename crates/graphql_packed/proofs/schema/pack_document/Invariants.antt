use Rattle.std.proofs.Common.{◌≡◌, ◌++◌, drop, map}
use Rattle.graphql_parser.specs.trees.SchemaViews.{definition_tree}
use Rattle.graphql_packed.specs.packed.Bytes.{each_bytes}
use Rattle.graphql_packed.specs.packed.Schemas.{definition_bytes}
use Rattle.graphql_packed.proofs.schema.pack_document.Given as goal

abbrev pub invariant-loop-definition : goal.invariant-loop-definition
invariant-loop-definition l =
    let rest = each_bytes definition_bytes (map definition_tree (drop l.definition-index l.definition-items)) in
    let all = each_bytes definition_bytes (map definition_tree l.definition-items) in
    l.buffer ++ rest ≡ l.initial.buffer ++ all

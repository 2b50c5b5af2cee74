use Rattle.std.proofs.Common.{◌≡◌, ◌++◌, map}
use Rattle.graphql_parser.specs.trees.RequestViews.{entry_tree, fragment_tree, operations_tree}
use Rattle.graphql_parser.proofs.Requests.{operation_trees}
use Rattle.graphql_packed.specs.packed.Bytes.{each_bytes, optional_bytes, text_bytes}
use Rattle.graphql_packed.specs.packed.Requests.{fragment_bytes, named_bytes, operation_bytes}
use Rattle.graphql_parser.specs.trees.Request.{operations_of}
use Rattle.graphql_packed.proofs.request.pack_document.Given as goal

abbrev pub invariant-loop-name : goal.invariant-loop-name
invariant-loop-name l =
    let rest = each_bytes (named_bytes (optional_bytes text_bytes) operation_bytes) (operation_trees l.name-iterator) in
    let all = each_bytes (named_bytes (optional_bytes text_bytes) operation_bytes) (operations_of (operations_tree l.document.operations)) in
    (goal.iterator-loop-name).can_next l.name-iterator
    × (goal.iterator-loop-name).is_finite l.name-iterator
    × (l.buffer ++ rest ≡ l.initial.buffer ++ all)

abbrev pub invariant-loop-name-2 : goal.invariant-loop-name-2
invariant-loop-name-2 l =
    let rest = each_bytes (named_bytes text_bytes fragment_bytes) (map (entry_tree fragment_tree) l.name-iterator) in
    let all = each_bytes (named_bytes text_bytes fragment_bytes) (map (entry_tree fragment_tree) l.document.fragments.entries) in
    (goal.iterator-loop-name-2).can_next l.name-iterator
    × (goal.iterator-loop-name-2).is_finite l.name-iterator
    × (l.buffer ++ rest ≡ l.initial.buffer ++ all)

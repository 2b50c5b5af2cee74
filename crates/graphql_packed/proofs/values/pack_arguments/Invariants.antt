use Rattle.std.proofs.Common.{◌≡◌, ◌++◌, drop, map}
use Rattle.graphql_packed.specs.inner.Written.{argument_tree}
use Rattle.graphql_packed.specs.packed.Bytes.{each_bytes}
use Rattle.graphql_packed.specs.packed.Values.{argument_with}
use Rattle.graphql_packed.proofs.values.pack_arguments.Given as goal

abbrev pub invariant-loop-argument : goal.invariant-loop-argument
invariant-loop-argument g l =
    let rest = each_bytes (argument_with g.V.Packed.form.bytes) (map (argument_tree g.V.Packed.form.tree) (drop l.argument-index l.argument-items)) in
    let all = each_bytes (argument_with g.V.Packed.form.bytes) (map (argument_tree g.V.Packed.form.tree) l.argument-items) in
    l.buffer ++ rest ≡ l.initial.buffer ++ all

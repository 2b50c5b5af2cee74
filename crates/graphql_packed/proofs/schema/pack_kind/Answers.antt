use Rattle.std.proofs.Common.{ap, sym}
use Rattle.graphql_parser.specs.trees.SchemaViews.{kind_tree}
use Rattle.graphql_packed.proofs.Steps.{next, as_bytes, own_list}
use Rattle.graphql_packed.specs.packed.Bytes.{text_bytes}
use Rattle.graphql_packed.specs.packed.Schemas.{kind_bytes}
use Rattle.graphql_packed.proofs.schema.pack_kind.Goals as goal

pub returns-in_ok-nodes-in-Object : goal.returns-in_ok-nodes-in-Object
returns-in_ok-nodes-in-Object c =
    let interfaces = own_list text_bytes c.in-Object.object.implements.items c.in_ok-nodes-in-Object.ensures in
    as_bytes (ap (λ kind. kind_bytes (kind_tree kind)) (sym c.in-Object.is)) (next c.in_ok-choice-in-Object.ensures (next interfaces c.nodes-in-Object.ensures))

pub returns-in_ok-nodes-in-Interface : goal.returns-in_ok-nodes-in-Interface
returns-in_ok-nodes-in-Interface c =
    let interfaces = own_list text_bytes c.in-Interface.interface.implements.items c.in_ok-nodes-in-Interface.ensures in
    as_bytes (ap (λ kind. kind_bytes (kind_tree kind)) (sym c.in-Interface.is)) (next c.in_ok-choice-in-Interface.ensures (next interfaces c.nodes-in-Interface-2.ensures))

pub returns-in_ok-choice-in-Union : goal.returns-in_ok-choice-in-Union
returns-in_ok-choice-in-Union c =
    let members = own_list text_bytes c.in-Union.union.members.items c.nodes-in-Union.ensures in
    as_bytes (ap (λ kind. kind_bytes (kind_tree kind)) (sym c.in-Union.is)) (next c.in_ok-choice-in-Union.ensures members)

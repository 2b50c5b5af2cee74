-- The heads of the definitions of a request: what each is, its name, and where it stands. A head is seen as a definition
-- that has nothing more.
use Rattle.std.specs.Prelude.{Option, None, option_map, List, [], map}
use Rattle.smallvec.specs.SmallVec.{SmallVec}
use Rattle.graphql_tokens.specs.declared.pos.Pos.{Pos}
use Rattle.graphql_syntax.specs.declared.types.OperationType.TheVariants.{Query}
use Rattle.graphql_syntax.specs.trees.Parts.{Name}
use Rattle.graphql_parser.specs.declared.check.definitions.Head as code
use Rattle.graphql_parser.specs.declared.check.definitions.Head.TheVariants.{Operation, Fragment}
use Rattle.graphql_reading.specs.grammar.Places.{nowhere}
use Rattle.graphql_requests.specs.grammar.Request.{Definition, operation, fragment}
use Rattle.graphql_requests.specs.grammar.Selections.{set_or_none}

abbrev pub operation_head : Option Name → Pos → Definition
operation_head name place = operation name (record { pos = place; node = record { ty = Query; variable_definitions = []; directives = []; selection_set = set_or_none None } })

abbrev pub fragment_head : Name → Pos → Definition
fragment_head name place = fragment name (record { pos = place; node = record { type_condition = record { pos = nowhere; node = record { on = record { pos = nowhere; node = [] } } }; directives = []; selection_set = set_or_none None } })

abbrev pub head_of : Definition → Definition
head_of (operation name o) = operation_head name o.pos
head_of (fragment name f) = fragment_head name f.pos

abbrev pub head_tree : code.Head → Definition
head_tree (Operation name place) = operation_head (option_map (λ n. n.now) name) place
head_tree (Fragment name place) = fragment_head name.now place

abbrev pub in_heads : SmallVec code.Head → List Definition
in_heads v = map head_tree v.items

-- Trees without their places: each place is 0:0.
-- Source: this project's choice.
use Rattle.std.specs.Prelude.{List, map}
use Rattle.graphql_tokens.specs.declared.pos.Positioned.{Positioned}
use Rattle.graphql_syntax.specs.trees.Parts.{Argument, Directive}
use Rattle.graphql_reading.specs.grammar.Places.{nowhere}

-- the node without its place, and what is inside it without places too
abbrev pub unplaced : {A : Type 0} → (A → A) → Positioned A → Positioned A
unplaced f p = record { pos = nowhere; node = f p.node }

-- the node without its place, where there are no places inside it: a name, a value, a type
abbrev pub bare_node : {A : Type 0} → Positioned A → Positioned A
bare_node p = record { pos = nowhere; node = p.node }

abbrev pub placeless_argument : Argument → Argument
placeless_argument a = (bare_node a.0, bare_node a.1)

abbrev pub placeless_directive : Directive → Directive
placeless_directive d = record { name = bare_node d.name; arguments = map placeless_argument d.arguments }

abbrev pub placeless_directives : List (Positioned Directive) → List (Positioned Directive)
placeless_directives ds = map (unplaced placeless_directive) ds

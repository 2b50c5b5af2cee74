-- What request trees and schema trees share: names, places, arguments and directives, as plain data with every place.
-- Source: GraphQL October 2021, sections 2.1.9 (Names), 2.6 (Arguments) and 2.12 (Directives). The places are this
-- project's choice.
use Rattle.std.specs.Prelude.{ℕ, List}
use Rattle.graphql_tokens.specs.declared.pos.Positioned.{Positioned}
use Rattle.graphql_syntax.specs.trees.ValueTree.{Tree}

-- the bytes of a name
abbrev pub Name : Type 0
Name = List ℕ

-- the same place, with another node
abbrev pub placed : {A B : Type 0} → (A → B) → Positioned A → Positioned B
placed f p = record { pos = p.pos; node = f p.node }

-- a name and its value
abbrev pub Argument : Type 0
Argument = Positioned Name × Positioned Tree

-- in source order
abbrev pub Arguments : Type 0
Arguments = List Argument

pub record Directive : Type 0 where
  pub name : Positioned Name
  pub arguments : Arguments

abbrev pub Directives : Type 0
Directives = List (Positioned Directive)

-- The kinds of operations (GraphQL October 2021, sections 2.3 and 3.3.1).
use Rattle.graphql_syntax.specs.declared.types.OperationType.{OperationType}
use Rattle.graphql_syntax.specs.declared.types.OperationType.TheVariants.{Query, Mutation, Subscription}
use Rattle.graphql_tokens.specs.tokens.Token.{Token}
use Rattle.graphql_reading.specs.grammar.Relations.{Rel, one, ◌∪◌, mapped}
use Rattle.graphql_reading.specs.grammar.Tests.{keyword}

-- a keyword, and the kind of operation that it tells
abbrev pub kind_of : OperationType → Token → Token × OperationType
kind_of ty t = (t, ty)

-- OperationType : 'query' | 'mutation' | 'subscription'
abbrev pub operation_type : Rel (Token × OperationType)
operation_type =
    mapped (kind_of Query) (one (keyword "query"))
    ∪ mapped (kind_of Mutation) (one (keyword "mutation"))
    ∪ mapped (kind_of Subscription) (one (keyword "subscription"))

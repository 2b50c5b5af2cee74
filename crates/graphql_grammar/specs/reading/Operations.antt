-- Reading the kinds of operations from lists of tokens.
use Rattle.graphql_syntax.specs.declared.types.OperationType.{OperationType}
use Rattle.graphql_syntax.specs.declared.types.OperationType.TheVariants.{Query, Mutation, Subscription}
use Rattle.graphql_tokens.specs.tokens.Token.{Token}
use Rattle.graphql_grammar.specs.grammar.Operations.{kind_of}
use Rattle.graphql_reading.specs.grammar.Tests.{keyword}
use Rattle.graphql_reading.specs.reading.Outcome.{Reader, one_at, mapped_at, choose_at}

abbrev pub operation_type_at : Reader (Token × OperationType)
operation_type_at =
    choose_at (keyword "query") (mapped_at (kind_of Query) (one_at (keyword "query")))
    (choose_at (keyword "mutation") (mapped_at (kind_of Mutation) (one_at (keyword "mutation")))
    (mapped_at (kind_of Subscription) (one_at (keyword "subscription"))))

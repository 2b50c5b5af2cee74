-- Public: what a reader of the public contracts has to believe, given out from the crates below.
pub mod trees
pub mod calls
pub mod types
pub use Rattle.graphql_memory.specs.Refusals
pub use Rattle.graphql_tokens.specs.tokens
pub use Rattle.graphql_reading.specs.grammar as notation
pub use Rattle.graphql_grammar.specs.grammar
pub use Rattle.graphql_grammar.specs.answers
pub use Rattle.graphql_grammar.specs.errors
pub use Rattle.graphql_requests.specs.grammar as requests
pub use Rattle.graphql_schemas.specs.grammar as schemas
pub mod Checking
pub mod OneDefinition
-- Inner: what clauses of readers cite. No public definition imports one of these.
pub mod Checked
pub mod SchemaRules
pub mod Heads
pub mod HeadFunds
pub mod Levels
pub mod OpenSets
pub mod RequestHeads
pub mod Sorting

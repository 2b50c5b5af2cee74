-- Public: what accessors and conversions give.
pub use Rattle.graphql_tokens.specs.calls.Integers
pub use Rattle.graphql_syntax.specs.calls.Constants
pub use Rattle.graphql_syntax.specs.calls.Named
pub use Rattle.graphql_syntax.specs.calls.TypeText
pub use Rattle.graphql_syntax.specs.calls.Views
pub use Rattle.graphql_syntax.specs.calls.Words
pub use Rattle.graphql_trees.specs.calls.Defaults
pub use Rattle.graphql_trees.specs.calls.Hashing
pub use Rattle.graphql_trees.specs.calls.Lending
pub use Rattle.graphql_trees.specs.calls.Operations
pub use Rattle.graphql_trees.specs.calls.Sets
pub use Rattle.graphql_trees.specs.calls.Locations

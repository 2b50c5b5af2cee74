-- Public: the trees that values, types, requests and schema files stand for.
pub use Rattle.graphql_syntax.specs.trees.PartViews
pub use Rattle.graphql_syntax.specs.trees.Parts
pub use Rattle.graphql_syntax.specs.trees.TreeEquality
pub use Rattle.graphql_syntax.specs.trees.TypeEquality
pub use Rattle.graphql_syntax.specs.trees.TypeTree
pub use Rattle.graphql_syntax.specs.trees.ValueText
pub use Rattle.graphql_syntax.specs.trees.ValueTree
pub use Rattle.graphql_syntax.specs.trees.ValueViews
pub use Rattle.graphql_trees.specs.trees.Request
pub use Rattle.graphql_trees.specs.trees.RequestViews
pub use Rattle.graphql_trees.specs.trees.Schema
pub use Rattle.graphql_trees.specs.trees.SchemaViews

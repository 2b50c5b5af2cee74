-- Public: the trees that requests and schema files stand for.
pub mod Request
pub mod RequestViews
pub mod Schema
pub mod SchemaViews

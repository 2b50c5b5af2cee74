-- The JSON and the bytes of a document, as a call in C hands them over.
-- Source: this project's choice.
use Rattle.graphql_json.specs.declared.place.Places.{Places}
use Rattle.graphql_json.specs.nodes.Requests.{request_value}
use Rattle.graphql_json.specs.nodes.Schemas.{schema_value}
use Rattle.graphql_packed.specs.packed.Bytes.{Bytes}
use Rattle.graphql_packed.specs.packed.Requests.{request_bytes}
use Rattle.graphql_packed.specs.packed.Schemas.{schema_bytes}
use Rattle.graphql_parser.specs.trees.RequestViews.{document_tree}
use Rattle.graphql_parser.specs.trees.SchemaViews.{schema_document_tree}
use Rattle.graphql_trees.specs.declared.executable.ExecutableDocument.{ExecutableDocument}
use Rattle.graphql_trees.specs.declared.service.ServiceDocument.{ServiceDocument}
use Rattle.json.specs.Json.{Json}

abbrev pub executable_value : Places → ExecutableDocument → Json
executable_value places document = request_value places (document_tree document)

abbrev pub service_value : Places → ServiceDocument → Json
service_value places document = schema_value places (schema_document_tree document)

abbrev pub executable_bytes : ExecutableDocument → Bytes
executable_bytes document = request_bytes (document_tree document)

abbrev pub service_bytes : ServiceDocument → Bytes
service_bytes document = schema_bytes (schema_document_tree document)

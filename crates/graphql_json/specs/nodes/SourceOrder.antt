-- The JSON of the definitions of a text in source order, and which trees have that JSON.
-- Source: this project's choice. A tree keeps no order between operations and fragments, nor between the roots of a
-- schema. Their places give it wherever they grow, as they do in a text in which each carriage return has its line feed.
use Rattle.std.specs.Prelude.{◌≡◌, ℕ, List, [], ◌∷◌, ◌++◌, map, AllPairs, IsTrue}
use Rattle.std.specs.List.{AllByRecursion}
use Rattle.std.specs.Str.{byte, chars}
use Rattle.graphql_parser.specs.answers.Answers.{IsDocument}
use Rattle.graphql_parser.specs.answers.Language.{Language, grammar}
use Rattle.graphql_parser.specs.notation.Fronts.{unlimited}
use Rattle.graphql_parser.specs.requests.Request.{Definition, operation, fragment}
use Rattle.graphql_parser.specs.requests.Requests.{requests}
use Rattle.graphql_parser.specs.schemas.Documents.{schema_tree_of}
use Rattle.graphql_parser.specs.schemas.Schema.{Schema, Root as SourceRoot}
use Rattle.graphql_parser.specs.schemas.SchemaFile as file
use Rattle.graphql_parser.specs.schemas.Schemas.{schemas}
use Rattle.graphql_parser.specs.tokens.Cuts.{IsCutInto}
use Rattle.graphql_parser.specs.tokens.Edition.{Current}
use Rattle.graphql_parser.specs.tokens.Token.{Token}
use Rattle.graphql_parser.specs.types.ExecutableDocument.{ExecutableDocument}
use Rattle.graphql_parser.specs.types.Pos.{Pos}
use Rattle.graphql_parser.specs.types.ServiceDocument.{ServiceDocument}
use Rattle.graphql_json.specs.declared.place.Place.{Place}
use Rattle.graphql_json.specs.declared.place.Places.{Places}
use Rattle.graphql_json.specs.nodes.Nodes.{no_place, document_node, items_of, placed_json, json_text, stands_before}
use Rattle.graphql_json.specs.nodes.Requests.{operation_json, fragment_json}
use Rattle.graphql_json.specs.nodes.Schemas.{Root, schema_node, type_definition_json, directive_definition_json}
use Rattle.json.specs.Json.{Json}

-- each place is smaller than all that come after it
abbrev pub AreGrowing : List Pos → Type 0
AreGrowing places = AllPairs (λ one later. IsTrue (stands_before one later)) places

-- in these characters a line feed comes after each carriage return
abbrev pub HasNoLoneReturn : List ℕ → Type 0
HasNoLoneReturn text = (front back : List ℕ) → text ≡ front ++ byte "\r" ∷ back → (rest : List ℕ) × (back ≡ byte "\n" ∷ rest)

-- the definitions are those of such a text, or of its tokens after some
pub record AreOfText {D Document : Type 0} (language : Language D Document) (definitions : List D) : Type 0 where
  pub text : List ℕ
  pub before : List Token
  pub tokens : List Token
  pub cut : IsCutInto text (before ++ tokens)
  pub tree : unlimited (grammar language Current) tokens definitions
  pub no_lone_return : HasNoLoneReturn (chars text)

-- ---- requests

-- where a definition stands
abbrev pub place_of : Definition → Pos
place_of (operation name o) = o.pos
place_of (fragment name f) = f.pos

abbrev pub definition_in_order : Place → Definition → Json
definition_in_order place (operation name o) = operation_json place (name, o)
definition_in_order place (fragment name f) = fragment_json place (name, f)

-- a request of these definitions, in this order
abbrev pub request_in_order : Places → List Definition → Json
request_in_order places definitions = document_node (no_place places) (items_of (definition_in_order (no_place places)) definitions)

-- Whichever definitions in source order make this document, if their places grow, this is the text of their JSON in
-- that order. And they do grow, if the definitions are those of a text without a lone carriage return.
pub record IsInSourceOrder (places : Places) (document : ExecutableDocument) (json : List ℕ) : Type 0 where
  pub where_places_grow : (definitions : List Definition) → IsDocument requests definitions document → AreGrowing (map place_of definitions) → json ≡ json_text (request_in_order places definitions)
  pub in_texts : (definitions : List Definition) → IsDocument requests definitions document → AreOfText requests definitions → json ≡ json_text (request_in_order places definitions)

-- ---- schema files

-- where the types of the roots of a definition stand
abbrev pub root_places : file.Definition → List Pos
root_places (file.schema s) = map (λ root. root.name.pos) s.node.roots
root_places (file.type_def t) = []
root_places (file.directive d) = []

abbrev pub root_of : SourceRoot → Root
root_of root = (root.kind, root.name)

-- a schema, with its roots in the order of the text
abbrev pub schema_in_order : Place → Schema → Json
schema_in_order place s = schema_node place (schema_tree_of s) (map root_of s.roots)

abbrev pub file_definition_in_order : Place → file.Definition → Json
file_definition_in_order place (file.schema s) = placed_json schema_in_order place s
file_definition_in_order place (file.type_def t) = placed_json type_definition_json place t
file_definition_in_order place (file.directive d) = placed_json directive_definition_json place d

-- a schema file of these definitions, in this order
abbrev pub file_in_order : Places → List file.Definition → Json
file_in_order places definitions = document_node (no_place places) (items_of (file_definition_in_order (no_place places)) definitions)

-- The same of a schema file, if the places of the roots of each schema grow.
pub record IsFileInSourceOrder (places : Places) (document : ServiceDocument) (json : List ℕ) : Type 0 where
  pub where_places_grow : (definitions : List file.Definition) → IsDocument schemas definitions document → AllByRecursion (λ d. AreGrowing (root_places d)) definitions → json ≡ json_text (file_in_order places definitions)
  pub in_texts : (definitions : List file.Definition) → IsDocument schemas definitions document → AreOfText schemas definitions → json ≡ json_text (file_in_order places definitions)

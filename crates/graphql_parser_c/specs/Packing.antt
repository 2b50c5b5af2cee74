-- What a call in C hands over to a wrapper: a tree, as bytes of the library's own.
-- Source: this project's choice.
use Rattle.std.specs.Prelude.{◌≡◌, ℕ, List, Some, Result, Ok, Err}
use Rattle.graphql_grammar.specs.declared.error.Error.{Error}
use Rattle.graphql_parser.specs.answers.Language.{Language}
use Rattle.graphql_parser.specs.notation.Limits.{Limits}
use Rattle.graphql_parser_c.specs.Handing.{IsNothing, HandsOver}
use Rattle.graphql_parser_c.specs.declared.block.Block.{Block}

-- of a tree its bytes are handed over, where `bytes` gives those of a document, and of an error nothing is
abbrev pub Packs : {Document : Type 0} → (Document → List ℕ) → Result Document Error → Block → Type 0
Packs bytes (Ok document) handed = handed.text ≡ Some (bytes document)
Packs bytes (Err error) handed = IsNothing handed

-- the bytes of the answer's tree are handed over
abbrev pub IsPacked : {D Document : Type 0} → Language D Document → (Document → List ℕ) → Limits → List ℕ → ℕ → Block → Type 0
IsPacked language bytes = HandsOver language (Packs bytes)

-- What is printed of a schema file makes the same schema file.
use Rattle.std.proofs.Common.{◌≡◌, ℕ, Result, Ok, Err, IfOk, String, Global, string_bytes, List, map, refl, sym, ap, ◌∙◌}
use Rattle.std.proofs.lemmas.Str.{IsUtf8-string_bytes}
use Rattle.std.specs.Str.{IsUtf8}
use Rattle.std.specs.List.{AllByRecursion}
use Rattle.graphql_tokens.specs.tokens.Alike.{AreAlike}
use Rattle.graphql_tokens.specs.tokens.Cuts.{IsCutInto}
use Rattle.graphql_tokens.specs.tokens.Edition.{Current}
use Rattle.graphql_tokens.specs.tokens.Token.{Bare, Token}
use Rattle.graphql_layout.specs.texts.SameTokens.{HasTokens}
use Rattle.graphql_reading.specs.grammar.Limits.{Limits}
use Rattle.graphql_grammar.specs.answers.Answers.{AreUnbroken}
use Rattle.graphql_grammar.proofs.Alike.{break-alike}
use Rattle.graphql_trees.specs.declared.service.ServiceDocument.{ServiceDocument}
use Rattle.graphql_trees.specs.trees.Schema.{Document}
use Rattle.graphql_trees.specs.trees.SchemaViews.{schema_document_tree}
use Rattle.graphql_schemas.specs.grammar.Documents.{document_of}
use Rattle.graphql_schemas.specs.grammar.Placeless.{placeless_definitions}
use Rattle.graphql_schemas.specs.grammar.SchemaFile.{Definition, definitions}
use Rattle.graphql_schemas.specs.grammar.Schemas.{schemas}
use Rattle.graphql_schemas.specs.reading.SchemaFile.{definitions_at}
use Rattle.graphql_schemas.proofs.SchemaFileProductions.{schemas-are-read}
use Rattle.graphql_printer.specs.Controls.{IsClear, HasClearTokens}
use Rattle.graphql_printer.specs.Printed.{IsDocumentButForPlaces, MakesTheSame, IsPrinted}
use Rattle.graphql_printer.specs.inner.Shown.{by_values}
use Rattle.graphql_printer.specs.inner.ShownSchemas.{shown_file}
use Rattle.graphql_printer.specs.inner.SpelledTexts.{KeepsTokens}
use Rattle.graphql_printer.proofs.ArrangedSchemas.{arranged-unbroken, arranged-document}
use Rattle.graphql_printer.proofs.PrintedTexts.{makes_the_same, of_text, again_spellings, again_clear, clear_tokens}
use Rattle.graphql_printer.proofs.Reprints.{Again}
use Rattle.graphql_printer.proofs.SchemaDefinitions.{arranged, again-file}

module _ (document : ServiceDocument) (limits : Limits) (text : List ℕ) (like : IsDocumentButForPlaces schemas limits text document) where
  abbrev ds : List Definition
  ds = like.definitions

  abbrev bs : List Bare
  bs = shown_file (document_of ds)

  again : Again (definitions Current limits) placeless_definitions bs (map arranged ds)
  again =
      let part = of_text schemas limits text like.other like.of in
      again-file limits part.tokens ds like.of.definitions part.holds part.spelled like.same

  has : (raw : List Bare) (printed : List ℕ) → raw ≡ by_values (shown_file (schema_document_tree document)) → KeepsTokens raw printed → (others : List Bare) × HasTokens printed others × AreAlike bs others
  has raw printed is keeps = keeps bs (again_spellings (definitions Current limits) placeless_definitions bs (map arranged ds) again) (is ∙ ap (λ (tree : Document). by_values (shown_file tree)) like.made)

  unbroken : AreUnbroken schemas ds
  unbroken = (break-alike schemas schemas-are-read.judges like.of.definitions ds (sym like.same)).unbroken like.of.sound.0

  file_printed : (raw : List Bare) (printed : List ℕ) → IsUtf8 printed → raw ≡ by_values (shown_file (schema_document_tree document)) → KeepsTokens raw printed → MakesTheSame schemas document_of limits ds printed
  file_printed raw printed utf8 is keeps =
      makes_the_same schemas definitions_at schemas-are-read document_of limits bs ds (map arranged ds) again (arranged-unbroken ds unbroken, refl) (sym (arranged-document ds)) printed utf8 (has raw printed is keeps)

  file_clear : (raw : List Bare) (printed : List ℕ) → raw ≡ by_values (shown_file (schema_document_tree document)) → KeepsTokens raw printed → (ts : List Token) → IsCutInto printed ts → AllByRecursion (λ t. IsClear t.bare) ts
  file_clear raw printed is keeps = clear_tokens bs (again_clear (definitions Current limits) placeless_definitions bs (map arranged ds) again) printed (has raw printed is keeps)

pub result_clear : {E : Type 0} (result : Result (String Global) E) (document : ServiceDocument) (raw : List Bare) → raw ≡ by_values (shown_file (schema_document_tree document)) → IfOk result (λ s. KeepsTokens raw (string_bytes s))
    → IfOk result (λ s. HasClearTokens schemas document (string_bytes s))
result_clear (Ok s) document raw is keeps = λ limits text like. file_clear document limits text like raw (string_bytes s) is keeps
result_clear (Err error) document raw is keeps = tt

-- the same of the result of a call that lays the tokens out
pub result_printed : {E : Type 0} (result : Result (String Global) E) (document : ServiceDocument) (raw : List Bare) → raw ≡ by_values (shown_file (schema_document_tree document)) → IfOk result (λ s. KeepsTokens raw (string_bytes s))
    → IfOk result (λ s. IsPrinted schemas document_of document (string_bytes s))
result_printed (Ok s) document raw is keeps = λ limits text like. file_printed document limits text like raw (string_bytes s) (IsUtf8-string_bytes s) is keeps
result_printed (Err error) document raw is keeps = tt

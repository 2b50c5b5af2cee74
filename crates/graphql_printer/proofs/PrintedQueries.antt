-- What is printed of the document of a request makes that document again.
use Rattle.std.proofs.Common.{◌≡◌, ℕ, Result, Ok, Err, IfOk, String, Global, string_bytes, None, List, [], ◌∷◌, sym, ap, ◌∙◌}
use Rattle.std.proofs.lemmas.Str.{IsUtf8-string_bytes}
use Rattle.std.specs.List.{AllByRecursion, flat_map}
use Rattle.std.specs.Str.{IsUtf8}
use Rattle.graphql_tokens.specs.tokens.Cuts.{IsCutInto}
use Rattle.graphql_tokens.specs.tokens.Edition.{Current}
use Rattle.graphql_tokens.specs.tokens.Token.{Bare, Token}
use Rattle.graphql_trees.specs.declared.executable.ExecutableDocument.{ExecutableDocument}
use Rattle.graphql_trees.specs.trees.RequestViews.{document_tree}
use Rattle.graphql_reading.specs.grammar.Limits.{Limits}
use Rattle.graphql_reading.proofs.IgnoresPlaces.{head-is, tail-is}
use Rattle.graphql_reading.proofs.Optional.{plus-star}
use Rattle.graphql_grammar.proofs.Alike.{break-alike}
use Rattle.graphql_requests.specs.grammar.Documents.{document_of}
use Rattle.graphql_requests.specs.grammar.Placeless.{placeless_definition, placeless_definitions}
use Rattle.graphql_requests.specs.grammar.Request.{Definition, a_definition, definitions}
use Rattle.graphql_requests.specs.grammar.Requests.{requests}
use Rattle.graphql_requests.specs.grammar.Rules.{lack_of}
use Rattle.graphql_requests.specs.reading.Request.{definitions_at}
use Rattle.graphql_requests.proofs.RequestProductions.{requests-are-read}
use Rattle.graphql_printer.specs.Controls.{IsClear, HasClearTokens}
use Rattle.graphql_printer.specs.Printed.{IsDocumentButForPlaces, MakesTheSame, IsPrinted}
use Rattle.graphql_printer.specs.Rewritten.{AreSound}
use Rattle.graphql_printer.specs.inner.Shown.{by_values}
use Rattle.graphql_printer.specs.inner.ShownRequests.{definitions_in, shown_definition, shown_request}
use Rattle.graphql_printer.specs.inner.SpelledTexts.{KeepsTokens}
use Rattle.graphql_printer.proofs.ArrangedRequests.{definitions-alike, each-printed, unbroken-alike, complete-alike, document-alike, placeless-alike}
use Rattle.graphql_printer.proofs.PlacelessRequests.{definition-same}
use Rattle.graphql_printer.proofs.PrintedTexts.{of_text, again_spellings, again_clear, clear_tokens, makes_the_same}
use Rattle.graphql_printer.proofs.Reprints.{Again, again-star, again-plus, star-each}
use Rattle.graphql_printer.proofs.ShownRequests.{reprints-definition}

module _ (document : ExecutableDocument) (limits : Limits) (text : List ℕ) (like : IsDocumentButForPlaces requests limits text document) where
  abbrev ds : List Definition
  ds = like.definitions

  abbrev es : List Definition
  es = definitions_in (document_of ds)

  abbrev AgainOne : Definition → Type 0
  AgainOne d = Again (a_definition Current limits) placeless_definition (shown_definition d) d

  -- what is shown of a definition is this definition again, if it is one of a text but for places
  again-like : (d e : Definition) → placeless_definition d ≡ placeless_definition e → AgainOne e → AgainOne d
  again-like d e same h = record {
    tokens = h.tokens;
    are = h.are ∙ sym (definition-same e) ∙ ap shown_definition (sym same) ∙ definition-same d;
    spelled = h.spelled;
    tree = h.tree;
    holds = h.holds;
    same = h.same ∙ sym same;
  }

  each-like : (list others : List Definition) → placeless_definitions list ≡ placeless_definitions others → AllByRecursion AgainOne others → AllByRecursion AgainOne list
  each-like [] others same h = tt
  each-like (d ∷ list) [] same h = absurd cc
  each-like (d ∷ list) (e ∷ others) same h = (
    again-like d e (head-is (placeless_definition d) (placeless_definition e) (placeless_definitions list) (placeless_definitions others) same) h.0,
    each-like list others (tail-is (placeless_definition d) (placeless_definition e) (placeless_definitions list) (placeless_definitions others) same) h.1,
  )

  sound-here : AreSound requests ds
  sound-here =
      let breaks = break-alike requests requests-are-read.judges like.of.definitions ds (sym like.same) in
      (breaks.unbroken like.of.sound.0, breaks.complete like.of.sound.1)

  -- what is shown of the definitions has each of them again, in the order in which they are printed
  again : Again (definitions Current limits) placeless_definitions (flat_map shown_definition es) es
  again =
      let h = of_text requests limits text like.other like.of in
      let others = like.of.definitions in
      let each : AllByRecursion AgainOne others = star-each reprints-definition limits h.tokens others (plus-star (a_definition Current limits) h.tokens others h.holds) h.spelled in
      again-plus es (some es (complete-alike ds es (definitions-alike ds sound-here.0) sound-here.1)) (again-star shown_definition es (each-printed AgainOne ds sound-here.0 (each-like ds others like.same each)))
    where
      some : (l : List Definition) → lack_of l ≡ None → l ≡ [] → ⊥
      some [] e n = absurd cc
      some (d ∷ l) e n = absurd cc

  sound : AreSound requests es
  sound =
      let alike = definitions-alike ds sound-here.0 in
      (unbroken-alike ds es alike sound-here.0, complete-alike ds es alike sound-here.1)

  same : document_of (placeless_definitions ds) ≡ document_of (placeless_definitions es)
  same = sym (document-alike (placeless_definitions ds) (placeless_definitions es) (placeless-alike ds es (definitions-alike ds sound-here.0)))

  shown-is : shown_request (document_tree document) ≡ flat_map shown_definition es
  shown-is = ap shown_request like.made

  printed_request : (raw : List Bare) (printed : List ℕ) → raw ≡ by_values (shown_request (document_tree document)) → KeepsTokens raw printed → IsUtf8 printed → MakesTheSame requests document_of limits ds printed
  printed_request raw printed e keeps utf8 =
      let bs = flat_map shown_definition es in
      makes_the_same requests definitions_at requests-are-read document_of limits bs ds es again sound same printed utf8
      (keeps bs (again_spellings (definitions Current limits) placeless_definitions bs es again) (e ∙ ap by_values shown-is))

  clear_request : (raw : List Bare) (printed : List ℕ) → raw ≡ by_values (shown_request (document_tree document)) → KeepsTokens raw printed → (ts : List Token) → IsCutInto printed ts → AllByRecursion (λ t. IsClear t.bare) ts
  clear_request raw printed e keeps =
      let bs = flat_map shown_definition es in
      clear_tokens bs (again_clear (definitions Current limits) placeless_definitions bs es again) printed
      (keeps bs (again_spellings (definitions Current limits) placeless_definitions bs es again) (e ∙ ap by_values shown-is))

pub query_clear : {E : Type 0} (document : ExecutableDocument) (raw : List Bare) (result : Result (String Global) E) → raw ≡ by_values (shown_request (document_tree document)) → IfOk result (λ s. KeepsTokens raw (string_bytes s))
    → IfOk result (λ s. HasClearTokens requests document (string_bytes s))
query_clear document raw (Ok s) e keeps = λ limits text like. clear_request document limits text like raw (string_bytes s) e keeps
query_clear document raw (Err error) e keeps = tt

pub query_printed : {E : Type 0} (document : ExecutableDocument) (raw : List Bare) (result : Result (String Global) E) → raw ≡ by_values (shown_request (document_tree document)) → IfOk result (λ s. KeepsTokens raw (string_bytes s))
    → IfOk result (λ s. IsPrinted requests document_of document (string_bytes s))
query_printed document raw (Ok s) e keeps = λ limits text like. printed_request document limits text like raw (string_bytes s) e keeps (IsUtf8-string_bytes s)
query_printed document raw (Err error) e keeps = tt

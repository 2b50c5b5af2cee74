-- In an accepted schema file each schema has a query root, or is an extension; no extension has a description; and no
-- object has a name twice.
use Rattle.std.proofs.Common.{◌≡◌, true, false, IsSome, Option, Some, None, option_map, List, [], ◌∷◌, ◌++◌, Result, Ok, Err, IfOk, refl, sym, ◌∙◌, subst, append_assoc}
use Rattle.std.specs.List.{AllByRecursion}
use Rattle.graphql_tokens.specs.declared.pos.Positioned.{Positioned}
use Rattle.graphql_tokens.specs.tokens.Edition.{Former, Current}
use Rattle.graphql_tokens.specs.tokens.Token.{Token}
use Rattle.graphql_syntax.specs.declared.types.OperationType.TheVariants.{Query}
use Rattle.graphql_trees.specs.declared.service.ServiceDocument.{ServiceDocument}
use Rattle.graphql_trees.specs.trees.SchemaViews.{schema_document_tree}
use Rattle.graphql_grammar.specs.answers.Answers.{Answers}
use Rattle.graphql_grammar.specs.answers.Language.{grammar}
use Rattle.graphql_grammar.specs.declared.error.Error.{Error}
use Rattle.graphql_grammar.proofs.Breaches.{none-second}
use Rattle.graphql_reading.specs.grammar.Limits.{Limits}
use Rattle.graphql_reading.proofs.Keeps.{Keeps, Anything, BothOf, OfOption, keeps-any, keeps-never, keeps-mapped, keeps-then, keeps-either, keeps-opt, keeps-plus, keeps-whole}
use Rattle.graphql_schemas.specs.grammar.Directives.{a_directive_definition}
use Rattle.graphql_schemas.specs.grammar.Documents.{tree_of, document_of}
use Rattle.graphql_schemas.specs.grammar.Laws.{IsLawfulDefinition, IsLawful}
use Rattle.graphql_schemas.specs.grammar.Rules.{breach_of, first_of_kind, repeats_a_root, lacks_a_query, missing_query}
use Rattle.graphql_schemas.specs.grammar.Schema.{Root, Schema, a_schema}
use Rattle.graphql_schemas.specs.grammar.SchemaFile.{Definition, schema, type_def, directive, a_definition, definitions, HasNoDescribedSchema}
use Rattle.graphql_schemas.specs.grammar.Schemas.{schemas}
use Rattle.graphql_schemas.specs.grammar.Types.{a_type_definition, a_type_extension}
use Rattle.graphql_schemas.proofs.DistinctObjects.{distinct-objects}
use Rattle.graphql_schemas.proofs.Finished.{anywhere}

-- ---- what the grammar gives: an extension has no description

abbrev IsUndescribed : Definition → Type 0
IsUndescribed (schema s) = s.node.extend ≡ true → s.node.description ≡ None
IsUndescribed (type_def t) = t.node.extend ≡ true → t.node.description ≡ None
IsUndescribed (directive d) = Unit {0}

not-extended : {P : Type 0} → false ≡ true → P
not-extended e = absurd cc

undescribed : (c : Limits) → Keeps (a_definition Current c) IsUndescribed
undescribed c =
    keeps-either (keeps-mapped {P = λ s. s.node.extend ≡ true → s.node.description ≡ None} (λ s h. h) (keeps-mapped {P = Anything} (λ x h. not-extended) keeps-any))
    (keeps-either (keeps-mapped {P = λ s. s.node.extend ≡ true → s.node.description ≡ None} (λ s h. h) (keeps-mapped {P = Anything} (λ x h e. refl) keeps-any))
    (keeps-either (keeps-mapped {P = λ t. t.node.extend ≡ true → t.node.description ≡ None} (λ t h. h) (keeps-mapped {P = Anything} (λ x h. not-extended) keeps-any))
    (keeps-either (keeps-mapped {P = λ t. t.node.extend ≡ true → t.node.description ≡ None} (λ t h. h) (keeps-mapped {P = Anything} (λ x h e. refl) keeps-any))
    (keeps-mapped {P = Anything} (λ d h. tt) (keeps-any {p = a_directive_definition Current c})))))

all-undescribed : (c : Limits) (ts : List Token) (ds : List Definition) → grammar schemas Current c ts ds → AllByRecursion IsUndescribed ds
all-undescribed c = (keeps-whole {p = definitions Current} (λ c. keeps-plus (undescribed c)) c).by

-- ---- and what the former grammar gives: no schema has one

no-description : {A : Type 0} (o : Option A) → OfOption (λ a. ⊥) o → o ≡ None
no-description None h = refl
no-description (Some a) h = absurd h

former-schema : (c : Limits) → Keeps (a_schema Former c) (λ s. s.node.description ≡ None)
former-schema c = keeps-mapped {P = BothOf (OfOption (λ text. ⊥)) Anything} (λ x h. no-description x.0 h.0) (keeps-then (keeps-opt keeps-never) keeps-any)

former-definition : (c : Limits) → Keeps (a_definition Former c) HasNoDescribedSchema
former-definition c =
    keeps-either (keeps-mapped {P = λ s. s.node.description ≡ None} (λ s h. h) (former-schema c))
    (keeps-either (keeps-mapped {P = λ s. s.node.description ≡ None} (λ s h. h) (keeps-mapped {P = Anything} (λ x h. refl) keeps-any))
    (keeps-either (keeps-mapped {P = Anything} (λ t h. tt) (keeps-any {p = a_type_definition Former c}))
    (keeps-either (keeps-mapped {P = Anything} (λ t h. tt) (keeps-any {p = a_type_extension Former c}))
    (keeps-mapped {P = Anything} (λ d h. tt) (keeps-any {p = a_directive_definition Former c})))))

pub none-described : (c : Limits) (ts : List Token) (ds : List Definition) → grammar schemas Former c ts ds → AllByRecursion HasNoDescribedSchema ds
none-described c = (keeps-whole {p = definitions Former} (λ c. keeps-plus (former-definition c)) c).by

-- ---- what the rules give: a definition has a query root

has-query : (s : Positioned Schema) (root : Option Root) → missing_query s root ≡ None → s.node.extend ≡ false → IsSome (option_map (λ root. root.name) root)
has-query s (Some root) none e = refl
has-query s None none e = let bad = rw e at none in absurd cc

-- ---- each definition, and all of them

lawful-definition : (d : Definition) → breach_of [] d ≡ None → IsUndescribed d → IsLawfulDefinition (tree_of d)
lawful-definition (schema s) unbroken h = record { query = has-query s (first_of_kind Query s.node.roots) (none-second (repeats_a_root s) (lacks_a_query s) unbroken); undescribed = h }
lawful-definition (type_def t) unbroken h = h
lawful-definition (directive d) unbroken h = tt

lawful-list : (front ds : List Definition) → ((before : List Definition) (d : Definition) (after : List Definition) → front ++ ds ≡ before ++ d ∷ after → breach_of before d ≡ None) → AllByRecursion IsUndescribed ds → AllByRecursion IsLawfulDefinition (document_of ds)
lawful-list front [] unbroken h = tt
lawful-list front (d ∷ ds) unbroken h = (
  lawful-definition d (anywhere front d ∙ unbroken front d ds refl) h.0,
  lawful-list (front ++ d ∷ []) ds (λ before e after same. unbroken before e after (sym (append_assoc front (d ∷ []) ds) ∙ same)) h.1,
)

pub lawful-answer : (limits : Limits) (ts : List Token) (result : Result ServiceDocument Error) → Answers schemas limits ts result → IfOk result (λ document. IsLawful (schema_document_tree document))
lawful-answer limits ts (Ok document) (ds, h, is) = subst IsLawful (sym is.made) (record { definitions = lawful-list [] ds is.unbroken (all-undescribed limits ts ds h.within); objects = distinct-objects limits ts ds h.within })
lawful-answer limits ts (Err error) h = tt

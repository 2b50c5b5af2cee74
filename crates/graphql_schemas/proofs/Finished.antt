-- Definitions that break no rule, each as it stands in the document, with one more after them.
use Rattle.std.proofs.Common.{◌≡◌, None, List, [], ◌∷◌, ◌++◌, map, refl, sym, ap, ap₂, ◌∙◌, subst}
use Rattle.std.proofs.lemmas.List.{map-append}
use Rattle.graphql_trees.specs.declared.service.TypeSystemDefinition.{TypeSystemDefinition}
use Rattle.graphql_trees.specs.trees.Schema as trees
use Rattle.graphql_trees.specs.trees.SchemaViews as views
use Rattle.graphql_grammar.specs.answers.Answers.{AreUnbroken}
use Rattle.graphql_grammar.proofs.Unbroken.{unbroken-more}
use Rattle.graphql_schemas.specs.declared.definitions.Definition.{Definition as CodeDefinition}
use Rattle.graphql_schemas.specs.grammar.Documents.{tree_of, document_of}
use Rattle.graphql_schemas.specs.grammar.Rules.{breach_of}
use Rattle.graphql_schemas.specs.grammar.SchemaFile.{Definition, schema, type_def, directive}
use Rattle.graphql_schemas.specs.grammar.Schemas.{schemas}
use Rattle.graphql_schemas.specs.reading.Views.{definition_tree, definition_trees}

-- what stands before a definition makes no difference to what it breaks
pub anywhere : (before : List Definition) (d : Definition) → breach_of [] d ≡ breach_of before d
anywhere before (schema s) = refl
anywhere before (type_def t) = refl
anywhere before (directive d) = refl

pub unbroken-one-more : (front : List CodeDefinition) (d : CodeDefinition) → AreUnbroken schemas (definition_trees front) → breach_of [] (definition_tree d) ≡ None → AreUnbroken schemas (definition_trees (front ++ d ∷ []))
unbroken-one-more front d h k =
    subst (AreUnbroken schemas) (sym (map-append definition_tree front (d ∷ []))) (unbroken-more schemas (definition_trees front) (definition_tree d) h (sym (anywhere (definition_trees front) (definition_tree d)) ∙ k))

pub finished-one-more : (front : List CodeDefinition) (d : CodeDefinition) (items more : List TypeSystemDefinition) (item : TypeSystemDefinition) → map views.definition_tree items ≡ document_of (definition_trees front) → more ≡ items ++ item ∷ [] → views.definition_tree item ≡ tree_of (definition_tree d) → map views.definition_tree more ≡ document_of (definition_trees (front ++ d ∷ []))
finished-one-more front d items more item h is e =
    ap (map views.definition_tree) is
    ∙ map-append views.definition_tree items (item ∷ [])
    ∙ ap₂ (λ (l : List trees.Definition) (t : trees.Definition). l ++ t ∷ []) h e
    ∙ sym (map-append tree_of (definition_trees front) (definition_tree d ∷ []))
    ∙ sym (ap document_of (map-append definition_tree front (d ∷ [])))

-- With the roots of each schema in the order of their places, a schema file breaks no rule where it broke none, and is the same
-- document.
use Rattle.std.proofs.Common.{◌≡◌, Bool, true, false, cond, Option, Some, None, option_map, List, [], ◌∷◌, ◌++◌, map, refl, sym, ap, ap₂, ◌∙◌, append_assoc}
use Rattle.std.specs.List.{AllByRecursion}
use Rattle.graphql_tokens.specs.declared.pos.Positioned.{Positioned}
use Rattle.graphql_syntax.specs.declared.types.OperationType.{OperationType}
use Rattle.graphql_syntax.specs.declared.types.OperationType.TheVariants.{Query, Mutation, Subscription}
use Rattle.graphql_syntax.specs.trees.Parts.{placed}
use Rattle.graphql_trees.specs.trees.Schema as trees
use Rattle.graphql_reading.specs.grammar.Places.{nowhere}
use Rattle.graphql_reading.proofs.IgnoresPlaces.{head-is, tail-is}
use Rattle.graphql_grammar.specs.answers.Answers.{AreUnbroken}
use Rattle.graphql_grammar.specs.answers.Breaches.{or_else}
use Rattle.graphql_grammar.specs.declared.error.Error.TheVariants.{MultipleRoots}
use Rattle.graphql_grammar.specs.grammar.Placeless.{bare_node, placeless_directives}
use Rattle.graphql_grammar.proofs.Breaches.{none-second}
use Rattle.graphql_grammar.proofs.Unbroken.{not-nil}
use Rattle.graphql_schemas.specs.grammar.Documents.{root_name, tree_of, document_of}
use Rattle.graphql_schemas.specs.grammar.Placeless.{placeless_description, placeless_root, placeless_definition, placeless_definitions}
use Rattle.graphql_schemas.specs.grammar.Rules.{same_kind, first_of_kind, breach_of, repeats_a_root, missing_query, lacks_a_query}
use Rattle.graphql_schemas.specs.grammar.Schema.{Root, Schema}
use Rattle.graphql_schemas.specs.grammar.SchemaFile.{Definition, schema, type_def, directive}
use Rattle.graphql_schemas.specs.grammar.Schemas.{schemas}
use Rattle.graphql_schemas.proofs.Finished.{anywhere}
use Rattle.graphql_printer.proofs.SchemaDefinitions.{arranged_schema, arranged}
use Rattle.graphql_printer.proofs.SchemaRoots.{as_kind, by_place, in_order, order-once, order-first, order-names}

-- ---- rules

still-queried : (s : Positioned Schema) → lacks_a_query s ≡ None → lacks_a_query (placed arranged_schema s) ≡ None
still-queried s h = ap (missing_query (placed arranged_schema s)) (order-first by_place Query s.node.roots) ∙ by (first_of_kind Query s.node.roots) h
  where
    by : (root : Option Root) → missing_query s root ≡ None → missing_query (placed arranged_schema s) (option_map (as_kind Query) root) ≡ None
    by None h = h
    by (Some root) h = refl

still-unbroken : (d : Definition) → breach_of [] d ≡ None → breach_of [] (arranged d) ≡ None
still-unbroken (schema s) h =
    ap (λ (again : Option Root). or_else (option_map (λ root. MultipleRoots root.kind s.pos root.pos) again) (lacks_a_query (placed arranged_schema s))) (order-once by_place s.node.roots)
    ∙ still-queried s (none-second (repeats_a_root s) (lacks_a_query s) h)
still-unbroken (type_def t) h = h
still-unbroken (directive d) h = h

-- what stands before a definition makes no difference to what it breaks
abbrev IsUnbroken : Definition → Type 0
IsUnbroken d = breach_of [] d ≡ None

each-unbroken : (front ds : List Definition) → ((before : List Definition) (d : Definition) (after : List Definition) → front ++ ds ≡ before ++ d ∷ after → breach_of before d ≡ None) → AllByRecursion IsUnbroken ds
each-unbroken front [] h = tt
each-unbroken front (d ∷ ds) h = (anywhere front d ∙ h front d ds refl, each-unbroken (front ++ d ∷ []) ds (λ before e after same. h before e after (sym (append_assoc front (d ∷ []) ds) ∙ same)))

all-unbroken : (ds : List Definition) → AllByRecursion IsUnbroken ds → AreUnbroken schemas ds
all-unbroken [] h before d after e = absurd (not-nil d before after e)
all-unbroken (x ∷ ds) h [] d after e = ap (breach_of []) (sym (head-is x d ds after e)) ∙ h.0
all-unbroken (x ∷ ds) h (b ∷ before) d after e = sym (anywhere (b ∷ before) d) ∙ anywhere before d ∙ all-unbroken ds h.1 before d after (tail-is x b ds (before ++ d ∷ after) e)

all-still : (ds : List Definition) → AllByRecursion IsUnbroken ds → AllByRecursion IsUnbroken (map arranged ds)
all-still [] h = tt
all-still (d ∷ ds) h = (still-unbroken d h.0, all-still ds h.1)

pub arranged-unbroken : (ds : List Definition) → AreUnbroken schemas ds → AreUnbroken schemas (map arranged ds)
arranged-unbroken ds h = all-unbroken (map arranged ds) (all-still ds (each-unbroken [] ds h))

-- ---- the document

names-away : (kind : OperationType) (roots : List Root) → root_name kind (map placeless_root roots) ≡ option_map bare_node (root_name kind roots)
names-away kind [] = refl
names-away kind (root ∷ roots) = by (same_kind kind root.kind) (names-away kind roots)
  where
    by : (b : Bool) → root_name kind (map placeless_root roots) ≡ option_map bare_node (root_name kind roots)
        → option_map (λ r. r.name) (cond b (Some (placeless_root root)) (first_of_kind kind (map placeless_root roots))) ≡ option_map bare_node (option_map (λ r. r.name) (cond b (Some root) (first_of_kind kind roots)))
    by true e = refl
    by false e = e

same-names : (kind : OperationType) (roots : List Root) → root_name kind (map placeless_root (in_order roots)) ≡ root_name kind (map placeless_root roots)
same-names kind roots = names-away kind (in_order roots) ∙ ap (option_map bare_node) (order-names by_place kind roots) ∙ sym (names-away kind roots)

same-tree : (d : Definition) → tree_of (placeless_definition (arranged d)) ≡ tree_of (placeless_definition d)
same-tree (schema s) =
    let roots = s.node.roots in
    let query = same-names Query roots in
    let mutation = same-names Mutation roots in
    let subscription = same-names Subscription roots in
    λ i. trees.schema (record {
      pos = nowhere;
      node = record {
        description = placeless_description s.node.description;
        extend = s.node.extend;
        directives = placeless_directives s.node.directives;
        query = query i;
        mutation = mutation i;
        subscription = subscription i;
      };
    })
same-tree (type_def t) = refl
same-tree (directive d) = refl

pub arranged-document : (ds : List Definition) → document_of (placeless_definitions (map arranged ds)) ≡ document_of (placeless_definitions ds)
arranged-document [] = refl
arranged-document (d ∷ ds) = ap₂ (λ (t : trees.Definition) (l : List trees.Definition). t ∷ l) (same-tree d) (arranged-document ds)

-- What is printed of the definitions of a schema file is these definitions again, with the roots of each schema in the order of
-- their places, but for places.
use Rattle.std.proofs.Common.{◌≡◌, false, Bool, Option, Some, None, option_map, List, [], ◌∷◌, ◌++◌, map, codes, refl, sym, ap, ◌∙◌, subst}
use Rattle.std.specs.List.{AllByRecursion, flat_map}
use Rattle.std.proofs.lemmas.List.Folds.{flat_map-map}
use Rattle.graphql_tokens.specs.declared.pos.Positioned.{Positioned}
use Rattle.graphql_tokens.specs.tokens.Edition.{Current}
use Rattle.graphql_tokens.specs.tokens.Token.{Bare, Token}
use Rattle.graphql_syntax.specs.trees.Parts.{Directives, placed}
use Rattle.graphql_trees.specs.trees.Schema.{Description, InputValues, DirectiveDefinition}
use Rattle.graphql_reading.specs.grammar.Fronts.{without_place}
use Rattle.graphql_reading.specs.grammar.Limits.{Limits}
use Rattle.graphql_reading.specs.grammar.Relations.{Rel, plus, star, cons, given, between_of}
use Rattle.graphql_reading.specs.grammar.Places.{nowhere}
use Rattle.graphql_reading.proofs.Optional.{plus-star}
use Rattle.graphql_reading.proofs.IgnoresPlaces.{map-given, head-is, tail-is}
use Rattle.graphql_grammar.specs.grammar.Placeless.{unplaced, placeless_directives}
use Rattle.graphql_schemas.specs.grammar.Descriptions.{described}
use Rattle.graphql_schemas.specs.grammar.Directives.{is_there, directive_definition_of, a_directive_definition}
use Rattle.graphql_schemas.specs.grammar.Documents.{schema_tree_of, tree_of, document_of}
use Rattle.graphql_schemas.specs.grammar.Placeless.{placeless_description, placeless_input_value, placeless_input_values, placeless_type, placeless_root, placeless_schema, placeless_directive_definition, placeless_definition, placeless_definitions}
use Rattle.graphql_schemas.specs.grammar.Schema.{Root, Schema, root_of as root_written, a_root, roots, schema_of, a_schema, schema_extension_of, a_schema_extension}
use Rattle.graphql_schemas.specs.grammar.SchemaFile.{Definition, schema, type_def, directive, a_definition, definitions}
use Rattle.graphql_schemas.specs.grammar.Types.{parts_of, list_alone, some_parts, type_definition_of, a_type_definition, type_extension_of, a_type_extension}
use Rattle.graphql_schemas.proofs.DescriptionProductions.{described-nowhere}
use Rattle.graphql_schemas.proofs.DirectiveProductions.{DirectiveRest, placeless-directive-rest}
use Rattle.graphql_schemas.proofs.PartProductions.{placeless-parts}
use Rattle.graphql_printer.specs.inner.Shown.{sign, word, shown_part, shown_between, shown_directives}
use Rattle.graphql_printer.specs.inner.ShownSchemas.{shown_description, shown_extend, shown_parameters, shown_type_definition, shown_root, shown_schema, shown_repeatable, shown_locations, shown_directive_definition, shown_definition, shown_file}
use Rattle.graphql_printer.proofs.Changes.{Changes, changes-none, changes-shown, changes-then, changes-mapped, changes-either, changes-opt}
use Rattle.graphql_printer.proofs.ShownParts.{reprints-directive, reprints-directives, reprints-operation_type}
use Rattle.graphql_printer.proofs.Reprints.{IsSpelled, AreSpelled, each_split, Again, Reprints, again-then, again-mapped, again-star, star-each, reprints-name, reprints-keyword, reprints-punct, reprints-then, reprints-mapped, reprints-plus, reprints-opt, again-as, again-plus, parts_spelled}
use Rattle.graphql_printer.proofs.SchemaBodies.{given-shown, reprints-body, reprints-extended_body}
use Rattle.graphql_printer.proofs.SchemaParts.{reprints-maybe_description, reprints-maybe_parameters, reprints-locations}
use Rattle.graphql_printer.proofs.SchemaRoots.{root_of, ordered, by_place, in_order, as_in, order-shown, order-each, order-some, order-like}
use Rattle.graphql_printer.proofs.PlacelessRequests.{joined, directives-same}
use Rattle.graphql_printer.proofs.PlacelessSchemas.{description-same, type-same, directive-definition-same}

-- ---- types

reprints-type_definition : Reprints (a_type_definition Current) (unplaced placeless_type) (λ t. shown_type_definition t.node)
reprints-type_definition =
    reprints-mapped {k = type_definition_of} (λ t. shown_type_definition t.node) (λ x. described-nowhere placeless_type x.0 x.1.0 (type_definition_of x).node) (λ x. refl)
    (reprints-then reprints-maybe_description reprints-body)

reprints-type_extension : Reprints (a_type_extension Current) (unplaced placeless_type) (λ t. shown_type_definition t.node)
reprints-type_extension = reprints-mapped {k = type_extension_of} (λ t. shown_type_definition t.node) (λ x. refl) (λ x. refl) (reprints-then (reprints-keyword "extend") reprints-extended_body)

-- ---- directives

-- the definition without places, with these arguments and repeatable or not
abbrev with-arguments : Description × DirectiveRest → InputValues → Bool → Positioned DirectiveDefinition
with-arguments x arguments repeatable = described (placeless_description x.0) (without_place x.1.0) (record (placeless_directive_definition (directive_definition_of x).node) { arguments = arguments; is_repeatable = repeatable })

still-there : (word : Option Token) → is_there word ≡ is_there (option_map without_place word)
still-there None = refl
still-there (Some word) = refl

directive-nowhere : (x : Description × DirectiveRest) → unplaced placeless_directive_definition (directive_definition_of x) ≡ directive_definition_of (placeless_description x.0, placeless-directive-rest x.1)
directive-nowhere x =
    described-nowhere placeless_directive_definition x.0 x.1.0 (directive_definition_of x).node
    ∙ ap (λ (arguments : InputValues). with-arguments x arguments (is_there x.1.1.1.1.1.0)) (map-given (unplaced placeless_input_value) x.1.1.1.1.0)
    ∙ ap (with-arguments x (given (option_map placeless_input_values x.1.1.1.1.0))) (still-there x.1.1.1.1.1.0)

shown_word : (repeatable : Option Token) → shown_part (λ t. word (codes "repeatable") ∷ []) repeatable ≡ shown_repeatable (is_there repeatable)
shown_word None = refl
shown_word (Some word) = refl

reprints-directive_definition : Reprints (a_directive_definition Current) (unplaced placeless_directive_definition) (λ d. shown_directive_definition d.node)
reprints-directive_definition =
    reprints-mapped {k = directive_definition_of} (λ d. shown_directive_definition d.node) directive-nowhere
    (λ x. ap (λ (repeatable : List Bare). shown_description x.0 ++ (word (codes "directive") ∷ sign "@" ∷ word x.1.1.1.0.bare.spelling ∷ (shown_parameters (given x.1.1.1.1.0) ++ (repeatable ++ shown_locations x.1.1.1.1.1.1)))) (shown_word x.1.1.1.1.1.0))
    (reprints-then reprints-maybe_description (reprints-then (reprints-keyword "directive") (reprints-then (reprints-punct "@") (reprints-then reprints-name
    (reprints-then reprints-maybe_parameters (reprints-then (reprints-opt (reprints-keyword "repeatable")) reprints-locations))))))

-- ---- roots

-- the roots as they are printed
abbrev shown_roots : List Root → List Bare
shown_roots roots = shown_between "{" "}" shown_root (map root_of roots)

reprints-root : Reprints (λ c. a_root) placeless_root (λ root. shown_root (root_of root))
reprints-root =
    reprints-mapped {k = root_written} (λ root. shown_root (root_of root)) (λ x. refl) (λ x. refl)
    (reprints-then reprints-operation_type (reprints-then (reprints-punct ":") reprints-name))

some_shown : (roots : List Root) → (roots ≡ [] → ⊥) → sign "{" ∷ (flat_map (λ root. shown_root (root_of root)) roots ++ sign "}" ∷ []) ≡ shown_roots roots
some_shown [] some = absurd (some refl)
some_shown (root ∷ roots) some = ap (λ (l : List Bare). sign "{" ∷ (l ++ sign "}" ∷ [])) (sym (flat_map-map shown_root root_of (root ∷ roots)))

-- which root goes before which
module _ (before : Root → Root → Bool) where
  abbrev order : List Root → List Root
  order = ordered before

  -- one root or more, in the order of their places
  changes-some_roots : Changes (λ c. plus a_root) (map placeless_root) order (λ roots. flat_map (λ root. shown_root (root_of root)) (order roots))
  changes-some_roots = record {
    by = λ c x roots m s.
        let spelled = each_split IsSpelled m.holds.front m.holds.back (subst AreSpelled m.holds.joined s) in
        let all : AllByRecursion (λ root. Again a_root placeless_root (shown_root (root_of root)) root) (m.value.0 ∷ m.value.1) = (reprints-root.by c m.holds.front m.value.0 m.holds.first spelled.0, star-each reprints-root c m.holds.back m.value.1 m.holds.second spelled.1) in
        subst (λ (l : List Root). Again (plus a_root) (map placeless_root) (flat_map (λ root. shown_root (root_of root)) (order l)) (order l)) (sym m.is)
        (again-some (order (m.value.0 ∷ m.value.1)) (order-some before m.value.0 m.value.1) (order-each before (λ root. Again a_root placeless_root (shown_root (root_of root)) root) (m.value.0 ∷ m.value.1) all));
  }
    where
      again-some : (roots : List Root) → (roots ≡ [] → ⊥) → AllByRecursion (λ root. Again a_root placeless_root (shown_root (root_of root)) root) roots → Again (plus a_root) (map placeless_root) (flat_map (λ root. shown_root (root_of root)) roots) roots
      again-some [] some h = absurd (some refl)
      again-some (root ∷ roots) some h = again-mapped {k = cons} (λ x. refl) (again-then h.0 (again-star (λ root. shown_root (root_of root)) roots h.1))

  changes-roots : Changes (λ c. roots) (map placeless_root) order (λ roots. shown_roots (order roots))
  changes-roots =
      changes-shown (λ roots. shown_roots (order roots)) (λ c x all m. some all (m.is ∙ m.holds.second.first.is))
      (changes-mapped {k = between_of} order (λ roots. sign "{" ∷ (flat_map (λ root. shown_root (root_of root)) (order roots) ++ sign "}" ∷ [])) (λ x. refl) (λ x. refl) (λ x. refl)
      (changes-then (changes-none (reprints-punct "{")) (changes-then changes-some_roots (changes-none (reprints-punct "}")))))
    where
      some : (all : List Root) {first : Root} {others : List Root} → all ≡ first ∷ others → sign "{" ∷ (flat_map (λ root. shown_root (root_of root)) (order all) ++ sign "}" ∷ []) ≡ shown_roots (order all)
      some all {first} {others} e = some_shown (order all) (λ none. order-some before first others (ap order (sym e) ∙ none))

  -- ---- schemas

  abbrev schema_by : Schema → Schema
  schema_by s = record { description = s.description; extend = s.extend; directives = s.directives; roots = order s.roots }

  abbrev definition_by : Definition → Definition
  definition_by (schema s) = schema (placed schema_by s)
  definition_by (type_def t) = type_def t
  definition_by (directive d) = directive d

  abbrev shown_schema_by : Positioned Schema → List Bare
  shown_schema_by s =
      shown_description s.node.description
      ++ (shown_extend s.node.extend ++ (word (codes "schema") ∷ (shown_directives s.node.directives ++ shown_roots (order s.node.roots))))

  abbrev shown_by : Definition → List Bare
  shown_by (schema s) = shown_schema_by s
  shown_by (type_def t) = shown_type_definition t.node
  shown_by (directive d) = shown_directive_definition d.node

  changes-schema : Changes (a_schema Current) (unplaced placeless_schema) (placed schema_by) shown_schema_by
  changes-schema =
      changes-mapped {k = schema_of} (placed schema_by) shown_schema_by (λ x. described-nowhere placeless_schema x.0 x.1.0 (schema_of x).node) (λ x. refl)
      (λ x. refl)
      (changes-then (changes-none reprints-maybe_description) (changes-then (changes-none (reprints-keyword "schema")) (changes-then (changes-none (reprints-directives false)) changes-roots)))

  -- directives and roots, one of the two at least
  abbrev SchemaParts : Type 0
  SchemaParts = Directives × List Root

  abbrev arranged_parts : SchemaParts → SchemaParts
  arranged_parts (directives, roots) = (directives, order roots)

  abbrev shown_schema_parts : SchemaParts → List Bare
  shown_schema_parts (directives, roots) = shown_directives directives ++ shown_roots (order roots)

  given-arranged : (found : Option (List Root)) → given (option_map order found) ≡ order (given found)
  given-arranged None = refl
  given-arranged (Some found) = refl

  changes-parts : Changes (λ c. some_parts Current c roots) (placeless-parts placeless_root) arranged_parts shown_schema_parts
  changes-parts =
      changes-either (changes-mapped {k = parts_of} arranged_parts shown_schema_parts (λ x. ap (λ (l : List Root). (placeless_directives x.0, l)) (map-given placeless_root x.1)) (λ x. ap (λ (l : List Root). (x.0, l)) (given-arranged x.1))
      (λ x. ap (λ (l : List Bare). shown_directives x.0 ++ l) (given-shown (λ roots. shown_roots (order roots)) refl x.1))
      (changes-then (changes-none (reprints-plus (reprints-directive false))) (changes-opt changes-roots)))
      (changes-mapped {k = list_alone} arranged_parts shown_schema_parts (λ x. refl) (λ x. refl) (λ x. refl) changes-roots)

  changes-schema_extension : Changes (a_schema_extension Current) (unplaced placeless_schema) (placed schema_by) shown_schema_by
  changes-schema_extension =
      changes-mapped {k = schema_extension_of} (placed schema_by) shown_schema_by (λ x. refl) (λ x. refl)
      (λ x. refl)
      (changes-then (changes-none (reprints-keyword "extend")) (changes-then (changes-none (reprints-keyword "schema")) changes-parts))

  -- ---- files

  changes-definition : Changes (a_definition Current) placeless_definition definition_by shown_by
  changes-definition =
      changes-either (changes-mapped {k = schema} definition_by shown_by (λ s. refl) (λ s. refl) (λ s. refl) changes-schema)
      (changes-either (changes-mapped {k = schema} definition_by shown_by (λ s. refl) (λ s. refl) (λ s. refl) changes-schema_extension)
      (changes-either (changes-mapped {k = type_def} definition_by shown_by (λ t. refl) (λ t. refl) (λ t. refl) (changes-none reprints-type_definition))
      (changes-either (changes-mapped {k = type_def} definition_by shown_by (λ t. refl) (λ t. refl) (λ t. refl) (changes-none reprints-type_extension))
      (changes-mapped {k = directive} definition_by shown_by (λ d. refl) (λ d. refl) (λ d. refl) (changes-none reprints-directive_definition)))))

-- ---- definitions that are the same but for places

abbrev pub arranged_schema : Schema → Schema
arranged_schema s = record { description = s.description; extend = s.extend; directives = s.directives; roots = in_order s.roots }

abbrev pub arranged : Definition → Definition
arranged (schema s) = schema (placed arranged_schema s)
arranged (type_def t) = type_def t
arranged (directive d) = directive d

abbrev shown_tree : Definition → List Bare
shown_tree d = shown_definition (tree_of d)

retold : {p : Rel Definition} {bs cs : List Bare} {a b : Definition} → bs ≡ cs → placeless_definition a ≡ placeless_definition b → Again p placeless_definition bs a → Again p placeless_definition cs b
retold e same h = record { tokens = h.tokens; are = h.are ∙ e; spelled = h.spelled; tree = h.tree; holds = h.holds; same = h.same ∙ same }

roots-listed : (list : List Root) → flat_map shown_root (map root_of (map placeless_root list)) ≡ flat_map shown_root (map root_of list)
roots-listed [] = refl
roots-listed (root ∷ others) = ap (λ (l : List Bare). shown_root (root_of root) ++ l) (roots-listed others)

roots-same : (list : List Root) → shown_roots (map placeless_root list) ≡ shown_roots list
roots-same [] = refl
roots-same (root ∷ others) = ap (λ (l : List Bare). sign "{" ∷ (l ++ sign "}" ∷ [])) (roots-listed (root ∷ others))

abbrev schema_in : Definition → Schema
schema_in (schema s) = s.node
schema_in (type_def t) = record { description = None; extend = false; directives = []; roots = [] }
schema_in (directive d) = record { description = None; extend = false; directives = []; roots = [] }

module _ (s other : Positioned Schema) (same : placeless_definition (schema s) ≡ placeless_definition (schema other)) where
  roots-like : map placeless_root (in_order s.node.roots) ≡ map placeless_root (ordered (as_in s.node.roots) other.node.roots)
  roots-like = order-like s.node.roots other.node.roots (ap (λ (d : Definition). (schema_in d).roots) same)

  schema-shown : shown_schema_by (as_in s.node.roots) other ≡ shown_schema (schema_tree_of s.node)
  schema-shown =
      let described = sym (description-same other.node.description) ∙ ap (λ (d : Definition). shown_description (schema_in d).description) (sym same) ∙ description-same s.node.description in
      let extended = ap (λ (d : Definition). shown_extend (schema_in d).extend) (sym same) in
      let directed = sym (directives-same other.node.directives) ∙ ap (λ (d : Definition). shown_directives (schema_in d).directives) (sym same) ∙ directives-same s.node.directives in
      let rooted = sym (roots-same (ordered (as_in s.node.roots) other.node.roots)) ∙ ap shown_roots (sym roots-like) ∙ roots-same (in_order s.node.roots) ∙ ap (shown_between "{" "}" shown_root) (order-shown s.node) in
      joined described (joined extended (ap (λ (l : List Bare). word (codes "schema") ∷ l) (joined directed rooted)))

  schema-same : placeless_definition (definition_by (as_in s.node.roots) (schema other)) ≡ placeless_definition (arranged (schema s))
  schema-same =
      let described = ap (λ (d : Definition). (schema_in d).description) (sym same) in
      let extended = ap (λ (d : Definition). (schema_in d).extend) (sym same) in
      let directed = ap (λ (d : Definition). (schema_in d).directives) (sym same) in
      let rooted = sym roots-like in
      λ i. schema (record { pos = nowhere; node = record { description = described i; extend = extended i; directives = directed i; roots = rooted i } })

-- what is shown of a definition is this definition again, if it is one of a text but for places
again-like : (limits : Limits) (d e : Definition) → placeless_definition d ≡ placeless_definition e → ((before : Root → Root → Bool) → Again (a_definition Current limits) placeless_definition (shown_by before e) (definition_by before e))
    → Again (a_definition Current limits) placeless_definition (shown_tree d) (arranged d)
again-like limits (schema s) (schema other) same again = retold (schema-shown s other same) (schema-same s other same) (again (as_in s.node.roots))
again-like limits (type_def t) (type_def other) same again =
    retold (sym (type-same other.node) ∙ ap shown_tree (sym same) ∙ type-same t.node) (sym same) (again by_place)
again-like limits (directive d) (directive other) same again =
    retold (sym (directive-definition-same other.node) ∙ ap shown_tree (sym same) ∙ directive-definition-same d.node) (sym same) (again by_place)
again-like limits (schema s) (type_def other) same again = absurd cc
again-like limits (schema s) (directive other) same again = absurd cc
again-like limits (type_def t) (schema other) same again = absurd cc
again-like limits (type_def t) (directive other) same again = absurd cc
again-like limits (directive d) (schema other) same again = absurd cc
again-like limits (directive d) (type_def other) same again = absurd cc

-- ---- files

abbrev AgainOne : Limits → Definition → Type 0
AgainOne c d = Again (a_definition Current c) placeless_definition (shown_tree d) (arranged d)

each-again : (c : Limits) (x : List Token) (ds es : List Definition) → star (a_definition Current c) x es → AreSpelled x → placeless_definitions ds ≡ placeless_definitions es → AllByRecursion (AgainOne c) ds
each-again c x [] es m s same = tt
each-again c x (d ∷ ds) [] m s same = absurd cc
each-again c x (d ∷ ds) (e ∷ es) m s same =
    let spelled = parts_spelled x m.front m.back m.joined s in
    let first = head-is (placeless_definition d) (placeless_definition e) (placeless_definitions ds) (placeless_definitions es) same in
    let others = tail-is (placeless_definition d) (placeless_definition e) (placeless_definitions ds) (placeless_definitions es) same in
    (again-like c d e first (λ before. (changes-definition before).by c m.front e m.first spelled.0), each-again c m.back ds es m.second spelled.1 others)

again-list : (c : Limits) (ds : List Definition) → AllByRecursion (AgainOne c) ds → Again (star (a_definition Current c)) placeless_definitions (flat_map shown_tree ds) (map arranged ds)
again-list c [] h = record { tokens = []; are = refl; spelled = tt; tree = []; holds = refl; same = refl }
again-list c (d ∷ ds) h =
    let i = again-then h.0 (again-list c ds h.1) in
    record { tokens = i.tokens; are = i.are; spelled = i.spelled; tree = i.tree.0 ∷ i.tree.1; holds = record { front = i.holds.front; back = i.holds.back; joined = i.holds.joined; first = i.holds.first; second = i.holds.second }; same = ap cons i.same }

-- definitions that are those of tokens but for places
pub again-file : (limits : Limits) (x : List Token) (ds es : List Definition) → definitions Current limits x es → AreSpelled x → placeless_definitions ds ≡ placeless_definitions es
    → Again (definitions Current limits) placeless_definitions (shown_file (document_of ds)) (map arranged ds)
again-file limits x ds es m s same =
    again-as (sym (flat_map-map shown_definition tree_of ds))
    (again-plus (map arranged ds) (some ds es m.is same) (again-list limits ds (each-again limits x ds es (plus-star (a_definition Current limits) x es m) s same)))
  where
    some : (ds es : List Definition) {first : Definition} {others : List Definition} → es ≡ first ∷ others → placeless_definitions ds ≡ placeless_definitions es → map arranged ds ≡ [] → ⊥
    some [] es e same none = let no : [] ≡ placeless_definitions (_ ∷ _) = same ∙ ap placeless_definitions e in cc
    some (d ∷ ds) es e same none = cc

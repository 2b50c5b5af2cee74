-- What a schema file breaks doesn't depend on its places.
use Rattle.std.proofs.Common.{◌≡◌, Bool, true, false, cond, is_some, Option, Some, None, option_map, List, [], ◌∷◌, ◌++◌, map, refl, sym, ap, ◌∙◌}
use Rattle.std.proofs.lemmas.List.{map-append}
use Rattle.graphql_tokens.specs.declared.pos.Pos.{Pos}
use Rattle.graphql_tokens.specs.declared.pos.Positioned.{Positioned}
use Rattle.graphql_syntax.specs.declared.types.OperationType.{OperationType}
use Rattle.graphql_syntax.specs.declared.types.OperationType.TheVariants.{Query}
use Rattle.graphql_grammar.specs.declared.error.Error.{Error}
use Rattle.graphql_grammar.specs.declared.error.Error.TheVariants.{MultipleRoots, MissingQueryRoot}
use Rattle.graphql_grammar.specs.errors.Errors.{placeless_error}
use Rattle.graphql_grammar.specs.grammar.Placeless.{unplaced}
use Rattle.graphql_grammar.proofs.Alike.{JudgesAlike, either}
use Rattle.graphql_reading.specs.grammar.Places.{nowhere}
use Rattle.graphql_schemas.specs.grammar.Placeless.{placeless_root, placeless_schema, placeless_definition}
use Rattle.graphql_schemas.specs.grammar.Rules.{same_kind, first_of_kind, first_repeated, repeats_a_root, missing_query, lacks_a_query, breach_of}
use Rattle.graphql_schemas.specs.grammar.Schema.{Root, Schema}
use Rattle.graphql_schemas.specs.grammar.SchemaFile.{Definition, schema, type_def, directive}
use Rattle.graphql_schemas.specs.grammar.Schemas.{schemas}

-- ---- roots

abbrev away : Option Root → Option Root
away = option_map placeless_root

chosen : (is : Bool) (root : Root) (x y : Option Root) → x ≡ away y → cond is (Some (placeless_root root)) x ≡ away (cond is (Some root) y)
chosen true root x y h = refl
chosen false root x y h = h

kind-away : (kind : OperationType) (roots : List Root) → first_of_kind kind (map placeless_root roots) ≡ away (first_of_kind kind roots)
kind-away kind [] = refl
kind-away kind (root ∷ roots) = chosen (same_kind kind root.kind) root (first_of_kind kind (map placeless_root roots)) (first_of_kind kind roots) (kind-away kind roots)

is-away : (x : Option Root) → is_some (away x) ≡ is_some x
is-away None = refl
is-away (Some root) = refl

repeated-away : (before roots : List Root) → first_repeated (map placeless_root before) (map placeless_root roots) ≡ away (first_repeated before roots)
repeated-away before [] = refl
repeated-away before (root ∷ roots) =
    ap (λ (is : Bool). cond is (Some (placeless_root root)) (first_repeated (map placeless_root before ++ placeless_root root ∷ []) (map placeless_root roots)))
    (ap is_some (kind-away root.kind before) ∙ is-away (first_of_kind root.kind before))
    ∙ chosen (is_some (first_of_kind root.kind before)) root
    (first_repeated (map placeless_root before ++ placeless_root root ∷ []) (map placeless_root roots)) (first_repeated (before ++ root ∷ []) roots)
    (ap (λ (front : List Root). first_repeated front (map placeless_root roots)) (sym (map-append placeless_root before (root ∷ []))) ∙ repeated-away (before ++ root ∷ []) roots)

-- ---- the errors

abbrev repeated : Pos → Option Root → Option Error
repeated place x = option_map placeless_error (option_map (λ root. MultipleRoots root.kind place root.pos) x)

repeats-away : (s : Positioned Schema) → option_map placeless_error (repeats_a_root s) ≡ option_map placeless_error (repeats_a_root (unplaced placeless_schema s))
repeats-away s = by (first_repeated [] s.node.roots) ∙ ap (repeated nowhere) (sym (repeated-away [] s.node.roots))
  where
    by : (x : Option Root) → repeated s.pos x ≡ repeated nowhere (away x)
    by None = refl
    by (Some root) = refl

abbrev lacking : Positioned Schema → Option Root → Option Error
lacking s x = option_map placeless_error (missing_query s x)

lacks-away : (s : Positioned Schema) → option_map placeless_error (lacks_a_query s) ≡ option_map placeless_error (lacks_a_query (unplaced placeless_schema s))
lacks-away s = by (first_of_kind Query s.node.roots) ∙ ap (lacking (unplaced placeless_schema s)) (sym (kind-away Query s.node.roots))
  where
    missing : (extend : Bool) → option_map placeless_error (cond extend None (Some (MissingQueryRoot s.pos))) ≡ option_map placeless_error (cond extend None (Some (MissingQueryRoot nowhere)))
    missing true = refl
    missing false = refl

    by : (x : Option Root) → lacking s x ≡ lacking (unplaced placeless_schema s) (away x)
    by None = missing s.node.extend
    by (Some root) = refl

breach-away : (before : List Definition) (d : Definition) → option_map placeless_error (breach_of before d) ≡ option_map placeless_error (breach_of (map placeless_definition before) (placeless_definition d))
breach-away before (schema s) =
    either (repeats_a_root s) (lacks_a_query s) (repeats_a_root (unplaced placeless_schema s)) (lacks_a_query (unplaced placeless_schema s)) (repeats-away s) (lacks-away s)
breach-away before (type_def t) = refl
breach-away before (directive d) = refl

pub schemas-judge-alike : JudgesAlike schemas
schemas-judge-alike = record { one = placeless_definition; each = λ ds. refl; breach = breach-away; lack = λ ds. refl }

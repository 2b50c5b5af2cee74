-- Samples stand for the tokens of requests.
use Rattle.std.proofs.Common.{ℕ, zero, suc, true, [], ◌∷◌, refl}
use Rattle.graphql_tokens.specs.tokens.Edition.{Current}
use Rattle.graphql_reading.specs.grammar.Limits.{Limits}
use Rattle.graphql_reading.specs.grammar.Relations.{Rel}
use Rattle.graphql_requests.specs.grammar.Request.{a_definition, definitions}
use Rattle.graphql_requests.specs.grammar.Selections.{Set, fragment_name, aliased, a_type_condition, a_selection, a_set, selection_set}
use Rattle.graphql_requests.specs.grammar.Variables.{default_and_directives, variable_definitions}
use Rattle.graphql_report.proofs.SampleTokens.{Keeps, keeps-name_but, AllowsSamples, allows-one, allows-never, allows-then, allows-mapped, allows-either, allows-plus, allows-opt, allows-punct, allows-keyword, allows-name, allows-between}
use Rattle.graphql_report.proofs.SampleParts.{allows-arguments, allows-directive, allows-directives, allows-default, allows-type, allows-operation_type}

-- ---- variables

allows-default_and_directives : (n : ℕ) → AllowsSamples (default_and_directives Current n)
allows-default_and_directives n =
    allows-either (allows-then (allows-opt (allows-default n)) (allows-directives true n))
    (allows-mapped _ (allows-then (allows-plus (allows-directive true n)) (allows-default n)))

allows-variables : (values types : ℕ) → AllowsSamples (variable_definitions Current values types)
allows-variables values types =
    allows-between "(" ")" (allows-plus (allows-mapped _ (allows-then (allows-punct "$") (allows-then allows-name (allows-then (allows-punct ":") (allows-then (allows-type types) (allows-default_and_directives values)))))))

-- ---- selections

keeps-fragment_name : Keeps fragment_name
keeps-fragment_name = keeps-name_but ("on" ∷ []) refl refl

allows-condition : AllowsSamples a_type_condition
allows-condition = allows-mapped _ (allows-then (allows-keyword "on" refl) allows-name)

allows-aliased : AllowsSamples aliased
allows-aliased = allows-then (allows-opt (allows-mapped _ (allows-then allows-name (allows-punct ":")))) allows-name

allows-selection : (values : ℕ) {set : Rel Set} → AllowsSamples set → AllowsSamples (a_selection Current values set)
allows-selection values h =
    allows-either (allows-mapped _ (allows-then allows-aliased (allows-then (allows-opt (allows-arguments true values)) (allows-then (allows-directives true values) (allows-opt h)))))
    (allows-either (allows-mapped _ (allows-then (allows-punct "...") (allows-then (allows-one keeps-fragment_name) (allows-directives true values))))
    (allows-mapped _ (allows-then (allows-punct "...") (allows-then (allows-opt allows-condition) (allows-then (allows-directives true values) h)))))

allows-set : (values : ℕ) {set : Rel Set} → AllowsSamples set → AllowsSamples (a_set (a_selection Current values set))
allows-set values h = allows-mapped _ (allows-then (allows-punct "{") (allows-then (allows-plus (allows-selection values h)) (allows-punct "}")))

allows-sets : (values n : ℕ) → AllowsSamples (selection_set Current values n)
allows-sets values zero = allows-set values allows-never
allows-sets values (suc n) = allows-set values (allows-sets values n)

-- ---- definitions

allows-definition : (limits : Limits) → AllowsSamples (a_definition Current limits)
allows-definition limits =
    allows-either (allows-mapped _ (allows-sets limits.values limits.selections))
    (allows-either (allows-mapped _ (allows-then allows-operation_type (allows-then (allows-opt allows-name) (allows-then (allows-opt (allows-variables limits.values limits.types)) (allows-then (allows-directives true limits.values) (allows-sets limits.values limits.selections))))))
    (allows-mapped _ (allows-then (allows-keyword "fragment" refl) (allows-then (allows-one keeps-fragment_name) (allows-then allows-condition (allows-then (allows-directives true limits.values) (allows-sets limits.values limits.selections)))))))

pub allows-definitions : (limits : Limits) → AllowsSamples (definitions Current limits)
allows-definitions limits = allows-plus (allows-definition limits)

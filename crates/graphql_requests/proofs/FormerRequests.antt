-- A request of the former grammar is one of the current grammar, with the same tree.
use Rattle.std.proofs.Common.{ℕ, zero, suc, true}
use Rattle.graphql_tokens.specs.tokens.Edition.{Former, Current}
use Rattle.graphql_grammar.specs.grammar.Operations.{operation_type}
use Rattle.graphql_grammar.specs.grammar.Types.{type_reference}
use Rattle.graphql_grammar.proofs.Former.{includes-arguments, includes-directive, includes-directives, includes-default}
use Rattle.graphql_reading.specs.grammar.Limits.{Limits}
use Rattle.graphql_reading.specs.grammar.Relations.{Rel, one, never, opt}
use Rattle.graphql_reading.specs.grammar.Tests.{punct, keyword, any_name}
use Rattle.graphql_reading.proofs.Includes.{Includes, includes-same, includes-then, includes-either, includes-mapped, includes-opt, includes-plus, includes-between}
use Rattle.graphql_requests.specs.grammar.Request.{definitions, a_definition, own_set}
use Rattle.graphql_requests.specs.grammar.Selections.{Set, aliased, fragment_name, a_type_condition, a_selection, selection_set}
use Rattle.graphql_requests.specs.grammar.Variables.{default_and_directives, a_variable_definition, variable_definitions}

-- ---- variable definitions

includes-default_and_directives : (n : ℕ) → Includes (default_and_directives Former n) (default_and_directives Current n)
includes-default_and_directives n =
    includes-either (includes-then (includes-opt (includes-default n)) (includes-directives true n))
    (includes-mapped (includes-then (includes-plus (includes-directive true n)) (includes-default n)))

includes-variable_definition : (n m : ℕ) → Includes (a_variable_definition Former n m) (a_variable_definition Current n m)
includes-variable_definition n m =
    includes-mapped (includes-then (includes-same {p = one (punct "$")}) (includes-then (includes-same {p = one any_name}) (includes-then (includes-same {p = one (punct ":")}) (includes-then (includes-same {p = type_reference m}) (includes-default_and_directives n)))))

includes-variable_definitions : (n m : ℕ) → Includes (variable_definitions Former n m) (variable_definitions Current n m)
includes-variable_definitions n m = includes-between (punct "(") (punct ")") (includes-plus (includes-variable_definition n m))

-- ---- selections

includes-selection : (n : ℕ) {p q : Rel Set} → Includes p q → Includes (a_selection Former n p) (a_selection Current n q)
includes-selection n h =
    includes-either (includes-mapped (includes-then (includes-same {p = aliased}) (includes-then (includes-opt (includes-arguments true n)) (includes-then (includes-directives true n) (includes-opt h)))))
    (includes-either (includes-mapped (includes-then (includes-same {p = one (punct "...")}) (includes-then (includes-same {p = one fragment_name}) (includes-directives true n))))
    (includes-mapped (includes-then (includes-same {p = one (punct "...")}) (includes-then (includes-same {p = opt a_type_condition}) (includes-then (includes-directives true n) h)))))

includes-set : (n s : ℕ) → Includes (selection_set Former n s) (selection_set Current n s)
includes-set n zero = includes-mapped (includes-then (includes-same {p = one (punct "{")}) (includes-then (includes-plus (includes-selection n (includes-same {p = never}))) (includes-same {p = one (punct "}")})))
includes-set n (suc s) = includes-mapped (includes-then (includes-same {p = one (punct "{")}) (includes-then (includes-plus (includes-selection n (includes-set n s))) (includes-same {p = one (punct "}")})))

-- ---- definitions

includes-own_set : (c : Limits) → Includes (own_set Former c) (own_set Current c)
includes-own_set c = includes-set c.values c.selections

includes-definition : (c : Limits) → Includes (a_definition Former c) (a_definition Current c)
includes-definition c =
    includes-either (includes-mapped (includes-own_set c))
    (includes-either (includes-mapped (includes-then (includes-same {p = operation_type}) (includes-then (includes-same {p = opt (one any_name)}) (includes-then (includes-opt (includes-variable_definitions c.values c.types)) (includes-then (includes-directives true c.values) (includes-own_set c))))))
    (includes-mapped (includes-then (includes-same {p = one (keyword "fragment")}) (includes-then (includes-same {p = one fragment_name}) (includes-then (includes-same {p = a_type_condition}) (includes-then (includes-directives true c.values) (includes-own_set c)))))))

pub includes-definitions : (c : Limits) → Includes (definitions Former c) (definitions Current c)
includes-definitions c = includes-plus (includes-definition c)

-- What stands in a text by the former grammar, stands there by the current one, with the same tree.
use Rattle.std.proofs.Common.{ℕ, zero, suc, Bool, false, List}
use Rattle.std.specs.Str.{chars}
use Rattle.graphql_tokens.specs.tokens.Edition.{Former, Current}
use Rattle.graphql_tokens.specs.tokens.Token.{Bare}
use Rattle.graphql_tokens.proofs.Contents.{former_means}
use Rattle.graphql_grammar.specs.grammar.Arguments.{an_argument, arguments, a_directive, directives, a_default}
use Rattle.graphql_tokens.specs.tokens.Alike.{inside}
use Rattle.graphql_grammar.specs.grammar.Values.{StringStands, a_string, a_word, a_number, a_block, a_variable, a_simple_value, value}
use Rattle.graphql_reading.specs.grammar.Relations.{one}
use Rattle.graphql_reading.specs.grammar.Tests.{punct, any_name, any_string}
use Rattle.graphql_reading.proofs.Includes.{Includes, includes-same, includes-meaning, includes-then, includes-either, includes-mapped, includes-opt, includes-star, includes-plus, includes-between, includes-after}

pub string-stands : (t : Bare) (bytes : List ℕ) → StringStands Former t bytes → StringStands Current t bytes
string-stands t bytes h = (h.0, former_means (chars (inside 1 t.spelling)) h.0 h.1, h.2)

includes-string : Includes (a_string Former) (a_string Current)
includes-string = includes-mapped (includes-meaning any_string string-stands)

includes-simple : (vars : Bool) → Includes (a_simple_value Former vars) (a_simple_value Current vars)
includes-simple vars =
    includes-either (includes-same {p = a_word}) (includes-either (includes-same {p = a_number}) (includes-either includes-string (includes-either (includes-same {p = a_block}) (includes-same {p = a_variable vars}))))

pub includes-value : (vars : Bool) (n : ℕ) → Includes (value Former vars n) (value Current vars n)
includes-value vars zero = includes-simple vars
includes-value vars (suc n) =
    includes-either (includes-simple vars)
    (includes-either
    (includes-mapped (includes-then (includes-same {p = one (punct "[")}) (includes-then (includes-star (includes-value vars n)) (includes-same {p = one (punct "]")}))))
    (includes-mapped (includes-then (includes-same {p = one (punct "{")}) (includes-then (includes-star (includes-mapped (includes-then (includes-same {p = one any_name}) (includes-then (includes-same {p = one (punct ":")}) (includes-value vars n))))) (includes-same {p = one (punct "}")})))))

pub includes-argument : (vars : Bool) (n : ℕ) → Includes (an_argument Former vars n) (an_argument Current vars n)
includes-argument vars n = includes-mapped (includes-then (includes-same {p = one any_name}) (includes-then (includes-same {p = one (punct ":")}) (includes-value vars n)))

pub includes-arguments : (vars : Bool) (n : ℕ) → Includes (arguments Former vars n) (arguments Current vars n)
includes-arguments vars n = includes-between (punct "(") (punct ")") (includes-plus (includes-argument vars n))

pub includes-directive : (vars : Bool) (n : ℕ) → Includes (a_directive Former vars n) (a_directive Current vars n)
includes-directive vars n = includes-mapped (includes-then (includes-same {p = one (punct "@")}) (includes-then (includes-same {p = one any_name}) (includes-opt (includes-arguments vars n))))

pub includes-directives : (vars : Bool) (n : ℕ) → Includes (directives Former vars n) (directives Current vars n)
includes-directives vars n = includes-star (includes-directive vars n)

pub includes-default : (n : ℕ) → Includes (a_default Former n) (a_default Current n)
includes-default n = includes-after (punct "=") (includes-value false n)

-- Types, arguments, directives and default values are read again from what is shown of them.
use Rattle.std.proofs.Common.{◌≡◌, ℕ, zero, suc, Bool, false, Option, Some, None, List, [], ◌∷◌, map, option_map, refl, sym, ap}
use Rattle.graphql_tokens.specs.declared.pos.Positioned.{Positioned}
use Rattle.graphql_tokens.specs.tokens.Edition.{Current}
use Rattle.graphql_tokens.specs.tokens.Token.{Bare, Token}
use Rattle.graphql_syntax.specs.declared.types.OperationType.{OperationType}
use Rattle.graphql_syntax.specs.declared.types.OperationType.TheVariants.{Query, Mutation, Subscription}
use Rattle.graphql_syntax.specs.trees.Parts.{Argument, Directive}
use Rattle.graphql_syntax.specs.trees.Parts as trees
use Rattle.graphql_syntax.specs.trees.TypeTree.{TypeTree, named, list}
use Rattle.graphql_reading.specs.grammar.Fronts.{without_place}
use Rattle.graphql_reading.specs.grammar.Limits.{Limits}
use Rattle.graphql_reading.specs.grammar.Places.{at, name_of}
use Rattle.graphql_reading.specs.grammar.Relations.{Rel, one, opt, given}
use Rattle.graphql_reading.specs.grammar.Tests.{punct}
use Rattle.graphql_reading.proofs.IgnoresPlaces.{map-given}
use Rattle.graphql_grammar.specs.grammar.Arguments.{argument_of, an_argument, arguments, directive_of, a_directive, directives, a_default}
use Rattle.graphql_grammar.specs.grammar.Operations.{kind_of, operation_type}
use Rattle.graphql_grammar.specs.grammar.Placeless.{unplaced, bare_node, placeless_argument, placeless_directive, placeless_directives}
use Rattle.graphql_grammar.specs.grammar.Types.{nullable, named_of, a_named_type, list_type_of, a_list_type, type_reference}
use Rattle.graphql_printer.specs.inner.Shown.{sign, word, shown_node, shown_part, shown_mark, shown_type, shown_argument, shown_arguments, shown_directive, shown_directives, shown_default}
use Rattle.graphql_syntax.specs.calls.Words.{operation_word}
use Rattle.graphql_printer.proofs.Reprints.{Reprints, reprints-punct, reprints-keyword, reprints-name, reprints-then, reprints-mapped, reprints-shown, reprints-either, reprints-star, reprints-opt, reprints-after, reprints-listed, reprints-maybe_listed}
use Rattle.graphql_printer.proofs.ShownValues.{reprints-value}

-- ---- types

mark-shown : (mark : Option Token) → shown_part (λ (t : Token). sign "!" ∷ []) mark ≡ shown_mark (nullable mark)
mark-shown None = refl
mark-shown (Some t) = refl

reprints-mark : Reprints (λ c. opt (one (punct "!"))) (option_map without_place) (λ mark. shown_mark (nullable mark))
reprints-mark = reprints-shown (λ mark. shown_mark (nullable mark)) (λ c x mark m. mark-shown mark) (reprints-opt (reprints-punct "!"))

nullable-same : (mark : Option Token) → nullable (option_map without_place mark) ≡ nullable mark
nullable-same None = refl
nullable-same (Some t) = refl

reprints-named_type : Reprints (λ c. a_named_type) bare_node (shown_node shown_type)
reprints-named_type =
    reprints-mapped {k = named_of} (shown_node shown_type) (λ x. ap (λ w. at {A = TypeTree} (without_place x.0) (named x.0.bare.spelling w)) (sym (nullable-same x.1))) (λ x. refl)
    (reprints-then reprints-name reprints-mark)

reprints-list_type : {item : Limits → Rel (Positioned TypeTree)} → Reprints item bare_node (shown_node shown_type) → Reprints (λ c. a_list_type (item c)) bare_node (shown_node shown_type)
reprints-list_type h =
    reprints-mapped {k = list_type_of} (shown_node shown_type) (λ x. ap (λ w. at {A = TypeTree} (without_place x.0) (list x.1.0.node w)) (sym (nullable-same x.1.1.1))) (λ x. refl)
    (reprints-then (reprints-punct "[") (reprints-then h (reprints-then (reprints-punct "]") reprints-mark)))

reprints-within : (n : ℕ) → Reprints (λ c. type_reference n) bare_node (shown_node shown_type)
reprints-within zero = reprints-named_type
reprints-within (suc n) = reprints-either reprints-named_type (reprints-list_type (reprints-within n))

pub reprints-type : Reprints (λ c. type_reference c.types) bare_node (shown_node shown_type)
reprints-type = record { by = λ c. (reprints-within c.types).by c }

-- ---- arguments, where there are any

pub reprints-argument : (vars : Bool) → Reprints (λ c. an_argument Current vars c.values) placeless_argument shown_argument
reprints-argument vars = reprints-mapped {k = argument_of} shown_argument (λ x. refl) (λ x. refl) (reprints-then reprints-name (reprints-then (reprints-punct ":") (reprints-value vars)))

pub reprints-arguments : (vars : Bool) → Reprints (λ c. arguments Current vars c.values) (map placeless_argument) shown_arguments
reprints-arguments vars = reprints-listed "(" ")" (reprints-argument vars)

pub reprints-maybe_arguments : (vars : Bool) → Reprints (λ c. opt (arguments Current vars c.values)) (option_map (map placeless_argument)) (λ list. shown_arguments (given list))
reprints-maybe_arguments vars = reprints-maybe_listed "(" ")" (reprints-argument vars)

-- ---- directives

pub reprints-directive : (vars : Bool) → Reprints (λ c. a_directive Current vars c.values) (unplaced placeless_directive) (shown_node shown_directive)
reprints-directive vars =
    reprints-mapped {k = directive_of} (shown_node shown_directive)
    (λ x. ap (λ (l : trees.Arguments). at {A = Directive} (without_place x.0) (record { name = name_of (without_place x.1.0); arguments = l })) (map-given placeless_argument x.1.1)) (λ x. refl)
    (reprints-then (reprints-punct "@") (reprints-then reprints-name (reprints-maybe_arguments vars)))

pub reprints-directives : (vars : Bool) → Reprints (λ c. directives Current vars c.values) placeless_directives shown_directives
reprints-directives vars = reprints-star (reprints-directive vars)

-- ---- default values

pub reprints-default : Reprints (λ c. a_default Current c.values) bare_node shown_default
reprints-default = reprints-after "=" (reprints-value false)

-- ---- kinds of operations

abbrev pub without_keyword_place : Token × OperationType → Token × OperationType
without_keyword_place x = (without_place x.0, x.1)

abbrev pub shown_kind : Token × OperationType → List Bare
shown_kind x = word (operation_word x.1) ∷ []

pub reprints-operation_type : Reprints (λ c. operation_type) without_keyword_place shown_kind
reprints-operation_type =
    reprints-either (reprints-mapped {k = kind_of Query} shown_kind (λ t. refl) (λ t. refl) (reprints-keyword "query"))
    (reprints-either (reprints-mapped {k = kind_of Mutation} shown_kind (λ t. refl) (λ t. refl) (reprints-keyword "mutation"))
    (reprints-mapped {k = kind_of Subscription} shown_kind (λ t. refl) (λ t. refl) (reprints-keyword "subscription")))

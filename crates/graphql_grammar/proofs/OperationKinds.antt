-- The kinds of operations are read exactly; and their places don't matter.
use Rattle.std.proofs.Common.{IsTrue, refl}
use Rattle.graphql_syntax.specs.declared.types.OperationType.{OperationType}
use Rattle.graphql_syntax.specs.declared.types.OperationType.TheVariants.{Mutation, Subscription}
use Rattle.graphql_tokens.specs.tokens.Token.{Token}
use Rattle.graphql_grammar.specs.grammar.Operations.{kind_of, operation_type}
use Rattle.graphql_grammar.specs.reading.Operations.{operation_type_at}
use Rattle.graphql_reading.specs.grammar.Fronts.{without_place}
use Rattle.graphql_reading.specs.grammar.Limits.{Limits}
use Rattle.graphql_reading.specs.grammar.Relations.{one, ◌∪◌, mapped}
use Rattle.graphql_reading.specs.grammar.Tests.{Test, keyword}
use Rattle.graphql_reading.proofs.IgnoresPlaces.{IgnoresPlaces, ignores-one, ignores-mapped, ignores-either}
use Rattle.graphql_reading.proofs.ReadsExactly.{ReadsExactly, HasPhrase, BeginsWith, exact-keyword, exact-mapped, exact-choose, begins-one, begins-within, begins-mapped, begins-either, has-token, has-map, has-first}
use Rattle.graphql_reading.proofs.TokenTests.{word_of, keyword-within, HasSample, keyword-sample}
use Prim.Native.String.{String}

-- a keyword, whichever kind it tells
begins-kind : {ty : OperationType} (word : String) {g : Test} → IsTrue (g (word_of word)) → BeginsWith (λ c. mapped (kind_of ty) (one (keyword word))) g
begins-kind word h = begins-mapped {p = λ c. one (keyword word)} (begins-within (keyword-within word h) begins-one)

pub exact-operation_type : {b : Limits} {f : Test} → ReadsExactly (λ c. operation_type) b f operation_type_at
exact-operation_type =
    exact-choose (begins-mapped {p = λ c. one (keyword "query")} begins-one) (begins-either (begins-kind "mutation" refl) (begins-kind "subscription" refl)) (exact-mapped (exact-keyword "query"))
    (exact-choose (begins-mapped {p = λ c. one (keyword "mutation")} begins-one) (begins-kind "subscription" refl) (exact-mapped (exact-keyword "mutation")) (exact-mapped (exact-keyword "subscription")))

pub begins-operation_type : {g : Test} → IsTrue (g (word_of "query")) → IsTrue (g (word_of "mutation")) → IsTrue (g (word_of "subscription")) → BeginsWith (λ c. operation_type) g
begins-operation_type query mutation subscription = begins-either (begins-kind "query" query) (begins-either (begins-kind "mutation" mutation) (begins-kind "subscription" subscription))

query-sample : HasSample (keyword "query")
query-sample = keyword-sample "query" refl (refl, (refl, (refl, (refl, (refl, tt)))))

pub has-operation_type : HasPhrase (λ c. operation_type)
has-operation_type = has-first {q = λ c. mapped (kind_of Mutation) (one (keyword "mutation")) ∪ mapped (kind_of Subscription) (one (keyword "subscription"))} (has-map (has-token query-sample))

abbrev pub without-keyword-place : Token × OperationType → Token × OperationType
without-keyword-place x = (without_place x.0, x.1)

pub ignores-operation_type : IgnoresPlaces (λ c. operation_type) without-keyword-place
ignores-operation_type = ignores-either (ignores-mapped (λ t. refl) (ignores-one (keyword "query") (λ spelling. refl))) (ignores-either (ignores-mapped (λ t. refl) (ignores-one (keyword "mutation") (λ spelling. refl))) (ignores-mapped (λ t. refl) (ignores-one (keyword "subscription") (λ spelling. refl))))

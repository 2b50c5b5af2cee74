use Rattle.std.proofs.Common.{[], ◌∷◌, option_map, sym, subst}
use Rattle.graphql_parser.specs.Checking.{checked}
use Rattle.graphql_parser.specs.RequestHeads.{head_tree}
use Rattle.graphql_grammar.specs.answers.Answers.{IsDocument}
use Rattle.graphql_grammar.specs.declared.error.Error.TheVariants.{MissingOperation}
use Rattle.graphql_grammar.specs.reading.DocumentOf.{TellsBreach}
use Rattle.graphql_requests.specs.grammar.Requests.{requests}
use Rattle.graphql_parser.proofs.Sorted.{one-operation, one-fragment}
use Rattle.graphql_parser.proofs.check.rules.judge_one.Goals as goal

pub returns-in-Operation-clause-document : goal.returns-in-Operation-clause-document
returns-in-Operation-clause-document c = subst (λ head. IsDocument (checked requests) (head_tree head ∷ []) tt) (sym c.in-Operation.is) (one-operation (option_map (λ n. n.now) c.in-Operation.field-0) c.in-Operation.field-1)

pub returns-in-Fragment-clause-document : goal.returns-in-Fragment-clause-document
returns-in-Fragment-clause-document c = subst (λ head. TellsBreach (checked requests) (head_tree head ∷ []) MissingOperation) (sym c.in-Fragment.is) (one-fragment c.in-Fragment.field-0.now c.in-Fragment.field-1)

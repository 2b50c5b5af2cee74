use Rattle.std.proofs.Common.{rules, List, refl, sym, subst, arith, inl, inr}
use Rattle.graphql_tokens.specs.tokens.Token.{Token}
use Rattle.graphql_grammar.specs.answers.Answers.{TokenFor}
use Rattle.graphql_grammar.proofs.Languages.{reads-text}
use Rattle.graphql_schemas.specs.grammar.Schemas.{schemas}
use Rattle.graphql_schemas.specs.reading.SchemaFile.{definitions_at}
use Rattle.graphql_schemas.proofs.Laws.{none-described}
use Rattle.graphql_parser.specs.Checking.{checked}
use Rattle.graphql_parser.proofs.Checking.{text-as-parsed}
use Rattle.graphql_parser.proofs.SchemaBreaches.{schema-checks-are-read, schema-checks-read-by}
use Rattle.graphql_parser.proofs.check.schemas.check_schema_to.Goals as goal

pub read_document-answer-requires : goal.read_document-answer-requires
read_document-answer-requires c = λ k. ((refl, tt), (search rules, schema-checks-read-by))

pub returns-clause-reads : goal.returns-clause-reads
returns-clause-reads c = reads-text (checked schemas) definitions_at schema-checks-are-read c.args.limits c.args.text.now c.new-tokens.result _ _ c.new-tokens.ensures.cut c.new-tokens.ensures.only c.new-tokens.ensures.former c.read_document-answer.ensures.reads

pub returns-clause-as_parsed : goal.returns-clause-as_parsed
returns-clause-as_parsed c = text-as-parsed schemas c.args.limits c.args.text.now c.read_document-answer.result (reads-text (checked schemas) definitions_at schema-checks-are-read c.args.limits c.args.text.now c.new-tokens.result _ _ c.new-tokens.ensures.cut c.new-tokens.ensures.only c.new-tokens.ensures.former c.read_document-answer.ensures.reads)

pub returns-clause-former_schemas : goal.returns-clause-former_schemas
returns-clause-former_schemas c = none-described c.args.limits

pub returns-clause-taken : goal.returns-clause-taken
returns-clause-taken c = omega (arith, c.read_document-answer.ensures.taken 0 refl)

pub returns-clause-refused : goal.returns-clause-refused
returns-clause-refused c is = elim (c.read_document-answer.ensures.refused 0 refl is) [ inl heap ↦ inl heap | inr less ↦ inr (omega (arith, less)) ]

pub returns-clause-token : goal.returns-clause-token
returns-clause-token c ts cut = subst (λ (l : List Token). TokenFor (checked schemas) c.args.limits l c.read_document-answer.result c.read_document-answer.new.refused) (sym (c.new-tokens.ensures.only ts cut)) (c.read_document-answer.ensures.token refl)

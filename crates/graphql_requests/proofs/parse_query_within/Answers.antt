use Rattle.std.proofs.Common.{rules, refl, arith, ap, inl, inr}
use Rattle.graphql_grammar.proofs.Bounds.{text-bound, token-bound}
use Rattle.graphql_tokens.specs.tokens.Token.{left}
use Rattle.graphql_reading.specs.reading.Worth.{worth}
use Rattle.graphql_grammar.proofs.Languages.{reads-text}
use Rattle.graphql_requests.specs.grammar.Requests.{requests}
use Rattle.graphql_requests.specs.reading.Request.{definitions_at}
use Rattle.graphql_requests.proofs.Laws.{lawful-answer}
use Rattle.graphql_requests.proofs.RequestProductions.{requests-are-read, requests-read-by}
use Rattle.graphql_requests.proofs.parse_query_within.Goals as goal

pub read_document-requires : goal.read_document-requires
read_document-requires c k = ((refl, tt), (search rules, requests-read-by))

pub returns-clause-reads : goal.returns-clause-reads
returns-clause-reads c = reads-text requests definitions_at requests-are-read c.args.limits c.args.text.now c.new-tokens.result _ _ c.new-tokens.ensures.cut c.new-tokens.ensures.only c.new-tokens.ensures.former c.read_document.ensures.reads

pub returns-clause-lawful : goal.returns-clause-lawful
returns-clause-lawful c = lawful-answer c.args.limits (left c.new-tokens.result) _ c.read_document.ensures.reads.answer

pub returns-clause-taken : goal.returns-clause-taken
returns-clause-taken c = omega (arith, c.read_document.ensures.taken _ refl, text-bound c.args.text.now _ c.utf8.text c.new-tokens.ensures.cut)

pub returns-clause-refused : goal.returns-clause-refused
returns-clause-refused c is = elim (c.read_document.ensures.refused _ refl is) [ inl heap ↦ inl heap | inr less ↦ inr (omega (arith, less, text-bound c.args.text.now _ c.utf8.text c.new-tokens.ensures.cut)) ]

pub returns-clause-by_tokens : goal.returns-clause-by_tokens
returns-clause-by_tokens c ts cut =
    let paid = token-bound c.args.text.now ts c.utf8.text cut in
    let same = ap worth (c.new-tokens.ensures.only ts cut) in
    (omega (arith, c.read_document.ensures.taken _ refl, paid, same), λ is. elim (c.read_document.ensures.refused _ refl is) [ inl heap ↦ inl heap | inr less ↦ inr (omega (arith, less, paid, same)) ])

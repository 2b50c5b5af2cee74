use Rattle.graphql_report.proofs.LeftTexts.{whole-requests, whole-schemas}
use Rattle.graphql_report.proofs.left.whole_document.Goals as goal

pub returns-in-Requests : goal.returns-in-Requests
returns-in-Requests c = whole-requests (λ left. left.items) c.args.language c.only.result c.in-Requests.is c.only.ensures

pub returns-in-Schemas : goal.returns-in-Schemas
returns-in-Schemas c = whole-schemas (λ left. left.items) c.args.language c.only-in-Schemas.result c.in-Schemas.is c.only-in-Schemas.ensures

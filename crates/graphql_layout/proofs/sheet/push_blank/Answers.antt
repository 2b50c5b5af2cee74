use Rattle.std.proofs.Common.{subst, string_bytes}
use Rattle.graphql_layout.specs.declared.sheet.Last.{Last}
use Rattle.graphql_layout.specs.inner.Sheets.{IsSheet}
use Rattle.graphql_layout.proofs.Pushes.{blank_pushed}
use Rattle.graphql_layout.proofs.sheet.push_blank.Goals as goal

pub returns-in-Other-clause-ok : goal.returns-in-Other-clause-ok
returns-in-Other-clause-ok c =
    let sheet = subst (λ (l : Last). IsSheet (string_bytes c.args.text.now) l) c.in-Other.is c.requires in
    blank_pushed c.push.result c.args.text.now c.push.new.self c.in-Other.field-0 sheet c.push.ensures.bytes

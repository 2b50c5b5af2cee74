use Rattle.std.proofs.Common.{IsUtf8, ap, sym, ◌∙◌, subst}
use Rattle.json.specs.Lex.{tokens}
use Rattle.json.specs.Print.{print}
use Rattle.graphql_json.proofs.Sheets.{text_of, utf8_of}
use Rattle.graphql_json.proofs.sheet.Sheet.finish.Goals as goal

pub returns-clause-text : goal.returns-clause-text
returns-clause-text c = c.into_vec.ensures ∙ text_of c.self.inside c.self.invariant ∙ ap print c.self.view_is

pub returns-clause-tokens : goal.returns-clause-tokens
returns-clause-tokens c = ap tokens c.into_vec.ensures ∙ c.self.view_is

pub returns-clause-utf8 : goal.returns-clause-utf8
returns-clause-utf8 c = subst IsUtf8 (sym c.into_vec.ensures) (utf8_of c.self.inside c.self.invariant)

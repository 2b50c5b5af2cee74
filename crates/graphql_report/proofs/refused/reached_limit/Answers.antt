use Rattle.std.proofs.Common.{sym, ◌∙◌, subst}
use Rattle.std.proofs.lemmas.Str.{IsUtf8-string_bytes}
use Rattle.std.specs.Str.{IsUtf8}
use Rattle.graphql_report.proofs.Buffers.{line-feed-last}
use Rattle.graphql_report.proofs.refused.reached_limit.Goals as goal

pub passes-requires : goal.passes-requires
passes-requires c = line-feed-last c.as_str.result.now c.read_before.result.now (subst IsUtf8 (sym c.as_str.ensures.value) (IsUtf8-string_bytes c.in_ok-line.line)) (c.as_str.ensures.value ∙ c.in_ok-line.ensures)

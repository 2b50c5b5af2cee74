use Rattle.std.proofs.Common.{ℕ, List, ◌++◌, ap, ◌∙◌, lit<}
use Rattle.std.proofs.lemmas.Str.{IsUtf8-string_bytes}
use Rattle.std.specs.String.{string_bytes}
use Rattle.graphql_report.proofs.Buffers.{pushed-line-feed}
use Rattle.conformance_tools.proofs.reports.is_viable.Goals as goal

pub is_front-requires : goal.is_front-requires
is_front-requires c = pushed-line-feed (string_bytes c.in_ok-line.line) c.as_str.result.now (IsUtf8-string_bytes c.in_ok-line.line) (c.as_str.ensures.value ∙ c.in_ok-push.ensures.bytes ∙ ap (λ (l : List ℕ). string_bytes c.in_ok-line.line ++ l) (c.in_ok-push.ensures.ascii (lit< tt)))

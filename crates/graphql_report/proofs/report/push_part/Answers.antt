use Rattle.std.proofs.Common.{◌∙◌}
use Rattle.std.specs.String.{string_bytes}
use Rattle.graphql_report.proofs.ReportParts.{part-told, place-shown}
use Rattle.graphql_report.proofs.report.push_part.Goals as goal

pub returns : goal.returns
returns c =
    let shown = c.as_str.ensures.value ∙ place-shown _ _ _ _ c.in_ok-shown_place.ensures.ok (c.as_str-file.ensures.value ∙ c.in_ok-file.ensures) in
    part-told c.args.source.now.style c.args.source.now.file_name.now c.args.place c.args.message.now _ c.as_str-2.result.now (string_bytes c.args.out.now) _ _ _ _ _ shown c.in_ok-push.ensures c.in_ok-push_str.ensures.bytes c.in_ok-push_message.ensures c.in_ok-push_str-2.ensures.bytes c.in_ok-push_str-3.ensures.bytes

use Rattle.std.proofs.Common.{string_bytes}
use Rattle.graphql_layout.proofs.Sheets.{opened}
use Rattle.graphql_layout.proofs.sheet.Sheet.new.Goals as goal

pub invariant_of-result : goal.invariant_of-result
invariant_of-result c = (opened (string_bytes c.new.result) c.new.ensures.bytes).sheet

pub returns : goal.returns
returns c = (opened (string_bytes c.new.result) c.new.ensures.bytes).has

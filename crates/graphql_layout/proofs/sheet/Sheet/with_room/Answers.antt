use Rattle.std.proofs.Common.{string_bytes}
use Rattle.graphql_layout.proofs.Sheets.{opened}
use Rattle.graphql_layout.proofs.sheet.Sheet.with_room.Goals as goal

pub invariant_of-result : goal.invariant_of-result
invariant_of-result c = (opened (string_bytes c.in_ok-with_capacity.field-0) c.in_ok-with_capacity.ensures.bytes).sheet

pub returns : goal.returns
returns c = (opened (string_bytes c.in_ok-with_capacity.field-0) c.in_ok-with_capacity.ensures.bytes).has

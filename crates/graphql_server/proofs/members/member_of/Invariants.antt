use Rattle.std.proofs.Common.{◌≡◌, take, option_map}
use Rattle.json.specs.Find.{get_member}
use Rattle.json.specs.Value.{value_view, members_view}
use Rattle.graphql_server.proofs.members.member_of.Given as goal

abbrev pub invariant-loop-member : goal.invariant-loop-member
invariant-loop-member l = option_map (λ v. value_view v.now) l.found ≡ get_member l.name (members_view (take l.member-index l.member-items))

use Rattle.graphql_layout.proofs.FirstHashes.{clear_after}
use Rattle.graphql_layout.proofs.layout.ahead.go_on.Goals as goal

pub next_hash-requires : goal.next_hash-requires
next_hash-requires c = clear_after c.args.ahead.hash c.in_ok-length.length c.args.ahead.rest.now c.split_at.result.1.now c.requires.clear c.split_at.ensures.back

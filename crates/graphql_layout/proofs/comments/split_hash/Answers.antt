use Rattle.std.proofs.Common.{◌+◌}
use Rattle.graphql_layout.proofs.FirstHashes.{no_hash_found, hash_found}
use Rattle.graphql_layout.proofs.comments.split_hash.Goals as goal

pub returns-in-None : goal.returns-in-None
returns-in-None c = no_hash_found c.args.text.now c.as_bytes.result.now c.utf8.text c.as_bytes.ensures.value c.in-None.ensures

pub returns-in-Some : goal.returns-in-Some
returns-in-Some c =
    let h = hash_found c.args.text.now c.as_bytes.result.now c.in-Some.start c.utf8.text c.as_bytes.ensures.value c.in-Some.ensures in
    record {
      start = c.in-Some.start;
      end = c.in-Some.start + 1;
      found = h.found;
      boundary = h.boundary;
      front = c.split_at.ensures.front;
      back = c.split_at.ensures.back;
    }

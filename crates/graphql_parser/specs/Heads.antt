-- Selections up to their sets, of which it is seen only whether a set follows.
use Rattle.std.specs.Prelude.{Bool, is_some}
use Rattle.graphql_reading.specs.reading.Outcome.{Reader, mapped_at}
use Rattle.graphql_requests.specs.reading.SelectionSteps.{Heading}

abbrev pub entered : Heading → Bool
entered x = is_some x.1

abbrev pub entered_at : Reader Heading → Reader Bool
entered_at head = mapped_at entered head

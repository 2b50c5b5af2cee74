use Rattle.std.proofs.Common.{◌≡◌, drop, fold}
use Rattle.std.specs.Hash.DefaultHasher as strong
use Rattle.graphql_requests.specs.reading.Seeds.{names_fed}
use Rattle.graphql_requests.proofs.seeds.seed_of.Given as goal

abbrev pub invariant-loop-definition : goal.invariant-loop-definition
invariant-loop-definition l =
    fold strong.write l.digest (names_fed (drop l.definition-index l.definitions)) ≡ fold strong.write strong.initial (names_fed l.definitions)

-- How the maps of a request hash names.
-- Source: this project's choice; the two hashers are the kit's.
use Rattle.std.specs.Prelude.{ℕ, List, Option, Some, None, fold}
use Rattle.std.specs.Hash as fed
use Rattle.std.specs.Hash.DefaultHasher as strong
use Rattle.std.specs.Hash.FoldHasher as quick
use Rattle.graphql_trees.specs.declared.hasher.NameHasher.{NameHasher}
use Rattle.graphql_trees.specs.declared.hasher.NameHasher.TheVariants.{Quick, Strong}
use Rattle.graphql_trees.specs.declared.hasher.NameSeed.{NameSeed}

-- the seed without a digest
abbrev pub quick_seed : NameSeed
quick_seed = record { digest = None }

-- the seed of a digest
abbrev pub digest_seed : ℕ → NameSeed
digest_seed digest = record { digest = Some digest }

-- the hasher before the first write
abbrev pub begun : Option ℕ → NameHasher
begun None = Quick quick.initial
begun (Some digest) = Strong (fold strong.write strong.initial (fed.u64 digest))

-- the hasher after one write
abbrev pub written : NameHasher → List ℕ → NameHasher
written (Quick hasher) bytes = Quick (quick.write hasher bytes)
written (Strong hasher) bytes = Strong (strong.write hasher bytes)

-- the hash of what was written
abbrev pub finished : NameHasher → ℕ
finished (Quick hasher) = quick.finish hasher
finished (Strong hasher) = strong.finish hasher

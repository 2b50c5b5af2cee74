-- What the maps of a document hash by.
use Rattle.std.specs.Prelude.{ℕ, List, [], Option, Some, None, length, fold, flat_map, nat_le, if◌then◌else◌}
use Rattle.std.specs.Hash as fed
use Rattle.std.specs.Hash.DefaultHasher as strong
use Rattle.graphql_trees.specs.calls.Hashing.{quick_seed, digest_seed}
use Rattle.graphql_trees.specs.declared.hasher.NameSeed.{NameSeed}
use Rattle.graphql_syntax.specs.trees.Parts.{Name}
use Rattle.graphql_requests.specs.declared.definitions.Definition.{Definition}
use Rattle.graphql_requests.specs.declared.definitions.Definition.TheVariants.{Operation, Fragment}

-- the name of a definition
abbrev pub name_in : Definition → Option Name
name_in (Operation name node) = name
name_in (Fragment name node) = Some name

-- what a name adds to the digest
abbrev pub name_fed : Option Name → List (List ℕ)
name_fed None = []
name_fed (Some name) = fed.str name

-- what all names add to it, in the order of their definitions
abbrev pub names_fed : List Definition → List (List ℕ)
names_fed ds = flat_map (λ d. name_fed (name_in d)) ds

-- the digest of all names
abbrev pub digest_of : List Definition → ℕ
digest_of ds = strong.finish (fold strong.write strong.initial (names_fed ds))

-- the seed for a document of these definitions
abbrev pub document_seed : List Definition → NameSeed
document_seed ds = if nat_le (length ds) 32 then quick_seed else digest_seed (digest_of ds)

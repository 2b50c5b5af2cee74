-- What the options of a call say of the language of its texts.
-- Source: this project's choice.
use Rattle.std.specs.Prelude.{ℕ, Bool, false, List, Option, Some, None, codes, bytes_eq, if◌then◌else◌}
use Rattle.std.specs.Option.{option_map_or}
use Rattle.clap.specs.Words.{first_value}
use Rattle.clap.specs.declared.parser.matches.Found.{Found}
use Rattle.graphql_report.specs.declared.fronts.Language.{Language}
use Rattle.graphql_report.specs.declared.fronts.Language.TheVariants.{Requests, Schemas}

-- this option, which takes no value, is given, and no later one undoes it
abbrev pub is_given : Found → List ℕ → Bool
is_given found option = option_map_or (λ value. bytes_eq value (codes "true")) (first_value found option) false

-- the language that is said
abbrev pub language_said : Found → Option Language
language_said found = if is_given found (codes "query") then Some Requests else (if is_given found (codes "schema") then Some Schemas else None)

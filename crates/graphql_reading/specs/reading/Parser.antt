-- How a parser shows it.
use Rattle.std.specs.Prelude.{◌≡◌, ◌≤◌, ℕ, List, [], ◌∷◌, length, if◌then◌else◌}
use Rattle.graphql_tokens.specs.tokens.Seen.{seen}
use Rattle.graphql_tokens.specs.tokens.Cuts.{EndsOnce}
use Rattle.graphql_tokens.specs.tokens.Proper.{AreProperButFaults}
use Rattle.graphql_tokens.specs.tokens.Kinds.{is_punct}
use Rattle.graphql_tokens.specs.tokens.Token.{Bare, left}
use Rattle.graphql_tokens.specs.tokens.Within.{StandsIn}
use Rattle.graphql_reading.specs.reading.Ahead.{Ahead, tokens}
use Rattle.graphql_reading.specs.declared.parser.Parser.TheInside.{Inside}

-- the byte of a text of one byte, else 0
abbrev pub only_byte : List ℕ → ℕ
only_byte [] = 0
only_byte (b ∷ []) = b
only_byte (b ∷ c ∷ rest) = 0

-- the byte of a punctuator of one byte, else 0
abbrev pub mark : Bare → ℕ
mark t = if is_punct t.kind then only_byte t.spelling else 0

abbrev pub shown : Inside → Ahead
shown a = record { source = record { text = a.tokens.text; whole = a.tokens.whole }; hand = seen a.hand; after = left a.tokens; taken = a.tokens.taken; memory = a.memory }

-- the tokens ahead end once, and each but a fault is proper; no more are taken than there are; the one in hand stands in
-- the text; and its byte is beside it, where it is a punctuator of one byte
abbrev pub IsWellCut : Inside → Type 0
IsWellCut a = EndsOnce (tokens (shown a)) × AreProperButFaults (tokens (shown a)) × (a.tokens.taken ≤ length a.tokens.whole) × StandsIn a.tokens.text (seen a.hand) × (a.mark ≡ mark (seen a.hand).bare)

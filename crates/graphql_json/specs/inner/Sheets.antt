-- What a sheet holds.
use Rattle.std.specs.Prelude.{◌≡◌, List, [], ◌∷◌, ⊤}
use Rattle.std.specs.Str.{IsUtf8}
use Rattle.graphql_json.specs.declared.sheet.Sheet.TheInside.{Inside}
use Rattle.json.specs.Lex.{tokens}
use Rattle.json.specs.Print.{token_text, print, ends_value, IsPrintable}
use Rattle.json.specs.Token.{Token}

-- these tokens may be written, and their texts are UTF-8
abbrev pub AreWritable : List Token → Type 0
AreWritable [] = ⊤
AreWritable (t ∷ ts) = IsPrintable t × IsUtf8 (token_text t) × AreWritable ts

-- the tokens are those that a reader finds in the text
abbrev pub sheet_view : Inside → List Token
sheet_view s = tokens s.text.items

-- the text is a print of some tokens
pub record IsSheet (s : Inside) : Type 0 where
  pub written : List Token
  pub writable : AreWritable written
  pub text : s.text.items ≡ print written
  pub place : s.after_value ≡ ends_value written

use Rattle.std.proofs.Common.{◌≡◌, ℕ, ◌<◌, Bool, not, eqb, bit_and, get_or, refl, ap, ◌∙◌, arith}
use Rattle.std.proofs.lemmas.Bool.{agree_below_at}
use Rattle.graphql_tokens.specs.inner.ByteClasses.{bit_of, has_byte}
use Rattle.graphql_tokens.specs.declared.lexer.class.CharClass.{CharClass}
use Rattle.graphql_tokens.specs.declared.lexer.class.CharClass.TheVariants.{EndsIgnored, NameStart, NameChar, Punct, Digit, Plain, NumberStart, PlainAscii}
use Rattle.graphql_tokens.specs.declared.lexer.class.TheConstants.{CLASSES}
use Rattle.graphql_tokens.proofs.lexer.class.CharClass.has.Goals as goal

-- whether the table has this bit for the byte
abbrev has_bit : ℕ → ℕ → Bool
has_bit bit b = not (eqb (bit_and (get_or CLASSES b 0) bit) 0)

-- the whole table
table : (class : CharClass) (b : ℕ) → b < 256 → has_bit (bit_of class) b ≡ has_byte class b
table EndsIgnored b low = agree_below_at (has_bit 1) (has_byte EndsIgnored) 256 b refl low
table NameStart b low = agree_below_at (has_bit 2) (has_byte NameStart) 256 b refl low
table NameChar b low = agree_below_at (has_bit 4) (has_byte NameChar) 256 b refl low
table Punct b low = agree_below_at (has_bit 8) (has_byte Punct) 256 b refl low
table Digit b low = agree_below_at (has_bit 16) (has_byte Digit) 256 b refl low
table Plain b low = agree_below_at (has_bit 32) (has_byte Plain) 256 b refl low
table NumberStart b low = agree_below_at (has_bit 64) (has_byte NumberStart) 256 b refl low
table PlainAscii b low = agree_below_at (has_bit 128) (has_byte PlainAscii) 256 b refl low

pub returns : goal.returns
returns c =
    ap (λ v. not (eqb (bit_and v c.bit.result) 0)) c.classes_of.ensures ∙ ap (λ n. has_bit n c.args.b) c.bit.ensures
    ∙ table c.args.self c.args.b (omega (arith, c.ranges.b))

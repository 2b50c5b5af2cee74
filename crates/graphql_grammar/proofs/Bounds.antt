-- What reading a document takes in all.
use Rattle.std.proofs.Common.{◌≡◌, ◌≤◌, ◌+◌, ◌*◌, ◌++◌, ◌∷◌, ◌∙◌, ℕ, List, [], length, length-append, inl, inr, arith, ap, Result, Err}
use Rattle.std.proofs.lemmas.Str.{encodes-append, encodes-chars, length-le-encodes}
use Rattle.std.specs.List.{concat}
use Rattle.std.specs.Str.{chars, IsUtf8, encode_utf8_all}
use Rattle.graphql_tokens.specs.tokens.Cuts.{Cuts, IsCutInto}
use Rattle.graphql_tokens.specs.tokens.Edition.{Edition}
use Rattle.graphql_tokens.specs.tokens.Token.{Token}
use Rattle.graphql_tokens.proofs.Nexts.{begins_some}
use Rattle.graphql_memory.specs.declared.Memory.{Memory}
use Rattle.graphql_memory.specs.Memory.{Takes}
use Rattle.graphql_reading.specs.reading.Ahead.{Ahead, tokens}
use Rattle.graphql_reading.specs.reading.Funds.{Spares, RefusesGiven}
use Rattle.graphql_reading.specs.reading.Worth.{worth}
use Rattle.graphql_reading.proofs.Funds.{worth-hand}
use Rattle.graphql_grammar.specs.answers.Memory.{most_taken, most_taken_by, message_bytes}

-- where there is a tree
pub took-tree : (lent : Memory) (parser read : Ahead) (given done : Memory) (most owes : ℕ) → parser.memory ≡ lent
    → (parser.memory.left + read.memory.lacking + owes ≤ read.memory.left + parser.memory.lacking + most) × (read.memory.left ≤ parser.memory.left)
    → given ≡ read.memory → Takes owes given done → Takes (most + message_bytes) lent done
took-tree lent parser read given done most owes held pays is takes =
    let takes' = rw is at takes in
    rw (← held) (omega (arith, pays, takes'), omega (arith, pays, takes'))

-- and where there is none
pub took-none : (lent : Memory) (parser read : Ahead) (given done : Memory) (most : ℕ) → parser.memory ≡ lent → Takes most parser.memory read.memory
    → given ≡ read.memory → Takes message_bytes given done → Takes (most + message_bytes) lent done
took-none lent parser read given done most held pays is takes =
    let takes' = rw is at takes in
    rw (← held) (omega (arith, pays, takes'), omega (arith, pays, takes'))

-- what is left when a document is made, or an error
pub left-after : (lent : Memory) (parser read : Ahead) (given done : Memory) → parser.memory ≡ lent → read.memory.left ≤ parser.memory.left → given ≡ read.memory → done.left ≤ given.left → done.left ≤ lent.left
left-after lent parser read given done held less is fewer =
    let fewer' = rw is at fewer in
    rw (← held) (omega (arith, less, fewer'))

-- what a reader's tokens paid for, those that were ahead pay for
pub tree-takes : (old new : Ahead) (owes : ℕ) → Spares owes old new → (old.memory.left + new.memory.lacking + owes ≤ new.memory.left + old.memory.lacking + worth (tokens old)) × (new.memory.left ≤ old.memory.left)
tree-takes old new owes h = (omega (arith, h), omega (arith, h))

pub refusal-takes : (old new : Ahead) → RefusesGiven 0 old new → Takes (worth (tokens old)) old.memory new.memory
refusal-takes old new h = (omega (arith, h, worth-hand new), omega (arith, h))

pub err-same : {X Y : Type 0} (a b : Y) → (let e : Result X Y = Err a in let f : Result X Y = Err b in e ≡ f) → a ≡ b
err-same a b e = cc

-- ---- a text

abbrev bytes_of : List ℕ → ℕ
bytes_of cs = length (encode_utf8_all cs)

joined : (xs ys : List ℕ) → bytes_of (xs ++ ys) ≡ bytes_of xs + bytes_of ys
joined xs ys = ap length (encodes-append xs ys) ∙ length-append (encode_utf8_all xs) (encode_utf8_all ys)

-- no two tokens spell the same byte, and each but the last spells one
cuts-worth : (edition : Edition) (front text : List ℕ) (ts : List Token) → Cuts edition front text ts → (worth ts ≤ 1104 * length ts + bytes_of text) × (length ts ≤ bytes_of text + 1)
unfolding worth
cuts-worth edition front text [] h = absurd h
cuts-worth edition front text (t ∷ ts) (ignored, inl (first, rest)) =
    let more = cuts-worth edition _ first.rest ts rest in
    let some = begins_some edition first.kind first.word first.rest first.begins in
    let spelled = ap (λ (u : Token). length u.bare.spelling) first.is in
    let whole = ap bytes_of ignored.whole ∙ joined (concat ignored.pieces) ignored.after in
    let after = ap bytes_of first.whole ∙ joined first.word first.rest in
    (omega (arith, more.0, spelled, whole, after), omega (arith, more.1, some, length-le-encodes first.word, whole, after))
cuts-worth edition front text (t ∷ ts) (ignored, inr (inl (ends, none))) =
    let spelled = ap (λ (u : Token). length u.bare.spelling) ends.is in
    (omega (arith, spelled, ap worth none, ap length none), omega (arith, ap length none))
cuts-worth edition front text (t ∷ ts) (ignored, inr (inr (fault, none))) =
    let spelled = ap (λ (u : Token). length u.bare.spelling) fault.is in
    (omega (arith, spelled, ap worth none, ap length none), omega (arith, ap length none))

-- what the tokens of a text pay, and a message
pub token-bound : (text : List ℕ) (ts : List Token) → IsUtf8 text → IsCutInto text ts → worth ts + message_bytes ≤ most_taken_by (length ts) (length text)
unfolding most_taken_by
token-bound text ts u cut = omega (arith, cuts-worth _ [] (chars text) ts cut, ap length (encodes-chars text u))

-- by the bytes alone
pub text-bound : (text : List ℕ) (ts : List Token) → IsUtf8 text → IsCutInto text ts → worth ts + message_bytes ≤ most_taken (length text)
unfolding most_taken
text-bound text ts u cut = omega (arith, cuts-worth _ [] (chars text) ts cut, ap length (encodes-chars text u))

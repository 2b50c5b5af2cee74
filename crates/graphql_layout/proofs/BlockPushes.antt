-- What the pushes of a block string write.
use Rattle.std.proofs.Common.{◌≡◌, ℕ, zero, suc, ◌<◌, Bool, true, false, List, ◌∷◌, ◌++◌, replicate, refl, sym, ap, ◌∙◌, append_assoc, arith}
use Rattle.std.proofs.lemmas.Str.{encode_ascii, encodes-append}
use Rattle.std.specs.Str.{encode_utf8_all}
use Rattle.graphql_layout.specs.declared.line_ends.LineBreak.{LineBreak}
use Rattle.graphql_layout.specs.declared.line_ends.LineEnd.{LineEnd}
use Rattle.graphql_layout.specs.declared.line_ends.LineEnd.TheVariants.{Feed, ReturnAndFeed}
use Rattle.graphql_layout.specs.texts.Blocks.{blanks, quotes, line_break, body, break_if, content, block_of}
use Rattle.graphql_layout.specs.texts.LineEnds.{line_end}

-- ---- bytes of characters of ASCII

pub same_byte : (c : ℕ) (cs : List ℕ) → c < 128 → encode_utf8_all (c ∷ cs) ≡ c ∷ encode_utf8_all cs
same_byte c cs h = ap (λ (x : List ℕ). x ++ encode_utf8_all cs) (encode_ascii c h)

pub same_bytes : (n c : ℕ) → c < 128 → encode_utf8_all (replicate n c) ≡ replicate n c
same_bytes zero c h = refl
same_bytes (suc n) c h = same_byte c (replicate n c) h ∙ ap (λ (x : List ℕ). c ∷ x) (same_bytes n c h)

pub break_bytes : (i : LineBreak) → encode_utf8_all (line_break i) ≡ line_break i
break_bytes i = by i.line_end
  where
    feed_bytes : encode_utf8_all (10 ∷ blanks i.indent) ≡ 10 ∷ blanks i.indent
    feed_bytes = same_byte 10 (blanks i.indent) (omega arith) ∙ ap (λ (x : List ℕ). 10 ∷ x) (same_bytes i.indent 32 (omega arith))

    by : (e : LineEnd) → encode_utf8_all (line_end e ++ blanks i.indent) ≡ line_end e ++ blanks i.indent
    by Feed = feed_bytes
    by ReturnAndFeed = same_byte 13 (10 ∷ blanks i.indent) (omega arith) ∙ ap (λ (x : List ℕ). 13 ∷ x) feed_bytes

-- ---- the whole

if_bytes : (b : Bool) (i : LineBreak) → encode_utf8_all (break_if b i) ≡ break_if b i
if_bytes true i = break_bytes i
if_bytes false i = refl

-- what stands between the quotes
content_bytes : (a b : Bool) (i : LineBreak) (cs : List ℕ) → encode_utf8_all (content a b i cs) ≡ break_if a i ++ (encode_utf8_all (body i 0 cs) ++ break_if b i)
content_bytes a b i cs =
    encodes-append (break_if a i) (body i 0 cs ++ break_if b i)
    ∙ ap (λ (x : List ℕ). x ++ encode_utf8_all (body i 0 cs ++ break_if b i)) (if_bytes a i)
    ∙ ap (λ (x : List ℕ). break_if a i ++ x) (encodes-append (body i 0 cs) (break_if b i) ∙ ap (λ (x : List ℕ). encode_utf8_all (body i 0 cs) ++ x) (if_bytes b i))

pub block_bytes : (a b : Bool) (i : LineBreak) (cs : List ℕ) → block_of a b i cs ≡ quotes 3 ++ (encode_utf8_all (content a b i cs) ++ quotes 3)
unfolding block_of
block_bytes a b i cs =
    let text = content a b i cs in
    encodes-append (quotes 3) (text ++ quotes 3)
    ∙ ap (λ (x : List ℕ). x ++ encode_utf8_all (text ++ quotes 3)) (same_bytes 3 34 (omega arith))
    ∙ ap (λ (x : List ℕ). quotes 3 ++ x) (encodes-append text (quotes 3) ∙ ap (λ (x : List ℕ). encode_utf8_all text ++ x) (same_bytes 3 34 (omega arith)))

-- its front and its back
pub block_written : (a b : Bool) (i : LineBreak) (cs old mid new : List ℕ) → mid ≡ old ++ (quotes 3 ++ (break_if a i ++ encode_utf8_all (body i 0 cs))) → new ≡ mid ++ (break_if b i ++ quotes 3) → new ≡ old ++ block_of a b i cs
block_written a b i cs old mid new e f =
    let three = quotes 3 in
    let first = break_if a i in
    let text = encode_utf8_all (body i 0 cs) in
    let last = break_if b i in
    let same : (old ++ (three ++ (first ++ text))) ++ (last ++ three) ≡ old ++ (three ++ ((first ++ (text ++ last)) ++ three)) = simp append_assoc in
    f ∙ ap (λ (x : List ℕ). x ++ (last ++ three)) e ∙ same
    ∙ sym (ap (λ (x : List ℕ). old ++ x) (block_bytes a b i cs ∙ ap (λ (x : List ℕ). three ++ (x ++ three)) (content_bytes a b i cs)))

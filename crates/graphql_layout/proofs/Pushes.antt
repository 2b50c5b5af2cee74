-- What a push leaves on a sheet.
use Rattle.std.proofs.Common.{◌≡◌, ◌≤◌, ◌+◌, ℕ, zero, suc, ◌++◌, List, [], ◌∷◌, length, take, cond, Result, Ok, Err, is_ok, OnOk, Global, String, string_bytes, refl, sym, ap, ◌∙◌, subst, append_assoc, arith, rules}
use Rattle.std.specs.List.{AllByRecursion}
use Rattle.std.specs.Str.{IsAscii, IsUtf8}
use Rattle.std.specs.String.Boundary.{IsSplitPoint}
use Rattle.std.proofs.Math.Seq.{take-append-add}
use Rattle.std.proofs.lemmas.List.{length-append, get_or-append-add}
use Rattle.std.proofs.lemmas.Str.{IsUtf8-string_bytes, IsUtf8-append, IsAscii-take}
use lib.Utf8.{encode}
use Rattle.graphql_layout.specs.declared.ending.Ending.{Ending}
use Rattle.graphql_layout.specs.declared.ending.Ending.TheVariants.{Open}
use Rattle.graphql_layout.specs.declared.line_ends.LineEnd.{LineEnd}
use Rattle.graphql_layout.specs.declared.line_ends.LineEnd.TheVariants.{Feed, ReturnAndFeed}
use Rattle.graphql_layout.specs.declared.sheet.Last.{Last}
use Rattle.graphql_layout.specs.declared.sheet.Last.TheVariants.{Other}
use Rattle.graphql_layout.specs.inner.ItemsIn.{items_in}
use Rattle.graphql_layout.specs.inner.Sheets.{IsSheet, Holds}
use Rattle.graphql_layout.specs.texts.Blocks.{blanks}
use Rattle.graphql_layout.specs.texts.Items.{Item}
use Rattle.graphql_layout.specs.texts.LineEnds.{line_end}
use Rattle.graphql_layout.proofs.Sheets.{line_added, blank_added, comma_added, blanks_added}

pub line_pushed : {T E : Type 0} (r : Result T E) (end : LineEnd) (old new : String Global) (last : Last) → IsSheet (string_bytes old) last → OnOk r (string_bytes new ≡ string_bytes old ++ line_end end)
    → OnOk r (Holds (string_bytes new) (Other Open) (items_in (string_bytes old)))
line_pushed (Ok x) end old new last s e = line_added end (string_bytes old) (string_bytes new) last (IsUtf8-string_bytes old) s e
line_pushed (Err x) end old new last s e = tt

pub blank_pushed : {T E : Type 0} (r : Result T E) (old new : String Global) (ending : Ending) → IsSheet (string_bytes old) (Other ending) → string_bytes new ≡ cond (is_ok r) (string_bytes old ++ encode 32) (string_bytes old)
    → OnOk r (Holds (string_bytes new) (Other Open) (items_in (string_bytes old)))
blank_pushed (Ok x) old new ending s e = blank_added (string_bytes old) (string_bytes new) ending (IsUtf8-string_bytes old) s e
blank_pushed (Err x) old new ending s e = tt

pub comma_pushed : {T E : Type 0} (r : Result T E) (old new : String Global) (ending : Ending) → IsSheet (string_bytes old) (Other ending) → string_bytes new ≡ cond (is_ok r) (string_bytes old ++ encode 44) (string_bytes old)
    → OnOk r (Holds (string_bytes new) (Other Open) (items_in (string_bytes old)))
comma_pushed (Ok x) old new ending s e = comma_added (string_bytes old) (string_bytes new) ending (IsUtf8-string_bytes old) s e
comma_pushed (Err x) old new ending s e = tt

-- a sheet after blanks, or the same
pub blanks_pushed : {T E : Type 0} (r : Result T E) (old new : String Global) (blanks : List ℕ) (items : List Item) → Holds (string_bytes old) (Other Open) items → AllByRecursion (λ c. c ≡ 32) blanks → IsAscii blanks
    → string_bytes new ≡ cond (is_ok r) (string_bytes old ++ blanks) (string_bytes old) → Holds (string_bytes new) (Other Open) items
blanks_pushed (Ok x) old new blanks items h b a e = subst (Holds (string_bytes new) (Other Open)) h.has (blanks_added (string_bytes old) (string_bytes new) blanks (IsUtf8-string_bytes old) h.sheet b a e)
blanks_pushed (Err x) old new blanks items h b a e = subst (λ (text : List ℕ). Holds text (Other Open) items) (sym e) h

blanks_taken : (n : ℕ) (blanks : List ℕ) → AllByRecursion (λ c. c ≡ 32) blanks → AllByRecursion (λ c. c ≡ 32) (take n blanks)
blanks_taken zero blanks b = tt
blanks_taken (suc n) [] b = tt
blanks_taken (suc n) (c ∷ blanks) b = (b.0, blanks_taken n blanks b.1)

blanks_ascii : (n : ℕ) → IsAscii (blanks n)
blanks_ascii zero i = omega arith
blanks_ascii (suc n) zero = omega arith
blanks_ascii (suc n) (suc i) = blanks_ascii n i

pub line_ascii : (end : LineEnd) (n : ℕ) → IsAscii (line_end end ++ blanks n)
line_ascii Feed n zero = omega arith
line_ascii Feed n (suc i) = blanks_ascii n i
line_ascii ReturnAndFeed n zero = omega arith
line_ascii ReturnAndFeed n (suc zero) = omega arith
line_ascii ReturnAndFeed n (suc (suc i)) = blanks_ascii n i

are_blanks : (n : ℕ) → AllByRecursion (λ c. c ≡ 32) (blanks n)
are_blanks zero = tt
are_blanks (suc n) = (refl, are_blanks n)

end_utf8 : (end : LineEnd) → IsUtf8 (line_end end)
end_utf8 Feed = search rules
end_utf8 ReturnAndFeed = search rules

-- a sheet after a line's end and so many of these blanks
pub begin_pushed : (end : LineEnd) (old mid new : String Global) (last : Last) (n many : ℕ) → IsSheet (string_bytes old) last
    → string_bytes mid ≡ string_bytes old ++ (line_end end ++ blanks many) → string_bytes new ≡ take (length (string_bytes old) + (length (line_end end) + n)) (string_bytes mid) → Holds (string_bytes new) (Other Open) (items_in (string_bytes old))
begin_pushed end old mid new last n many s m e =
    let bytes = string_bytes old in
    let first = line_end end in
    let utf8 = IsUtf8-string_bytes old in
    let begun = line_added end bytes (bytes ++ first) last utf8 s refl in
    let is : string_bytes new ≡ (bytes ++ first) ++ take n (blanks many) =
    e ∙ ap (take (length bytes + (length first + n))) m ∙ take-append-add bytes (first ++ blanks many) (length first + n) ∙ ap (λ (x : List ℕ). bytes ++ x) (take-append-add first (blanks many) n)
    ∙ sym (append_assoc bytes first (take n (blanks many))) in
    subst (Holds (string_bytes new) (Other Open)) begun.has
    (blanks_added (bytes ++ first) (string_bytes new) (take n (blanks many)) (IsUtf8-append bytes first utf8 (end_utf8 end)) begun.sheet (blanks_taken n (blanks many) (are_blanks many)) (IsAscii-take (blanks many) n (blanks_ascii many)) is)

-- a text may be cut before an ASCII character
pub ascii_split : (text more : List ℕ) (n : ℕ) → n ≤ length more → IsAscii more → IsSplitPoint (text ++ more) (length text + n)
ascii_split text more n l a = (omega (arith, length-append text more, l), λ p q h. absurd (omega (arith, get_or-append-add text more n 0, a n, h)))

-- A line's end after a text changes none of its tokens and comments.
use Rattle.std.proofs.Common.{◌≡◌, ℕ, Bool, true, false, ◌&&◌, ◌==◌, List, [], ◌∷◌, ◌++◌, length, refl, sym, ap, ◌∙◌, subst, append_assoc, arith, rules}
use Rattle.std.proofs.lemmas.Str.{chars-append, chars-IsAscii, encode_ascii}
use lib.Utf8.{encode}
use Rattle.std.specs.Str.{byte, chars, IsUtf8}
use Rattle.graphql_tokens.specs.tokens.Classes.{is_name_char}
use Rattle.graphql_tokens.specs.tokens.Cuts.{IsCutInto, HasNoFault}
use Rattle.graphql_tokens.specs.tokens.Ignored.{EndsLine}
use Rattle.graphql_tokens.specs.tokens.Numbers.{forbids_number}
use Rattle.graphql_tokens.specs.tokens.Spelling.{MayFollow, forbids}
use Rattle.graphql_tokens.specs.tokens.Token.{Token}
use Rattle.graphql_tokens.specs.declared.lexer.TokenKind.{TokenKind}
use Rattle.graphql_tokens.specs.declared.lexer.TokenKind.TheVariants.{Name, Number, String}
use Rattle.graphql_layout.specs.texts.Items.{Item, comment, word, IsBlankText, IsItems, words}
use Rattle.graphql_layout.specs.texts.LaidOut.{IsLaidOut}
use Rattle.graphql_layout.specs.texts.LineEnds.{line_end}
use Rattle.graphql_layout.specs.texts.SameTokens.{HaveAlikeTokens}
use Rattle.graphql_layout.specs.declared.line_ends.LineEnd.{LineEnd}
use Rattle.graphql_layout.specs.declared.line_ends.LineEnd.TheVariants.{Feed, ReturnAndFeed}
use Rattle.graphql_layout.proofs.Items.{items_written, itemized}
use Rattle.graphql_layout.proofs.Readings.{alike_words, specified_words}
use Rattle.graphql_reading.proofs.IgnoresPlaces.{alike-same}

and_false : (b : Bool) → (b && false) ≡ false
and_false true = refl
and_false false = refl

-- a character that neither goes on a name or a number nor is a quote may follow each token
not_forbidden : (kind : TokenKind) (w : List ℕ) (c : ℕ) → is_name_char c ≡ false → forbids_number c ≡ false → (c == byte "\"") ≡ false → forbids kind w c ≡ false
not_forbidden Name w c name number quote = name
not_forbidden Number w c name number quote = number
not_forbidden String w c name number quote = ap (λ b. length w == 2 && b) quote ∙ and_false (length w == 2)
not_forbidden other w c name number quote = refl

-- and so may a line's end
may_follow : (e : LineEnd) (kind : TokenKind) (w rest : List ℕ) → MayFollow kind w rest → MayFollow kind w (rest ++ line_end e)
may_follow e kind w (c ∷ cs) h = h
may_follow Feed kind w [] h = not_forbidden kind w 10 refl refl refl
may_follow ReturnAndFeed kind w [] h = not_forbidden kind w 13 refl refl refl

still_ends : (e : LineEnd) (rest : List ℕ) → EndsLine rest → EndsLine (rest ++ line_end e)
still_ends e (c ∷ cs) h = h
still_ends Feed [] h = refl
still_ends ReturnAndFeed [] h = refl

still_blank : (e : LineEnd) (text : List ℕ) → IsBlankText text → IsBlankText (text ++ line_end e)
still_blank e (c ∷ cs) h = (h.0, still_blank e cs h.1)
still_blank Feed [] h = (refl, tt)
still_blank ReturnAndFeed [] h = (refl, (refl, tt))

further : (gap part rest end : List ℕ) → (gap ++ (part ++ rest)) ++ end ≡ gap ++ (part ++ (rest ++ end))
further gap part rest end = append_assoc gap (part ++ rest) end ∙ ap (λ (l : List ℕ). gap ++ l) (append_assoc part rest end)

still_items : (e : LineEnd) (text : List ℕ) (items : List Item) → IsItems text items → IsItems (text ++ line_end e) items
still_items e text [] h = still_blank e text h
still_items e text (comment c ∷ items) h = record {
  gap = h.gap;
  rest = h.rest ++ line_end e;
  whole = ap (λ (l : List ℕ). l ++ line_end e) h.whole ∙ further h.gap c h.rest (line_end e);
  blank = h.blank;
  is = h.is;
  ends = still_ends e h.rest h.ends;
  more = still_items e h.rest items h.more;
}
still_items e text (word b ∷ items) h = record {
  gap = h.gap;
  spelling = h.spelling;
  rest = h.rest ++ line_end e;
  whole = ap (λ (l : List ℕ). l ++ line_end e) h.whole ∙ further h.gap h.spelling h.rest (line_end e);
  blank = h.blank;
  begins = record { spelled = h.begins.spelled; follows = may_follow e b.kind h.spelling h.rest h.begins.follows };
  bytes = h.bytes;
  more = still_items e h.rest items h.more;
}

end_chars : (e : LineEnd) → chars (line_end e) ≡ line_end e
end_chars Feed = chars-IsAscii (10 ∷ []) (search rules)
end_chars ReturnAndFeed = chars-IsAscii (13 ∷ 10 ∷ []) (search rules)

chars_then : (e : LineEnd) (text new : List ℕ) → IsUtf8 text → new ≡ text ++ line_end e → chars text ++ line_end e ≡ chars new
chars_then e text new u h = sym (ap chars h ∙ chars-append text (line_end e) u ∙ ap (λ (x : List ℕ). chars text ++ x) (end_chars e))

pub laid_out_then : (e : LineEnd) (text other new : List ℕ) → IsUtf8 other → new ≡ other ++ line_end e → IsLaidOut text other → IsLaidOut text new
laid_out_then e text other new u h m =
    let items : IsItems (chars new) m.others = subst (λ (l : List ℕ). IsItems l m.others) (chars_then e other new u h) (still_items e (chars other) m.others m.of_other) in
    record {
      tokens = record {
        tokens = words m.items;
        others = words m.others;
        of_text = items_written (chars text) m.items m.of_text [];
        of_other = items_written (chars new) m.others items [];
        alike = alike_words m.items m.others m.alike;
      };
      as_specified = specified_words m.items m.others m.alike;
      items = m.items;
      others = m.others;
      of_text = m.of_text;
      of_other = items;
      alike = m.alike;
    }

-- a text without a fault, and the same with a line feed after it
pub same_tokens_then : (text new : List ℕ) → IsUtf8 text → new ≡ text ++ encode 10 → (tokens : List Token) → IsCutInto text tokens → HasNoFault tokens → HaveAlikeTokens text new
same_tokens_then text new u e tokens cut none =
    let i = itemized [] (chars text) tokens cut none in
    let items : IsItems (chars new) i.items = subst (λ (l : List ℕ). IsItems l i.items) (chars_then Feed text new u (e ∙ ap (λ (x : List ℕ). text ++ x) (encode_ascii 10 (omega arith)))) (still_items Feed (chars text) i.items i.are) in
    record { tokens = words i.items; others = words i.items; alike = alike-same (words i.items) (words i.items) refl; of_text = (tokens, cut, sym i.same); of_other = items_written (chars new) i.items items [] }

-- A text that is read token after token, with the comments between them, and written so.
use Rattle.std.proofs.Common.{◌≡◌, ℕ, ◌+◌, Bool, true, false, ◌&&◌, inl, inr, List, [], ◌∷◌, ◌++◌, length, take, drop, refl, sym, ap, ◌∙◌, subst, append_assoc, length-append}
use Rattle.std.proofs.Math.Seq.{take-append_seam, drop-append_seam}
use Rattle.std.proofs.lemmas.Str.{chars-encodes, encodes-chars, encodes-append, scalars-chars, IsCharBoundary-at_seam}
use lib.Utf8.{scalar}
use Rattle.std.specs.List.{concat}
use Rattle.std.specs.Str.{chars, IsUtf8, IsCharBoundary, all_scalars, encode_utf8_all}
use Rattle.graphql_tokens.specs.tokens.Ignored.{IsPiece, AreIgnored, EndsLine}
use Rattle.graphql_layout.specs.texts.Items.{Item, comment, word, IsItems, words}
use Rattle.graphql_tokens.specs.tokens.Alike.{AreAlike}
use Rattle.graphql_layout.specs.inner.Tidied.{tidied}
use Rattle.graphql_layout.specs.texts.LaidOut.{AreLaid}
use Rattle.graphql_layout.specs.texts.Specified.{AreAlikeAsSpecified}
use Rattle.graphql_layout.proofs.Items.{ignored_item, comment_item, past_ignored, past_comment_item}

-- ---- a text in two

and_parts : (a b : Bool) → (a && b) ≡ true → (a ≡ true) × (b ≡ true)
and_parts true b h = (refl, h)
and_parts false b h = absurd cc

scalars_split : (xs ys : List ℕ) → all_scalars (xs ++ ys) ≡ true → (all_scalars xs ≡ true) × (all_scalars ys ≡ true)
scalars_split [] ys h = (refl, h)
scalars_split (x ∷ xs) ys h =
    let p = and_parts (scalar x) (all_scalars (xs ++ ys)) h in
    let q = scalars_split xs ys p.1 in
    (ap (λ (b : Bool). b && all_scalars xs) p.0 ∙ q.0, q.1)

-- cut after the first of two lists of characters
pub record Seam (bs xs ys : List ℕ) : Type 0 where
  pub boundary : IsCharBoundary bs (length (encode_utf8_all xs))
  pub front : take (length (encode_utf8_all xs)) bs ≡ encode_utf8_all xs
  pub back : drop (length (encode_utf8_all xs)) bs ≡ encode_utf8_all ys
  pub front_chars : chars (encode_utf8_all xs) ≡ xs
  pub back_chars : chars (encode_utf8_all ys) ≡ ys
  pub back_utf8 : IsUtf8 (encode_utf8_all ys)
  pub long : length bs ≡ length (encode_utf8_all xs) + length (encode_utf8_all ys)

pub seam : (bs xs ys : List ℕ) → IsUtf8 bs → chars bs ≡ xs ++ ys → Seam bs xs ys
seam bs xs ys u e =
    let n = length (encode_utf8_all xs) in
    let s = scalars_split xs ys (ap all_scalars (sym e) ∙ scalars-chars bs u) in
    let whole : bs ≡ encode_utf8_all xs ++ encode_utf8_all ys = sym (encodes-chars bs u) ∙ ap encode_utf8_all e ∙ encodes-append xs ys in
    let utf8 : IsUtf8 (encode_utf8_all ys) = (ys, (s.1, refl)) in
    record {
      boundary = IsCharBoundary-at_seam bs (encode_utf8_all xs) (encode_utf8_all ys) whole utf8;
      front = ap (take n) whole ∙ take-append_seam (encode_utf8_all xs) (encode_utf8_all ys);
      back = ap (drop n) whole ∙ drop-append_seam (encode_utf8_all xs) (encode_utf8_all ys);
      front_chars = chars-encodes xs s.0;
      back_chars = chars-encodes ys s.1;
      back_utf8 = utf8;
      long = ap length whole ∙ length-append (encode_utf8_all xs) (encode_utf8_all ys);
    }

-- ---- the comments among ignored pieces

pub record Comments (pieces : List (List ℕ)) (after : List ℕ) : Type 0 where
  pub items : List Item
  pub alone : IsItems (concat pieces) items
  pub none : words items ≡ []
  pub before : (others : List Item) → IsItems after others → IsItems (concat pieces ++ after) (items ++ others)
  pub past : (all : List Item) → IsItems (concat pieces ++ after) all → (others : List Item) × IsItems after others × (all ≡ items ++ others)

ends_alone : (rest after : List ℕ) → EndsLine (rest ++ after) → EndsLine rest
ends_alone [] after h = tt
ends_alone (c ∷ rest) after h = h

pub comments_of : (pieces : List (List ℕ)) (after : List ℕ) → AreIgnored pieces after → Comments pieces after
comments_of [] after h = record { items = []; alone = tt; none = refl; before = λ others k. k; past = λ all k. (all, k, refl) }
comments_of (p ∷ ps) after h = by h.0 (comments_of ps after h.1)
  where
    seamed : (items : List Item) → IsItems (p ++ (concat ps ++ after)) items → IsItems (concat (p ∷ ps) ++ after) items
    seamed items i = subst (λ (x : List ℕ). IsItems x items) (sym (append_assoc p (concat ps) after)) i

    parted : (items : List Item) → IsItems (concat (p ∷ ps) ++ after) items → IsItems (p ++ (concat ps ++ after)) items
    parted items i = subst (λ (x : List ℕ). IsItems x items) (append_assoc p (concat ps) after) i

    by : IsPiece p (concat ps ++ after) → Comments ps after → Comments (p ∷ ps) after
    by (inl i) k = record {
      items = k.items;
      alone = subst (λ (l : List ℕ). IsItems (l ++ concat ps) k.items) (sym i.1) (ignored_item i.0 (concat ps) k.items i.2 k.alone);
      none = k.none;
      before = λ others o.
          seamed (k.items ++ others) (subst (λ (l : List ℕ). IsItems (l ++ (concat ps ++ after)) (k.items ++ others)) (sym i.1) (ignored_item i.0 (concat ps ++ after) (k.items ++ others) i.2 (k.before others o)));
      past = λ all o. k.past all (past_ignored i.0 (concat ps ++ after) all i.2 (subst (λ (l : List ℕ). IsItems (l ++ (concat ps ++ after)) all) i.1 (parted all o)));
    }
    by (inr i) k = record {
      items = comment p ∷ k.items;
      alone = comment_item p (concat ps) k.items i.0 (ends_alone (concat ps) after i.1) k.alone;
      none = k.none;
      before = λ others o. seamed (comment p ∷ (k.items ++ others)) (comment_item p (concat ps ++ after) (k.items ++ others) i.0 i.1 (k.before others o));
      past = λ all o.
          let l = past_comment_item p (concat ps ++ after) all i.0 i.1 (parted all o) in
          let m = k.past l.others l.are in
          (m.0, m.1, l.is ∙ ap (λ (x : List Item). comment p ∷ x) m.2);
    }

-- ---- what is laid out

pub are_tidied : (xs : List Item) → AreLaid xs (tidied xs)
are_tidied [] = tt
are_tidied (comment c ∷ xs) = (refl, are_tidied xs)
are_tidied (word b ∷ xs) = ((inl refl, λ k. refl), are_tidied xs)

pub both_laid : (xs vs ys ws : List Item) → AreLaid xs vs → AreLaid ys ws → AreLaid (xs ++ ys) (vs ++ ws)
both_laid [] [] ys ws h k = k
both_laid [] (v ∷ vs) ys ws h k = absurd h
both_laid (x ∷ xs) [] ys ws h k = absurd h
both_laid (x ∷ xs) (v ∷ vs) ys ws h k = (h.0, both_laid xs vs ys ws h.1 k)

pub alike_words : (xs vs : List Item) → AreLaid xs vs → AreAlike (words xs) (words vs)
alike_words [] [] h = tt
alike_words [] (v ∷ vs) h = absurd h
alike_words (x ∷ xs) [] h = absurd h
alike_words (comment c ∷ xs) (comment d ∷ vs) h = alike_words xs vs h.1
alike_words (comment c ∷ xs) (word b ∷ vs) h = absurd h.0
alike_words (word a ∷ xs) (comment d ∷ vs) h = absurd h.0
alike_words (word a ∷ xs) (word b ∷ vs) h = (h.0.0, alike_words xs vs h.1)

pub specified_words : (xs vs : List Item) → AreLaid xs vs → AreAlikeAsSpecified (words xs) (words vs)
specified_words [] [] h = tt
specified_words [] (v ∷ vs) h = absurd h
specified_words (x ∷ xs) [] h = absurd h
specified_words (comment c ∷ xs) (comment d ∷ vs) h = specified_words xs vs h.1
specified_words (comment c ∷ xs) (word b ∷ vs) h = absurd h.0
specified_words (word a ∷ xs) (comment d ∷ vs) h = absurd h.0
specified_words (word a ∷ xs) (word b ∷ vs) h = (h.0.1, specified_words xs vs h.1)

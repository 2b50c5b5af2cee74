-- Comments at the front of a text.
use Rattle.std.proofs.Common.{◌≡◌, ℕ, ◌+◌, ◌-◌, ◌<◌, ◌≤◌, Bool, true, false, ◌&&◌, cond, ◌⊎◌, inl, inr, List, [], ◌∷◌, ◌++◌, length, take, drop, get_or, refl, sym, ap, ap₂, ◌∙◌, subst, append_assoc, arith, length-append, one-add}
use Rattle.std.proofs.lemmas.Bool.{cases_lt}
use Rattle.std.proofs.lemmas.Bool.Decides.{nat_tests}
use Rattle.std.proofs.lemmas.List.{take-append-drop}
use Rattle.std.proofs.lemmas.List.Sums.{prefix_len_passes, prefix_len-le-length}
use Rattle.std.proofs.Math.Seq.{drop-append_seam}
use Rattle.std.proofs.lemmas.Str.{IsCharBoundary-at_seam, encodes-chars, encodes-append, IsUtf8-drop, IsCharBoundary-start, IsCharBoundary-after_ascii, chars_past_char, encode_ascii}
use Rattle.std.specs.List.{prefix_len}
use Rattle.std.specs.Str.{chars, encode_utf8_all, IsUtf8, IsCharBoundary}
use Rattle.graphql_tokens.specs.tokens.Classes.{is_ignored}
use Rattle.graphql_tokens.specs.tokens.Ignored.{IsComment}
use Rattle.graphql_tokens.proofs.Scan.{IsAlike, span_chars}
use Rattle.graphql_layout.specs.declared.comments.Passed.{Passed}
use Rattle.graphql_layout.specs.inner.FirstLine.{IsFirstLine}
use Rattle.graphql_layout.specs.inner.Standing.{is_blank_byte, begins_with_hash, comments_in, IsPassed}
use Rattle.graphql_layout.specs.texts.Items.{Item, comment, IsBlankText, IsItems}
use Rattle.graphql_layout.proofs.Hashes.{begun, some_comment, in_both, each_both}
use Rattle.graphql_layout.proofs.Items.{ignored_item, comment_item, past_ignored, past_comment_item}

-- ---- one after another

pub none_passed : (text : List ℕ) → IsUtf8 text → IsPassed text [] text
none_passed text u = record { each = tt; on = λ tail h. h; off = λ all h. (all, h, refl); utf8 = u; front = []; whole = refl }

pub passed_long : (text rest : List ℕ) (ps : List Passed) → IsPassed text ps rest → length rest ≤ length text
passed_long text rest ps h = omega (arith, ap length h.whole, length-append h.front rest)

-- the rest begins where the comments end
pub record Cut (text : List ℕ) (n : ℕ) (passed : List Passed) : Type 0 where
  pub passes : IsPassed text passed (drop n text)
  pub boundary : IsCharBoundary text n

pub passed_cut : (text rest : List ℕ) (ps : List Passed) → IsPassed text ps rest → Cut text (length text - length rest) ps
passed_cut text rest ps h =
    let long : length text ≡ length h.front + length rest = ap length h.whole ∙ length-append h.front rest in
    let n : length text - length rest ≡ length h.front = omega (arith, long) in
    let is : drop (length text - length rest) text ≡ rest = ap (λ (k : ℕ). drop k text) n ∙ ap (drop (length h.front)) h.whole ∙ drop-append_seam h.front rest in
    record {
      passes = subst (IsPassed text ps) (sym is) h;
      boundary = subst (IsCharBoundary text) (sym n) (IsCharBoundary-at_seam text h.front rest h.whole h.utf8);
    }

pub then_passed : (text mid rest : List ℕ) (ps qs : List Passed) → IsPassed text ps mid → IsPassed mid qs rest → IsPassed text (ps ++ qs) rest
then_passed text mid rest ps qs h k =
    let seamed : (tail : List Item) → comments_in ps ++ (comments_in qs ++ tail) ≡ comments_in (ps ++ qs) ++ tail =
    λ tail. sym (append_assoc (comments_in ps) (comments_in qs) tail) ∙ ap (λ (l : List Item). l ++ tail) (sym (in_both ps qs)) in
    record {
      each = each_both ps qs h.each k.each;
      on = λ tail t. subst (IsItems (chars text)) (seamed tail) (h.on (comments_in qs ++ tail) (k.on tail t));
      off = λ all t. let o = h.off all t in let p = k.off o.0 o.1 in (p.0, p.1, o.2 ∙ ap (λ (l : List Item). comments_in ps ++ l) p.2 ∙ seamed p.0);
      utf8 = k.utf8;
      front = h.front ++ k.front;
      whole = h.whole ∙ ap (λ (x : List ℕ). h.front ++ x) k.whole ∙ sym (append_assoc h.front k.front rest);
    }

-- ---- blanks

alike : IsAlike is_blank_byte
alike c d h k = grind (arith, nat_tests)

ascii : (c : ℕ) → is_blank_byte c ≡ true → c < 128
ascii c e = grind (arith, nat_tests)

and_left : (x y : Bool) → (x && y) ≡ true → x ≡ true
and_left true y h = refl
and_left false y h = h

ignored : (c : ℕ) → is_blank_byte c ≡ true → is_ignored c ≡ true
ignored c e = and_left (is_ignored c) _ e

all_ignored : (cs : List ℕ) → IsBlankText (take (prefix_len is_blank_byte cs) cs)
all_ignored [] = tt
all_ignored (c ∷ cs) = by (is_blank_byte c) refl (all_ignored cs)
  where
    by : (b : Bool) → is_blank_byte c ≡ b → IsBlankText (take (prefix_len is_blank_byte cs) cs) → IsBlankText (take (cond b (1 + prefix_len is_blank_byte cs) 0) (c ∷ cs))
    by true e more = rw (one-add (prefix_len is_blank_byte cs)) (ignored c e, more)
    by false e more = tt

blank_on : (cs rest : List ℕ) (items : List Item) → IsBlankText cs → IsItems rest items → IsItems (cs ++ rest) items
blank_on [] rest items h k = k
blank_on (c ∷ cs) rest items h k = ignored_item c (cs ++ rest) items h.0 (blank_on cs rest items h.1 k)

blank_off : (cs rest : List ℕ) (items : List Item) → IsBlankText cs → IsItems (cs ++ rest) items → IsItems rest items
blank_off [] rest items h k = k
blank_off (c ∷ cs) rest items h k = blank_off cs rest items h.1 (past_ignored c (cs ++ rest) items h.0 k)

pub blanks_boundary : (text : List ℕ) (n : ℕ) → IsUtf8 text → n ≡ prefix_len is_blank_byte text → IsCharBoundary text n
blanks_boundary text n u e = by (cases_lt 0 n)
  where
    by : (0 < n) ⊎ (n ≤ 0) → IsCharBoundary text n
    by (inr l) = let z : 0 ≡ n = omega arith in subst (IsCharBoundary text) z (IsCharBoundary-start text u)
    by (inl m) =
        let k = n - 1 in
        let blank : is_blank_byte (get_or text k 0) ≡ true = prefix_len_passes is_blank_byte text k 0 (omega arith) in
        let within : k < length text = omega (arith, prefix_len-le-length is_blank_byte text) in
        let same : k + 1 ≡ n = omega arith in
        subst (IsCharBoundary text) same (IsCharBoundary-after_ascii text k u within (ascii (get_or text k 0) blank))

pub blanks_passed : (text from : List ℕ) (n : ℕ) → IsUtf8 text → n ≡ prefix_len is_blank_byte text → from ≡ drop n text → IsPassed text [] from
blanks_passed text from n u e f =
    let cs = chars text in
    let m = prefix_len is_blank_byte cs in
    let is : chars from ≡ drop m cs = ap chars (f ∙ ap (λ (k : ℕ). drop k text) e) ∙ span_chars is_blank_byte alike text u in
    let whole : cs ≡ take m cs ++ chars from = sym (take-append-drop m cs) ∙ ap (λ (x : List ℕ). take m cs ++ x) (sym is) in
    record {
      each = tt;
      on = λ tail h. subst (λ (x : List ℕ). IsItems x tail) (sym whole) (blank_on (take m cs) (chars from) tail (all_ignored cs) h);
      off = λ all h. (all, blank_off (take m cs) (chars from) all (all_ignored cs) (subst (λ (x : List ℕ). IsItems x all) whole h), refl);
      utf8 = subst IsUtf8 (sym f) (IsUtf8-drop text n u (blanks_boundary text n u e));
      front = take n text;
      whole = sym (take-append-drop n text) ∙ ap (λ (x : List ℕ). take n text ++ x) (sym f);
    }

-- ---- a comment

hash_first : (from : List ℕ) → IsUtf8 from → begins_with_hash from ≡ true → (body : List ℕ) × (chars from ≡ 35 ∷ body)
hash_first [] u h = absurd cc
hash_first (c ∷ cs) u h =
    let is : c ≡ 35 = grind (arith, nat_tests, h) in
    (chars cs, chars_past_char (c ∷ cs) cs 35 u (ap (λ (x : ℕ). x ∷ cs) is ∙ ap (λ (x : List ℕ). x ++ cs) (sym (encode_ascii 35 (omega arith)))))

-- the comment is passed, and what comes after it is shorter
pub record First (from : List ℕ) (p : Passed) (after : List ℕ) : Type 0 where
  pub passes : IsPassed from (p ∷ []) after
  pub shorter : length after < length from

pub comment_passed : (from after : List ℕ) (p : Passed) → IsUtf8 from → begins_with_hash from ≡ true → IsFirstLine from p.text.now after → First from p after
comment_passed from after p u h l =
    let c = chars p.text.now in
    let b = hash_first from u h in
    let is : IsComment c = begun c b.0 (chars from) (chars after) b.1 l.whole l.in_line l.ends in
    record {
      passes = record {
        each = (is, tt);
        on = λ tail t. subst (λ (x : List ℕ). IsItems x (comment c ∷ tail)) (sym l.whole) (comment_item c (chars after) tail is l.ends t);
        off = λ all t. let o = past_comment_item c (chars after) all is l.ends (subst (λ (x : List ℕ). IsItems x all) l.whole t) in (o.others, o.are, o.is);
        utf8 = l.rest_utf8;
        front = p.text.now;
        whole = sym (encodes-chars from u) ∙ ap encode_utf8_all l.whole ∙ encodes-append (chars p.text.now) (chars after) ∙ ap₂ (λ (x y : List ℕ). x ++ y) (encodes-chars p.text.now l.utf8) (encodes-chars after l.rest_utf8);
      };
      shorter = omega (arith, l.long, some_comment p.text.now is);
    }

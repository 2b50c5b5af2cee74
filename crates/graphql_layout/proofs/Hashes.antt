-- The comments of a text that has no tokens.
use Rattle.std.proofs.Common.{◌≡◌, ℕ, ◌<◌, ◌≤◌, true, false, ◌==◌, None, List, [], ◌∷◌, ◌++◌, length, take, drop, refl, sym, ap, ap₂, ◌∙◌, subst, append_assoc, append-nil, arith, length-drop, get_or}
use Rattle.std.proofs.lemmas.List.{drop_more}
use Rattle.std.specs.List.{AllByRecursion}
use Rattle.std.specs.Str.{chars, IsUtf8, NonePass, NoCharPasses}
use Rattle.std.specs.Str.Pattern.{FindsChar}
use Rattle.std.proofs.lemmas.Str.{chars-nil, chars_from_encodes, chars_past_char, IsUtf8-take, IsUtf8-drop}
use Rattle.graphql_tokens.specs.tokens.Classes.{is_ignored}
use Rattle.graphql_tokens.specs.tokens.Ignored.{IsComment, EndsLine}
use Rattle.graphql_tokens.specs.tokens.Place.{is_line_end}
use Rattle.graphql_tokens.proofs.Chars.{chars_split}
use Rattle.graphql_layout.specs.declared.comments.Passed.{Passed}
use Rattle.graphql_layout.specs.inner.FirstLine.{IsFirstLine, IsFirstHash}
use Rattle.graphql_layout.specs.inner.Standing.{comments_in, AreAdded, IsCommentPassed}
use Rattle.graphql_layout.specs.texts.Items.{Item, comment, word, IsBlankText, IsItems, words}
use Rattle.graphql_layout.specs.inner.Tidied.{tidied}
use Rattle.graphql_layout.specs.texts.LaidOut.{trimmed}
use Rattle.graphql_layout.proofs.Items.{one_comment}

abbrev HasNoHash : List ℕ → Type 0
HasNoHash cs = NonePass (λ d. d == 35) cs

no_hash : (text : List ℕ) → IsUtf8 text → NoCharPasses (λ d. d == 35) text → HasNoHash (chars text)
no_hash text u h = subst HasNoHash (chars_from_encodes h.0 text u h.1) h.2

-- ---- what stands before the first `#`

-- a hash is not ignored
hash_apart : (c : ℕ) → is_ignored c ≡ true → c ≡ 35 → ⊥
hash_apart c i e = let k : is_ignored 35 ≡ true = ap is_ignored (sym e) ∙ i in cc

same_front : (xs ys r s : List ℕ) → HasNoHash xs → IsBlankText ys → xs ++ (35 ∷ r) ≡ ys ++ (35 ∷ s) → r ≡ s
same_front [] [] r s h k e = cc
same_front [] (y ∷ ys) r s h k e = absurd (let f : 35 ≡ y = cc in hash_apart y k.0 (sym f))
same_front (x ∷ xs) [] r s h k e = absurd (let f : x ≡ 35 = cc in let g : (x == 35) ≡ true = ap (λ (c : ℕ). c == 35) f in let n = h.0 in cc)
same_front (x ∷ xs) (y ∷ ys) r s h k e = let f : xs ++ (35 ∷ r) ≡ ys ++ (35 ∷ s) = cc in same_front xs ys r s h.1 k.1 f

-- no blank text has a hash
blank_lacks : (xs r : List ℕ) → IsBlankText (xs ++ (35 ∷ r)) → ⊥
blank_lacks [] r h = hash_apart 35 h.0 refl
blank_lacks (x ∷ xs) r h = blank_lacks xs r h.1

hash_lacks : (xs ys r : List ℕ) → HasNoHash xs → xs ≡ ys ++ (35 ∷ r) → ⊥
hash_lacks [] [] r h e = cc
hash_lacks [] (y ∷ ys) r h e = cc
hash_lacks (x ∷ xs) [] r h e = let f : x ≡ 35 = cc in let g : (x == 35) ≡ true = ap (λ (c : ℕ). c == 35) f in let n = h.0 in cc
hash_lacks (x ∷ xs) (y ∷ ys) r h e = let f : xs ≡ ys ++ (35 ∷ r) = cc in hash_lacks xs ys r h.1 f

-- ---- one comment

-- a comment comes first among these items, and these others are left
pub record Leads (text c rest : List ℕ) (items : List Item) : Type 0 where
  pub others : List Item
  pub is : items ≡ comment c ∷ others
  pub are : IsItems rest others
  pub none : words others ≡ []

leads : (text blanks c rest : List ℕ) (items : List Item) → HasNoHash blanks → IsComment c → EndsLine rest → text ≡ blanks ++ (c ++ rest) → IsItems text items → words items ≡ [] → Leads text c rest items
leads text blanks [] rest items n k e w h z = absurd k
leads text blanks (x ∷ body) rest [] n k e w h z =
    let is : text ≡ blanks ++ (35 ∷ (body ++ rest)) = w ∙ ap (λ (y : ℕ). blanks ++ (y ∷ (body ++ rest))) k.0 in
    absurd (blank_lacks blanks (body ++ rest) (subst IsBlankText is h))
leads text blanks (x ∷ body) rest (comment d ∷ items) n k e w h z = by d h.is h.whole refl
  where
    by : (f : List ℕ) → IsComment f → text ≡ h.gap ++ (f ++ h.rest) → f ≡ d → Leads text (x ∷ body) rest (comment d ∷ items)
    by [] l v i = absurd l
    by (y ∷ more) l v i =
        let first : text ≡ blanks ++ (35 ∷ (body ++ rest)) = w ∙ ap (λ (q : ℕ). blanks ++ (q ∷ (body ++ rest))) k.0 in
        let second : text ≡ h.gap ++ (35 ∷ (more ++ h.rest)) = v ∙ ap (λ (q : ℕ). h.gap ++ (q ∷ (more ++ h.rest))) l.0 in
        let tails : body ++ rest ≡ more ++ h.rest = same_front blanks h.gap (body ++ rest) (more ++ h.rest) n h.blank (sym first ∙ second) in
        let heads : x ≡ y = k.0 ∙ sym l.0 in
        let both = one_comment (x ∷ body) (y ∷ more) rest h.rest k l e h.ends (ap₂ (λ (a : ℕ) (t : List ℕ). a ∷ t) heads tails) in
        record {
          others = items;
          is = ap (λ (t : List ℕ). comment t ∷ items) (sym i ∙ sym both.0);
          are = subst (λ (t : List ℕ). IsItems t items) (sym both.1) h.more;
          none = z;
        }
leads text blanks (x ∷ body) rest (word b ∷ items) n k e w h z = absurd cc

no_more : (text : List ℕ) (items : List Item) → HasNoHash text → IsItems text items → words items ≡ [] → items ≡ []
no_more text [] n h z = refl
no_more text (comment c ∷ items) n h z = absurd (by c h.is h.whole)
  where
    by : (d : List ℕ) → IsComment d → text ≡ h.gap ++ (d ++ h.rest) → ⊥
    by [] l v = l
    by (y ∷ more) l v = hash_lacks text h.gap (more ++ h.rest) n (v ∙ ap (λ (q : ℕ). h.gap ++ (q ∷ (more ++ h.rest))) l.0)
no_more text (word b ∷ items) n h z = absurd cc

-- ---- the loop

-- Of the gap the rest is left, and the comments before it were put after the old ones.
pub record Passes (gap rest : List ℕ) (old new : List Passed) : Type 0 where
  pub utf8 : IsUtf8 rest
  pub more : List Passed
  pub is : new ≡ old ++ more
  pub each : AllByRecursion IsCommentPassed more
  pub goes : (items : List Item) → IsItems (chars gap) items → words items ≡ [] → (others : List Item) × IsItems (chars rest) others × (words others ≡ []) × (comments_in more ++ others ≡ items)

pub none_passed : (gap : List ℕ) (old : List Passed) → IsUtf8 gap → Passes gap gap old old
none_passed gap old u = record { utf8 = u; more = []; is = sym (append-nil old); each = tt; goes = λ items h z. (items, h, z, refl) }

-- the first `#`, and the line that it begins
pub record Hash (rest from first after : List ℕ) : Type 0 where
  pub blanks : List ℕ
  pub none : HasNoHash blanks
  pub whole : chars rest ≡ blanks ++ (chars first ++ chars after)
  pub is : IsComment (chars first)
  pub ends : EndsLine (chars after)
  pub utf8 : IsUtf8 first
  pub after_utf8 : IsUtf8 after
  pub shorter : length after < length rest

pub some_comment : (first : List ℕ) → IsComment (chars first) → 1 ≤ length first
some_comment [] h = absurd (subst IsComment chars-nil h)
some_comment (c ∷ cs) h = omega arith

pub begun : (c body more rest : List ℕ) → more ≡ 35 ∷ body → more ≡ c ++ rest → AllByRecursion (λ d. is_line_end d ≡ false) c → EndsLine rest → IsComment c
begun [] body more [] e f l r = absurd cc
begun [] body more (y ∷ rest) e f l r = absurd (let g : 35 ≡ y = cc in let t : is_line_end 35 ≡ true = ap is_line_end g ∙ r in cc)
begun (x ∷ c) body more rest e f l r = let g : x ≡ 35 = cc in (g, l.1)

pub hash : (rest before from first after : List ℕ) → IsUtf8 rest → IsFirstHash rest before from → IsFirstLine from first after → Hash rest from first after
hash rest before from first after u h l =
    let i = h.start in
    let j = h.end in
    let b = h.boundary in
    let f = h.found in
    let is = h.back in
    let utf8 = IsUtf8-drop rest i u b in
    let begins : chars from ≡ 35 ∷ chars (drop j rest) = ap chars is ∙ chars_past_char (drop i rest) (drop j rest) 35 utf8 f.1.split in
    let is_comment = begun (chars first) (chars (drop j rest)) (chars from) (chars after) begins l.whole l.in_line l.ends in
    record {
      blanks = chars (take i rest);
      none = subst HasNoHash (chars_from_encodes f.0.0 (take i rest) (IsUtf8-take rest i u b) f.0.1) f.0.2;
      whole = chars_split rest i u b ∙ ap (λ (x : List ℕ). chars (take i rest) ++ x) (ap chars (sym is) ∙ l.whole);
      is = is_comment;
      ends = l.ends;
      utf8 = l.utf8;
      after_utf8 = l.rest_utf8;
      shorter = omega (arith, l.long, ap length is, length-drop i rest, some_comment first is_comment);
    }

pub in_both : (ps qs : List Passed) → comments_in (ps ++ qs) ≡ comments_in ps ++ comments_in qs
in_both [] qs = refl
in_both (p ∷ ps) qs = ap (λ (l : List Item). comment (chars p.text.now) ∷ l) (in_both ps qs)

pub each_both : (ps qs : List Passed) → AllByRecursion IsCommentPassed ps → AllByRecursion IsCommentPassed qs → AllByRecursion IsCommentPassed (ps ++ qs)
each_both [] qs h k = k
each_both (p ∷ ps) qs h k = (h.0, each_both ps qs h.1 k)

pub one_passed : (gap rest from after : List ℕ) (p : Passed) (old new newer : List Passed) → Passes gap rest old new → Hash rest from p.text.now after → newer ≡ new ++ p ∷ [] → Passes gap after old newer
one_passed gap rest from after p old new newer r h e = record {
  utf8 = h.after_utf8;
  more = r.more ++ p ∷ [];
  is = e ∙ ap (λ (x : List Passed). x ++ p ∷ []) r.is ∙ append_assoc old r.more (p ∷ []);
  each = each_both r.more (p ∷ []) r.each (h.is, tt);
  goes = λ items i z.
      let o = r.goes items i z in
      let l = leads (chars rest) h.blanks (chars p.text.now) (chars after) o.0 h.none h.is h.ends h.whole o.1 o.2 in (
        l.others,
        l.are,
        l.none,
        ap (λ (x : List Item). x ++ l.others) (in_both r.more (p ∷ [])) ∙ append_assoc (comments_in r.more) (comment (chars p.text.now) ∷ []) l.others ∙ ap (λ (x : List Item). comments_in r.more ++ x) (sym l.is) ∙ o.3,
      );
}

pub all_passed : (gap rest : List ℕ) (old new : List Passed) → Passes gap rest old new → FindsChar 35 rest None → AreAdded gap old new
all_passed gap rest old new r f = record {
  more = r.more;
  is = r.is;
  each = r.each;
  all = λ items i z.
      let o = r.goes items i z in
      let nothing = no_more (chars rest) o.0 (no_hash rest r.utf8 f) o.1 o.2 in
      sym (append-nil (comments_in r.more)) ∙ ap (λ (x : List Item). comments_in r.more ++ x) (sym nothing) ∙ o.3;
}

pub tidied_both : (xs ys : List Item) → tidied (xs ++ ys) ≡ tidied xs ++ tidied ys
tidied_both [] ys = refl
tidied_both (comment c ∷ xs) ys = ap (λ (l : List Item). comment (trimmed c) ∷ l) (tidied_both xs ys)
tidied_both (word b ∷ xs) ys = ap (λ (l : List Item). word b ∷ l) (tidied_both xs ys)

-- all comments were written
pub all_pushed : (gap : List ℕ) (old new : List Passed) (sheet longer : List Item) → AreAdded gap old new → longer ≡ sheet ++ tidied (comments_in new) → (items : List Item) → IsItems (chars gap) items → words items ≡ []
    → longer ≡ sheet ++ (tidied (comments_in old) ++ tidied items)
all_pushed gap old new sheet longer a e items i z =
    let parts : comments_in new ≡ comments_in old ++ items = ap comments_in a.is ∙ in_both old a.more ∙ ap (λ (l : List Item). comments_in old ++ l) (a.all items i z) in
    e ∙ ap (λ (l : List Item). sheet ++ tidied l) parts ∙ ap (λ (l : List Item). sheet ++ l) (tidied_both (comments_in old) items)

pub each_added : (gap : List ℕ) (old new : List Passed) → AreAdded gap old new → AllByRecursion IsCommentPassed old → AllByRecursion IsCommentPassed new
each_added gap old new a h = subst (AllByRecursion IsCommentPassed) (sym a.is) (each_both old a.more h a.each)

pub each_at : (ps : List Passed) (i : ℕ) (d : Passed) → i < length ps → AllByRecursion IsCommentPassed (drop i ps) → IsCommentPassed (get_or ps i d)
each_at ps i d l h = (subst (AllByRecursion IsCommentPassed) (drop_more ps i d l) h).0

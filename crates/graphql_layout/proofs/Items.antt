-- The comments and tokens of a text are one list, and its tokens are those into which it is cut.
use Rattle.std.proofs.Common.{◌≡◌, ℕ, Bool, true, false, cond, inl, inr, List, [], ◌∷◌, ◌++◌, refl, sym, ap, ap₂, ◌∙◌, subst, append_assoc, append-nil, arith}
use Rattle.std.proofs.lemmas.List.{append_cancel_right}
use Rattle.std.specs.List.{AllByRecursion, concat}
use Rattle.std.specs.Str.{encode_utf8_all}
use Rattle.graphql_tokens.specs.tokens.Classes.{is_ignored}
use Rattle.graphql_tokens.specs.tokens.Cuts.{Cuts, HasNoFault, GoesOn, HasNoToken}
use Rattle.graphql_tokens.specs.tokens.Edition.{Current}
use Rattle.graphql_tokens.specs.tokens.Ignored.{IsComment, EndsLine, IsPiece, AreIgnored}
use Rattle.graphql_tokens.specs.tokens.Place.{is_line_end}
use Rattle.graphql_tokens.specs.tokens.Spelling.{Begins}
use Rattle.graphql_tokens.specs.tokens.Token.{Bare, Token}
use Rattle.graphql_tokens.specs.inner.Reading.{next}
use Rattle.graphql_tokens.specs.declared.lexer.TokenKind.{TokenKind}
use Rattle.graphql_tokens.proofs.Lists.{Stands}
use Rattle.graphql_tokens.proofs.Nexts.{next_only, begins_rest, begins_some}
use Rattle.graphql_tokens.proofs.Skips.{IsRest}
use Rattle.graphql_layout.specs.texts.SameTokens.{bares, bare_end}
use Rattle.graphql_layout.specs.inner.Written.{IsWritten}
use Rattle.graphql_layout.specs.texts.Items.{Item, comment, word, IsBlankText, CommentStands, WordStands, IsItems, words}
use Rattle.graphql_layout.proofs.WrittenTokens.{end_written, token_written, piece_written}

-- ---- items are written

pub ignored_item : (c : ℕ) (rest : List ℕ) (items : List Item) → is_ignored c ≡ true → IsItems rest items → IsItems (c ∷ rest) items
ignored_item c rest [] h k = (h, k)
ignored_item c rest (comment d ∷ items) h k = record { gap = c ∷ k.gap; rest = k.rest; whole = ap (λ (l : List ℕ). c ∷ l) k.whole; blank = (h, k.blank); is = k.is; ends = k.ends; more = k.more }
ignored_item c rest (word b ∷ items) h k = record { gap = c ∷ k.gap; spelling = k.spelling; rest = k.rest; whole = ap (λ (l : List ℕ). c ∷ l) k.whole; blank = (h, k.blank); begins = k.begins; bytes = k.bytes; more = k.more }

pub comment_item : (c rest : List ℕ) (items : List Item) → IsComment c → EndsLine rest → IsItems rest items → IsItems (c ++ rest) (comment c ∷ items)
comment_item c rest items h e k = record { gap = []; rest = rest; whole = refl; blank = tt; is = h; ends = e; more = k }

pub word_item : (kind : TokenKind) (w rest : List ℕ) (items : List Item) → Begins Current kind w rest → IsItems rest items → IsItems (w ++ rest) (word (record { kind = kind; spelling = encode_utf8_all w }) ∷ items)
word_item kind w rest items b k = record { gap = []; spelling = w; rest = rest; whole = refl; blank = tt; begins = b; bytes = refl; more = k }

-- ---- and cut into the tokens among them

blank_written : (g rest : List ℕ) (bs : List Bare) → IsBlankText g → IsWritten rest bs → IsWritten (g ++ rest) bs
blank_written [] rest bs h k = k
blank_written (c ∷ g) rest bs h k = piece_written (c ∷ []) (g ++ rest) bs (inl (c, refl, h.0)) (blank_written g rest bs h.1 k)

pub items_written : (text : List ℕ) (items : List Item) → IsItems text items → IsWritten text (words items ++ bare_end ∷ [])
items_written text [] h = subst (λ (t : List ℕ). IsWritten t (bare_end ∷ [])) (append-nil text) (blank_written text [] (bare_end ∷ []) h end_written)
items_written text (comment c ∷ items) h =
    let bs = words items ++ bare_end ∷ [] in
    subst (λ (t : List ℕ). IsWritten t bs) (sym h.whole) (blank_written h.gap (c ++ h.rest) bs h.blank (piece_written c h.rest bs (inr (h.is, h.ends)) (items_written h.rest items h.more)))
items_written text (word b ∷ items) h =
    let bs = words items ++ bare_end ∷ [] in
    let more = token_written b.kind h.spelling h.rest bs h.begins (items_written h.rest items h.more) in
    subst (λ (t : List ℕ). IsWritten t (b ∷ bs)) (sym h.whole)
    (blank_written h.gap (h.spelling ++ h.rest) (b ∷ bs) h.blank (subst (λ (s : List ℕ). IsWritten (h.spelling ++ h.rest) (record { kind = b.kind; spelling = s } ∷ bs)) (sym h.bytes) more))

-- ---- each text without a fault has items

pub record Itemized (text : List ℕ) (bs : List Bare) : Type 0 where
  pub items : List Item
  pub are : IsItems text items
  pub same : words items ++ bare_end ∷ [] ≡ bs

piece_itemized : (piece rest : List ℕ) (bs : List Bare) → IsPiece piece rest → Itemized rest bs → Itemized (piece ++ rest) bs
piece_itemized piece rest bs (inl p) i = record { items = i.items; are = subst (λ (l : List ℕ). IsItems (l ++ rest) i.items) (sym p.1) (ignored_item p.0 rest i.items p.2 i.are); same = i.same }
piece_itemized piece rest bs (inr p) i = record { items = comment piece ∷ i.items; are = comment_item piece rest i.items p.0 p.1 i.are; same = i.same }

pieces_itemized : (pieces : List (List ℕ)) (after : List ℕ) (bs : List Bare) → AreIgnored pieces after → Itemized after bs → Itemized (concat pieces ++ after) bs
pieces_itemized [] after bs h i = i
pieces_itemized (p ∷ ps) after bs h i = subst (λ (t : List ℕ). Itemized t bs) (sym (append_assoc p (concat ps) after)) (piece_itemized p (concat ps ++ after) bs h.0 (pieces_itemized ps after bs h.1 i))

pub itemized : (front text : List ℕ) (ts : List Token) → Cuts Current front text ts → HasNoFault ts → Itemized text (bares ts)
itemized front text [] c n = absurd c
itemized front text (t ∷ ts) c n = subst (λ (x : List ℕ). Itemized x (bares (t ∷ ts))) (sym c.0.whole) (pieces_itemized c.0.pieces c.0.after (bares (t ∷ ts)) c.0.ignored (go c.1 (λ f r d. itemized f r ts d n.1)))
  where
    go : Stands Current (front ++ concat c.0.pieces) c.0.after t ts → ((f r : List ℕ) → Cuts Current f r ts → Itemized r (bares ts)) → Itemized c.0.after (bares (t ∷ ts))
    go (inl m) ih =
        let i = ih ((front ++ concat c.0.pieces) ++ m.0.word) m.0.rest m.1 in
        let b : Bare = record { kind = m.0.kind; spelling = encode_utf8_all m.0.word } in
        let is : b ≡ t.bare = ap (λ (u : Token). u.bare) (sym m.0.is) in
        record {
          items = word b ∷ i.items;
          are = subst (λ (x : List ℕ). IsItems x (word b ∷ i.items)) (sym m.0.whole) (word_item m.0.kind m.0.word m.0.rest i.items m.0.begins i.are);
          same = ap (λ (l : List Bare). b ∷ l) i.same ∙ ap (λ (x : Bare). x ∷ bares ts) is;
        }
    go (inr (inl m)) ih = record {
      items = [];
      are = subst (λ (x : List ℕ). IsItems x []) (sym m.0.ends) tt;
      same = ap (λ (u : Token). u.bare ∷ []) (sym m.0.is) ∙ ap (λ (l : List Token). t.bare ∷ bares l) (sym m.1);
    }
    go (inr (inr m)) ih = absurd (n.0 (ap (λ (u : Token). u.bare.kind) m.0.is))

-- ---- and no others

abbrev past_blank : List ℕ → List ℕ
past_blank [] = []
past_blank (c ∷ cs) = cond (is_ignored c) (past_blank cs) (c ∷ cs)

past_gap : (g x : List ℕ) → IsBlankText g → past_blank (g ++ x) ≡ past_blank x
past_gap [] x h = refl
past_gap (c ∷ g) x h = ap (λ (b : Bool). cond b (past_blank (g ++ x)) (c ∷ (g ++ x))) h.0 ∙ past_gap g x h.1

past_rest : (x : List ℕ) → IsRest x → past_blank x ≡ x
past_rest [] h = refl
past_rest (c ∷ cs) h = ap (λ (b : Bool). cond b (past_blank cs) (c ∷ cs)) h.0

past_comment : (c rest : List ℕ) → IsComment c → past_blank (c ++ rest) ≡ c ++ rest
past_comment [] rest h = absurd h
past_comment (c ∷ body) rest h = let e : is_ignored c ≡ false = ap is_ignored h.0 in ap (λ (b : Bool). cond b (past_blank (body ++ rest)) (c ∷ (body ++ rest))) e

of_comment : (text c : List ℕ) (after : List ℕ → Type 0) (h : CommentStands text c after) → past_blank text ≡ c ++ h.rest
of_comment text c after h = ap past_blank h.whole ∙ past_gap h.gap (c ++ h.rest) h.blank ∙ past_comment c h.rest h.is

of_word : (text : List ℕ) (b : Bare) (after : List ℕ → Type 0) (h : WordStands text b after) → past_blank text ≡ h.spelling ++ h.rest
of_word text b after h = ap past_blank h.whole ∙ past_gap h.gap (h.spelling ++ h.rest) h.blank ∙ past_rest (h.spelling ++ h.rest) (begins_rest Current b.kind h.spelling h.rest h.begins)

of_blank : (text : List ℕ) → IsBlankText text → past_blank text ≡ []
of_blank text h = ap past_blank (sym (append-nil text)) ∙ past_gap text [] h

not_comment : (c rest : List ℕ) → IsComment c → IsRest (c ++ rest) → ⊥
not_comment [] rest h r = h
not_comment (c ∷ body) rest h r = r.1 h.0

not_empty : (c rest : List ℕ) → IsComment c → [] ≡ c ++ rest → ⊥
not_empty [] rest h e = h
not_empty (c ∷ body) rest h e = cc

no_word : (b : Bare) (w rest : List ℕ) → Begins Current b.kind w rest → [] ≡ w ++ rest → ⊥
no_word b [] rest h e = absurd (omega (arith, begins_some Current b.kind [] rest h))
no_word b (c ∷ w) rest h e = cc

abbrev InLine : List ℕ → Type 0
InLine body = AllByRecursion (λ d. is_line_end d ≡ false) body

ends_first : (y : ℕ) (rest r : List ℕ) → EndsLine r → r ≡ y ∷ rest → is_line_end y ≡ true
ends_first y rest [] h e = absurd cc
ends_first y rest (x ∷ r) h e = let same : x ≡ y = cc in subst (λ (z : ℕ). is_line_end z ≡ true) same h

one_body : (c d r s : List ℕ) → InLine c → InLine d → EndsLine r → EndsLine s → c ++ r ≡ d ++ s → (c ≡ d) × (r ≡ s)
one_body [] [] r s h k e f same = (refl, same)
one_body [] (y ∷ d) r s h k e f same = absurd (let t = ends_first y (d ++ s) r e same in let u = k.0 in cc)
one_body (x ∷ c) [] r s h k e f same = absurd (let t = ends_first x (c ++ r) s f (sym same) in let u = h.0 in cc)
one_body (x ∷ c) (y ∷ d) r s h k e f same =
    let m : x ≡ y = cc in
    let n : c ++ r ≡ d ++ s = cc in
    let i = one_body c d r s h.1 k.1 e f n in
    (ap₂ (λ (a : ℕ) (l : List ℕ). a ∷ l) m i.0, i.1)

pub one_comment : (c d r s : List ℕ) → IsComment c → IsComment d → EndsLine r → EndsLine s → c ++ r ≡ d ++ s → (c ≡ d) × (r ≡ s)
one_comment [] d r s h k e f same = absurd h
one_comment (x ∷ c) [] r s h k e f same = absurd k
one_comment (x ∷ c) (y ∷ d) r s h k e f same =
    let n : c ++ r ≡ d ++ s = cc in
    let i = one_body c d r s h.1 k.1 e f n in
    (ap₂ (λ (a : ℕ) (l : List ℕ). a ∷ l) (h.0 ∙ sym k.0) i.0, i.1)

one_word : (a b : Bare) (v w r s : List ℕ) → Begins Current a.kind v r → Begins Current b.kind w s → a.spelling ≡ encode_utf8_all v → b.spelling ≡ encode_utf8_all w → v ++ r ≡ w ++ s → (a ≡ b) × (r ≡ s)
one_word a b v w r s h k e f same =
    let both : (a.kind, r) ≡ (b.kind, s) = sym (next_only a.kind v r h) ∙ ap next same ∙ next_only b.kind w s k in
    let kind : a.kind ≡ b.kind = ap (λ p. p.0) both in
    let rest : r ≡ s = ap (λ p. p.1) both in
    let spelled : v ≡ w = append_cancel_right v w r (same ∙ ap (λ (l : List ℕ). w ++ l) (sym rest)) in
    (ap₂ (λ (x : TokenKind) (y : List ℕ). record { kind = x; spelling = y }) kind (e ∙ ap encode_utf8_all spelled ∙ sym f), rest)

-- ---- what is left after an item

hash_stands : (c : ℕ) → is_ignored c ≡ true → c ≡ 35 → ⊥
hash_stands c h e = let k : is_ignored 35 ≡ true = ap is_ignored (sym e) ∙ h in cc

-- a comment comes after an ignored character
comment_later : (c : ℕ) (rest d after : List ℕ) → is_ignored c ≡ true → IsComment d → c ∷ rest ≡ d ++ after → ⊥
comment_later c rest [] after h k e = k
comment_later c rest (x ∷ d) after h k e = hash_stands c h (let f : c ≡ x = cc in f ∙ k.0)

-- and a token too
word_later : (c : ℕ) (rest w after : List ℕ) → is_ignored c ≡ true → IsRest (w ++ after) → c ∷ rest ≡ w ++ after → ⊥
word_later c rest w after h k e = let r : IsRest (c ∷ rest) = subst IsRest (sym e) k in let n = r.0 in cc

-- after an ignored character
pub past_ignored : (c : ℕ) (rest : List ℕ) (items : List Item) → is_ignored c ≡ true → IsItems (c ∷ rest) items → IsItems rest items
past_ignored c rest [] h k = k.1
past_ignored c rest (comment d ∷ items) h k = by k.gap k.blank k.whole
  where
    by : (g : List ℕ) → IsBlankText g → c ∷ rest ≡ g ++ (d ++ k.rest) → IsItems rest (comment d ∷ items)
    by [] b w = absurd (comment_later c rest d k.rest h k.is w)
    by (x ∷ g) b w = record { gap = g; rest = k.rest; whole = cc; blank = b.1; is = k.is; ends = k.ends; more = k.more }
past_ignored c rest (word b ∷ items) h k = by k.gap k.blank k.whole
  where
    by : (g : List ℕ) → IsBlankText g → c ∷ rest ≡ g ++ (k.spelling ++ k.rest) → IsItems rest (word b ∷ items)
    by [] e w = absurd (word_later c rest k.spelling k.rest h (begins_rest Current b.kind k.spelling k.rest k.begins) w)
    by (x ∷ g) e w = record { gap = g; spelling = k.spelling; rest = k.rest; whole = cc; blank = e.1; begins = k.begins; bytes = k.bytes; more = k.more }

-- after the first of these items, the others are left
pub record Leaves (rest : List ℕ) (first : Item) (items : List Item) : Type 0 where
  pub others : List Item
  pub are : IsItems rest others
  pub is : items ≡ first ∷ others

pub past_comment_item : (c rest : List ℕ) (items : List Item) → IsComment c → EndsLine rest → IsItems (c ++ rest) items → Leaves rest (comment c) items
past_comment_item c rest [] h e k = absurd (not_empty c rest h (sym (of_blank (c ++ rest) k) ∙ past_comment c rest h))
past_comment_item c rest (comment d ∷ items) h e k =
    let both = one_comment d c k.rest rest k.is h k.ends e (sym (of_comment (c ++ rest) d _ k) ∙ past_comment c rest h) in
    record { others = items; are = subst (λ (r : List ℕ). IsItems r items) both.1 k.more; is = ap (λ (x : List ℕ). comment x ∷ items) both.0 }
past_comment_item c rest (word b ∷ items) h e k =
    absurd (not_comment c rest h (subst IsRest (sym (of_word (c ++ rest) b _ k) ∙ past_comment c rest h) (begins_rest Current b.kind k.spelling k.rest k.begins)))

pub past_word_item : (b : Bare) (w rest : List ℕ) (items : List Item) → Begins Current b.kind w rest → b.spelling ≡ encode_utf8_all w → IsItems (w ++ rest) items → Leaves rest (word b) items
past_word_item b w rest items h e k = by items k
  where
    stands : IsRest (w ++ rest)
    stands = begins_rest Current b.kind w rest h

    here : past_blank (w ++ rest) ≡ w ++ rest
    here = past_rest (w ++ rest) stands

    by : (items : List Item) → IsItems (w ++ rest) items → Leaves rest (word b) items
    by [] k = absurd (no_word b w rest h (sym (of_blank (w ++ rest) k) ∙ here))
    by (comment d ∷ items) k = absurd (not_comment d k.rest k.is (subst IsRest (sym here ∙ of_comment (w ++ rest) d _ k) stands))
    by (word a ∷ items) k =
        let both = one_word a b k.spelling w k.rest rest k.begins h k.bytes e (sym (of_word (w ++ rest) a _ k) ∙ here) in
        record { others = items; are = subst (λ (r : List ℕ). IsItems r items) both.1 k.more; is = ap (λ (x : Bare). word x ∷ items) both.0 }

-- where the text goes on and no token stands, it has no items
pub no_items : (text : List ℕ) (items : List Item) → GoesOn text → HasNoToken Current text → IsItems text items → ⊥
no_items [] items g n k = g
no_items (c ∷ cs) [] g n k = let h = k.0 in let i = g.0 in cc
no_items (c ∷ cs) (comment d ∷ items) g n k = not_comment d k.rest k.is (subst IsRest (sym (past_rest (c ∷ cs) g) ∙ of_comment (c ∷ cs) d _ k) g)
no_items (c ∷ cs) (word b ∷ items) g n k = n b.kind k.spelling k.rest (sym (past_rest (c ∷ cs) g) ∙ of_word (c ∷ cs) b _ k) k.begins

-- an empty text has none
pub none_left : (items : List Item) → IsItems [] items → [] ≡ items
none_left [] h = refl
none_left (comment c ∷ items) h = absurd (not_empty c h.rest h.is (of_comment [] c _ h))
none_left (word b ∷ items) h = absurd (no_word b h.spelling h.rest h.begins (of_word [] b _ h))

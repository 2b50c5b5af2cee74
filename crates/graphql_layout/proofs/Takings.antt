-- The tokens of a text are taken one after another, and each is written after the comments before it.
use Rattle.std.proofs.Common.{◌≡◌, ◌≢◌, ℕ, ◌+◌, ◌-◌, ◌≤◌, ◌<◌, false, inl, inr, List, [], ◌∷◌, ◌++◌, length, take, drop, refl, sym, ap, ◌∙◌, subst, append_assoc, append-nil, arith, length-append}
use Rattle.std.proofs.lemmas.Str.{encodes-chars, encodes-append, length-le-encodes}
use Rattle.std.specs.List.{concat}
use Rattle.std.specs.Str.{chars, IsUtf8, IsCharBoundary, encode_utf8_all}
use Rattle.graphql_tokens.specs.tokens.Cuts.{is_last, Cuts, TokenStands, FaultStands, IsCutInto, EndsOnce}
use Rattle.graphql_tokens.specs.tokens.Edition.{Current}
use Rattle.graphql_tokens.specs.tokens.Proper.{Spells, AreProperButFaults}
use Rattle.graphql_tokens.specs.tokens.Spelling.{Begins}
use Rattle.graphql_tokens.specs.tokens.Token.{Bare, Token, Lexing, left}
use Rattle.graphql_tokens.specs.inner.Reading.{tokens}
use Rattle.graphql_tokens.specs.declared.lexer.TokenKind.{TokenKind}
use Rattle.graphql_tokens.specs.declared.lexer.TokenKind.TheVariants.{Punct, Name, Number, String, Block, Fault, End}
use Rattle.graphql_tokens.proofs.Lists.{Stands, tokens_cuts}
use Rattle.graphql_tokens.proofs.Nexts.{begins_some}
use Rattle.graphql_layout.specs.texts.Items.{Item, word, IsItems, words}
use Rattle.graphql_layout.specs.declared.layout.ahead.Ahead.{Ahead}
use Rattle.graphql_layout.specs.inner.Standing.{comments_in, IsAhead, StandsAt}
use Rattle.graphql_layout.specs.declared.comments.Passed.{Passed}
use Rattle.graphql_layout.specs.inner.Tidied.{tidied, IsAdded}
use Rattle.graphql_layout.specs.texts.LaidOut.{AreLaid, IsLaidOut}
use Rattle.graphql_layout.specs.texts.SameTokens.{HasFault}
use Rattle.graphql_layout.proofs.Aheads.{passed_long}
use Rattle.graphql_layout.proofs.Hashes.{tidied_both}
use Rattle.graphql_layout.proofs.Items.{word_item, past_word_item, no_items, itemized, items_written}
use Rattle.graphql_layout.proofs.Joined.{proper_of, spells_of}
use Rattle.graphql_layout.proofs.Readings.{Seam, seam, comments_of, are_tidied, both_laid, alike_words, specified_words}

-- ---- the loop

-- What is before the rest of a text is on the sheet.
pub record Reads (text rest : List ℕ) (sheet : List Item) : Type 0 where
  pub passed : List Item
  pub laid : AreLaid passed sheet
  pub on : (tail : List Item) → IsItems (chars rest) tail → IsItems (chars text) (passed ++ tail)
  pub off : (items : List Item) → IsItems (chars text) items → (tail : List Item) × IsItems (chars rest) tail × (items ≡ passed ++ tail)

pub none_read : (text : List ℕ) → Reads text text []
none_read text = record { passed = []; laid = tt; on = λ tail h. h; off = λ items h. (items, h, refl) }

pub stands_first : (l : Lexing) (text : List ℕ) → l.text ≡ text → IsCutInto text (left l) → EndsOnce (left l) → AreProperButFaults (left l) → StandsAt l text
stands_first l text e c n p = record { front = []; whole = ap chars e; cut = c; ends = n; proper = p }

pub some_left : (l : Lexing) (rest : List ℕ) → StandsAt l rest → left l ≢ []
some_left l rest s e = subst EndsOnce e s.ends

-- ---- the next token

-- The token stands after the comments that were passed and what the lexer passes.
pub record Next (rest : List ℕ) (passed : List Passed) (start base : List ℕ) (t : Token) (more : List Token) : Type 0 where
  pub pieces : List (List ℕ)
  pub after : List ℕ
  pub here : List ℕ
  pub stands : Stands Current here after t more
  pub cut : Seam start (concat pieces) after
  pub text_is : chars base ≡ here ++ after
  pub shorter : length start ≤ length base
  pub reached : length base - length start ≤ t.start
  pub way : t.start - (length base - length start) ≡ length (encode_utf8_all (concat pieces))
  pub no_longer : length start ≤ length rest
  pub items : List Item
  pub are : IsItems (concat pieces) items
  pub none : words items ≡ []
  pub on : (tail : List Item) → IsItems after tail → IsItems (chars rest) ((comments_in passed ++ items) ++ tail)
  pub off : (all : List Item) → IsItems (chars rest) all → (tail : List Item) × IsItems after tail × (all ≡ (comments_in passed ++ items) ++ tail)

start_of : (here after : List ℕ) (t : Token) (more : List Token) → Stands Current here after t more → t.start ≡ length (encode_utf8_all here)
start_of here after t more (inl m) = ap (λ (u : Token). u.start) m.0.is
start_of here after t more (inr (inl m)) = ap (λ (u : Token). u.start) m.0.is
start_of here after t more (inr (inr m)) = ap (λ (u : Token). u.start) m.0.is

pub next : (rest base : List ℕ) (passed : List Passed) (ahead : Ahead) (l : Lexing) (t : Token) (more : List Token) → base ≡ l.text → IsUtf8 base → IsAhead rest passed ahead → StandsAt l ahead.rest.now → left l ≡ t ∷ more
    → Next rest passed ahead.rest.now base t more
next rest base passed ahead l t more e u h s is =
    let a = h.passes in
    let start = ahead.rest.now in
    let text : chars base ≡ s.front ++ chars start = ap chars e ∙ s.whole in
    let c : Cuts Current s.front (chars start) (t ∷ more) = subst (λ (ts : List Token). Cuts Current s.front (chars start) ts) is s.cut in
    let gap = concat c.0.pieces in
    let long : length base ≡ length (encode_utf8_all s.front) + length (encode_utf8_all (chars start)) = (seam base s.front (chars start) u text).long in
    let same : length (encode_utf8_all (chars start)) ≡ length start = ap length (encodes-chars start a.utf8) in
    let at : t.start ≡ length (encode_utf8_all s.front ++ encode_utf8_all gap) = start_of (s.front ++ gap) c.0.after t more c.1 ∙ ap length (encodes-append s.front gap) in
    let sum : length (encode_utf8_all s.front ++ encode_utf8_all gap) ≡ length (encode_utf8_all s.front) + length (encode_utf8_all gap) = length-append (encode_utf8_all s.front) (encode_utf8_all gap) in
    let k = comments_of c.0.pieces c.0.after c.0.ignored in
    let first = comments_in passed in
    record {
      pieces = c.0.pieces;
      after = c.0.after;
      here = s.front ++ gap;
      stands = c.1;
      cut = seam start gap c.0.after a.utf8 c.0.whole;
      text_is = text ∙ ap (λ (x : List ℕ). s.front ++ x) c.0.whole ∙ sym (append_assoc s.front gap c.0.after);
      shorter = omega (arith, long, same);
      reached = omega (arith, long, same, at, sum);
      way = omega (arith, long, same, at, sum);
      no_longer = passed_long rest start passed a;
      items = k.items;
      are = k.alone;
      none = k.none;
      on = λ tail t.
          let there = subst (λ (x : List ℕ). IsItems x (k.items ++ tail)) (sym c.0.whole) (k.before tail t) in
          subst (IsItems (chars rest)) (sym (append_assoc first k.items tail)) (a.on (k.items ++ tail) there);
      off = λ all t.
          let o = a.off all t in
          let p = k.past o.0 (subst (λ (x : List ℕ). IsItems x o.0) c.0.whole o.1) in
          (p.0, p.1, o.2 ∙ ap (λ (x : List Item). first ++ x) p.2 ∙ sym (append_assoc first k.items p.0));
    }

pub boundary : (rest : List ℕ) (passed : List Passed) (start base : List ℕ) (t : Token) (more : List Token) → Next rest passed start base t more → IsCharBoundary start (t.start - (length base - length start))
boundary rest passed start base t more n = subst (IsCharBoundary start) (sym n.way) n.cut.boundary

-- what begins with the token
pub from_token : (rest : List ℕ) (passed : List Passed) (start from base : List ℕ) (t : Token) (more : List Token) (n : Next rest passed start base t more) → from ≡ drop (t.start - (length base - length start)) start → from ≡ encode_utf8_all n.after
from_token rest passed start from base t more n e = e ∙ ap (λ (k : ℕ). drop k start) n.way ∙ n.cut.back

-- and what stands before it
pub gap_is : (rest : List ℕ) (passed : List Passed) (start gap from base : List ℕ) (t : Token) (more : List Token) (n : Next rest passed start base t more) → gap ≡ take (t.start - (length base - length start)) start → from ≡ drop (t.start - (length base - length start)) start → gap ≡ take (length start - length from) start
gap_is rest passed start gap from base t more n e f =
    let way : t.start - (length base - length start) ≡ length start - length from = omega (arith, n.way, n.cut.long, ap length (from_token rest passed start from base t more n f)) in
    e ∙ ap (λ (k : ℕ). take k start) way

-- ---- the comments before it

-- what `push_ignored` promises
abbrev Pushed : List Passed → List ℕ → List Item → List Item → Type 0
Pushed passed gap sheet new = (items : List Item) → IsItems (chars gap) items → words items ≡ [] → new ≡ sheet ++ (tidied (comments_in passed) ++ tidied items)

pushed : (rest : List ℕ) (passed : List Passed) (start gap base : List ℕ) (t : Token) (more : List Token) (n : Next rest passed start base t more) (sheet new : List Item) → gap ≡ take (t.start - (length base - length start)) start
    → Pushed passed gap sheet new → new ≡ sheet ++ tidied (comments_in passed ++ n.items)
pushed rest passed start gap base t more n sheet new e p =
    let is : chars gap ≡ concat n.pieces = ap chars (e ∙ ap (λ (k : ℕ). take k start) n.way ∙ n.cut.front) ∙ n.cut.front_chars in
    p n.items (subst (λ (x : List ℕ). IsItems x n.items) (sym is) n.are) n.none ∙ ap (λ (x : List Item). sheet ++ x) (sym (tidied_both (comments_in passed) n.items))

-- ---- the end

no_word : (kind : TokenKind) (w rest : List ℕ) → Begins Current kind w rest → kind ≡ End → ⊥
no_word kind w rest b e = (subst (λ (k : TokenKind). Begins Current k w rest) e b).spelled

ended : (here after : List ℕ) (t : Token) (more : List Token) → Stands Current here after t more → t.bare.kind ≡ End → after ≡ []
ended here after t more (inl m) k = absurd (no_word m.0.kind m.0.word m.0.rest m.0.begins (ap (λ (u : Token). u.bare.kind) (sym m.0.is) ∙ k))
ended here after t more (inr (inl m)) k = m.0.ends
ended here after t more (inr (inr m)) k = absurd (let f : Fault ≡ End = ap (λ (u : Token). u.bare.kind) (sym m.0.is) ∙ k in cc)

pub all_laid_out : (text other rest : List ℕ) (passed : List Passed) (start gap base : List ℕ) (t : Token) (more : List Token) (sheet new : List Item) → Reads text rest sheet → (n : Next rest passed start base t more) → t.bare.kind ≡ End
    → gap ≡ take (t.start - (length base - length start)) start → Pushed passed gap sheet new → IsItems (chars other) new → IsLaidOut text other
all_laid_out text other rest passed start gap base t more sheet new r n kind e p others =
    let k = comments_in passed ++ n.items in
    let last : n.after ≡ [] = ended n.here n.after t more n.stands kind in
    let alone : IsItems (chars rest) k = subst (IsItems (chars rest)) (append-nil k) (n.on [] (subst (λ (x : List ℕ). IsItems x []) (sym last) tt)) in
    let items = r.passed ++ k in
    let are : IsItems (chars text) items = r.on k alone in
    let alike : AreLaid items new = subst (AreLaid items) (sym (pushed rest passed start gap base t more n sheet new e p)) (both_laid r.passed sheet k (tidied k) r.laid (are_tidied k)) in
    record {
      tokens = record {
        tokens = words items;
        others = words new;
        of_text = items_written (chars text) items are [];
        of_other = items_written (chars other) new others [];
        alike = alike_words items new alike;
      };
      as_specified = specified_words items new alike;
      items = items;
      others = new;
      of_text = are;
      of_other = others;
      alike = alike;
    }

-- ---- a token

standing : (here after : List ℕ) (t : Token) (more : List Token) → Stands Current here after t more → t.bare.kind ≢ Fault → t.bare.kind ≢ End → (m : TokenStands Current here after t) × Cuts Current (here ++ m.word) m.rest more
standing here after t more (inl m) f e = m
standing here after t more (inr (inl m)) f e = absurd (e (ap (λ (u : Token). u.bare.kind) m.0.is))
standing here after t more (inr (inr m)) f e = absurd (f (ap (λ (u : Token). u.bare.kind) m.0.is))

not_last : (kind : TokenKind) → kind ≢ Fault → kind ≢ End → is_last kind ≡ false
not_last Punct f e = refl
not_last Name f e = refl
not_last Number f e = refl
not_last String f e = refl
not_last Block f e = refl
not_last Fault f e = absurd (f refl)
not_last End f e = absurd (e refl)

-- the token has a spelling
pub next_spells : (start : List ℕ) (l : Lexing) (t : Token) (more : List Token) → StandsAt l start → left l ≡ t ∷ more → t.bare.kind ≢ Fault → t.bare.kind ≢ End → Spells t.bare.kind t.bare.spelling
next_spells start l t more s is f e =
    let p = subst AreProperButFaults is s.proper in
    spells_of t.bare.kind t.bare.spelling (not_last t.bare.kind f e) (proper_of t f p.0)

ends_more : (t : Token) (more : List Token) → is_last t.bare.kind ≡ false → EndsOnce (t ∷ more) → EndsOnce more
ends_more t [] l e = absurd cc
ends_more t (u ∷ more) l e = e.1

-- what comes after the token
pub record Spelled (from : List ℕ) (t : Token) (word rest : List ℕ) : Type 0 where
  pub spelled : t.bare.spelling ≡ encode_utf8_all word
  pub cut : Seam from word rest

spelled : (from here after : List ℕ) (t : Token) → IsUtf8 (encode_utf8_all after) → chars (encode_utf8_all after) ≡ after → from ≡ encode_utf8_all after → (m : TokenStands Current here after t) → Spelled from t m.word m.rest
spelled from here after t u c is m = record {
  spelled = ap (λ (u : Token). u.bare.spelling) m.is;
  cut = seam from m.word m.rest (subst IsUtf8 (sym is) u) (ap chars is ∙ c ∙ m.whole);
}

pub boundary_after : (rest : List ℕ) (passed : List Passed) (start from base : List ℕ) (t : Token) (more : List Token) (n : Next rest passed start base t more) → from ≡ drop (t.start - (length base - length start)) start → t.bare.kind ≢ Fault → t.bare.kind ≢ End → IsCharBoundary from (length t.bare.spelling)
boundary_after rest passed start from base t more n f k e =
    let is = from_token rest passed start from base t more n f in
    let m = (standing n.here n.after t more n.stands k e).0 in
    let p = spelled from n.here n.after t n.cut.back_utf8 n.cut.back_chars is m in
    subst (λ (s : List ℕ). IsCharBoundary from (length s)) (sym p.spelled) p.cut.boundary

-- the rest after it is a text, and shorter
pub record Read (text rest after : List ℕ) (next : Lexing) (longer : List Item) : Type 0 where
  pub utf8 : IsUtf8 after
  pub reads : Reads text after longer
  pub stands : StandsAt next after
  pub shorter : length after < length rest

pub one_read : (text rest : List ℕ) (passed : List Passed) (start gap from after base : List ℕ) (l next : Lexing) (t : Token) (sheet new longer : List Item) → Reads text rest sheet → StandsAt l start → base ≡ next.text → left l ≡ t ∷ left next
    → (n : Next rest passed start base t (left next)) → t.bare.kind ≢ Fault → t.bare.kind ≢ End → gap ≡ take (t.start - (length base - length start)) start → from ≡ drop (t.start - (length base - length start)) start → after ≡ drop (length t.bare.spelling) from
    → Pushed passed gap sheet new → IsAdded t.bare new longer → Read text rest after next longer
one_read text rest passed start gap from after base l next t sheet new longer r s same is n k e g f a p d =
    let q = standing n.here n.after t (left next) n.stands k e in
    let m = q.0 in
    let from_is = from_token rest passed start from base t (left next) n f in
    let w = spelled from n.here n.after t n.cut.back_utf8 n.cut.back_chars from_is m in
    let after_is : after ≡ encode_utf8_all m.rest = a ∙ ap (λ (s : List ℕ). drop (length s) from) w.spelled ∙ w.cut.back in
    let chars_is : chars after ≡ m.rest = ap chars after_is ∙ w.cut.back_chars in
    let b : Bare = record { kind = m.kind; spelling = encode_utf8_all m.word } in
    let bare_is : b ≡ t.bare = ap (λ (x : Token). x.bare) (sym m.is) in
    let c = comments_in passed ++ n.items in
    let some : 1 ≤ length t.bare.spelling = omega (arith, ap length w.spelled, length-le-encodes m.word, begins_some Current m.kind m.word m.rest m.begins) in
    let before : AreLaid (r.passed ++ c) (sheet ++ tidied c) = both_laid r.passed sheet c (tidied c) r.laid (are_tidied c) in
    let laid : AreLaid ((r.passed ++ c) ++ word t.bare ∷ []) ((sheet ++ tidied c) ++ word d.other ∷ []) = both_laid (r.passed ++ c) (sheet ++ tidied c) (word t.bare ∷ []) (word d.other ∷ []) before ((d.alike, d.as_specified), tt) in
    let seamed : (tail : List Item) → (r.passed ++ (c ++ (word t.bare ∷ tail)) ≡ ((r.passed ++ c) ++ word t.bare ∷ []) ++ tail) =
    λ tail. sym (append_assoc r.passed c (word t.bare ∷ tail)) ∙ sym (append_assoc (r.passed ++ c) (word t.bare ∷ []) tail) in
    record {
      utf8 = subst IsUtf8 (sym after_is) w.cut.back_utf8;
      reads = record {
        passed = (r.passed ++ c) ++ word t.bare ∷ [];
        laid = subst (AreLaid ((r.passed ++ c) ++ word t.bare ∷ [])) (sym (d.is ∙ ap (λ (x : List Item). x ++ word d.other ∷ []) (pushed rest passed start gap base t (left next) n sheet new g p))) laid;
        on = λ tail h.
            let here : IsItems (m.word ++ m.rest) (word b ∷ tail) = word_item m.kind m.word m.rest tail m.begins (subst (λ (x : List ℕ). IsItems x tail) chars_is h) in
            let there : IsItems n.after (word t.bare ∷ tail) = subst (λ (x : Bare). IsItems n.after (word x ∷ tail)) bare_is (subst (λ (x : List ℕ). IsItems x (word b ∷ tail)) (sym m.whole) here) in
            subst (IsItems (chars text)) (seamed tail) (r.on (c ++ (word t.bare ∷ tail)) (n.on (word t.bare ∷ tail) there));
        off = λ items h.
            let o = r.off items h in
            let o2 = n.off o.0 o.1 in
            let o3 = past_word_item b m.word m.rest o2.0 m.begins refl (subst (λ (x : List ℕ). IsItems x o2.0) m.whole o2.1) in (
              o3.others,
              subst (λ (x : List ℕ). IsItems x o3.others) (sym chars_is) o3.are,
              o.2 ∙ ap (λ (x : List Item). r.passed ++ x) (o2.2 ∙ ap (λ (x : List Item). c ++ x) (o3.is ∙ ap (λ (x : Bare). word x ∷ o3.others) bare_is)) ∙ seamed o3.others,
            );
      };
      stands = record {
        front = n.here ++ m.word;
        whole = ap chars (sym same) ∙ n.text_is ∙ ap (λ (x : List ℕ). n.here ++ x) m.whole ∙ sym (append_assoc n.here m.word m.rest) ∙ ap (λ (x : List ℕ). (n.here ++ m.word) ++ x) (sym chars_is);
        cut = subst (λ (x : List ℕ). Cuts Current (n.here ++ m.word) x (left next)) (sym chars_is) q.1;
        ends = ends_more t (left next) (not_last t.bare.kind k e) (subst EndsOnce is s.ends);
        proper = (subst AreProperButFaults is s.proper).1;
      };
      shorter = omega (arith, ap length after_is, w.cut.long, ap length from_is, n.cut.long, n.no_longer, some, ap length w.spelled);
    }

-- ---- a fault

fault : (here after : List ℕ) (t : Token) (more : List Token) → Stands Current here after t more → t.bare.kind ≡ Fault → FaultStands Current here after t
fault here after t more (inl m) k = absurd ((subst (λ (x : TokenKind). Begins Current x m.0.word m.0.rest) (ap (λ (u : Token). u.bare.kind) (sym m.0.is) ∙ k) m.0.begins).spelled)
fault here after t more (inr (inl m)) k = absurd (let f : End ≡ Fault = ap (λ (u : Token). u.bare.kind) (sym m.0.is) ∙ k in cc)
fault here after t more (inr (inr m)) k = m.0

pub fault_read : (text rest : List ℕ) (passed : List Passed) (start base : List ℕ) (t : Token) (more : List Token) (sheet : List Item) → Reads text rest sheet → Next rest passed start base t more → t.bare.kind ≡ Fault → HasFault text
fault_read text rest passed start base t more sheet r n k =
    let all = tokens [] (chars text) in
    let cut : IsCutInto text all = tokens_cuts [] (chars text) in
    let here = fault n.here n.after t more n.stands k in (
      all,
      cut,
      λ whole.
          let i = itemized [] (chars text) all cut whole in
          let o = r.off i.items i.are in
          let p = n.off o.0 o.1 in
          no_items n.after p.0 here.goes_on here.none p.1,
    )

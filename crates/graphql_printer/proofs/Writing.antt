-- What a writer holds after one more token.
use Rattle.std.proofs.Common.{◌≡◌, ◌==◌, ℕ, false, true, List, [], ◌∷◌, ◌++◌, length, Result, Ok, Err, OnOk, OnErr, refl, sym, ap, ◌∙◌, subst, append_assoc, append-nil, arith}
use Rattle.std.proofs.lemmas.Bool.{eqb-true}
use Rattle.std.proofs.lemmas.List.{map-append}
use Rattle.std.specs.Str.{chars, IsUtf8}
use Rattle.graphql_tokens.specs.declared.lexer.TokenKind.TheVariants.{Block}
use Rattle.graphql_tokens.specs.tokens.Token.{Bare}
use Rattle.graphql_layout.specs.declared.line_ends.LineBreak.{LineBreak}
use Rattle.graphql_layout.specs.texts.Blocks.{feed, may_be_block, spelled as spelled_block}
use Rattle.graphql_layout.specs.texts.Items.{Item, comment, word, words}
use Rattle.graphql_layout.proofs.BlockTexts.{value_kept}
use Rattle.graphql_printer.specs.inner.Shown.{by_value, by_values}
use Rattle.graphql_printer.specs.declared.writer.Loose.{Loose}
use Rattle.graphql_printer.specs.inner.Words.{BeginsBadly, loose_tokens}

words_more : (items : List Item) (b : Bare) → words (items ++ word b ∷ []) ≡ words items ++ b ∷ []
words_more [] b = refl
words_more (comment c ∷ items) b = words_more items b
words_more (word a ∷ items) b = ap (λ (l : List Bare). a ∷ l) (words_more items b)

-- on the sheet
pub on_sheet : (items new : List Item) (rest : List Bare) (b other : Bare) → rest ≡ [] → new ≡ items ++ word other ∷ [] → by_value other ≡ by_value b → by_values (words new ++ rest) ≡ by_values (words items ++ rest) ++ by_values (b ∷ [])
on_sheet items new rest b other none e same =
    ap (λ (l : List Bare). by_values (words new ++ l)) none ∙ ap by_values (append-nil (words new)) ∙ ap (λ (l : List Item). by_values (words l)) e ∙ ap by_values (words_more items other)
    ∙ map-append by_value (words items) (other ∷ []) ∙ ap (λ (x : Bare). by_values (words items) ++ x ∷ []) same
    ∙ ap (λ (l : List Bare). by_values l ++ by_value b ∷ []) (sym (append-nil (words items)) ∙ ap (λ (l : List Bare). words items ++ l) (sym none))

-- aside
pub aside : (items : List Item) (rest new : List Bare) (b : Bare) → new ≡ rest ++ b ∷ [] → by_values (words items ++ new) ≡ by_values (words items ++ rest) ++ by_values (b ∷ [])
aside items rest new b e =
    ap (λ (l : List Bare). by_values (words items ++ l)) e ∙ ap by_values (sym (append_assoc (words items) rest (b ∷ []))) ∙ map-append by_value (words items ++ rest) (b ∷ [])

pub badly_kept : (rest new : List Bare) (b : Bare) → BeginsBadly rest → (rest ≡ [] → BeginsBadly (b ∷ [])) → new ≡ rest ++ b ∷ [] → BeginsBadly new
badly_kept [] new b h bad e = subst BeginsBadly (sym e) (bad refl)
badly_kept (r ∷ rest) new b h bad e = subst BeginsBadly (sym e) h

-- whatever is written between the lines of a block string, its value is the same
pub same_block : (text : List ℕ) (between : LineBreak) → IsUtf8 text → may_be_block (chars text) ≡ true → by_value (record { kind = Block; spelling = spelled_block between text }) ≡ by_value (record { kind = Block; spelling = spelled_block (feed 0) text })
same_block text between utf8 may =
    ap (λ (value : List ℕ). record { kind = Block; spelling = value }) (value_kept text utf8 may between ∙ sym (value_kept text utf8 may (feed 0)))

-- ---- as a result

pub written_ok : {E : Type 0} (result : Result (Unit {0}) E) (items new : List Item) (rest view : List Bare) (b other : Bare) → rest ≡ [] → OnOk result (new ≡ items ++ word other ∷ []) → by_value other ≡ by_value b → by_values (words items ++ rest) ≡ view
    → OnOk result (by_values (words new ++ rest) ≡ view ++ by_values (b ∷ []))
written_ok (Ok v) items new rest view b other none e same is = on_sheet items new rest b other none e same ∙ ap (λ (l : List Bare). l ++ by_values (b ∷ [])) is
written_ok (Err x) items new rest view b other none e same is = tt

pub kept_ok : {E : Type 0} (result : Result (Unit {0}) E) (items : List Item) (rest new view : List Bare) (b : Bare) → OnOk result (new ≡ rest ++ b ∷ []) → by_values (words items ++ rest) ≡ view
    → OnOk result (by_values (words items ++ new) ≡ view ++ by_values (b ∷ []))
kept_ok (Ok v) items rest new view b e is = aside items rest new b e ∙ ap (λ (l : List Bare). l ++ by_values (b ∷ [])) is
kept_ok (Err x) items rest new view b e is = tt

pub still_badly : {E : Type 0} (result : Result (Unit {0}) E) (rest new : List Loose) (b : Bare) → BeginsBadly (loose_tokens rest) → (loose_tokens rest ≡ [] → BeginsBadly (b ∷ [])) → OnOk result (loose_tokens new ≡ loose_tokens rest ++ b ∷ []) → OnErr result (new ≡ rest)
    → BeginsBadly (loose_tokens new)
still_badly (Ok v) rest new b h bad ok err = badly_kept (loose_tokens rest) (loose_tokens new) b h bad ok
still_badly (Err x) rest new b h bad ok err = subst (λ (l : List Loose). BeginsBadly (loose_tokens l)) (sym err) h

-- ---- whether tokens are kept aside

pub no_rest : (rest : List Loose) (n : ℕ) → length rest ≡ n → (n == 0) ≡ true → loose_tokens rest ≡ []
no_rest [] n e h = refl
no_rest (l ∷ rest) n e h = let zero = eqb-true n 0 h in absurd (omega arith)

pub some_rest : (rest : List Loose) (n : ℕ) → length rest ≡ n → (n == 0) ≡ false → loose_tokens rest ≡ [] → ⊥
some_rest [] n e h none = let no : true ≡ false = ap (λ (k : ℕ). k == 0) e ∙ h in cc
some_rest (l ∷ rest) n e h none = cc

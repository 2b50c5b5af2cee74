-- Texts with the tokens that were written, and what is known of tokens by their values.
use Rattle.std.proofs.Common.{◌≡◌, ℕ, true, false, Result, Ok, Err, IfOk, Global, string_bytes, inl, inr, List, [], ◌∷◌, ◌++◌, refl, sym, ap, ◌∙◌, subst, append-nil}
use Rattle.std.specs.Str.{chars}
use Rattle.std.proofs.Common.{String as Text}
use Rattle.graphql_tokens.specs.declared.lexer.TokenKind.{TokenKind}
use Rattle.graphql_tokens.specs.declared.lexer.TokenKind.TheVariants.{Punct, Name, Number, String, Block, Fault, End}
use Rattle.graphql_tokens.specs.tokens.Alike.{IsAlike, AreAlike}
use Rattle.graphql_tokens.specs.tokens.Cuts.{IsCutInto}
use Rattle.graphql_tokens.specs.tokens.Proper.{Spells}
use Rattle.graphql_tokens.specs.tokens.Token.{Bare, Token}
use Rattle.graphql_tokens.proofs.Lists.{tokens_only}
use Rattle.graphql_layout.specs.texts.SameTokens.{HasTokens}
use Rattle.graphql_printer.specs.inner.Shown.{by_value, by_values}
use Rattle.graphql_printer.specs.inner.SpelledTexts.{AreSpellings, KeepsTokens}
use Rattle.graphql_printer.specs.inner.Words.{BeginsBadly, is_word}
use Rattle.graphql_printer.proofs.Spellings.{name_is_word}

pub one_cut : (text : List ℕ) (ts us : List Token) → IsCutInto text ts → IsCutInto text us → ts ≡ us
one_cut text ts us c d = tokens_only [] (chars text) ts c ∙ sym (tokens_only [] (chars text) us d)

-- ---- tokens with the same values are alike

abbrev bare : TokenKind → List ℕ → Bare
bare kind spelling = record { kind = kind; spelling = spelling }

alike_by : (kind : TokenKind) (s t : List ℕ) → by_value (bare kind s) ≡ by_value (bare kind t) → IsAlike (bare kind s) (bare kind t)
alike_by Punct s t e = inl e
alike_by Name s t e = inl e
alike_by Number s t e = inl e
alike_by String s t e = inl e
alike_by Fault s t e = inl e
alike_by End s t e = inl e
alike_by Block s t e = inr (record { block = refl; other_block = refl; value = ap (λ (b : Bare). b.spelling) e })

alike_by_value : (a b : Bare) → by_value a ≡ by_value b → IsAlike a b
alike_by_value a b e =
    let same : a.kind ≡ b.kind = ap (λ (x : Bare). x.kind) e in
    let moved : by_value (bare b.kind a.spelling) ≡ by_value b = ap (λ (k : TokenKind). by_value (bare k a.spelling)) (sym same) ∙ e in
    subst (λ (k : TokenKind). IsAlike (bare k a.spelling) b) (sym same) (alike_by b.kind a.spelling b.spelling moved)

abbrev first_of : Bare → List Bare → Bare
first_of b [] = b
first_of b (c ∷ cs) = c

abbrev others_of : List Bare → List Bare
others_of [] = []
others_of (c ∷ cs) = cs

first : (b c : Bare) (bs cs : List Bare) → by_values (b ∷ bs) ≡ by_values (c ∷ cs) → by_value b ≡ by_value c
first b c bs cs e = ap (first_of b) e

others : (b c : Bare) (bs cs : List Bare) → by_values (b ∷ bs) ≡ by_values (c ∷ cs) → by_values bs ≡ by_values cs
others b c bs cs e = ap others_of e

pub alike_by_values : (bs cs : List Bare) → by_values bs ≡ by_values cs → AreAlike bs cs
alike_by_values [] [] e = tt
alike_by_values [] (c ∷ cs) e = absurd cc
alike_by_values (b ∷ bs) [] e = absurd cc
alike_by_values (b ∷ bs) (c ∷ cs) e = (alike_by_value b c (first b c bs cs e), alike_by_values bs cs (others b c bs cs e))

-- ---- a text that is laid out has the tokens that were written

pub laid_out_keeps : (tokens : List Bare) (text : List ℕ) → HasTokens text tokens → KeepsTokens (by_values (tokens ++ [])) text
laid_out_keeps tokens text has bs spelled e = (tokens, has, alike_by_values bs tokens (sym e ∙ ap by_values (append-nil tokens)))

-- ---- no spellings are tokens of which one is none

no_name : (r b : Bare) → r.kind ≡ Name → is_word r.spelling ≡ false → Spells b.kind b.spelling → IsAlike r b → ⊥
no_name r b kind bad spelled (inl e) =
    let name : Spells Name r.spelling = subst (λ (k : TokenKind). Spells k r.spelling) kind (subst (λ (x : Bare). Spells x.kind x.spelling) (sym e) spelled) in
    let no : false ≡ true = sym bad ∙ name_is_word r.spelling name in
    cc
no_name r b kind bad spelled (inr block) = let no : Name ≡ Block = sym kind ∙ block.block in cc

never : (front : List Bare) (r : Bare) (rest bs : List Bare) → r.kind ≡ Name → is_word r.spelling ≡ false → AreSpellings bs → by_values (front ++ r ∷ rest) ≡ by_values bs → ⊥
never [] r rest [] kind bad h e = cc
never (f ∷ front) r rest [] kind bad h e = cc
never [] r rest (b ∷ bs) kind bad h e = no_name r b kind bad h.0 (alike_by_value r b (first r b rest bs e))
never (f ∷ front) r rest (b ∷ bs) kind bad h e = never front r rest bs kind bad h.1 (others f b (front ++ r ∷ rest) bs e)

never_kept : (front rest view : List Bare) (text : List ℕ) → by_values (front ++ rest) ≡ view → BeginsBadly rest → ((rest ≡ []) → ⊥) → KeepsTokens view text
never_kept front [] view text is bad some bs h e = absurd (some refl)
never_kept front (r ∷ rest) view text is bad some bs h e = absurd (never front r rest bs bad.0 bad.1 h (is ∙ e))

pub badly_keeps : {E : Type 0} (result : Result (Text Global) E) (front rest view : List Bare) → by_values (front ++ rest) ≡ view → BeginsBadly rest → ((rest ≡ []) → ⊥) → IfOk result (λ s. KeepsTokens view (string_bytes s))
badly_keeps (Ok s) front rest view is bad some = never_kept front rest view (string_bytes s) is bad some
badly_keeps (Err x) front rest view is bad some = tt

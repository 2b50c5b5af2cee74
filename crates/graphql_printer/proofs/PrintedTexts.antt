-- A text with the tokens of what is shown, or with tokens that are alike, makes the document again.
use Rattle.std.proofs.Common.{◌≡◌, ℕ, inl, inr, List, [], ◌∷◌, ◌++◌, refl, sym, ap, ◌∙◌, subst}
use Rattle.std.proofs.lemmas.List.{map-append}
use Rattle.std.specs.Str.{chars, IsUtf8}
use Rattle.graphql_tokens.specs.tokens.Alike.{IsAlike, AreAlike}
use Rattle.graphql_tokens.specs.tokens.Cuts.{EndsOnce, HasNoFault, IsCutInto}
use Rattle.graphql_tokens.specs.tokens.Edition.{Current}
use Rattle.graphql_tokens.specs.tokens.Proper.{AreProperButFaults}
use Rattle.graphql_tokens.specs.tokens.Token.{Bare, Token}
use Rattle.std.specs.List.{AllByRecursion}
use Rattle.graphql_tokens.specs.declared.lexer.TokenKind.{TokenKind}
use Rattle.graphql_tokens.specs.declared.lexer.TokenKind.TheVariants.{Block, End}
use Rattle.graphql_tokens.proofs.Editions.{no_fault}
use Rattle.graphql_tokens.proofs.Lists.{cuts_ends}
use Rattle.graphql_tokens.proofs.Propers.{cuts_proper, text_scalars}
use Rattle.graphql_layout.specs.texts.SameTokens.{bare_end, HasTokens}
use Rattle.graphql_layout.proofs.Joined.{spells_of, proper_of}
use Rattle.graphql_reading.specs.grammar.Fronts.{bares}
use Rattle.graphql_reading.specs.grammar.Limits.{Limits}
use Rattle.graphql_reading.specs.grammar.Places.{nowhere}
use Rattle.graphql_reading.specs.reading.Outcome.{Reader}
use Rattle.graphql_reading.proofs.IgnoresPlaces.{alike-append}
use Rattle.graphql_reading.proofs.TokenTests.{the_end-is}
use Rattle.graphql_grammar.proofs.Alike.{break-alike}
use Rattle.graphql_grammar.proofs.Languages.{IsRead, is-read-by}
use Rattle.graphql_grammar.specs.answers.Answers.{AreTheDefinitions}
use Rattle.graphql_grammar.specs.answers.Language.{Language, grammar}
use Rattle.graphql_printer.specs.Controls.{IsClear, IsClearAs, are_clear}
use Rattle.graphql_printer.specs.Printed.{IsDocumentOf, MakesTheSame}
use Rattle.graphql_printer.specs.Rewritten.{AreSound}
use Rattle.graphql_printer.specs.inner.SpelledTexts.{AreSpellings}
use Rattle.graphql_printer.proofs.Reprints.{AreSpelled, AreShown, Again}
use Rattle.graphql_printer.proofs.SpelledTexts.{one_cut}

the_end : Token
the_end = record { bare = bare_end; start = 0; pos = nowhere }

-- equal lists in their places
alike_as : {ts us vs ws : List Bare} → ts ≡ us → vs ≡ ws → AreAlike ts vs → AreAlike us ws
alike_as {ts} {us} {vs} {ws} e h m = subst (λ (l : List Bare). AreAlike us l) h (subst (λ (l : List Bare). AreAlike l vs) e m)

pub makes_the_same : {D Document T : Type 0} (language : Language D Document) (reader : Limits → Reader (List D)) → IsRead language reader → (made_of : List D → T) (limits : Limits) (bs : List Bare) (ds es : List D)
    → Again (language.definitions Current limits) language.placeless bs es → AreSound language es → made_of (language.placeless ds) ≡ made_of (language.placeless es)
    → (printed : List ℕ) → IsUtf8 printed → (others : List Bare) × HasTokens printed others × AreAlike bs others → MakesTheSame language made_of limits ds printed
unfolding the_end
makes_the_same language reader read made_of limits bs ds es again sound same printed utf8 keeps =
    let reads = is-read-by language reader read in
    let ys = again.tokens ++ the_end ∷ [] in
    let has = keeps.1 in
    let us = has.0 in
    let phrase : grammar language Current limits ys again.tree = record { value = (again.tree, the_end); holds = record { front = again.tokens; back = the_end ∷ []; joined = refl; first = again.holds; second = (refl, refl) }; is = refl } in
    let shown : bares ys ≡ bs ++ bare_end ∷ [] = map-append (λ (t : Token). t.bare) again.tokens (the_end ∷ []) ∙ ap (λ (l : List Bare). l ++ bare_end ∷ []) again.are in
    let alike : AreAlike (bares ys) (bares us) = alike_as (sym shown) (sym has.2) (alike-append bs keeps.0 (bare_end ∷ []) (bare_end ∷ []) keeps.2 (inl refl, tt)) in
    let rests = reads.alike limits ys in
    let t = rests.has_tree us alike again.tree phrase in
    let equal : language.placeless es ≡ language.placeless t.0 = sym again.same ∙ rests.same_tree us alike again.tree t.0 phrase t.1 in
    let breaks = break-alike language read.judges es t.0 equal in
    let ends : EndsOnce us = cuts_ends Current [] (chars printed) us has.1 in
    let proper : AreProperButFaults us = cuts_proper [] (chars printed) us (text_scalars printed utf8) has.1 in
    record {
      other_definitions = t.0;
      tree = λ vs c. subst (λ (l : List Token). AreTheDefinitions language limits l t.0) (one_cut printed us vs has.1 c) (reads.only limits us ends proper t.0 t.1);
      sound = (breaks.unbroken sound.0, breaks.complete sound.1);
      same = same ∙ ap made_of equal;
    }

-- ---- the tokens of a text that has a tree

-- the tokens before the end are spelled as their kinds are
front_spelled : (front : List Token) (last : Token) → EndsOnce (front ++ last ∷ []) → HasNoFault (front ++ last ∷ []) → AreProperButFaults (front ++ last ∷ []) → AreSpelled front
front_spelled [] last e n p = tt
front_spelled (t ∷ []) last e n p = (spells_of t.bare.kind t.bare.spelling e.0 (proper_of t n.0 p.0), tt)
front_spelled (t ∷ u ∷ front) last e n p = (spells_of t.bare.kind t.bare.spelling e.0 (proper_of t n.0 p.0), front_spelled (u ∷ front) last e.1 n.1 p.1)

pub record HasPhrase {D Document : Type 0} (language : Language D Document) (limits : Limits) (ds : List D) : Type 0 where
  pub tokens : List Token
  pub holds : language.definitions Current limits tokens ds
  pub spelled : AreSpelled tokens

-- the definitions of a text have tokens with spellings
pub of_text : {D Document : Type 0} (language : Language D Document) (limits : Limits) (text : List ℕ) (document : Document) (of : IsDocumentOf language limits text document) → HasPhrase language limits of.definitions
of_text language limits text document of =
    let h = of.tree.within in
    let whole : of.tokens ≡ h.holds.front ++ h.value.1 ∷ [] = h.holds.joined ∙ ap (λ (l : List Token). h.holds.front ++ l) h.holds.second.0 in
    let ends : EndsOnce of.tokens = cuts_ends Current [] (chars text) of.tokens of.cut in
    let proper : AreProperButFaults of.tokens = cuts_proper [] (chars text) of.tokens (text_scalars text of.utf8) of.cut in
    let is_end : h.value.1.bare.kind ≡ End = ap (λ (b : Bare). b.kind) (the_end-is h.value.1.bare h.holds.second.1) in
    record {
      tokens = h.holds.front;
      holds = subst (λ (l : List _). language.definitions Current limits h.holds.front l) (sym h.is) h.holds.first;
      spelled = front_spelled h.holds.front h.value.1 (subst EndsOnce whole ends) (no_fault h.holds.front h.value.1 (subst EndsOnce whole ends) is_end) (subst AreProperButFaults whole proper);
    }

-- what is shown of such tokens has spellings
pub again_spellings : {A : Type 0} (p : _) (f : A → A) (bs : List Bare) (a : A) → Again p f bs a → AreSpellings bs
again_spellings p f bs a again = subst AreSpellings again.are (go again.tokens again.spelled)
  where
    go : (ts : List Token) → AreShown ts → AreSpellings (bares ts)
    go [] h = tt
    go (t ∷ ts) h = (h.0.0, go ts h.1)

-- and is clear
pub again_clear : {A : Type 0} (p : _) (f : A → A) (bs : List Bare) (a : A) → Again p f bs a → AllByRecursion IsClear bs
again_clear p f bs a again = subst (AllByRecursion IsClear) again.are (go again.tokens again.spelled)
  where
    go : (ts : List Token) → AreShown ts → AllByRecursion IsClear (bares ts)
    go [] h = tt
    go (t ∷ ts) h = (h.0.1, go ts h.1)

-- ---- the printed text has clear tokens

clear_alike : (a b : Bare) → IsAlike a b → IsClear a → IsClear b
clear_alike a b (inl e) h = subst IsClear e h
clear_alike a b (inr m) h =
    let here : IsClearAs Block a.spelling = subst (λ (k : TokenKind). IsClearAs k a.spelling) m.block h in
    subst (λ (k : TokenKind). IsClearAs k b.spelling) (sym m.other_block) (ap are_clear (sym m.value) ∙ here)

all_alike : (bs cs : List Bare) → AreAlike bs cs → AllByRecursion IsClear bs → AllByRecursion IsClear cs
all_alike [] [] m h = tt
all_alike [] (c ∷ cs) m h = absurd m
all_alike (b ∷ bs) [] m h = absurd m
all_alike (b ∷ bs) (c ∷ cs) m h = (clear_alike b c m.0 h.0, all_alike bs cs m.1 h.1)

-- the end is clear, too
ended : (bs : List Bare) → AllByRecursion IsClear bs → AllByRecursion IsClear (bs ++ bare_end ∷ [])
ended [] h = (tt, tt)
ended (b ∷ bs) h = (h.0, ended bs h.1)

each_token : (ts : List Token) → AllByRecursion IsClear (bares ts) → AllByRecursion (λ t. IsClear t.bare) ts
each_token [] h = tt
each_token (t ∷ ts) h = (h.0, each_token ts h.1)

pub clear_tokens : (bs : List Bare) → AllByRecursion IsClear bs → (printed : List ℕ) → (others : List Bare) × HasTokens printed others × AreAlike bs others → (ts : List Token) → IsCutInto printed ts → AllByRecursion (λ t. IsClear t.bare) ts
clear_tokens bs clear printed keeps ts cut =
    let has = keeps.1 in
    let whole = subst (AllByRecursion IsClear) (sym has.2) (ended keeps.0 (all_alike bs keeps.0 keeps.2 clear)) in
    each_token ts (subst (λ (l : List Token). AllByRecursion IsClear (bares l)) (one_cut printed has.0 ts has.1 cut) whole)

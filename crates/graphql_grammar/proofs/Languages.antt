-- A language whose reader follows its grammar exactly: what is known of each list of tokens. Proved once, for each
-- language.
use Rattle.std.proofs.Common.{◌≡◌, ℕ, ◌⊎◌, inl, inr, Result, List, [], ◌∷◌, ◌++◌, refl, sym, ap, ◌∙◌, subst}
use Rattle.std.specs.Str.{chars}
use Rattle.graphql_tokens.specs.declared.lexer.TokenKind.TheVariants.{End}
use Rattle.graphql_tokens.specs.tokens.Alike.{AreAlike}
use Rattle.graphql_tokens.specs.tokens.Cuts.{Cuts, EndsOnce, HasNoFault, IsCutInto}
use Rattle.graphql_tokens.specs.tokens.Edition.{Former, Current}
use Rattle.graphql_tokens.specs.tokens.Proper.{AreProperButFaults}
use Rattle.graphql_tokens.specs.tokens.Token.{Bare, Token, Lexing, left}
use Rattle.graphql_tokens.proofs.Editions.{former-cuts}
use Rattle.graphql_grammar.specs.answers.Answers.{Answers, AreTheDefinitions, HasOneTree, HasOneAnswer, IsDecided, RestsOnBareTokens}
use Rattle.graphql_grammar.specs.answers.Language.{Language, grammar}
use Rattle.graphql_grammar.specs.answers.Reads.{ReadsText, ReadsTokens}
use Rattle.graphql_grammar.specs.declared.error.Error.{Error}
use Rattle.graphql_grammar.specs.reading.ReadBy.{RefusedHere, RestsOnAlikeTokens, IsReadBy}
use Rattle.graphql_grammar.proofs.Alike.{JudgesAlike, break-alike}
use Rattle.graphql_reading.specs.grammar.Fronts.{bares, IsRefused, RefusedToken, Verdict, without_places, whole}
use Rattle.graphql_reading.specs.grammar.Limits.{Limits}
use Rattle.graphql_reading.specs.grammar.Relations.{Rel}
use Rattle.graphql_reading.specs.grammar.Tests.{the_end}
use Rattle.graphql_reading.specs.reading.Outcome.{Outcome, Read, Refused, Reader, whole_at}
use Rattle.graphql_reading.proofs.IgnoresPlaces.{IgnoresPlaces, alike-same}
use Rattle.graphql_reading.proofs.ReadsExactly.{ReadsExactly, HasPhrase}
use Rattle.graphql_reading.proofs.Includes.{Includes, includes-whole}
use Rattle.graphql_reading.proofs.TokenTests.{the_end-is}
use Rattle.graphql_reading.proofs.Whole.{Says, whole-answers, one-tree, ignores-whole, one-refusal, refusal-bare, trees-alike}

-- What is known of a language and of the reader of its definitions: each budget has a phrase, places don't matter,
-- the reader follows the current grammar exactly up to the end of the text, the former grammar is part of it, and the
-- rules don't look at places.
pub record IsRead {D Document : Type 0} (language : Language D Document) (reader : Limits → Reader (List D)) : Type 0 where
  pub has_phrase : HasPhrase (language.definitions Current)
  pub ignores_places : IgnoresPlaces (language.definitions Current) language.placeless
  pub reads_exactly : (b : Limits) → ReadsExactly (language.definitions Current) b the_end (reader b)
  pub includes : (b : Limits) → Includes (language.definitions Former b) (language.definitions Current b)
  pub judges : JudgesAlike language

says : {D Document : Type 0} (language : Language D Document) (reader : Limits → Reader (List D)) → IsRead language reader → (limits : Limits) (ts : List Token) (o : Outcome (List D)) → EndsOnce ts → AreProperButFaults ts → whole_at (reader limits) ts ≡ o → Says (grammar language Current) language.placeless limits ts o
says language reader read limits ts o ends proper e =
    subst (Says (grammar language Current) language.placeless limits ts) e (whole-answers read.has_phrase read.ignores_places (read.reads_exactly limits) ts ends proper)

-- ---- a list that is read

accepted : {D Document : Type 0} (language : Language D Document) (reader : Limits → Reader (List D)) → IsRead language reader → (limits : Limits) (ts rest : List Token) (ds : List D) → EndsOnce ts → AreProperButFaults ts → whole_at (reader limits) ts ≡ Read ds rest → AreTheDefinitions language limits ts ds
accepted language reader read limits ts rest ds ends proper e = (says language reader read limits ts (Read ds rest) ends proper e).1.tree

-- ---- a list that is refused

refused : {D Document : Type 0} (language : Language D Document) (reader : Limits → Reader (List D)) → IsRead language reader → (limits : Limits) (ts after : List Token) (t : Token) (v : Verdict) → EndsOnce ts → AreProperButFaults ts → whole_at (reader limits) ts ≡ Refused v (t ∷ after) → RefusedHere language limits ts v t after
refused language reader read limits ts after t v ends proper e =
    let said = says language reader read limits ts (Refused v (t ∷ after)) ends proper e in
    (record { before = said.before; token = t; after = after; split = said.split; refused = said.refusal; no_tree = said.none }, refl, refl)

-- ---- what is said of lists by the grammar alone

-- a list that ends has a tree, the only one, or a refused token
answered : {D Document : Type 0} (language : Language D Document) (reader : Limits → Reader (List D)) → IsRead language reader → (limits : Limits) (ts : List Token) → EndsOnce ts → AreProperButFaults ts → ((ds : List D) × AreTheDefinitions language limits ts ds) ⊎ ((v : Verdict) × RefusedToken (grammar language Current) limits ts v)
answered {D} language reader read limits ts ends proper = go (whole_at (reader limits) ts) refl
  where
    go : (o : Outcome (List D)) → whole_at (reader limits) ts ≡ o → ((ds : List D) × AreTheDefinitions language limits ts ds) ⊎ ((v : Verdict) × RefusedToken (grammar language Current) limits ts v)
    go (Read ds rest) e = inl (ds, accepted language reader read limits ts rest ds ends proper e)
    go (Refused v []) e = absurd (says language reader read limits ts (Refused v []) ends proper e)
    go (Refused v (t ∷ after)) e = inr (v, (refused language reader read limits ts after t v ends proper e).0)

has-one-tree : {D Document : Type 0} (language : Language D Document) (reader : Limits → Reader (List D)) → IsRead language reader → (ts : List Token) → HasOneTree language ts
has-one-tree language reader read ts = record {
  same = λ x y h k. sym (one-tree (language.definitions Current) h.0 (reader h.0) (read.reads_exactly h.0) ts k.0 x y h.1 k.1);
  same_placeless = λ x y h k. sym (one-tree (language.definitions Current) h.0 (reader h.0) (read.reads_exactly h.0) (without_places ts) k.0 x y h.1 k.1);
}

-- a tree is the only one
the-tree : {D Document : Type 0} (language : Language D Document) (reader : Limits → Reader (List D)) → IsRead language reader → (limits : Limits) (ts : List Token) (ds : List D) → EndsOnce ts → AreProperButFaults ts → grammar language Current limits ts ds → AreTheDefinitions language limits ts ds
the-tree {D} language reader read limits ts ds ends proper h = go (answered language reader read limits ts ends proper)
  where
    go : ((es : List D) × AreTheDefinitions language limits ts es) ⊎ ((v : Verdict) × RefusedToken (grammar language Current) limits ts v) → AreTheDefinitions language limits ts ds
    go (inl m) = subst (AreTheDefinitions language limits ts) (sym (m.1.only ds (limits, h))) m.1
    go (inr m) = absurd (m.1.no_tree ds h)

is-decided : {D Document : Type 0} (language : Language D Document) (reader : Limits → Reader (List D)) → IsRead language reader → (limits : Limits) (ts : List Token) → EndsOnce ts → AreProperButFaults ts → IsDecided language limits ts
is-decided {D} language reader read limits ts ends proper = record {
  either = go (answered language reader read limits ts ends proper);
  never_both = never (whole_at (reader limits) ts) refl;
  one_refusal = one-refusal (grammar language Current) limits ts;
}
  where
    go : ((ds : List D) × AreTheDefinitions language limits ts ds) ⊎ ((v : Verdict) × RefusedToken (grammar language Current) limits ts v) → ((ds : List D) × grammar language Current limits ts ds) ⊎ ((v : Verdict) × RefusedToken (grammar language Current) limits ts v)
    go (inl m) = inl (m.0, m.1.within)
    go (inr m) = inr m

    never : (o : Outcome (List D)) → whole_at (reader limits) ts ≡ o → (ds : List D) → grammar language Current limits ts ds → (k : ℕ) (v : Verdict) → IsRefused (grammar language Current) limits ts k v → ⊥
    never (Read es rest) e ds h k v r = (says language reader read limits ts (Read es rest) ends proper e).1.none k v r
    never (Refused w []) e ds h k v r = says language reader read limits ts (Refused w []) ends proper e
    never (Refused w (t ∷ after)) e ds h k v r = (says language reader read limits ts (Refused w (t ∷ after)) ends proper e).none ds h

rests-on-alike-tokens : {D Document : Type 0} (language : Language D Document) (reader : Limits → Reader (List D)) → IsRead language reader → (limits : Limits) (ts : List Token) → RestsOnAlikeTokens language limits ts
rests-on-alike-tokens language reader read limits ts = record {
  has_tree = λ us e ds h. let s = (ignores-whole read.ignores_places).by limits ts us ds h e in (s.tree, s.holds);
  same_tree = λ us e ds es h k. trees-alike read.ignores_places (read.reads_exactly limits) ts us ds es e h k;
  same_breach = λ us e ds es h k. break-alike language read.judges ds es (trees-alike read.ignores_places (read.reads_exactly limits) ts us ds es e h k);
}

rests-on-bare-tokens : {D Document : Type 0} (language : Language D Document) (reader : Limits → Reader (List D)) → IsRead language reader → (limits : Limits) (ts : List Token) → RestsOnBareTokens language limits ts
rests-on-bare-tokens language reader read limits ts = record {
  has_tree = λ us e ds h. alike.has_tree us (are-alike us e) ds h;
  same_tree = λ us e ds es h k. alike.same_tree us (are-alike us e) ds es h k;
  same_breach = λ us e ds es h k. alike.same_breach us (are-alike us e) ds es h k;
  same_refusal = λ us e count v r. refusal-bare (grammar language Current) limits ts us count v e r;
}
  where
    alike : RestsOnAlikeTokens language limits ts
    alike = rests-on-alike-tokens language reader read limits ts

    are-alike : (us : List Token) → bares ts ≡ bares us → AreAlike (bares ts) (bares us)
    are-alike us e = alike-same (bares ts) (bares us) e

-- ---- the former edition

former-tree : {D Document : Type 0} (language : Language D Document) (reader : Limits → Reader (List D)) → IsRead language reader → (limits : Limits) (ts : List Token) (ds : List D) → grammar language Former limits ts ds → grammar language Current limits ts ds
former-tree language reader read limits ts ds h = (includes-whole read.includes limits).by ts ds h

-- the last token of a list that has a tree is the end of the text
pub record EndsWell (ts : List Token) : Type 0 where
  pub front : List Token
  pub last : Token
  pub joined : ts ≡ front ++ last ∷ []
  pub is_end : last.bare.kind ≡ End

pub ends-well : {A : Type 0} (p : Limits → Rel A) (limits : Limits) (ts : List Token) (a : A) → whole p limits ts a → EndsWell ts
ends-well p limits ts a h = record {
  front = h.holds.front;
  last = h.value.1;
  joined = h.holds.joined ∙ ap (λ (l : List Token). h.holds.front ++ l) h.holds.second.0;
  is_end = ap (λ (t : Bare). t.kind) (the_end-is h.value.1.bare h.holds.second.1);
}

-- ---- what a parser is made of

pub is-read-by : {D Document : Type 0} (language : Language D Document) (reader : Limits → Reader (List D)) → IsRead language reader → IsReadBy language reader
is-read-by language reader read = record {
  accepts = λ limits ts ends proper ds rest e. let said = says language reader read limits ts (Read ds rest) ends proper e in (said.0, said.1.tree);
  refuses = λ limits ts ends proper v t after e. refused language reader read limits ts after t v ends proper e;
  only = λ limits ts ends proper ds h. the-tree language reader read limits ts ds ends proper h;
  decided = λ limits ts ends proper. is-decided language reader read limits ts ends proper;
  one_tree = has-one-tree language reader read;
  bare = rests-on-bare-tokens language reader read;
  alike = rests-on-alike-tokens language reader read;
}

-- ---- what is said of a text

-- What is read of the tokens that a lexer cuts from a text is read of the text: it cuts them in one way, and those of
-- the former edition in the same.
pub reads-text : {D Document : Type 0} (language : Language D Document) (reader : Limits → Reader (List D)) → IsRead language reader → (limits : Limits) (text : List ℕ) (from to : Lexing) (result : Result Document Error) → IsCutInto text (left from) → ((ts : List Token) → IsCutInto text ts → ts ≡ left from) → ((ts : List Token) → HasNoFault ts → Cuts Former [] (chars text) ts → ts ≡ left from) → ReadsTokens language limits from to result → ReadsText language limits text result
reads-text language reader read limits text from to result cut only only-former reads = record {
  cut = (left from, cut);
  answer = λ ts cut. subst (λ us. Answers language limits us result) (sym (only ts cut)) reads.answer;
  former = λ ts ds cut h.
      let now = former-tree language reader read limits ts ds h in
      let end = ends-well (language.definitions Current) limits ts ds now in
      let cut_now = former-cuts text ts cut end.front end.last end.joined end.is_end in
      let same = only ts cut_now in
      (cut_now, subst (λ us. AreTheDefinitions language limits us ds) (sym same) (reads.only ds (subst (λ us. grammar language Current limits us ds) same now)));
  former_tokens = λ ts no_fault cut. subst (λ us. Answers language limits us result) (sym (only-former ts no_fault cut)) reads.answer;
  one_answer = λ ts cut. subst (HasOneAnswer language limits) (sym (only ts cut)) reads.one_answer;
  one_tree = λ ts cut. subst (HasOneTree language) (sym (only ts cut)) reads.one_tree;
  decided = λ ts cut. subst (IsDecided language limits) (sym (only ts cut)) reads.decided;
  bare = λ ts cut. subst (RestsOnBareTokens language limits) (sym (only ts cut)) reads.bare;
}

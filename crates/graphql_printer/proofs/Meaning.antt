-- A text with tokens that are alike has the same tree, except for places.
use Rattle.std.proofs.Common.{◌≡◌, ℕ, Result, Ok, Err, IfOk, String, Global, string_bytes, List, [], ◌∷◌, ◌++◌, inl, map, refl, sym, ◌∙◌, subst}
use Rattle.std.proofs.lemmas.Str.{IsUtf8-string_bytes}
use Rattle.std.specs.Str.{chars, IsUtf8}
use Rattle.graphql_tokens.specs.tokens.Alike.{AreAlike}
use Rattle.graphql_tokens.specs.tokens.Cuts.{IsCutInto, EndsOnce}
use Rattle.graphql_tokens.specs.tokens.Edition.{Current}
use Rattle.graphql_tokens.specs.tokens.Proper.{AreProperButFaults}
use Rattle.graphql_tokens.specs.tokens.Token.{Bare, Token}
use Rattle.graphql_tokens.proofs.Lists.{cuts_ends, tokens_only}
use Rattle.graphql_tokens.proofs.Propers.{cuts_proper, text_scalars}
use Rattle.graphql_reading.specs.grammar.Fronts.{bares}
use Rattle.graphql_reading.specs.grammar.Limits.{Limits}
use Rattle.graphql_reading.specs.reading.Outcome.{Reader}
use Rattle.graphql_reading.proofs.IgnoresPlaces.{alike-append}
use Rattle.graphql_parser.specs.Checking.{checked}
use Rattle.graphql_grammar.specs.answers.Answers.{AreTheDefinitions, BreakAlike}
use Rattle.graphql_grammar.specs.answers.Language.{Language}
use Rattle.graphql_grammar.specs.answers.Reads.{ReadsText}
use Rattle.graphql_grammar.specs.reading.ReadBy.{IsReadBy}
use Rattle.graphql_layout.specs.texts.LaidOut.{IsLaidOut}
use Rattle.graphql_layout.specs.texts.Minified.{IsMinified}
use Rattle.graphql_layout.specs.texts.Shortened.{shortened}
use Rattle.graphql_layout.specs.texts.SameTokens.{bare_end, HaveAlikeTokens}
use Rattle.graphql_printer.specs.Rewritten.{MeanTheSame}

one_cut : (text : List ℕ) (ts us : List Token) → IsCutInto text ts → IsCutInto text us → ts ≡ us
one_cut text ts us c d = tokens_only [] (chars text) ts c ∙ sym (tokens_only [] (chars text) us d)

-- The definitions are the one tree of the text; the other text has its one tree too, the same but for its places, and it breaks
-- the same rules.
pub record IsToldAgain {D Document : Type 0} (language : Language D Document) (limits : Limits) (text other : List ℕ) (definitions : List D) : Type 0 where
  pub other_definitions : List D
  pub tree : (tokens : List Token) → IsCutInto text tokens → AreTheDefinitions language limits tokens definitions
  pub other_tree : (tokens : List Token) → IsCutInto other tokens → AreTheDefinitions language limits tokens other_definitions
  pub same : language.placeless definitions ≡ language.placeless other_definitions
  pub breaks : BreakAlike language definitions other_definitions

pub told_again : {D Document : Type 0} (language : Language D Document) (reader : Limits → Reader (List D)) → IsReadBy language reader → (limits : Limits) (text other : List ℕ) → IsUtf8 other
    → (m : HaveAlikeTokens text other) (definitions : List D) → AreTheDefinitions language limits m.of_text.0 definitions → IsToldAgain language limits text other definitions
told_again {D} {Document} language reader read limits text other utf8 m definitions is =
    let ts = m.of_text.0 in
    let us = m.of_other.0 in
    let cut_other = m.of_other.1 in
    let ended = alike-append m.tokens m.others (bare_end ∷ []) (bare_end ∷ []) m.alike (inl refl, tt) in
    let alike : AreAlike (bares ts) (bares us) = subst (λ (l : List Bare). AreAlike (bares ts) l) (sym m.of_other.2) (subst (λ (l : List Bare). AreAlike l (m.others ++ bare_end ∷ [])) (sym m.of_text.2) ended) in
    let ends : EndsOnce us = cuts_ends Current [] (chars other) us cut_other in
    let proper : AreProperButFaults us = cuts_proper [] (chars other) us (text_scalars other utf8) cut_other in
    let rests = read.alike limits ts in
    let t = rests.has_tree us alike definitions is.within in
    record {
      other_definitions = t.0;
      tree = λ vs c. subst (λ (l : List Token). AreTheDefinitions language limits l definitions) (one_cut text ts vs m.of_text.1 c) is;
      other_tree = λ vs c. subst (λ (l : List Token). AreTheDefinitions language limits l t.0) (one_cut other us vs cut_other c) (read.only limits us ends proper t.0 t.1);
      same = rests.same_tree us alike definitions t.0 is.within t.1;
      breaks = rests.same_breach us alike definitions t.0 is.within t.1;
    }

pub mean_the_same : {D Document : Type 0} (language : Language D Document) (reader : Limits → Reader (List D)) → IsReadBy language reader → (limits : Limits) (text other : List ℕ) → IsUtf8 other
    → ReadsText (checked language) limits text (Ok tt) → HaveAlikeTokens text other → MeanTheSame language limits text other
mean_the_same language reader read limits text other utf8 reads m =
    let a = reads.answer m.of_text.0 m.of_text.1 in
    let t = told_again language reader read limits text other utf8 m a.0 a.1 in
    record {
      definitions = a.0;
      other_definitions = t.other_definitions;
      tree = t.tree;
      other_tree = t.other_tree;
      same = t.same;
      sound = (a.2.unbroken, a.2.complete);
      other_sound = (t.breaks.unbroken a.2.unbroken, t.breaks.complete a.2.complete);
    }

pub alike : (text other : List ℕ) → IsMinified text other → HaveAlikeTokens text other
alike text other m = record { tokens = m.tokens; others = map shortened m.tokens; of_text = m.of_text; of_other = m.of_other; alike = m.alike }

pub minified_means_the_same : {D Document E : Type 0} (language : Language D Document) (reader : Limits → Reader (List D)) → IsReadBy language reader → (limits : Limits) (text : List ℕ) (result : Result (String Global) E)
    → ReadsText (checked language) limits text (Ok tt) → IfOk result (λ s. IsMinified text (string_bytes s)) → IfOk result (λ s. MeanTheSame language limits text (string_bytes s))
minified_means_the_same language reader read limits text (Ok s) reads m = mean_the_same language reader read limits text (string_bytes s) (IsUtf8-string_bytes s) reads (alike text (string_bytes s) m)
minified_means_the_same language reader read limits text (Err error) reads m = tt

pub laid_out_means_the_same : {D Document E : Type 0} (language : Language D Document) (reader : Limits → Reader (List D)) → IsReadBy language reader → (limits : Limits) (text : List ℕ) (result : Result (String Global) E)
    → ReadsText (checked language) limits text (Ok tt) → IfOk result (λ s. IsLaidOut text (string_bytes s)) → IfOk result (λ s. MeanTheSame language limits text (string_bytes s))
laid_out_means_the_same language reader read limits text (Ok s) reads m = mean_the_same language reader read limits text (string_bytes s) (IsUtf8-string_bytes s) reads m.tokens
laid_out_means_the_same language reader read limits text (Err error) reads m = tt

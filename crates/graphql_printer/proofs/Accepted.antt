-- Tokens that have a tree, and a text that was accepted, have no fault.
use Rattle.std.proofs.Common.{ℕ, Ok, List, [], ◌∷◌, ◌++◌, sym, subst}
use Rattle.std.specs.Str.{chars}
use Rattle.graphql_tokens.specs.tokens.Cuts.{IsCutInto, EndsOnce, HasNoFault}
use Rattle.graphql_tokens.specs.tokens.Edition.{Current}
use Rattle.graphql_tokens.specs.tokens.Token.{Token}
use Rattle.graphql_tokens.proofs.Editions.{no_fault}
use Rattle.graphql_tokens.proofs.Lists.{cuts_ends}
use Rattle.graphql_reading.specs.grammar.Limits.{Limits}
use Rattle.graphql_parser.specs.Checking.{checked}
use Rattle.graphql_grammar.specs.answers.Answers.{AreTheDefinitions}
use Rattle.graphql_grammar.specs.answers.Language.{Language}
use Rattle.graphql_grammar.specs.answers.Reads.{ReadsText}
use Rattle.graphql_grammar.proofs.Languages.{ends-well}
use Rattle.graphql_layout.specs.texts.SameTokens.{HasFault}

-- tokens that have a tree
pub no_fault_of : {D Document : Type 0} (language : Language D Document) (limits : Limits) (text : List ℕ) (ts : List Token) → IsCutInto text ts → (ds : List D) → AreTheDefinitions language limits ts ds → HasNoFault ts
no_fault_of language limits text ts cut ds tree =
    let last = ends-well (language.definitions Current) limits ts ds tree.within in
    let ends : EndsOnce (last.front ++ last.last ∷ []) = subst EndsOnce last.joined (cuts_ends Current [] (chars text) ts cut) in
    subst HasNoFault (sym last.joined) (no_fault last.front last.last ends last.is_end)

-- a text with a tree
pub has_no_fault : {D Document : Type 0} (language : Language D Document) (limits : Limits) (text : List ℕ) → ((tokens : List Token) → IsCutInto text tokens → (ds : List D) × AreTheDefinitions language limits tokens ds) → ¬ (HasFault text)
has_no_fault language limits text tree fault =
    let a = tree fault.0 fault.1 in
    fault.2 (no_fault_of language limits text fault.0 fault.1 a.0 a.1)

pub accepted : {D Document : Type 0} (language : Language D Document) (limits : Limits) (text : List ℕ) → ReadsText (checked language) limits text (Ok tt) → ¬ (HasFault text)
accepted language limits text reads = has_no_fault language limits text (λ tokens cut. let a = reads.answer tokens cut in (a.0, a.1))

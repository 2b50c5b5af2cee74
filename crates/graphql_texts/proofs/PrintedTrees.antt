-- A tree that is printed, with a line feed after it, makes the document again.
use Rattle.std.proofs.Common.{◌≡◌, ℕ, Ok, List, [], ◌++◌, refl, ap, ◌∙◌}
use lib.Utf8.{encode}
use Rattle.std.specs.Str.{chars, IsUtf8}
use Rattle.graphql_tokens.specs.tokens.Cuts.{IsCutInto}
use Rattle.graphql_tokens.specs.inner.Reading.{tokens}
use Rattle.graphql_tokens.proofs.Lists.{tokens_cuts}
use Rattle.graphql_parser.specs.notation.Limits.{Limits}
use Rattle.graphql_parser.specs.answers.Language.{Language as Described}
use Rattle.graphql_parser.specs.answers.Reads.{ReadsText}
use Rattle.graphql_reading.specs.reading.Outcome.{Reader}
use Rattle.graphql_grammar.specs.reading.ReadBy.{IsReadBy}
use Rattle.graphql_printer.specs.Printed.{IsPrinted, MakesTheSame}
use Rattle.graphql_printer.proofs.Accepted.{no_fault_of}
use Rattle.graphql_printer.proofs.Meaning.{told_again}
use Rattle.graphql_printer.proofs.Parsed.{of_parsed}
use Rattle.graphql_texts.specs.checked.Rewritten.{Prints}
use Rattle.graphql_texts.proofs.LineFeeds.{same_tokens_then}

-- a text that makes something makes the same with a line feed after it
makes_then : {D Document T : Type 0} (language : Described D Document) (reader : Limits → Reader (List D)) → IsReadBy language reader → (made_of : List D → T) (limits : Limits) (definitions : List D)
    → (text new : List ℕ) → IsUtf8 text → IsUtf8 new → new ≡ text ++ encode 10 → MakesTheSame language made_of limits definitions text → MakesTheSame language made_of limits definitions new
makes_then language reader read made_of limits definitions text new utf8 utf8_new e made =
    let ts = tokens [] (chars text) in
    let cut : IsCutInto text ts = tokens_cuts [] (chars text) in
    let same = same_tokens_then text new utf8 e ts cut (no_fault_of language limits text ts cut made.other_definitions (made.tree ts cut)) in
    let t = told_again language reader read limits text new utf8_new same made.other_definitions (made.tree same.of_text.0 same.of_text.1) in
    record {
      other_definitions = t.other_definitions;
      tree = t.other_tree;
      sound = (t.breaks.unbroken made.sound.0, t.breaks.complete made.sound.1);
      same = made.same ∙ ap made_of t.same;
    }

-- what a parse gives of a text, printed
pub prints_then : {D Document T : Type 0} (language : Described D Document) (reader : Limits → Reader (List D)) → IsReadBy language reader → (made_of : List D → T) (limits : Limits) (text : List ℕ) (document : Document) (printed new : List ℕ)
    → IsUtf8 text → IsUtf8 printed → IsUtf8 new → ReadsText language limits text (Ok document) → IsPrinted language made_of document printed → new ≡ printed ++ encode 10 → Prints language made_of limits text new
prints_then language reader read made_of limits text document printed new utf8 utf8_printed utf8_new reads is e =
    let of = of_parsed language limits text document utf8 reads in
    (document, of, makes_then language reader read made_of limits of.definitions printed new utf8_printed utf8_new e (is limits text (record { other = document; of = of; definitions = of.definitions; made = of.made; same = refl })))

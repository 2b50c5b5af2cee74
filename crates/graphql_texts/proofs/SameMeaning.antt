-- A good text has no fault, and a text with the same tokens means the same.
use Rattle.std.proofs.Common.{ℕ, Bool, true, inl, inr, List, refl}
use Rattle.std.specs.Str.{IsUtf8}
use Rattle.graphql_parser.specs.tokens.Cuts.{IsCutInto}
use Rattle.graphql_parser.specs.tokens.Token.{Token}
use Rattle.graphql_parser.specs.notation.Limits.{Limits}
use Rattle.graphql_parser.specs.answers.Language.{Language as Described}
use Rattle.graphql_parser.specs.requests.Requests.{requests}
use Rattle.graphql_parser.specs.schemas.Schemas.{schemas}
use Rattle.graphql_reading.specs.reading.Outcome.{Reader}
use Rattle.graphql_grammar.specs.reading.ReadBy.{IsReadBy}
use Rattle.graphql_requests.specs.reading.Request as request
use Rattle.graphql_requests.proofs.RequestProductions.{requests-read-by}
use Rattle.graphql_schemas.specs.reading.SchemaFile as schema_file
use Rattle.graphql_schemas.proofs.SchemaFileProductions.{schemas-read-by}
use Rattle.graphql_layout.specs.texts.SameTokens.{HasFault, HaveAlikeTokens}
use Rattle.graphql_printer.specs.Rewritten.{MeanTheSame}
use Rattle.graphql_printer.proofs.Accepted.{has_no_fault}
use Rattle.graphql_printer.proofs.Meaning.{told_again}
use Rattle.graphql_report.specs.declared.fronts.Language.{Language}
use Rattle.graphql_report.specs.declared.fronts.Language.TheVariants.{Requests, Schemas}
use Rattle.graphql_texts.specs.checked.Good.{HasDocument, IsGoodText}
use Rattle.graphql_texts.specs.checked.Rewritten.{lacking_nothing, MeanTheSameAs}

-- ---- where fragments may stand alone

lenient : {D Document : Type 0} (language : Described D Document) (fragments : Bool) (limits : Limits) (tokens : List Token) → HasDocument fragments language limits tokens → HasDocument true language limits tokens
lenient language fragments limits tokens h = record { definitions = h.definitions; tree = h.tree; unbroken = h.unbroken; complete = elim h.complete [ inl none ↦ inl none | inr lacks ↦ inr (refl, lacks.1) ] }

pub good_leniently : (fragments : Bool) (language : Language) (limits : Limits) (text : List ℕ) → IsGoodText fragments language limits text → IsGoodText true language limits text
good_leniently fragments Requests limits text good tokens cut = lenient requests fragments limits tokens (good tokens cut)
good_leniently fragments Schemas limits text good tokens cut = lenient schemas fragments limits tokens (good tokens cut)

-- ---- a good text

pub no_fault_in : (language : Language) (limits : Limits) (text : List ℕ) → IsGoodText true language limits text → ¬ (HasFault text)
no_fault_in Requests limits text good = has_no_fault requests limits text (λ tokens cut. let d = good tokens cut in (d.definitions, d.tree))
no_fault_in Schemas limits text good = has_no_fault schemas limits text (λ tokens cut. let d = good tokens cut in (d.definitions, d.tree))

lacks_nothing : {D Document : Type 0} (language : Described D Document) (reader : Limits → Reader (List D)) → IsReadBy language reader → (limits : Limits) (text other : List ℕ) → IsUtf8 other
    → ((tokens : List Token) → IsCutInto text tokens → HasDocument true language limits tokens) → HaveAlikeTokens text other → MeanTheSame (lacking_nothing language) limits text other
lacks_nothing language reader read limits text other utf8 good m =
    let d = good m.of_text.0 m.of_text.1 in
    let t = told_again language reader read limits text other utf8 m d.definitions d.tree in
    record {
      definitions = d.definitions;
      other_definitions = t.other_definitions;
      tree = t.tree;
      other_tree = t.other_tree;
      same = t.same;
      sound = (d.unbroken, refl);
      other_sound = (t.breaks.unbroken d.unbroken, refl);
    }

pub means_the_same : (language : Language) (limits : Limits) (text other : List ℕ) → IsUtf8 other → IsGoodText true language limits text → HaveAlikeTokens text other → MeanTheSameAs language limits text other
means_the_same Requests limits text other utf8 good m = lacks_nothing requests request.definitions_at requests-read-by limits text other utf8 good m
means_the_same Schemas limits text other utf8 good m = lacks_nothing schemas schema_file.definitions_at schemas-read-by limits text other utf8 good m

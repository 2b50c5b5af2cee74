-- Ranges of a text, and diagnostics whose ranges are.
-- Source: Language Server Protocol 3.17, "Range" and "Diagnostic".
use Rattle.std.specs.Prelude.{◌≡◌, ⊤, ℕ, List, [], ◌∷◌, IfSome, string_bytes}
use Rattle.text_edits.specs.declared.Encoding.{Encoding}
use Rattle.text_edits.specs.declared.Range.{Range}
use Rattle.text_edits.specs.Positions.{IsPosition, position_of}
use Rattle.graphql_texts.specs.declared.diagnoses.Span.{Span}
use Rattle.graphql_texts.specs.declared.diagnoses.Diagnosis.{Diagnosis}
use Rattle.graphql_server.specs.declared.messages.Diagnostic.{Diagnostic}

-- both ends are positions of the text
pub record IsRange (encoding : Encoding) (text : List ℕ) (range : Range) : Type 0 where
  pub starts : IsPosition encoding text range.start
  pub ends : IsPosition encoding text range.end

-- the range of the diagnostic is one of the text, and so is that of a place beside it
pub record IsDiagnosticOf (encoding : Encoding) (text : List ℕ) (diagnostic : Diagnostic) : Type 0 where
  pub shown : IsRange encoding text diagnostic.range
  pub related : IfSome diagnostic.related (λ place. IsRange encoding text place.location.range)

-- the range is that of these offsets
pub record IsRangeOf (encoding : Encoding) (text : List ℕ) (span : Span) (range : Range) : Type 0 where
  pub starts : range.start ≡ position_of encoding text span.start
  pub ends : range.end ≡ position_of encoding text span.end

-- the diagnostic says of the text what the diagnosis says: at the same place, with the same code and words
pub record Shows (encoding : Encoding) (text : List ℕ) (diagnosis : Diagnosis) (diagnostic : Diagnostic) : Type 0 where
  pub range : IsRangeOf encoding text diagnosis.span diagnostic.range
  pub code : diagnostic.code.now ≡ diagnosis.status.now
  pub message : string_bytes diagnostic.message ≡ string_bytes diagnosis.message

-- each diagnosis is shown by one diagnostic, in their order, and nothing else is
abbrev pub AllShown : Encoding → List ℕ → List Diagnosis → List Diagnostic → Type 0
AllShown encoding text [] [] = ⊤
AllShown encoding text [] (diagnostic ∷ diagnostics) = ⊥
AllShown encoding text (diagnosis ∷ diagnoses) [] = ⊥
AllShown encoding text (diagnosis ∷ diagnoses) (diagnostic ∷ diagnostics) =
    Shows encoding text diagnosis diagnostic × AllShown encoding text diagnoses diagnostics

-- Where in a text a diagnosis of it may be shown: within the text, at the beginnings of characters.
-- Source: this project's choice.
use Rattle.std.specs.Prelude.{◌≤◌, ℕ, List, IfSome}
use Rattle.std.specs.Str.{IsCharBoundary}
use Rattle.graphql_texts.specs.declared.diagnoses.Span.{Span}
use Rattle.graphql_texts.specs.declared.diagnoses.Diagnosis.{Diagnosis}

-- both offsets stand where a character of the text begins, or at its end, and the end not before the start
pub record IsWithin (text : List ℕ) (span : Span) : Type 0 where
  pub starts : IsCharBoundary text span.start
  pub ends : IsCharBoundary text span.end
  pub ordered : span.start ≤ span.end

-- all that the diagnosis shows is within the text: what is wrong, and the other place
pub record IsDiagnosisOf (text : List ℕ) (diagnosis : Diagnosis) : Type 0 where
  pub shown : IsWithin text diagnosis.span
  pub other : IfSome diagnosis.other (λ other. IsWithin text other.span)

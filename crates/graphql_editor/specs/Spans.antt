-- Parts of a text, bytes from one offset up to another, and how they lie in one another.
-- Source: Language Server Protocol 3.17, "DocumentSymbol" (a symbol's name lies in the whole of it) and "SelectionRange" (each
-- range lies in the next one). That the next one is longer is this project's choice.
use Rattle.std.specs.Prelude.{ℕ, ◌-◌, ◌<◌, ◌≤◌, List, length, IfSome}
use Rattle.std.specs.List.{AllAdjacentBelow}
use Rattle.graphql_editor.specs.declared.Span.{Span}
use Rattle.graphql_editor.specs.declared.Symbol.{Symbol}
use Rattle.graphql_editor.specs.declared.Fold.{Fold}
use Rattle.graphql_editor.specs.declared.Occurrence.{Occurrence}

-- the span is a part of a text of so many bytes
pub record IsSpanWithin (size : ℕ) (s : Span) : Type 0 where
  pub ordered : s.start ≤ s.end
  pub within : s.end ≤ size

-- the span is a part of this text
abbrev pub IsSpanOf : List ℕ → Span → Type 0
IsSpanOf text s = IsSpanWithin (length text) s

-- the inner span is a part of the outer one
pub record IsInside (inner outer : Span) : Type 0 where
  pub starts : outer.start ≤ inner.start
  pub ends : inner.end ≤ outer.end

-- and the outer one is longer
pub record IsInsideLonger (inner outer : Span) : Type 0 where
  pub inside : IsInside inner outer
  pub longer : inner.end - inner.start < outer.end - outer.start

-- each of the spans is in the next one, which is longer
abbrev pub AreGrowing : List Span → Type 0
AreGrowing spans = AllAdjacentBelow IsInsideLonger spans (length spans)

-- the symbol is one of a text of so many bytes
pub record IsSymbolWithin (size : ℕ) (symbol : Symbol) : Type 0 where
  pub name : IsSpanWithin size symbol.name
  pub whole : IsSpanWithin size symbol.whole
  pub detail : IfSome symbol.detail (IsSpanWithin size)
  pub inside : IsInside symbol.name symbol.whole

abbrev pub IsFoldWithin : ℕ → Fold → Type 0
IsFoldWithin size fold = IsSpanWithin size fold.span

abbrev pub IsNameWithin : ℕ → Occurrence → Type 0
IsNameWithin size name = IsSpanWithin size name.span

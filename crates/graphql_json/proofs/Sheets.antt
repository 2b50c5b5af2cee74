-- What tokens that are written do to a sheet.
use Rattle.std.proofs.Common.{◌≡◌, ◌^◌, ◌<◌, Bool, true, false, codes, Option, Some, None, List, [], ◌∷◌, ◌++◌, fold, IsUtf8, Ok, refl, ap, sym, ◌∙◌, subst}
use Rattle.std.specs.Option.{IfSome}
use Rattle.std.proofs.lemmas.Fmt.{IsAscii-decimal}
use Rattle.std.proofs.lemmas.Str.{IsUtf8-from_ascii, IsUtf8-append, IsUtf8-nil}
use Rattle.graphql_parser.specs.types.Pos.{Pos}
use Rattle.graphql_json.specs.declared.sheet.Sheet.TheInside.{Inside}
use Rattle.graphql_json.specs.inner.Sheets.{AreWritable, IsSheet, sheet_view}
use Rattle.graphql_json.specs.inner.Written.{Adds, shown_tokens}
use Rattle.json.specs.Lex.{tokens}
use Rattle.json.specs.Print.{ends, print, print_from, ArePrintable}
use Rattle.json.specs.Token.{Token}
use Rattle.json.proofs.Printed.Tokens.{tokens-print, print_from-append}
use Rattle.json.proofs.Printed.Utf8.{IsUtf8-separator, IsUtf8-key, IsUtf8-are_ascii}
use Rattle.json.proofs.Printed.Decimals.{IsNumber-decimal}

AreWritable-append : (ts us : List Token) → AreWritable ts → AreWritable us → AreWritable (ts ++ us)
AreWritable-append [] us h k = k
AreWritable-append (t ∷ ts) us h k = (h.0, h.1, AreWritable-append ts us h.2 k)

are_printable : (ts : List Token) → AreWritable ts → ArePrintable ts
unfolding ArePrintable
are_printable [] h = tt
are_printable (t ∷ ts) h = (h.0, are_printable ts h.2)

utf8_printed : (c : Bool) (ts : List Token) → AreWritable ts → IsUtf8 (print_from c ts)
unfolding print_from
utf8_printed c [] h = IsUtf8-nil
utf8_printed c (t ∷ ts) h = IsUtf8-append _ _ (IsUtf8-separator c t) (IsUtf8-append _ _ h.1 (utf8_printed (ends t) ts h.2))

abbrev last_ends : Bool → List Token → Bool
last_ends = fold (λ _ t. ends t)

last_ends-append : (c : Bool) (ts us : List Token) → last_ends c (ts ++ us) ≡ last_ends (last_ends c ts) us
last_ends-append c [] us = refl
last_ends-append c (t ∷ ts) us = last_ends-append (ends t) ts us

-- a sheet shows the tokens of which its text is a print
pub shows : (s : Inside) (h : IsSheet s) → sheet_view s ≡ h.written
shows s h = ap tokens h.text ∙ tokens-print h.written (are_printable h.written h.writable)

module _ (s v : Inside) (h : IsSheet s) (ts : List Token) (writable : AreWritable ts)
    (text : v.text.items ≡ s.text.items ++ print_from s.after_value ts) (place : v.after_value ≡ last_ends s.after_value ts) where
  pub grown : IsSheet v
  grown = record {
    written = h.written ++ ts;
    writable = AreWritable-append h.written ts h.writable writable;
    text = text ∙ (λ i. h.text i ++ print_from (h.place i) ts) ∙ sym (print_from-append false h.written ts);
    place = place ∙ ap (λ c. last_ends c ts) h.place ∙ sym (last_ends-append false h.written ts);
  }

  pub grown_view : sheet_view v ≡ sheet_view s ++ ts
  unfolding grown
  grown_view = shows v grown ∙ ap (λ l. l ++ ts) (sym (shows s h))

  pub adds : {E : Type 0} {u : Unit {0}} (old : List Token) → sheet_view s ≡ old → Adds {E = E} (Ok u) old (sheet_view v) ts
  adds old e = record { ok = grown_view ∙ ap (λ l. l ++ ts) e }

-- the whole text is UTF-8
pub text_of : (s : Inside) (h : IsSheet s) → s.text.items ≡ print (sheet_view s)
text_of s h = h.text ∙ ap print (sym (shows s h))

pub utf8_of : (s : Inside) (h : IsSheet s) → IsUtf8 s.text.items
utf8_of s h = subst IsUtf8 (sym h.text) (utf8_printed false h.written h.writable)

-- a place that is shown
pub shown_writable : (pos : Option Pos) → IfSome pos (λ p. (p.line < 2 ^ 64) × (p.column < 2 ^ 64)) → AreWritable (shown_tokens pos)
shown_writable None h = tt
shown_writable (Some pos) h = (
  tt,
  IsUtf8-key (codes "line") (IsUtf8-are_ascii _ refl),
  (
    IsNumber-decimal pos.line h.0,
    IsUtf8-from_ascii _ (IsAscii-decimal pos.line h.0),
    (tt, IsUtf8-key (codes "column") (IsUtf8-are_ascii _ refl), (IsNumber-decimal pos.column h.1, IsUtf8-from_ascii _ (IsAscii-decimal pos.column h.1), tt)),
  ),
)

pub shown_ends : (pos : Option Pos) → last_ends true (shown_tokens pos) ≡ true
shown_ends None = refl
shown_ends (Some pos) = refl

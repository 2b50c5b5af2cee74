-- How a report is put together.
use Rattle.std.proofs.Common.{◌≡◌, ℕ, List, [], ◌∷◌, ◌++◌, Option, Some, None, Result, Ok, Err, refl, sym, ap, subst, ◌∙◌, append_assoc, append-nil}
use Rattle.std.specs.Prelude.{IfOk, IsSomeAnd}
use Rattle.std.specs.Fmt.{decimal}
use Rattle.std.specs.Str.{chars, IsUtf8}
use Rattle.std.proofs.lemmas.Str.{chars-append}
use Rattle.graphql_tokens.specs.declared.pos.Pos.{Pos}
use Rattle.graphql_tokens.specs.tokens.Place.{place_after}
use Rattle.graphql_grammar.specs.declared.error.Error.{Error}
use Rattle.graphql_report.specs.declared.definitions.ErrorOffsets.{ErrorOffsets}
use Rattle.graphql_report.specs.declared.definitions.SecondPlace.{SecondPlace}
use Rattle.graphql_report.specs.declared.style.Style.{Style}
use Rattle.graphql_report.specs.declared.style.Part.TheVariants.{Place}
use Rattle.graphql_report.specs.inner.Told.{AddsMessage, AddsPart}
use Rattle.graphql_report.specs.reports.Findings.{IsPlaceIn}
use Rattle.graphql_report.specs.reports.Offsets.{AreErrorOffsets, AreOffsetsOf, IsOffsetOf, definition_places, second_remark}
use Rattle.graphql_report.specs.reports.Reports.{Shows, TellsLine, TellsSecond, styled, named, place_text}

pub place-in : (text front rest : List ℕ) (place : Pos) → IsUtf8 front → text ≡ front ++ rest → place ≡ place_after (chars front) → IsPlaceIn text place
place-in text front rest place utf8 e is = (chars front, chars rest, ap chars e ∙ chars-append front rest utf8, is)

-- ---- one place

pub place-shown : (file : List ℕ) (place : Pos) (shown front : List ℕ) → shown ≡ front ++ (decimal place.line ++ (58 ∷ []) ++ decimal place.column ++ (58 ∷ [])) → front ≡ named file (58 ∷ []) → shown ≡ place_text file place
place-shown file place shown front e named_front =
    let back : List ℕ = decimal place.line ++ (58 ∷ []) ++ decimal place.column ++ (58 ∷ []) in
    e ∙ ap (λ (l : List ℕ). l ++ back) named_front ∙ sym (
    ap (λ (l : List ℕ). l ++ decimal place.column ++ (58 ∷ [])) (append_assoc (named file (58 ∷ [])) (decimal place.line) (58 ∷ []))
    ∙ ap (λ (l : List ℕ). l ++ (58 ∷ [])) (append_assoc (named file (58 ∷ [])) (decimal place.line ++ (58 ∷ [])) (decimal place.column))
    ∙ append_assoc (named file (58 ∷ [])) (decimal place.line ++ (58 ∷ []) ++ decimal place.column) (58 ∷ []))

-- the place, a blank, the message, the end of its line, and the line of the place
pub part-told : (style : Style) (file : List ℕ) (place : Pos) (message shown excerpt old begun blank said line new : List ℕ) → shown ≡ place_text file place → begun ≡ old ++ styled style Place shown → blank ≡ begun ++ 32 ∷ [] → AddsMessage style message blank said → line ≡ said ++ 10 ∷ [] → new ≡ line ++ excerpt → AddsPart style file place message old new
part-told style file place message shown excerpt old begun blank said line new at e f m g h =
    let front : List ℕ = styled style Place (place_text file place) in
    let words : List ℕ = m.0 ++ 10 ∷ [] in (
      ((front ++ 32 ∷ []) ++ words) ++ excerpt,
      (m.0, m.1, (excerpt, refl)),
      h ∙ ap (λ (l : List ℕ). l ++ excerpt) (
          g ∙ ap (λ (l : List ℕ). l ++ 10 ∷ []) (m.2 ∙ ap (λ (l : List ℕ). l ++ m.0) (f ∙ ap (λ (l : List ℕ). l ++ 32 ∷ []) (e ∙ ap (λ (l : List ℕ). old ++ styled style Place l) at)))
          ∙ append_assoc ((old ++ front) ++ 32 ∷ []) m.0 (10 ∷ [])
          ∙ ap (λ (l : List ℕ). l ++ words) (append_assoc old front (32 ∷ []))
          ∙ append_assoc old (front ++ 32 ∷ []) words)
          ∙ append_assoc old ((front ++ 32 ∷ []) ++ words) excerpt,
    )

-- ---- both places

some-second : (P : SecondPlace → Type 0) (second : Option SecondPlace) (s : SecondPlace) → IsSomeAnd second P → second ≡ Some s → P s
some-second P second s is e = subst (λ (o : Option SecondPlace). IsSomeAnd o P) e is

none-second : (P : SecondPlace → Type 0) (second : Option SecondPlace) → IsSomeAnd second P → second ≡ None → ⊥
none-second P second is e = subst (λ (o : Option SecondPlace). IsSomeAnd o P) e is

-- it isn't there, and it is
clash : {A : Type 0} (second : Option SecondPlace) (s : SecondPlace) → second ≡ None → second ≡ Some s → A
clash second s none some = let e = sym none ∙ some in absurd cc

its-second : (style : Style) (file text : List ℕ) (places : List Pos) (remark : List ℕ) (offsets : ErrorOffsets) (s : SecondPlace) (part : List ℕ) → AreOffsetsOf text places remark offsets → offsets.second ≡ Some s → TellsLine style file s.place s.remark.now part → TellsSecond style file remark places part
its-second style file text [] remark offsets s part are e tells = clash offsets.second s are.1 e
its-second style file text (first ∷ []) remark offsets s part are e tells = clash offsets.second s are.1 e
its-second style file text (first ∷ place ∷ more) remark offsets s part are e tells =
    let is = some-second (λ o. IsOffsetOf text place o.offset × (o.place ≡ place) × (o.remark.now ≡ remark)) offsets.second s are.1 e in
    subst (λ (q : Pos). TellsLine style file q remark part) is.1 (subst (λ (r : List ℕ). TellsLine style file s.place r part) is.2 tells)

no-second : (style : Style) (file text : List ℕ) (places : List Pos) (remark : List ℕ) (offsets : ErrorOffsets) → AreOffsetsOf text places remark offsets → offsets.second ≡ None → TellsSecond style file remark places []
no-second style file text [] remark offsets are e = refl
no-second style file text (first ∷ []) remark offsets are e = refl
no-second style file text (first ∷ place ∷ more) remark offsets are e = absurd (none-second (λ o. IsOffsetOf text place o.offset × (o.place ≡ place) × (o.remark.now ≡ remark)) offsets.second are.1 e)

-- a report of two places
pub shows-both : (style : Style) (file text : List ℕ) (error : Error) (offsets : ErrorOffsets) (place : Pos) (s : SecondPlace) (message empty one report : List ℕ) → AreErrorOffsets text error offsets → offsets.second ≡ Some s → empty ≡ [] → AddsPart style file place message empty one → AddsPart style file s.place s.remark.now one report → Shows style file error (Some place) message report
shows-both style file text error offsets place s message empty one report are e none first second =
    (first.0, second.0, first.1, its-second style file text (definition_places error) (second_remark error) offsets s second.0 are e second.1, second.2 ∙ ap (λ (l : List ℕ). l ++ second.0) (first.2 ∙ ap (λ (l : List ℕ). l ++ first.0) none))

-- and of one
pub shows-one : (style : Style) (file text : List ℕ) (error : Error) (offsets : ErrorOffsets) (place : Pos) (message empty one : List ℕ) → AreErrorOffsets text error offsets → offsets.second ≡ None → empty ≡ [] → AddsPart style file place message empty one → Shows style file error (Some place) message one
shows-one style file text error offsets place message empty one are e none first =
    (first.0, [], first.1, no-second style file text (definition_places error) (second_remark error) offsets are e, first.2 ∙ ap (λ (l : List ℕ). l ++ first.0) none ∙ sym (append-nil first.0))

-- what holds of a result
pub if-ok : {A E : Type 0} (P Q : A → Type 0) (result : Result A E) → IfOk result P → ((a : A) → P a → Q a) → IfOk result Q
if-ok P Q (Ok a) h then = then a h
if-ok P Q (Err e) h then = tt

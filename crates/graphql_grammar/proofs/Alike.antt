-- Lists of definitions that are the same but for their places, break the same rule in the same definition.
use Rattle.std.proofs.Common.{◌≡◌, Option, Some, None, option_map, List, [], ◌∷◌, ◌++◌, length, map, refl, sym, ap, ap₂, ◌∙◌}
use Rattle.std.proofs.lemmas.List.{length-map}
use Rattle.graphql_grammar.specs.answers.Answers.{AreUnbroken, FirstBreach, BreakAlike}
use Rattle.graphql_grammar.specs.answers.Breaches.{or_else}
use Rattle.graphql_grammar.specs.answers.Language.{Language}
use Rattle.graphql_grammar.specs.declared.error.Error.{Error}
use Rattle.graphql_grammar.specs.errors.Errors.{placeless_error}
use Rattle.graphql_reading.proofs.IgnoresPlaces.{head-is, tail-is}

-- The rules of a language don't look at places: without them its definitions have the same errors, but for places.
pub record JudgesAlike {D Document : Type 0} (language : Language D Document) : Type 0 where
  pub one : D → D
  pub each : (ds : List D) → language.placeless ds ≡ map one ds
  pub breach : (before : List D) (d : D) → option_map placeless_error (language.breach before d) ≡ option_map placeless_error (language.breach (map one before) (one d))
  pub lack : (ds : List D) → option_map placeless_error (language.lack ds) ≡ option_map placeless_error (language.lack (map one ds))

-- ---- errors without their places

-- which of two rules is broken first
pub either : (x y v w : Option Error) → option_map placeless_error x ≡ option_map placeless_error v → option_map placeless_error y ≡ option_map placeless_error w → option_map placeless_error (or_else x y) ≡ option_map placeless_error (or_else v w)
either None y None w h k = k
either None y (Some b) w h k = absurd cc
either (Some a) y None w h k = absurd cc
either (Some a) y (Some b) w h k = h

none-alike : (x y : Option Error) → option_map placeless_error x ≡ option_map placeless_error y → x ≡ None → y ≡ None
none-alike x None h e = refl
none-alike None (Some b) h e = absurd cc
none-alike (Some a) (Some b) h e = absurd cc

some-alike : (x y : Option Error) (error : Error) → option_map placeless_error x ≡ option_map placeless_error y → x ≡ Some error → (other : Error) × (y ≡ Some other) × (placeless_error other ≡ placeless_error error)
some-alike None y error h e = absurd cc
some-alike (Some a) None error h e = absurd cc
some-alike (Some a) (Some b) error h e =
    let same : a ≡ error = cc in
    let alike : placeless_error a ≡ placeless_error b = cc in
    (b, refl, sym alike ∙ ap placeless_error same)

-- ---- the same position in another list

pub record SplitAlike {D : Type 0} (one : D → D) (es before : List D) (d : D) : Type 0 where
  pub front : List D
  pub middle : D
  pub back : List D
  pub split : es ≡ front ++ middle ∷ back
  pub same_front : map one before ≡ map one front
  pub same_middle : one d ≡ one middle

split-alike : {D : Type 0} (one : D → D) (before : List D) (d : D) (after es : List D) → map one (before ++ d ∷ after) ≡ map one es → SplitAlike one es before d
split-alike one [] d after [] h = absurd cc
split-alike one [] d after (e ∷ es) h = record { front = []; middle = e; back = es; split = refl; same_front = refl; same_middle = head-is (one d) (one e) (map one after) (map one es) h }
split-alike one (b ∷ before) d after [] h = absurd cc
split-alike {D} one (b ∷ before) d after (e ∷ es) h =
    let s = split-alike one before d after es (tail-is (one b) (one e) (map one (before ++ d ∷ after)) (map one es) h) in
    record {
      front = e ∷ s.front;
      middle = s.middle;
      back = s.back;
      split = ap (λ (l : List D). e ∷ l) s.split;
      same_front = ap₂ (λ (x : D) (l : List D). x ∷ l) (head-is (one b) (one e) (map one (before ++ d ∷ after)) (map one es) h) s.same_front;
      same_middle = s.same_middle;
    }

-- ---- what the lists break

module _ {D Document : Type 0} (language : Language D Document) (judges : JudgesAlike language) where
  breach-alike : (before front : List D) (d middle : D) → map judges.one before ≡ map judges.one front → judges.one d ≡ judges.one middle → option_map placeless_error (language.breach before d) ≡ option_map placeless_error (language.breach front middle)
  breach-alike before front d middle h k =
      judges.breach before d ∙ ap₂ (λ (l : List D) (x : D). option_map placeless_error (language.breach l x)) h k ∙ sym (judges.breach front middle)

  unbroken-alike : (ds es : List D) → map judges.one ds ≡ map judges.one es → AreUnbroken language ds → AreUnbroken language es
  unbroken-alike ds es same unbroken before e after split =
      let s = split-alike judges.one before e after ds (sym (same ∙ ap (map judges.one) split)) in
      none-alike (language.breach s.front s.middle) (language.breach before e) (sym (breach-alike before s.front e s.middle s.same_front s.same_middle)) (unbroken s.front s.middle s.back s.split)

  first-alike : (ds es : List D) → map judges.one ds ≡ map judges.one es → (error : Error) (first : FirstBreach language ds error) → (other : Error) × (same : FirstBreach language es other) × (length same.before ≡ length first.before) × (placeless_error other ≡ placeless_error error)
  first-alike ds es same error first =
      let s = split-alike judges.one first.before first.broken first.after es (sym (ap (map judges.one) first.split) ∙ same) in
      let found = some-alike (language.breach first.before first.broken) (language.breach s.front s.middle) error (breach-alike first.before s.front first.broken s.middle s.same_front s.same_middle) first.is in (
        found.0,
        record { before = s.front; broken = s.middle; after = s.back; split = s.split; unbroken_before = unbroken-alike first.before s.front s.same_front first.unbroken_before; is = found.1 },
        sym (length-map s.front judges.one) ∙ ap length (sym s.same_front) ∙ length-map first.before judges.one,
        found.2,
      )

  lack-alike : (ds es : List D) → map judges.one ds ≡ map judges.one es → option_map placeless_error (language.lack ds) ≡ option_map placeless_error (language.lack es)
  lack-alike ds es same = judges.lack ds ∙ ap (λ (l : List D). option_map placeless_error (language.lack l)) same ∙ sym (judges.lack es)

  pub break-alike : (ds es : List D) → language.placeless ds ≡ language.placeless es → BreakAlike language ds es
  break-alike ds es h =
      let same : map judges.one ds ≡ map judges.one es = sym (judges.each ds) ∙ h ∙ judges.each es in
      record {
        breach = first-alike ds es same;
        unbroken = unbroken-alike ds es same;
        lacks = λ error. some-alike (language.lack ds) (language.lack es) error (lack-alike ds es same);
        complete = none-alike (language.lack ds) (language.lack es) (lack-alike ds es same);
      }

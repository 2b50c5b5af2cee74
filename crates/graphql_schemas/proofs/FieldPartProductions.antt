-- Interfaces, directives and fields, which may stand or not, are read exactly; and one of them at least, where a part is owed.
use Rattle.std.proofs.Common.{not, ◌≡◌, Bool, true, false, cond, ◌&&◌, ◌||◌, Option, None, List, [], ◌∷◌, refl, sym, ap, ◌∙◌}
use Rattle.graphql_tokens.specs.tokens.Edition.{Current}
use Rattle.graphql_tokens.specs.tokens.Token.{Token}
use Rattle.graphql_tokens.specs.declared.pos.Positioned.{Positioned}
use Rattle.graphql_syntax.specs.trees.Parts.{Directives}
use Rattle.graphql_trees.specs.trees.Schema.{Names, FieldDefinition}
use Rattle.graphql_reading.specs.grammar.Fronts.{syntax}
use Rattle.graphql_reading.specs.grammar.Limits.{Limits}
use Rattle.graphql_reading.specs.grammar.Relations.{Rel, ◌⨾◌}
use Rattle.graphql_reading.specs.grammar.Tests.{Test, punct, keyword}
use Rattle.graphql_reading.specs.reading.Outcome.{Outcome, Read, Refused, Reader, ◌>>=◌, then_at, mapped_at, choose_at, opt_at}
use Rattle.graphql_reading.proofs.Theory.{IsSubset, outside}
use Rattle.graphql_reading.proofs.TokenTests.{punct-within, within-both, within-first, within-second}
use Rattle.graphql_reading.proofs.ReadsExactly.{ReadsExactly, HasPhrase, exact-mapped, exact-choose, begins-mapped, begins-then, has-pair, has-map, has-first}
use Rattle.graphql_reading.proofs.Extra.{FirstWithin, exact-seq, exact-opt, has-opt}
use Rattle.graphql_reading.proofs.Optional.{exact-reader, opt-left, with-some, opt-then}
use Rattle.graphql_reading.proofs.IgnoresPlaces.{IgnoresPlaces, ignores-then, ignores-mapped, ignores-either, ignores-opt, map-given}
use Rattle.graphql_grammar.specs.grammar.Placeless.{unplaced, bare_node}
use Rattle.graphql_schemas.specs.grammar.Fields.{fields}
use Rattle.graphql_schemas.specs.grammar.Members.{implements}
use Rattle.graphql_schemas.specs.grammar.Placeless.{placeless_names, placeless_field}
use Rattle.graphql_schemas.specs.grammar.Types.{parts, Members, members_of, field_parts, no_interfaces, some_field_parts}
use Rattle.graphql_schemas.specs.reading.Fields.{fields_at}
use Rattle.graphql_schemas.specs.reading.Members.{implements_at}
use Rattle.graphql_schemas.specs.reading.Types.{parts_at, part_first, some_parts_at, field_parts_at, some_field_parts_at}
use Rattle.graphql_schemas.proofs.FieldProductions.{exact-fields, begins-fields, ignores-fields}
use Rattle.graphql_schemas.proofs.MemberProductions.{exact-implements, begins-implements, has-implements, ignores-implements}
use Rattle.graphql_schemas.proofs.PartProductions.{exact-parts, first-parts, has-parts, placeless-parts, ignores-parts, exact-some_parts, begins-some_parts, ignores-some_parts, no-punctuator, past-punctuator, past-parts}

-- ---- directives and fields

abbrev FieldParts : Type 0
FieldParts = Directives × List (Positioned FieldDefinition)

abbrev body-parts : Limits → Rel FieldParts
body-parts c = parts Current c (fields Current c)

-- what may follow interfaces: neither another one nor a second list of them
abbrev past-implements : Test
past-implements t = outside (keyword "implements") t && outside (punct "&") t

exact-body-parts : {b : Limits} {f : Test} → IsSubset f no-punctuator → ReadsExactly body-parts b f (parts_at b (punct "{") (fields_at b))
exact-body-parts ends = exact-parts begins-fields (punct-within "{" refl) (past-parts ends) (past-punctuator "{" ends) exact-fields

first-body-parts : {f : Test} → IsSubset f no-punctuator → IsSubset f (outside (keyword "implements")) → FirstWithin body-parts f past-implements
first-body-parts ends apart = first-parts begins-fields refl (punct-within "{" refl) (within-both apart (past-punctuator "&" ends))

has-body-parts : HasPhrase body-parts
has-body-parts = has-parts {p = fields Current}

-- ---- interfaces too

pub exact-field_parts : {b : Limits} {f : Test} → IsSubset f no-punctuator → IsSubset f (outside (keyword "implements")) → ReadsExactly (field_parts Current) b f (field_parts_at b)
exact-field_parts ends apart =
    exact-mapped (exact-seq {g = past-implements} (first-body-parts ends apart) has-body-parts
    (exact-opt begins-implements (within-first _ _) (exact-implements (within-second _ _)))
    (exact-body-parts ends))

pub has-field_parts : HasPhrase (field_parts Current)
has-field_parts = has-map (has-pair (has-opt {p = λ c. implements}) has-body-parts)

abbrev pub placeless-members : Members → Members
placeless-members x = (placeless_names x.0, placeless-parts (unplaced placeless_field) x.1)

pub ignores-field_parts : IgnoresPlaces (field_parts Current) placeless-members
ignores-field_parts =
    ignores-mapped (λ x. ap (λ (l : Names). (l, placeless-parts (unplaced placeless_field) x.1)) (map-given bare_node x.0))
    (ignores-then (ignores-opt ignores-implements) (ignores-parts ignores-fields))

pub no-field_parts : (limits : Limits) → field_parts_at limits [] ≡ Refused syntax []
unfolding opt_at
no-field_parts limits = refl

-- ---- one of the three at least

-- by the token in sight
abbrev interfaces-first_at : Limits → Reader Members
interfaces-first_at limits = then_at implements_at (parts_at limits (punct "{") (fields_at limits))

abbrev by-first_at : Limits → Reader Members
by-first_at limits = choose_at (keyword "implements") (interfaces-first_at limits) (mapped_at no_interfaces (some_parts_at true limits (punct "{") (fields_at limits)))

reads-by-first : (limits : Limits) (ts : List Token) → by-first_at limits ts ≡ some_field_parts_at true limits ts
reads-by-first limits [] = refl
reads-by-first limits (t ∷ ts) = go (keyword "implements" t.bare) refl
  where
    the-parts : Reader FieldParts
    the-parts = parts_at limits (punct "{") (fields_at limits)

    some-interfaces : (o : Outcome Members) → o ≡ ((o >>= λ x rest. Read (with-some x) rest) >>= λ x rest. Read (members_of x) rest)
    some-interfaces (Read x rest) = refl
    some-interfaces (Refused v rest) = refl

    none : (w : Bool) (o : Outcome FieldParts) → (cond (not w) (Refused syntax (t ∷ ts)) o >>= λ x rest. Read (no_interfaces x) rest) ≡ cond (not w) (Refused syntax (t ∷ ts)) ((o >>= λ x rest. Read (None, x) rest) >>= λ x rest. Read (members_of x) rest)
    none true (Read x rest) = refl
    none true (Refused v rest) = refl
    none false o = refl

    -- what is read after perhaps some interfaces, where one of the other parts is owed
    others : Outcome (Option Names) → Outcome Members
    others o = cond (not (part_first (punct "{") t.bare)) (Refused syntax (t ∷ ts)) ((o >>= λ names rest. the-parts rest >>= λ x rest'. Read (names, x) rest') >>= λ x rest. Read (members_of x) rest)

    go : (w : Bool) → keyword "implements" t.bare ≡ w → cond w (interfaces-first_at limits (t ∷ ts)) (cond (not (part_first (punct "{") t.bare)) (Refused syntax (t ∷ ts)) (the-parts (t ∷ ts)) >>= λ x rest. Read (no_interfaces x) rest) ≡ cond (not (w || part_first (punct "{") t.bare)) (Refused syntax (t ∷ ts)) (field_parts_at limits (t ∷ ts))
    go true e = some-interfaces (interfaces-first_at limits (t ∷ ts)) ∙ ap (λ (o : Outcome (Option Names × FieldParts)). o >>= λ x rest. Read (members_of x) rest) (sym (opt-then (keyword "implements") implements_at the-parts t ts e))
    go false e = none (part_first (punct "{") t.bare) (the-parts (t ∷ ts)) ∙ ap others (sym (opt-left (keyword "implements") implements_at t ts e))

abbrev interfaces-first : Limits → Rel Members
interfaces-first c = implements ⨾ body-parts c

pub exact-some_field_parts : {b : Limits} {f : Test} → IsSubset f no-punctuator → IsSubset f (outside (keyword "implements")) → ReadsExactly (some_field_parts Current) b f (some_field_parts_at true b)
exact-some_field_parts {b} ends apart =
    exact-reader (reads-by-first b)
    (exact-choose (begins-then {q = body-parts} begins-implements) (begins-mapped (begins-some_parts begins-fields refl (punct-within "{" refl)))
    (exact-seq {g = past-implements} (first-body-parts ends apart) has-body-parts (exact-implements (within-second _ _)) (exact-body-parts ends))
    (exact-mapped (exact-some_parts begins-fields (punct-within "{" refl) (past-parts ends) (past-punctuator "{" ends) exact-fields)))

pub has-some_field_parts : HasPhrase (some_field_parts Current)
has-some_field_parts = has-first {p = interfaces-first} (has-pair has-implements has-body-parts)

pub ignores-some_field_parts : IgnoresPlaces (some_field_parts Current) placeless-members
ignores-some_field_parts = ignores-either (ignores-then ignores-implements (ignores-parts ignores-fields)) (ignores-mapped (λ x. refl) (ignores-some_parts ignores-fields))

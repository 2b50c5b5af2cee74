-- What a definition of a schema file breaks, by what is kept of it.
use Rattle.std.proofs.Common.{◌≡◌, ℕ, Bool, true, false, cond, Option, Some, None, List, [], ◌∷◌, ◌++◌, refl, sym, ap, ◌∙◌}
use Rattle.std.specs.Option.{option_or}
use Rattle.graphql_tokens.specs.declared.pos.Positioned.{Positioned}
use Rattle.graphql_tokens.specs.tokens.Token.{Bare, Token}
use Rattle.graphql_trees.specs.trees.Schema.{Description}
use Rattle.graphql_syntax.specs.trees.Parts.{Directives}
use Rattle.graphql_grammar.specs.answers.Breaches.{or_else}
use Rattle.graphql_grammar.specs.declared.error.Error.{Error}
use Rattle.graphql_grammar.specs.reading.Arguments.{directives_at}
use Rattle.graphql_grammar.specs.reading.Values.{string_text, block_text}
use Rattle.graphql_reading.specs.grammar.Fronts.{syntax}
use Rattle.graphql_reading.specs.grammar.Limits.{Limits}
use Rattle.graphql_reading.specs.grammar.Tests.{Test, keyword, any_string, any_block}
use Rattle.graphql_reading.specs.reading.Ahead.{Ahead, tokens}
use Rattle.graphql_reading.specs.reading.Outcome.{Outcome, Read, Refused, Reader, ◌>>=◌, meant, meaning_at, one_at, then_at, mapped_at, choose_at, opt_at}
use Rattle.graphql_schemas.specs.grammar.Descriptions.{Text, text_of, place_of}
use Rattle.graphql_schemas.specs.grammar.Rules.{breach_of}
use Rattle.graphql_schemas.specs.grammar.Schema.{Root, Schema, schema_of, schema_extension_of}
use Rattle.graphql_schemas.specs.grammar.SchemaFile.{Definition, schema}
use Rattle.graphql_schemas.specs.reading.Descriptions.{is_text, description_at, maybe_description_at}
use Rattle.graphql_schemas.specs.reading.Directives.{directive_rest_at}
use Rattle.graphql_schemas.specs.reading.Finished.{breach_of_schema}
use Rattle.graphql_schemas.specs.reading.Schema.{roots_at, schema_rest_at, extended_schema_at}
use Rattle.graphql_schemas.specs.reading.SchemaFile.{of_schema, of_type, of_directive, with_description, undescribed_at, described_at, Extended, a_schema, a_type, extension_of, extension_at}
use Rattle.graphql_schemas.specs.reading.Types.{body_at}
use Rattle.graphql_parser.specs.Checked.{rest_of}
use Rattle.graphql_parser.specs.SchemaRules.{roots_of, first_breach}
use Rattle.graphql_parser.specs.declared.check.schemas.rules.Roots as code_roots
use Rattle.graphql_parser.proofs.Rests.{is-read}
use Rattle.graphql_grammar.proofs.Made.{is-made}

-- ---- where a definition stands

text-stands : (test : Test) (value : Bare → Option (List ℕ)) (t : Token) (ts : List Token) (text : Text) (rest : List Token) → mapped_at text_of (meaning_at test value) (t ∷ ts) ≡ Read text rest → text.pos ≡ t.pos
text-stands test value t ts text rest e = go (test t.bare) (value t.bare) e
  where
    go : (b : Bool) (o : Option (List ℕ)) → (cond b (meant t ts o) (Refused syntax (t ∷ ts)) >>= λ a rest'. Read (text_of a) rest') ≡ Read text rest → text.pos ≡ t.pos
    go true (Some bytes) e = let same : text ≡ text_of (t, bytes) = cc in ap (λ (x : Text). x.pos) same
    go true None e = absurd cc
    go false o e = absurd cc

description-stands : (t : Token) (ts : List Token) (text : Text) (rest : List Token) → description_at (t ∷ ts) ≡ Read text rest → text.pos ≡ t.pos
description-stands t ts text rest e = go (any_string t.bare) e
  where
    go : (b : Bool) → cond b (mapped_at text_of (meaning_at any_string string_text) (t ∷ ts)) (mapped_at text_of (meaning_at any_block block_text) (t ∷ ts)) ≡ Read text rest → text.pos ≡ t.pos
    go true e = text-stands any_string string_text t ts text rest e
    go false e = text-stands any_block block_text t ts text rest e

-- at the token that was in hand before its description
stands : (t : Token) (ts : List Token) (description : Description) (word : Token) (after : List Token) → maybe_description_at (t ∷ ts) ≡ Read description (word ∷ after) → place_of description word.pos ≡ t.pos
unfolding opt_at
stands t ts description word after e = go (is_text t.bare) e
  where
    there : (o : Outcome Text) → description_at (t ∷ ts) ≡ o → (o >>= λ a rest. Read (Some a) rest) ≡ Read description (word ∷ after) → place_of description word.pos ≡ t.pos
    there (Read text rest) is e =
        let same : description ≡ Some text = cc in
        ap (λ (d : Description). place_of d word.pos) same ∙ description-stands t ts text rest is
    there (Refused v rest) is e = absurd cc

    go : (b : Bool) → cond b (mapped_at Some description_at (t ∷ ts)) (Read None (t ∷ ts)) ≡ Read description (word ∷ after) → place_of description word.pos ≡ t.pos
    go true e = there (description_at (t ∷ ts)) refl e
    go false e =
        let none : description ≡ None = cc in
        let first : word ≡ t = cc in
        ap (λ (d : Description). place_of d word.pos) none ∙ ap (λ (w : Token). w.pos) first

-- the first token that is read
first-word : {A : Type 0} (test : Test) (r : Reader A) (t : Token) (ts : List Token) (word : Token) (a : A) (rest : List Token) → then_at (one_at test) r (t ∷ ts) ≡ Read (word, a) rest → word ≡ t
first-word {A} test r t ts word a rest e = go (test t.bare) e
  where
    pair : Token → A → List Token → Outcome (Token × A)
    pair w b rest' = Read (w, b) rest'

    others : Token → List Token → Outcome (Token × A)
    others w rest' = r rest' >>= pair w

    front : Outcome (Token × A) → Token
    front (Read x rest') = x.0
    front (Refused v rest') = t

    found : Outcome (Token × A)
    found = Read (word, a) rest

    read : (o : Outcome A) → (o >>= pair t) ≡ found → word ≡ t
    read (Read b rest') e = sym (ap front e)
    read (Refused v rest') e = absurd cc

    go : (b : Bool) → (cond b (Read t ts) (Refused syntax (t ∷ ts)) >>= others) ≡ found → word ≡ t
    go true e = read (r ts) e
    go false e = absurd cc

-- ---- definitions and extensions of schemas

made : {A B : Type 0} (f : A → B) (r : Reader A) (ts : List Token) (a : A) (rest : List Token) → r ts ≡ Read a rest → mapped_at f r ts ≡ Read (f a) rest
made f r ts a rest h = ap (λ (o : Outcome _). o >>= λ a rest'. Read (f a) rest') h

both : {A B : Type 0} (r : Reader A) (s : Reader B) (ts : List Token) (a : A) (mid : List Token) (b : B) (rest : List Token) → r ts ≡ Read a mid → s mid ≡ Read b rest → then_at r s ts ≡ Read (a, b) rest
both {A} {B} r s ts a mid b rest h k = ap (λ (o : Outcome A). o >>= λ a rest'. s rest' >>= λ b rest''. Read (a, b) rest'') h ∙ ap (λ (o : Outcome B). o >>= λ b rest'. Read (a, b) rest') k

chosen : {A : Type 0} (test : Test) (r s : Reader A) (t : Token) (ts : List Token) (o : Outcome A) → test t.bare ≡ true → r (t ∷ ts) ≡ o → choose_at test r s (t ∷ ts) ≡ o
chosen test r s t ts o at h = ap (λ (b : Bool). cond b (r (t ∷ ts)) (s (t ∷ ts))) at ∙ h

abbrev pub roots-in : Token × (Directives × List Root) → code_roots.Roots
roots-in rest = roots_of rest.1.1

pub described-schema : (limits : Limits) (old mid new : Ahead) (roots : code_roots.Roots) (breach : Option Error) → rest_of (maybe_description_at (tokens old)) ≡ Some (tokens mid) → keyword "schema" mid.hand.bare ≡ true → mapped_at roots-in (schema_rest_at limits) (tokens mid) ≡ Read roots (tokens new) → ((s : Positioned Schema) → old.hand.pos ≡ s.pos → false ≡ s.node.extend → roots ≡ roots_of s.node.roots → breach ≡ breach_of_schema s) → mapped_at (breach_of []) (described_at limits) (tokens old) ≡ Read breach (tokens new)
described-schema limits old mid new roots breach h at read by =
    let d = is-read (maybe_description_at (tokens old)) (tokens mid) h in
    let m = is-made roots-in (schema_rest_at limits (tokens mid)) roots (tokens new) read in
    go d.tree d.is m.tree m.is m.made
  where
    go : (description : Description) → maybe_description_at (tokens old) ≡ Read description (tokens mid) → (rest : Token × (Directives × List Root)) → schema_rest_at limits (tokens mid) ≡ Read rest (tokens new) → roots ≡ roots-in rest → mapped_at (breach_of []) (described_at limits) (tokens old) ≡ Read breach (tokens new)
    go description d (word, (directives, list)) m is =
        let first : word ≡ mid.hand = first-word (keyword "schema") (then_at (directives_at false limits.values) roots_at) mid.hand mid.after word (directives, list) (tokens new) m in
        let s : Positioned Schema = schema_of (description, (word, (directives, list))) in
        let here : old.hand.pos ≡ s.pos = sym (ap (λ (w : Token). place_of description w.pos) first ∙ stands old.hand old.after description mid.hand mid.after d) in
        made (breach_of []) (described_at limits) (tokens old) (schema s) (tokens new)
        (made with_description (then_at maybe_description_at (undescribed_at limits)) (tokens old) (description, of_schema (word, (directives, list))) (tokens new)
        (both maybe_description_at (undescribed_at limits) (tokens old) description (tokens mid) (of_schema (word, (directives, list))) (tokens new) d
        (chosen (keyword "schema") (mapped_at of_schema (schema_rest_at limits)) (choose_at (keyword "directive") (mapped_at of_directive (directive_rest_at limits)) (mapped_at of_type (body_at false limits))) mid.hand mid.after (Read (of_schema (word, (directives, list))) (tokens new)) at (made of_schema (schema_rest_at limits) (tokens mid) (word, (directives, list)) (tokens new) m))))
        ∙ ap (λ (b : Option Error). Read b (tokens new)) (sym (by s here refl is))

pub extended-schema : (limits : Limits) (old mid new : Ahead) (extend : Token) (roots : code_roots.Roots) (breach : Option Error) → one_at (keyword "extend") (tokens old) ≡ Read extend (tokens mid) → keyword "schema" mid.hand.bare ≡ true → mapped_at roots-in (extended_schema_at limits) (tokens mid) ≡ Read roots (tokens new) → ((s : Positioned Schema) → extend.pos ≡ s.pos → true ≡ s.node.extend → roots ≡ roots_of s.node.roots → breach ≡ breach_of_schema s) → mapped_at (breach_of []) (extension_at limits) (tokens old) ≡ Read breach (tokens new)
extended-schema limits old mid new extend roots breach h at read by =
    let m = is-made roots-in (extended_schema_at limits (tokens mid)) roots (tokens new) read in
    go m.tree m.is m.made
  where
    extended_at : Reader Extended
    extended_at = choose_at (keyword "schema") (mapped_at a_schema (extended_schema_at limits)) (mapped_at a_type (body_at true limits))

    go : (rest : Token × (Directives × List Root)) → extended_schema_at limits (tokens mid) ≡ Read rest (tokens new) → roots ≡ roots-in rest → mapped_at (breach_of []) (extension_at limits) (tokens old) ≡ Read breach (tokens new)
    go (word, (directives, list)) m is =
        let s : Positioned Schema = schema_extension_of (extend, (word, (directives, list))) in
        made (breach_of []) (extension_at limits) (tokens old) (schema s) (tokens new)
        (made extension_of (then_at (one_at (keyword "extend")) extended_at) (tokens old) (extend, a_schema (word, (directives, list))) (tokens new)
        (both (one_at (keyword "extend")) extended_at (tokens old) extend (tokens mid) (a_schema (word, (directives, list))) (tokens new) h
        (chosen (keyword "schema") (mapped_at a_schema (extended_schema_at limits)) (mapped_at a_type (body_at true limits)) mid.hand mid.after (Read (a_schema (word, (directives, list))) (tokens new)) at (made a_schema (extended_schema_at limits) (tokens mid) (word, (directives, list)) (tokens new) m))))
        ∙ ap (λ (b : Option Error). Read b (tokens new)) (sym (by s refl refl is))

-- ---- the first breach

pub breach-more : (front : List Definition) (d : Definition) → first_breach (front ++ d ∷ []) ≡ option_or (first_breach front) (breach_of [] d)
breach-more [] d = go (breach_of [] d)
  where
    go : (o : Option Error) → or_else o None ≡ o
    go None = refl
    go (Some e) = refl
breach-more (first ∷ front) d = go (breach_of [] first) (breach-more front d)
  where
    go : (o : Option Error) → first_breach (front ++ d ∷ []) ≡ option_or (first_breach front) (breach_of [] d) → or_else o (first_breach (front ++ d ∷ [])) ≡ option_or (or_else o (first_breach front)) (breach_of [] d)
    go None e = e
    go (Some x) e = refl

pub adds-breach : (first breach more : Option Error) → more ≡ option_or first breach → (front : List Definition) (d : Definition) → first ≡ first_breach front → breach ≡ breach_of [] d → more ≡ first_breach (front ++ d ∷ [])
adds-breach first breach more is front d h k = is ∙ (λ i. option_or (h i) (k i)) ∙ sym (breach-more front d)

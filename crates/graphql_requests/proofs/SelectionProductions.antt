-- Selections and selection sets are read exactly at every budget, and have phrases.
use Rattle.std.proofs.Common.{◌≡◌, ℕ, zero, suc, Bool, true, false, ◌||◌, IsTrue, ◌↔◌, codes, inl, Option, Some, None, List, [], ◌∷◌, ◌++◌, refl, sym, ap, ◌∙◌, subst, append-nil}
use Rattle.graphql_tokens.specs.declared.pos.Positioned.{Positioned}
use Rattle.graphql_tokens.specs.tokens.Edition.{Current}
use Rattle.graphql_tokens.specs.tokens.Token.{Token}
use Rattle.graphql_tokens.specs.tokens.Proper.{IsProper}
use Rattle.graphql_syntax.specs.trees.Parts.{Arguments, Directives}
use Rattle.graphql_trees.specs.trees.Request.{Selection}
use Rattle.graphql_reading.specs.grammar.Tests.{Test, punct, keyword, any_name}
use Rattle.graphql_reading.specs.grammar.Limits.{Limits}
use Rattle.graphql_reading.specs.grammar.Relations.{Rel, one, never, ◌⨾◌, ◌∪◌, mapped, plus, opt}
use Rattle.graphql_grammar.specs.grammar.Arguments.{arguments, directive_of, a_directive, directives}
use Rattle.graphql_requests.specs.grammar.Selections.{Set, aliased, a_field, fragment_name, spread_of, a_spread, condition_of, a_type_condition, inline_of, an_inline_fragment, a_selection, selection_set_of, a_set, selection_set}
use Rattle.graphql_reading.specs.reading.Outcome.{Reader, one_at, then_at, mapped_at, choose_at, opt_at, deep_at}
use Rattle.graphql_grammar.specs.reading.Arguments.{maybe_arguments_at, directives_at}
use Rattle.graphql_requests.specs.reading.Selections.{as_alias, aliased_at, field_at, type_condition_at, Inline, inline_first, inline_at, AfterDots, a_name, an_inline, dotted, dots_at, selection_first, selection_at, a_set_at, selection_set_at}
use Rattle.graphql_reading.proofs.Parts.{nested, below, of_selections}
use Rattle.graphql_reading.proofs.Theory.{Extends, IsSubset, outside}
use Rattle.graphql_reading.proofs.TokenTests.{punctuator, itself, within-either, punct-within, keyword-within, any_name-within, name_but-within, sample, word_of, HasSample, punct-sample, keyword-sample, name-sample, name-spells}
use Rattle.graphql_reading.proofs.ReadsExactly.{ReadsExactly, HasPhrase, BeginsWith, exact-punct, exact-keyword, exact-name, exact-name_but, exact-mapped, exact-next, exact-then-some, exact-choose, exact-nested, exact-deep, exact-same, begins-one, begins-within, begins-same, begins-mapped, begins-then, begins-either, begins-nested, has-token, has-pair, has-map, has-plus, has-first, extends-one}
use Rattle.graphql_reading.proofs.Extra.{FirstWithin, exact-seq, first-begins, first-opt, first-then, exact-plus-ahead, has-opt, exact-opt, begins-opt, begins-star, either-way, factored, sets-after, then-same, both-ways}
use Rattle.graphql_reading.proofs.Loop.{Takes, takes-one}
use Rattle.graphql_grammar.proofs.ArgumentProductions.{exact-maybe_arguments, first-maybe_arguments, has-maybe_arguments, begins-directive, exact-directives, first-directives, has-directives}

-- ---- names and aliases

-- a name, and perhaps `:` and a name after it
abbrev second-name : Rel Token
second-name = mapped (λ x. x.1) (one (punct ":") ⨾ one any_name)

abbrev turned : Rel (Option Token × Token)
turned = mapped (λ x. as_alias x.0 x.1) (one any_name ⨾ opt second-name)

unfactor : (x : List Token) (t : Option Token × Token) → turned x t → aliased x t
unfactor x t m = subst (λ (t : Option Token × Token). aliased x t) (sym m.is) (go m.value.1 m.holds.second)
  where
    n : Token
    n = m.value.0

    go : (o : Option Token) → opt second-name m.holds.back o → aliased x (as_alias n o)
    go None e = record { front = []; back = x; joined = refl; first = refl; second = (m.holds.joined ∙ ap (λ (l : List Token). m.holds.front ++ l) e ∙ append-nil m.holds.front ∙ m.holds.first.0, m.holds.first.1) }
    go (Some k) h = record {
      front = n ∷ h.value.0 ∷ [];
      back = h.value.1 ∷ [];
      joined = m.holds.joined ∙ ap (λ (l : List Token). l ++ m.holds.back) m.holds.first.0 ∙ ap (λ (l : List Token). n ∷ l) (h.holds.joined ∙ ap (λ (l : List Token). l ++ h.holds.back) h.holds.first.0 ∙ ap (λ (l : List Token). h.value.0 ∷ l) h.holds.second.0);
      first = record { value = (n, h.value.0); holds = record { front = n ∷ []; back = h.value.0 ∷ []; joined = refl; first = (refl, m.holds.first.1); second = (refl, h.holds.first.1) }; is = refl };
      second = (ap (λ (k : Token). k ∷ []) (sym h.is), subst (λ (k : Token). IsTrue (any_name k.bare)) (sym h.is) h.holds.second.1);
    }

factor : (x : List Token) (t : Option Token × Token) → aliased x t → turned x t
factor x t m = go t.0 m.first
  where
    go : (o : Option Token) → opt (mapped (λ x. x.0) (one any_name ⨾ one (punct ":"))) m.front o → turned x (o, t.1)
    go None e = record { value = (t.1, None); holds = record { front = x; back = []; joined = sym (append-nil x); first = (m.joined ∙ ap (λ (l : List Token). l ++ m.back) e ∙ m.second.0, m.second.1); second = refl }; is = refl }
    go (Some n) h = record {
      value = (n, Some t.1);
      holds = record {
        front = n ∷ [];
        back = h.value.1 ∷ t.1 ∷ [];
        joined = m.joined ∙ ap (λ (l : List Token). l ++ m.back) (h.holds.joined ∙ ap (λ (l : List Token). l ++ h.holds.back) h.holds.first.0 ∙ ap (λ (l : List Token). h.value.0 ∷ l) h.holds.second.0) ∙ ap (λ (l : List Token). h.value.0 ∷ h.value.1 ∷ l) m.second.0 ∙ ap (λ (k : Token). k ∷ h.value.1 ∷ t.1 ∷ []) (sym h.is);
        first = (refl, subst (λ (k : Token). IsTrue (any_name k.bare)) (sym h.is) h.holds.first.1);
        second = record { value = (h.value.1, t.1); holds = record { front = h.value.1 ∷ []; back = t.1 ∷ []; joined = refl; first = (refl, h.holds.second.1); second = (refl, m.second.1) }; is = refl };
      };
      is = refl;
    }

pub exact-aliased : {b : Limits} {f : Test} → IsSubset f (outside (punct ":")) → ReadsExactly (λ c. aliased) b f aliased_at
exact-aliased away =
    exact-same {p = λ c. turned} (λ c x t. (unfactor x t, factor x t)) (exact-mapped (exact-next (has-opt {p = λ c. second-name}) exact-name
    (exact-opt (begins-mapped (begins-then begins-one)) away (exact-mapped (exact-next (has-token name-sample) (exact-punct ":") exact-name)))))

pub begins-aliased : BeginsWith (λ c. aliased) any_name
begins-aliased = begins-same {p = λ c. turned} (λ c x t. (unfactor x t, factor x t)) (begins-mapped {p = λ c. one any_name ⨾ opt second-name} (begins-then begins-one))

pub has-aliased : HasPhrase (λ c. aliased)
has-aliased = has-pair (has-opt {p = λ c. mapped (λ x. x.0) (one any_name ⨾ one (punct ":"))}) (has-token name-sample)

-- ---- what may follow

-- what may follow a selection in its set
abbrev pub after_selection : Test
after_selection t = any_name t || punct "..." t || punct "}" t

after-within : {g : Test} → IsSubset any_name g → IsSubset (punct "...") g → IsSubset (punct "}") g → IsSubset after_selection g
after-within name dots close = within-either (within-either name dots) close

no-alias : IsSubset after_selection (outside (punct ":"))
no-alias = after-within (any_name-within (λ w. refl)) (punct-within "..." refl) (punct-within "}" refl)

no-arguments : IsSubset after_selection (outside (punct "("))
no-arguments = after-within (any_name-within (λ w. refl)) (punct-within "..." refl) (punct-within "}" refl)

no-directive : IsSubset after_selection (outside (punct "@"))
no-directive = after-within (any_name-within (λ w. refl)) (punct-within "..." refl) (punct-within "}" refl)

no-set : IsSubset after_selection (outside (punct "{"))
no-set = after-within (any_name-within (λ w. refl)) (punct-within "..." refl) (punct-within "}" refl)

-- what may follow the directives of a field: its set, or what follows the field
abbrev after_directives : Test
after_directives t = punct "{" t || after_selection t

nothing-or-set : IsSubset after_selection after_directives
nothing-or-set = after-within (any_name-within (λ w. refl)) (punct-within "..." refl) (punct-within "}" refl)

-- ---- fields, from their last part on

abbrev after-arguments : (Limits → Rel Set) → Limits → Rel (Directives × Option Set)
after-arguments set c = directives Current true c.values ⨾ opt (set c)

exact-after-arguments : {set : Limits → Rel Set} {b : Limits} {r : Reader Set} → BeginsWith set (punct "{") → ReadsExactly set b after_selection r → ReadsExactly (after-arguments set) b after_selection (then_at (directives_at true b.values) (opt_at (punct "{") r))
exact-after-arguments {set} leads h =
    exact-seq {g = after_directives} (first-opt leads (punct-within "{" refl) nothing-or-set) (has-opt {p = set})
    (exact-directives true (within-either (punct-within "{" refl) no-arguments) (within-either (punct-within "{" refl) no-directive))
    (exact-opt leads no-set h)

first-after-arguments : {set : Limits → Rel Set} {g : Test} → IsTrue (g (punctuator "@")) → IsTrue (g (punctuator "{")) → IsSubset after_selection g → BeginsWith set (punct "{") → FirstWithin (after-arguments set) after_selection g
first-after-arguments {g = g} at brace away leads = first-then (first-directives true {g = g} at itself) (first-opt leads (punct-within "{" brace) away)

has-after-arguments : {set : Limits → Rel Set} → HasPhrase (after-arguments set)
has-after-arguments {set} = has-pair (has-directives true) (has-opt {p = set})

abbrev after-names : (Limits → Rel Set) → Limits → Rel (Option Arguments × (Directives × Option Set))
after-names set c = opt (arguments Current true c.values) ⨾ after-arguments set c

exact-after-names : {set : Limits → Rel Set} {b : Limits} {r : Reader Set} → BeginsWith set (punct "{") → ReadsExactly set b after_selection r → ReadsExactly (after-names set) b after_selection (then_at (maybe_arguments_at true b.values) (then_at (directives_at true b.values) (opt_at (punct "{") r)))
exact-after-names {set} leads h =
    exact-seq {g = outside (punct "(")} (first-after-arguments refl refl no-arguments leads) (has-after-arguments {set = set})
    (exact-maybe_arguments true itself)
    (exact-after-arguments leads h)

first-after-names : {set : Limits → Rel Set} {g : Test} → IsTrue (g (punctuator "(")) → IsTrue (g (punctuator "@")) → IsTrue (g (punctuator "{")) → IsSubset after_selection g → BeginsWith set (punct "{") → FirstWithin (after-names set) after_selection g
first-after-names {g = g} paren at brace away leads = first-then (first-maybe_arguments true {g = g} paren itself) (first-after-arguments at brace away leads)

has-after-names : {set : Limits → Rel Set} → HasPhrase (after-names set)
has-after-names {set} = has-pair (has-maybe_arguments true) (has-after-arguments {set = set})

pub exact-field : {set : Limits → Rel Set} {b : Limits} {r : Reader Set} → BeginsWith set (punct "{") → ReadsExactly set b after_selection r → ReadsExactly (λ c. a_field Current c.values (set c)) b after_selection (field_at b.values r)
exact-field {set} leads h =
    exact-mapped (exact-seq {g = outside (punct ":")} (first-after-names refl refl refl no-alias leads) (has-after-names {set = set})
    (exact-aliased itself)
    (exact-after-names leads h))

pub begins-field : {set : Limits → Rel Set} → BeginsWith (λ c. a_field Current c.values (set c)) any_name
begins-field {set} = begins-mapped {p = λ c. aliased ⨾ after-names set c} (begins-then begins-aliased)

pub has-field : {set : Limits → Rel Set} → HasPhrase (λ c. a_field Current c.values (set c))
has-field {set} = has-map (has-pair has-aliased (has-after-names {set = set}))

-- ---- spreads and inline fragments

pub fragment-sample : HasSample fragment_name
fragment-sample = record { token = sample (word_of "a"); passes = refl; proper = name-spells (codes "a") refl (refl, tt) }

-- such a name is a name
pub fragment-within : IsSubset fragment_name any_name
fragment-within = name_but-within ("on" ∷ []) (λ w h. refl)

pub exact-type_condition : {b : Limits} {f : Test} → ReadsExactly (λ c. a_type_condition) b f type_condition_at
exact-type_condition = exact-mapped (exact-next (has-token name-sample) (exact-keyword "on") exact-name)

pub begins-type_condition : BeginsWith (λ c. a_type_condition) (keyword "on")
begins-type_condition = begins-mapped {p = λ c. one (keyword "on") ⨾ one any_name} (begins-then begins-one)

on-sample : HasSample (keyword "on")
on-sample = keyword-sample "on" refl (refl, (refl, tt))

pub has-type_condition : HasPhrase (λ c. a_type_condition)
has-type_condition = has-map (has-pair (has-token on-sample) (has-token name-sample))

-- what follows `...` in an inline fragment
abbrev inline : (Limits → Rel Set) → Limits → Rel Inline
inline set c = opt a_type_condition ⨾ directives Current true c.values ⨾ set c

begins-inline : {set : Limits → Rel Set} {g : Test} → IsSubset (keyword "on") g → IsSubset (punct "@") g → IsSubset (punct "{") g → BeginsWith set (punct "{") → BeginsWith (inline set) g
begins-inline {set} on at brace leads = begins-opt {q = λ c. directives Current true c.values ⨾ set c} (begins-within on begins-type_condition) (begins-star {p = λ c. a_directive Current true c.values} {q = set} (begins-within at (begins-directive true)) (begins-within brace leads))

begins-inline-first : {set : Limits → Rel Set} → BeginsWith set (punct "{") → BeginsWith (inline set) inline_first
begins-inline-first leads = begins-inline (keyword-within "on" refl) (punct-within "@" refl) (punct-within "{" refl) leads

pub exact-spread : {b : Limits} {f : Test} → IsSubset f (outside (punct "(")) → IsSubset f (outside (punct "@")) → ReadsExactly (λ c. one fragment_name ⨾ directives Current true c.values) b f (then_at (one_at fragment_name) (directives_at true b.values))
exact-spread away apart = exact-next (has-directives true) (exact-name_but ("on" ∷ [])) (exact-directives true away apart)

pub begins-spread : BeginsWith (λ c. a_spread Current c.values) (punct "...")
begins-spread = begins-mapped {p = λ c. one (punct "...") ⨾ one fragment_name ⨾ directives Current true c.values} (begins-then begins-one)

pub begins-inline_fragment : {set : Limits → Rel Set} → BeginsWith (λ c. an_inline_fragment Current c.values (set c)) (punct "...")
begins-inline_fragment {set} = begins-mapped {p = λ c. one (punct "...") ⨾ inline set c} (begins-then begins-one)

-- what follows `...` in either
abbrev after-dots : (Limits → Rel Set) → Limits → Rel AfterDots
after-dots set c = mapped a_name (one fragment_name ⨾ directives Current true c.values) ∪ mapped an_inline (inline set c)

exact-after-dots : {set : Limits → Rel Set} {b : Limits} {r : Reader Inline} → BeginsWith set (punct "{") → ReadsExactly (inline set) b after_selection r → ReadsExactly (after-dots set) b after_selection (choose_at fragment_name (mapped_at a_name (then_at (one_at fragment_name) (directives_at true b.values))) (mapped_at an_inline r))
exact-after-dots {set} leads h =
    exact-choose (begins-mapped {p = λ c. one fragment_name ⨾ directives Current true c.values} (begins-then begins-one))
    (begins-mapped {p = inline set} (begins-inline (keyword-within "on" refl) (punct-within "@" refl) (punct-within "{" refl) leads))
    (exact-mapped (exact-spread no-arguments no-directive))
    (exact-mapped h)

has-after-dots : {set : Limits → Rel Set} → HasPhrase (after-dots set)
has-after-dots {set} = has-first {p = λ c. mapped a_name (one fragment_name ⨾ directives Current true c.values)} {q = λ c. mapped an_inline (inline set c)} (has-map (has-pair (has-token fragment-sample) (has-directives true)))

-- the two, with `...` once
is-dotted : (set : Limits → Rel Set) (c : Limits) (x : List Token) (t : Positioned Selection) → mapped dotted (one (punct "...") ⨾ after-dots set c) x t ↔ (a_spread Current c.values ∪ an_inline_fragment Current c.values (set c)) x t
is-dotted set c = factored (one (punct "...")) (one fragment_name ⨾ directives Current true c.values) (inline set c) a_name an_inline spread_of inline_of dotted (λ a b. refl) (λ a d. refl)

pub exact-dots : {set : Limits → Rel Set} {b : Limits} {r : Reader Inline} → BeginsWith set (punct "{") → ReadsExactly (inline set) b after_selection r → ReadsExactly (λ c. a_spread Current c.values ∪ an_inline_fragment Current c.values (set c)) b after_selection (dots_at b.values r)
exact-dots {set} leads h = exact-same (is-dotted set) (exact-mapped (exact-next (has-after-dots {set = set}) (exact-punct "...") (exact-after-dots leads h)))

-- ---- selections

pub begins-selection : {set : Limits → Rel Set} → BeginsWith (λ c. a_selection Current c.values (set c)) selection_first
begins-selection {set} = begins-either {p = λ c. a_field Current c.values (set c)} (begins-within (any_name-within (λ w. refl)) (begins-field {set = set})) (begins-either {q = λ c. an_inline_fragment Current c.values (set c)} (begins-within (punct-within "..." refl) begins-spread) (begins-within (punct-within "..." refl) (begins-inline_fragment {set = set})))

pub has-selection : {set : Limits → Rel Set} → HasPhrase (λ c. a_selection Current c.values (set c))
has-selection {set} = has-first {q = λ c. a_spread Current c.values ∪ an_inline_fragment Current c.values (set c)} (has-field {set = set})

pub exact-selection : {set : Limits → Rel Set} {b : Limits} {r : Reader Set} {s : Reader Inline} → BeginsWith set (punct "{") → ReadsExactly set b after_selection r → ReadsExactly (inline set) b after_selection s → ReadsExactly (λ c. a_selection Current c.values (set c)) b after_selection (selection_at b.values r s)
exact-selection {set} leads h k =
    exact-same (λ c. either-way (a_spread Current c.values ∪ an_inline_fragment Current c.values (set c)) (a_field Current c.values (set c))) (exact-choose
    (begins-either {q = λ c. an_inline_fragment Current c.values (set c)} begins-spread (begins-inline_fragment {set = set}))
    (begins-within (any_name-within (λ w. refl)) (begins-field {set = set}))
    (exact-dots leads k)
    (exact-field leads h))

-- ---- sets

open-sample : HasSample (punct "{")
open-sample = punct-sample "{" refl (inl (123, refl, refl))

close-sample : HasSample (punct "}")
close-sample = punct-sample "}" refl (inl (125, refl, refl))

pub begins-a_set : {selection : Limits → Rel (Positioned Selection)} → BeginsWith (λ c. a_set (selection c)) (punct "{")
begins-a_set {selection} = begins-mapped {p = λ c. one (punct "{") ⨾ plus (selection c) ⨾ one (punct "}")} (begins-then begins-one)

pub has-a_set : {set : Limits → Rel Set} → HasPhrase (λ c. a_set (a_selection Current c.values (set c)))
has-a_set {set} = has-map {p = λ c. one (punct "{") ⨾ plus (a_selection Current c.values (set c)) ⨾ one (punct "}")} (has-pair (has-token open-sample) (has-pair (has-plus (has-selection {set = set})) (has-token close-sample)))

pub exact-a_set : {set : Limits → Rel Set} {b : Limits} {f : Test} {r : Reader Set} {s : Reader Inline} → BeginsWith set (punct "{") → ReadsExactly set b after_selection r → ReadsExactly (inline set) b after_selection s → ReadsExactly (λ c. a_set (a_selection Current c.values (set c))) b f (a_set_at (selection_at b.values r s))
exact-a_set {set} leads h k =
    exact-mapped (exact-next (has-pair (has-plus (has-selection {set = set})) (has-token close-sample)) (exact-punct "{")
    (exact-then-some {g = punct "}"} begins-one (has-token close-sample)
    (exact-plus-ahead {g = after_selection} (begins-selection {set = set}) (within-either (any_name-within (λ w. refl)) (punct-within "..." refl)) (punct-within "}" refl) (punct-within "}" refl) (exact-selection leads h k))
    (exact-punct "}")))

-- ---- sets within limits

abbrev pub sets : Limits → Rel Set
sets c = selection_set Current c.values c.selections

abbrev inner-sets : Limits → Rel Set
inner-sets c = nested of_selections sets c

is-set : (c : Limits) (x : List Token) (t : Set) → a_set (a_selection Current c.values (inner-sets c)) x t ↔ sets c x t
is-set c x t = at c.selections
  where
    at : (n : ℕ) → a_set (a_selection Current c.values (below of_selections sets c n)) x t ↔ selection_set Current c.values n x t
    at zero = (λ h. h, λ h. h)
    at (suc n) = (λ h. h, λ h. h)

pub begins-sets : BeginsWith sets (punct "{")
begins-sets = begins-same is-set (begins-a_set {selection = λ c. a_selection Current c.values (inner-sets c)})

pub has-sets : HasPhrase sets
has-sets = record { some = λ c. some c c.selections }
  where
    some : (c : Limits) (n : ℕ) → Extends (selection_set Current c.values n) []
    some c zero = (has-a_set {set = λ c. never}).some c
    some c (suc n) = (has-a_set {set = λ c. selection_set Current c.values n}).some c

extends-set : (c : Limits) (t : Token) → IsTrue (punct "{" t.bare) → Extends (sets c) (t ∷ [])
extends-set c t e =
    let m = extends-one {f = selection_set_of} {q = λ c. plus (a_selection Current c.values (inner-sets c)) ⨾ one (punct "}")} (punct "{") (has-pair (has-plus (has-selection {set = inner-sets})) (has-token close-sample)) c t e in
    record { tail = m.tail; tree = m.tree; holds = (is-set c (t ∷ m.tail) m.tree).0 m.holds; proper = m.proper }

-- what can follow `...` where a set may follow it
extends-inline : (c : Limits) (t : Token) → IsTrue (inline_first t.bare) → Extends (inline sets c) (t ∷ [])
extends-inline c t e = go (keyword "on" t.bare) refl (punct "@" t.bare) refl e
  where
    n : Token
    n = sample (word_of "a")

    proper : IsProper n
    proper = name-spells (codes "a") refl (refl, tt)

    go : (w : Bool) → keyword "on" t.bare ≡ w → (v : Bool) → punct "@" t.bare ≡ v → IsTrue (w || v || punct "{" t.bare) → Extends (inline sets c) (t ∷ [])
    go true on v at e =
        let m = has-sets.some c in
        record {
          tail = n ∷ m.tail;
          tree = (Some (condition_of (t, n)), ([], m.tree));
          holds = record { front = t ∷ n ∷ []; back = m.tail; joined = refl; first = record { value = (t, n); holds = record { front = t ∷ []; back = n ∷ []; joined = refl; first = (refl, on); second = (refl, refl) }; is = refl }; second = record { front = []; back = m.tail; joined = refl; first = refl; second = m.holds } };
          proper = (proper, m.proper);
        }
    go false on true at e =
        let m = has-sets.some c in
        record {
          tail = n ∷ m.tail;
          tree = (None, (directive_of (t, (n, None)) ∷ [], m.tree));
          holds = record { front = []; back = t ∷ n ∷ m.tail; joined = refl; first = refl; second = record { front = t ∷ n ∷ []; back = m.tail; joined = refl; first = record { front = t ∷ n ∷ []; back = []; joined = refl; first = record { value = (t, (n, None)); holds = record { front = t ∷ []; back = n ∷ []; joined = refl; first = (refl, at); second = record { front = n ∷ []; back = []; joined = refl; first = (refl, refl); second = refl } }; is = refl }; second = refl }; second = m.holds } };
          proper = (proper, m.proper);
        }
    go false on false at e =
        let m = extends-set c t e in
        record { tail = m.tail; tree = (None, ([], m.tree)); holds = record { front = []; back = t ∷ m.tail; joined = refl; first = refl; second = record { front = []; back = t ∷ m.tail; joined = refl; first = refl; second = m.holds } }; proper = m.proper }

exact-inline : {b : Limits} {f : Test} {r : Reader Set} → ReadsExactly sets b f r → ReadsExactly (inline sets) b f (inline_at b.values r)
exact-inline h =
    exact-seq {g = outside (keyword "on")} (first-then (first-directives true {g = outside (keyword "on")} refl itself) (first-begins begins-sets (punct-within "{" refl))) (has-pair (has-directives true) has-sets)
    (exact-opt begins-type_condition itself exact-type_condition)
    (exact-then-some begins-sets has-sets (exact-directives true (punct-within "{" refl) (punct-within "{" refl)) h)

inner-inline : (c : Limits) (x : List Token) (t : Inline) → nested of_selections (inline sets) c x t ↔ inline inner-sets c x t
inner-inline c x t = both-ways (sets-after (λ n. opt a_type_condition) (λ c. directives Current true c.values ⨾ sets c) c x t) (then-same (opt a_type_condition) (nested of_selections (λ c. directives Current true c.values ⨾ sets c) c) (directives Current true c.values ⨾ inner-sets c) (sets-after (directives Current true) sets c) x t)

-- ---- at every budget

-- the readers of what nests in a set
abbrev pub inner-set-at : ℕ → ℕ → Reader Set
inner-set-at values zero = deep_at (punct "{")
inner-set-at values (suc n) = selection_set_at values n

abbrev pub inner-inline-at : ℕ → ℕ → Reader Inline
inner-inline-at values zero = deep_at inline_first
inner-inline-at values (suc n) = inline_at values (selection_set_at values n)

record GoodInside (b : Limits) (n : ℕ) : Type 0 where
  pub set : ReadsExactly inner-sets b after_selection (inner-set-at b.values n)
  pub inline : ReadsExactly (inline inner-sets) b after_selection (inner-inline-at b.values n)

exact-outside : (n : ℕ) {b : Limits} {f : Test} → GoodInside b n → ReadsExactly sets b f (selection_set_at b.values n)
unfolding selection_set_at
exact-outside zero h = exact-same is-set (exact-a_set (begins-nested of_selections begins-sets) h.set h.inline)
exact-outside (suc n) h = exact-same is-set (exact-a_set (begins-nested of_selections begins-sets) h.set h.inline)

exact-inside : (n : ℕ) (b : Limits) → b.selections ≡ n → GoodInside b n
exact-inside zero b e = record {
  set = exact-deep of_selections e extends-set begins-sets;
  inline = exact-same inner-inline (exact-deep of_selections e extends-inline (begins-inline-first begins-sets));
}
exact-inside (suc n) b e =
    let inner : Limits = record b { selections = n } in
    let h : GoodInside inner n = exact-inside n inner refl in
    subst (λ (k : ℕ). GoodInside (record b { selections = k }) (suc n)) (sym e) (record {
      set = exact-nested of_selections (exact-outside n h);
      inline = exact-same inner-inline (exact-nested of_selections (exact-inline (exact-outside n h)));
    })

pub exact-sets : (n : ℕ) (b : Limits) {f : Test} → b.selections ≡ n → ReadsExactly sets b f (selection_set_at b.values n)
exact-sets n b e = exact-outside n (exact-inside n b e)

-- one selection in a set
pub exact-selections : (n : ℕ) (b : Limits) → b.selections ≡ n → ReadsExactly (λ c. a_selection Current c.values (inner-sets c)) b after_selection (selection_at b.values (inner-set-at b.values n) (inner-inline-at b.values n))
exact-selections n b e =
    let h = exact-inside n b e in
    exact-selection (begins-nested of_selections begins-sets) h.set h.inline

pub takes-selection : (values n : ℕ) → Takes (selection_at values (inner-set-at values n) (inner-inline-at values n))
takes-selection values n = takes-one (exact-selections n (record { selections = n; values = values; types = 0 }) refl) (begins-selection {set = inner-sets})

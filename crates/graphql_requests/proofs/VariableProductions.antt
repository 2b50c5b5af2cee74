-- Variable definitions are read exactly, at every budget; and their places don't matter.
use Rattle.graphql_tokens.specs.tokens.Edition.{Current}
use Rattle.std.proofs.Common.{◌≡◌, ℕ, Bool, true, false, cond, ◌&&◌, ◌||◌, IsTrue, Option, Some, None, List, [], ◌∷◌, ◌++◌, map, option_map, ◌↔◌, inl, inr, refl, sym, ap, ◌∙◌, subst, append-nil}
use Rattle.graphql_tokens.specs.tokens.Token.{Token}
use Rattle.graphql_syntax.specs.trees.Parts.{Directives}
use Rattle.graphql_grammar.specs.grammar.Arguments.{a_directive, directives, a_default}
use Rattle.graphql_requests.specs.grammar.Variables.{default_and_directives, variable_definition_of, a_variable_definition, variable_definitions}
use Rattle.graphql_reading.specs.grammar.Limits.{Limits}
use Rattle.graphql_grammar.specs.grammar.Placeless.{unplaced, bare_node, placeless_directives}
use Rattle.graphql_requests.specs.grammar.Placeless.{placeless_variable}
use Rattle.graphql_reading.specs.grammar.Relations.{Rel, ◌⨾◌, ◌∪◌, mapped, star, plus, opt}
use Rattle.graphql_reading.specs.grammar.Tests.{Test, punct, any_name}
use Rattle.graphql_grammar.specs.grammar.Types.{type_reference}
use Rattle.graphql_grammar.specs.grammar.Values.{Value}
use Rattle.graphql_grammar.specs.reading.Arguments.{directive_at, directives_at, default_at, maybe_default_at}
use Rattle.graphql_requests.specs.reading.Variables.{turned, default_and_directives_at, variable_definition_at, variable_definitions_at}
use Rattle.graphql_reading.specs.reading.Outcome.{Outcome, Read, Reader, ◌>>=◌, then_at, mapped_at, choose_at, none_at, plus_at}
use Rattle.graphql_reading.proofs.Parts.{none}
use Rattle.graphql_reading.proofs.Theory.{IsSubset, outside}
use Rattle.graphql_reading.proofs.TokenTests.{punctuator, itself, punct-within, within-both, within-first, within-second, within-either, name-sample}
use Rattle.graphql_reading.proofs.PunctSamples.{has-close, has-colon, has-dollar}
use Rattle.graphql_reading.proofs.ReadsExactly.{ReadsExactly, HasPhrase, BeginsWith, exact-punct, exact-name, exact-mapped, exact-next, exact-same, begins-one, begins-mapped, begins-then, has-token, has-pair, has-map, has-plus, has-first}
use Rattle.graphql_reading.proofs.Extra.{FirstWithin, exact-seq, first-begins, first-opt, first-then, exact-plus-ahead, exact-opt, has-opt}
use Rattle.graphql_reading.proofs.Optional.{exact-choose_ahead, exact-none, exact-reader, first-none, first-either, opt-left, with-some, opt-then, plus-star, star-plus}
use Rattle.graphql_reading.proofs.IgnoresPlaces.{IgnoresPlaces, ignores-one, ignores-then, ignores-mapped, ignores-either, ignores-plus, ignores-opt}
use Rattle.graphql_reading.proofs.Marks.{exact-between, begins-between, ignores-between}
use Rattle.graphql_reading.proofs.Loop.{Takes, takes-one, many-plus, many-stops}
use Rattle.graphql_grammar.proofs.TypeProductions.{exact-type, has-type, ignores-type}
use Rattle.graphql_grammar.proofs.ArgumentProductions.{budget, exact-directive, begins-directive, exact-directives, first-directives, has-directives, ignores-directive, ignores-directives, exact-default, begins-default, ignores-default, takes-directive}

-- ---- a default and directives, in either order

-- By the token in sight: a default and directives, directives and perhaps a default, or nothing.
abbrev pub Both : Type 0
Both = Option Value × Directives

abbrev default-first : Limits → Rel Both
default-first c = mapped with-some (a_default Current c.values ⨾ directives Current true c.values)

abbrev directives-first : Limits → Rel Both
directives-first c = mapped turned (plus (a_directive Current true c.values) ⨾ opt (a_default Current c.values))

abbrev neither : Both
neither = (None, [])

abbrev by-first : Limits → Rel Both
by-first c = default-first c ∪ directives-first c ∪ none neither

abbrev default-first_at : ℕ → Reader Both
default-first_at values = mapped_at with-some (then_at (default_at values) (directives_at true values))

abbrev directives-first_at : ℕ → Reader Both
directives-first_at values = mapped_at turned (then_at (plus_at (punct "@") (directive_at true values)) (maybe_default_at values))

abbrev by-first_at : ℕ → Reader Both
by-first_at values = choose_at (punct "=") (default-first_at values) (choose_at (punct "@") (directives-first_at values) (none_at neither))

-- the same phrases,
is-by-first : (c : Limits) (x : List Token) (t : Both) → by-first c x t ↔ default_and_directives Current c.values x t
is-by-first c x t = (to, from t)
  where
    directives-then : (ds : Directives) (o : Option Value) → (plus (a_directive Current true c.values) ⨾ opt (a_default Current c.values)) x (ds, o) → default_and_directives Current c.values x (o, ds)
    directives-then ds None m =
        let all : x ≡ m.front = m.joined ∙ ap (λ (l : List Token). m.front ++ l) m.second ∙ append-nil m.front in
        inl (record { front = []; back = x; joined = refl; first = refl; second = subst (λ (l : List Token). star (a_directive Current true c.values) l ds) (sym all) (plus-star (a_directive Current true c.values) m.front ds m.first) })
    directives-then ds (Some v) m = inr (record { value = (ds, v); holds = record { front = m.front; back = m.back; joined = m.joined; first = m.first; second = m.second }; is = refl })

    to : by-first c x t → default_and_directives Current c.values x t
    to (inl m) = subst (λ (t : Both). default_and_directives Current c.values x t) (sym m.is) (inl (record { front = m.holds.front; back = m.holds.back; joined = m.holds.joined; first = m.holds.first; second = m.holds.second }))
    to (inr (inl m)) = subst (λ (t : Both). default_and_directives Current c.values x t) (sym m.is) (directives-then m.value.0 m.value.1 m.holds)
    to (inr (inr m)) = subst (λ (t : Both). default_and_directives Current c.values x t) (sym m.1) (inl (record { front = []; back = x; joined = refl; first = refl; second = m.0 }))

    alone : (front back : List Token) (ds : Directives) → x ≡ front ++ back → front ≡ [] → star (a_directive Current true c.values) back ds → by-first c x (None, ds)
    alone front back [] e h m = inr (inr (e ∙ ap (λ (l : List Token). l ++ back) h ∙ m, refl))
    alone front back (d ∷ ds) e h m =
        let all : x ≡ back = e ∙ ap (λ (l : List Token). l ++ back) h in
        inr (inl (record { value = (d ∷ ds, None); holds = record { front = back; back = []; joined = all ∙ sym (append-nil back); first = star-plus (a_directive Current true c.values) back d ds m; second = refl }; is = refl }))

    default-then : (o : Option Value) (ds : Directives) → (opt (a_default Current c.values) ⨾ directives Current true c.values) x (o, ds) → by-first c x (o, ds)
    default-then None ds m = alone m.front m.back ds m.joined m.first m.second
    default-then (Some v) ds m = inl (record { value = (v, ds); holds = record { front = m.front; back = m.back; joined = m.joined; first = m.first; second = m.second }; is = refl })

    from : (t : Both) → default_and_directives Current c.values x t → by-first c x t
    from t (inl m) = default-then t.0 t.1 m
    from t (inr m) = inr (inl (record { value = (m.value.0, Some m.value.1); holds = record { front = m.holds.front; back = m.holds.back; joined = m.holds.joined; first = m.holds.first; second = m.holds.second }; is = m.is }))

-- read in the same way
abbrev then-turned : ℕ → Outcome Directives → Outcome Both
then-turned values o = (o >>= λ ds rest. maybe_default_at values rest >>= λ v rest'. Read (ds, v) rest') >>= λ x rest. Read (turned x) rest

abbrev turn : Directives → Outcome (Option Value) → Outcome Both
turn ds o = (o >>= λ v rest'. Read (ds, v) rest') >>= λ x rest. Read (turned x) rest

reads-by-first : (values : ℕ) (ts : List Token) → by-first_at values ts ≡ default_and_directives_at values ts
reads-by-first values [] = refl
reads-by-first values (t ∷ ts) = go (punct "=" t.bare) refl
  where
    other : (w : Bool) → punct "=" t.bare ≡ false → punct "@" t.bare ≡ w → cond w (directives-first_at values (t ∷ ts)) (Read neither (t ∷ ts)) ≡ then-turned values (directives_at true values (t ∷ ts))
    other true none e = ap (then-turned values) (sym (many-plus (punct "@") (directive_at true values) (takes-directive true values) t ts e))
    other false none e = sym (ap (then-turned values) (many-stops (punct "@") (directive_at true values) t ts e) ∙ ap (turn []) (opt-left (punct "=") (default_at values) t ts none))

    go : (w : Bool) → punct "=" t.bare ≡ w → cond w (default-first_at values (t ∷ ts)) (cond (punct "@" t.bare) (directives-first_at values (t ∷ ts)) (Read neither (t ∷ ts))) ≡ cond w (then_at (maybe_default_at values) (directives_at true values) (t ∷ ts)) (then-turned values (directives_at true values (t ∷ ts)))
    go true e = sym (opt-then (punct "=") (default_at values) (directives_at true values) t ts e)
    go false e = other (punct "@" t.bare) e refl

-- what follows neither belongs to a directive nor is one
abbrev past-directives : Test
past-directives t = outside (punct "(") t && outside (punct "@") t

exact-default-first : {b : Limits} {f : Test} → IsSubset f (outside (punct "(")) → IsSubset f (outside (punct "@")) → ReadsExactly default-first b f (default-first_at b.values)
exact-default-first away last = exact-mapped (exact-next (has-directives true) exact-default (exact-directives true away last))

exact-directives-first : {b : Limits} {f : Test} → IsSubset f (outside (punct "(")) → IsSubset f (outside (punct "@")) → IsSubset f (outside (punct "=")) → ReadsExactly directives-first b f (directives-first_at b.values)
exact-directives-first away last none =
    exact-mapped (exact-seq {g = past-directives} (first-opt begins-default (punct-within "=" refl) (within-both away last)) (has-opt {p = λ c. a_default Current c.values})
    (exact-plus-ahead {g = outside (punct "(")} (begins-directive true) (punct-within "@" refl) (within-first _ _) (within-second _ _) (exact-directive true itself))
    (exact-opt begins-default none exact-default))

begins-default-first : BeginsWith default-first (punct "=")
begins-default-first = begins-mapped (begins-then begins-default)

begins-directives-first : BeginsWith directives-first (punct "@")
begins-directives-first = begins-mapped (begins-then (begins-mapped (begins-then (begins-directive true))))

pub exact-default_and_directives : {b : Limits} {f : Test} → IsSubset f (outside (punct "(")) → IsSubset f (outside (punct "@")) → IsSubset f (outside (punct "=")) → ReadsExactly (λ c. default_and_directives Current c.values) b f (default_and_directives_at b.values)
exact-default_and_directives {b} away last none =
    exact-reader (reads-by-first b.values)
    (exact-same is-by-first
    (exact-choose_ahead begins-default-first (first-either (first-begins begins-directives-first (punct-within "@" refl)) (first-none none))
    (exact-default-first away last)
    (exact-choose_ahead begins-directives-first (first-none last) (exact-directives-first away last none) exact-none)))

pub first-default_and_directives : {f g : Test} → IsTrue (g (punctuator "=")) → IsTrue (g (punctuator "@")) → IsSubset f g → FirstWithin (λ c. default_and_directives Current c.values) f g
first-default_and_directives default-in directive-in h =
    first-either (first-then (first-opt begins-default (punct-within "=" default-in) itself) (first-directives true directive-in h))
    (first-begins (begins-mapped (begins-then (begins-mapped (begins-then (begins-directive true))))) (punct-within "@" directive-in))

pub has-default_and_directives : HasPhrase (λ c. default_and_directives Current c.values)
has-default_and_directives = has-first {p = λ c. opt (a_default Current c.values) ⨾ directives Current true c.values} (has-pair (has-opt {p = λ c. a_default Current c.values}) (has-directives true))

abbrev pub placeless-both : Both → Both
placeless-both x = (option_map bare_node x.0, placeless_directives x.1)

pub ignores-default_and_directives : IgnoresPlaces (λ c. default_and_directives Current c.values) placeless-both
ignores-default_and_directives =
    ignores-either (ignores-then (ignores-opt ignores-default) (ignores-directives true))
    (ignores-mapped (λ x. refl) (ignores-then (ignores-plus (ignores-directive true)) ignores-default))

-- ---- variable definitions

pub exact-variable_definition : {b : Limits} {f : Test} → IsSubset f (outside (punct "!")) → IsSubset f (outside (punct "(")) → IsSubset f (outside (punct "@")) → IsSubset f (outside (punct "=")) → ReadsExactly (λ c. a_variable_definition Current c.values c.types) b f (variable_definition_at b.values b.types)
exact-variable_definition marked away last none =
    exact-mapped (exact-next (has-pair (has-token name-sample) (has-pair has-colon has-tokens-after)) (exact-punct "$")
    (exact-next (has-pair has-colon has-tokens-after) exact-name
    (exact-next has-tokens-after (exact-punct ":")
    (exact-seq {g = outside (punct "!")} (first-default_and_directives refl refl marked) has-default_and_directives (exact-type itself)
    (exact-default_and_directives away last none)))))
  where
    has-tokens-after : HasPhrase (λ c. type_reference c.types ⨾ default_and_directives Current c.values)
    has-tokens-after = has-pair has-type has-default_and_directives

pub begins-variable_definition : BeginsWith (λ c. a_variable_definition Current c.values c.types) (punct "$")
begins-variable_definition = begins-mapped (begins-then begins-one)

pub has-variable_definition : HasPhrase (λ c. a_variable_definition Current c.values c.types)
has-variable_definition = has-map (has-pair has-dollar (has-pair (has-token name-sample) (has-pair has-colon (has-pair has-type has-default_and_directives))))

pub ignores-variable_definition : IgnoresPlaces (λ c. a_variable_definition Current c.values c.types) (unplaced placeless_variable)
ignores-variable_definition =
    ignores-mapped {k = variable_definition_of} (λ x. refl)
    (ignores-then (ignores-one (punct "$") (λ spelling. refl)) (ignores-then (ignores-one any_name (λ spelling. refl)) (ignores-then (ignores-one (punct ":") (λ spelling. refl)) (ignores-then ignores-type ignores-default_and_directives))))

-- another one, or the end of the list
abbrev next-definition : Test
next-definition t = punct "$" t || punct ")" t

follows : {g : Test} → IsTrue (g (punctuator "$")) → IsTrue (g (punctuator ")")) → IsSubset next-definition g
follows h k = within-either (punct-within "$" h) (punct-within ")" k)

exact-next-definition : {b : Limits} → ReadsExactly (λ c. a_variable_definition Current c.values c.types) b next-definition (variable_definition_at b.values b.types)
exact-next-definition = exact-variable_definition (follows refl refl) (follows refl refl) (follows refl refl) (follows refl refl)

pub takes-variable_definition : (values types : ℕ) → Takes (variable_definition_at values types)
takes-variable_definition values types = takes-one {b = budget values types} exact-next-definition begins-variable_definition

pub exact-variable_definitions : {b : Limits} {f : Test} → ReadsExactly (λ c. variable_definitions Current c.values c.types) b f (variable_definitions_at b.values b.types)
exact-variable_definitions = exact-between "(" ")" has-close (has-plus has-variable_definition) (exact-plus-ahead {g = next-definition} begins-variable_definition (punct-within "$" refl) (punct-within ")" refl) (punct-within ")" refl) exact-next-definition)

pub begins-variable_definitions : BeginsWith (λ c. variable_definitions Current c.values c.types) (punct "(")
begins-variable_definitions = begins-between (punct ")")

pub ignores-variable_definitions : IgnoresPlaces (λ c. variable_definitions Current c.values c.types) (map (unplaced placeless_variable))
ignores-variable_definitions = ignores-between (punct "(") (punct ")") (λ spelling. refl) (λ spelling. refl) (ignores-plus ignores-variable_definition)

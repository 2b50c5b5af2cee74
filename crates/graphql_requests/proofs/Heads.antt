-- A selection is read up to its set, and then its set is.
use Rattle.std.proofs.Common.{◌≡◌, ℕ, zero, suc, Bool, true, false, cond, Option, Some, None, List, [], ◌∷◌, refl, sym, ap, ◌∙◌}
use Rattle.graphql_tokens.specs.declared.pos.Pos.{Pos}
use Rattle.graphql_tokens.specs.declared.pos.Positioned.{Positioned}
use Rattle.graphql_tokens.specs.tokens.Token.{Token}
use Rattle.graphql_syntax.specs.trees.Parts.{placed, Name, Arguments, Directives}
use Rattle.graphql_trees.specs.trees.Request.{TypeCondition, Selection}
use Rattle.graphql_reading.specs.grammar.Relations.{given}
use Rattle.graphql_reading.specs.grammar.Fronts.{syntax, limit}
use Rattle.graphql_reading.specs.grammar.Places.{name_of}
use Rattle.graphql_requests.specs.grammar.Selections.{Set, alias_of, field_of, inline_of, fragment_name, selection_set_of}
use Rattle.graphql_reading.specs.grammar.Tests.{punct, any_name}
use Rattle.graphql_grammar.specs.reading.Arguments.{maybe_arguments_at, directives_at}
use Rattle.graphql_requests.specs.reading.SelectionSteps.{Heading, with_set, may_nest, maybe_brace_at, given_arguments_at, Names, as_names, after_colon_at, names_at, bare_field, bare_spread, bare_inline, maybe_condition_at, inline_head_at, after_dots_at, field_head_at, head_at, deeper_at, rest_at, item_at, closed, close_at, after_rest, more, begun, wanted_rest, headed}
use Rattle.graphql_reading.specs.reading.Outcome.{Outcome, Read, Refused, Reader, ◌>>=◌, one_at, then_at, mapped_at, choose_at, opt_at, deep_at, many_at, plus_at, with_front}
use Rattle.graphql_requests.specs.reading.Selections.{as_alias, aliased_at, field_at, Inline, inline_first, AfterDots, a_name, an_inline, dotted, inline_at, selection_first, selection_at, a_set_at, selection_set_at}
use Rattle.graphql_requests.proofs.SelectionProductions.{fragment-within}

abbrev pair-up : {A B : Type 0} → A → B → List Token → Outcome (A × B)
pair-up a b rest = Read (a, b) rest

-- ---- a set: its `{`, and the rest

set-is : (values s : ℕ) (ts : List Token) → selection_set_at values s ts ≡ a_set_at (item_at values s) ts
unfolding selection_set_at item_at
set-is values zero ts = refl
set-is values (suc s) ts = refl

abbrev set-read : Token × (List (Positioned Selection) × Token) → List Token → Outcome Set
set-read x rest = Read (selection_set_of x) rest

pub set-law : (values s : ℕ) (ts : List Token) → selection_set_at values s ts ≡ (one_at (punct "{") ts >>= λ t rest. wanted_rest values s (begun t.pos) rest)
unfolding plus_at after_rest
set-law values s ts = set-is values s ts ∙ opens (one_at (punct "{") ts)
  where
    closes : (t : Token) (items : List (Positioned Selection)) (o : Outcome Token) → (((o >>= pair-up items) >>= pair-up t) >>= set-read) ≡ (o >>= λ _ rest. Read (closed (record { place = t.pos; items = items })) rest)
    closes t items (Read c rest) = refl
    closes t items (Refused v rest) = refl

    others : (t : Token) (x : Positioned Selection) (o : Outcome (List (Positioned Selection))) → (((((o >>= pair-up x) >>= λ y rest. Read (y.0 ∷ y.1) rest) >>= λ items rest. one_at (punct "}") rest >>= pair-up items) >>= pair-up t) >>= set-read) ≡ (with_front (x ∷ []) o >>= close_at t.pos)
    others t x (Refused v rest) = refl
    others t x (Read b rest) = closes t (x ∷ b) (one_at (punct "}") rest)

    first : (t : Token) (o : Outcome (Positioned Selection)) → (((((o >>= λ x rest. many_at selection_first (item_at values s) rest >>= pair-up x) >>= λ y rest. Read (y.0 ∷ y.1) rest) >>= λ items rest. one_at (punct "}") rest >>= pair-up items) >>= pair-up t) >>= set-read) ≡ (o >>= λ x rest. after_rest values s (more (begun t.pos) x) rest)
    first t (Refused v rest) = refl
    first t (Read x rest) = others t x (many_at selection_first (item_at values s) rest)

    opens : (o : Outcome Token) → ((o >>= λ t rest. ((((item_at values s rest >>= λ x rest. many_at selection_first (item_at values s) rest >>= pair-up x) >>= λ y rest. Read (y.0 ∷ y.1) rest) >>= λ items rest. one_at (punct "}") rest >>= pair-up items) >>= pair-up t)) >>= set-read) ≡ (o >>= λ t rest. wanted_rest values s (begun t.pos) rest)
    opens (Refused v rest) = refl
    opens (Read t rest) = first t (item_at values s rest)

-- ---- names

abbrev names-of : Option Token × Token → Names
names-of x = (alias_of x.0, name_of x.1)

abbrev names-read : Option Token × Token → List Token → Outcome Names
names-read x rest = Read (names-of x) rest

abbrev alias-read : Token × Option Token → List Token → Outcome (Option Token × Token)
alias-read x rest = Read (as_alias x.0 x.1) rest

abbrev pair-read : Positioned Name × Option (Positioned Name) → List Token → Outcome Names
pair-read x rest = Read (as_names x.0 x.1) rest

abbrev second-at : Reader (Option Token)
second-at = opt_at (punct ":") (mapped_at (λ x. x.1) (then_at (one_at (punct ":")) (one_at any_name)))

names-law : (ts : List Token) → (aliased_at ts >>= names-read) ≡ names_at ts
unfolding opt_at
names-law ts = first (one_at any_name ts)
  where
    third : (t u : Token) (o : Outcome Token) → ((((((o >>= pair-up u) >>= λ x rest. Read x.1 rest) >>= λ a rest. Read (Some a) rest) >>= pair-up t) >>= alias-read) >>= names-read) ≡ (((((o >>= λ n rest. Read (name_of n) rest) >>= pair-up u) >>= λ x rest. Read (Some x.1) rest) >>= pair-up (name_of t)) >>= pair-read)
    third t u (Read m rest) = refl
    third t u (Refused v rest) = refl

    second : (t : Token) (us : List Token) → (((second-at us >>= pair-up t) >>= alias-read) >>= names-read) ≡ ((after_colon_at us >>= pair-up (name_of t)) >>= pair-read)
    second t [] = refl
    second t (u ∷ us) = go (punct ":" u.bare)
      where
        go : (w : Bool) → (((cond w ((((cond w (Read u us) (Refused syntax (u ∷ us)) >>= λ a rest. one_at any_name rest >>= pair-up a) >>= λ x rest. Read x.1 rest) >>= λ a rest. Read (Some a) rest)) (Read None (u ∷ us)) >>= pair-up t) >>= alias-read) >>= names-read) ≡ ((cond w ((cond w (Read u us) (Refused syntax (u ∷ us)) >>= λ a rest. (one_at any_name rest >>= λ n rest. Read (name_of n) rest) >>= pair-up a) >>= λ x rest. Read (Some x.1) rest) (Read None (u ∷ us)) >>= pair-up (name_of t)) >>= pair-read)
        go true = third t u (one_at any_name us)
        go false = refl

    first : (o : Outcome Token) → (((o >>= λ t rest. second-at rest >>= pair-up t) >>= alias-read) >>= names-read) ≡ (((o >>= λ n rest. Read (name_of n) rest) >>= λ n rest. after_colon_at rest >>= pair-up n) >>= pair-read)
    first (Refused v rest) = refl
    first (Read t rest) = second t rest

-- ---- fields

bare-is : (a : Option Token × Token) (g : Option Arguments) (d : Directives) → bare_field (names-of a) (given g) d ≡ field_of (a, (g, (d, None)))
bare-is (None, n) g d = refl
bare-is (Some m, n) g d = refl

with-set-is : (a : Option Token × Token) (g : Option Arguments) (d : Directives) (set : Set) → placed (with_set set) (bare_field (names-of a) (given g) d) ≡ field_of (a, (g, (d, Some set)))
with-set-is (None, n) g d set = refl
with-set-is (Some m, n) g d set = refl

abbrev field-read : (Option Token × Token) × (Option Arguments × (Directives × Option Set)) → List Token → Outcome (Positioned Selection)
field-read x rest = Read (field_of x) rest

abbrev bare-read : Names × (Arguments × (Directives × Option Pos)) → List Token → Outcome Heading
bare-read x rest = Read (bare_field x.0 x.1.0 x.1.1.0, x.1.1.1) rest

field-end : (values s : ℕ) (a : Option Token × Token) (g : Option Arguments) (d : Directives) (ts : List Token) → ((((opt_at (punct "{") (deeper_at values s) ts >>= pair-up d) >>= pair-up g) >>= pair-up a) >>= field-read) ≡ (((((maybe_brace_at (may_nest s) ts >>= pair-up d) >>= pair-up (given g)) >>= pair-up (names-of a)) >>= bare-read) >>= headed values s)
unfolding opt_at
field-end values s a g d [] = refl
field-end values s a g d (t ∷ ts) = at s (punct "{" t.bare) refl
  where
    with : (o : Outcome Set) → (((((o >>= λ set rest. Read (Some set) rest) >>= pair-up d) >>= pair-up g) >>= pair-up a) >>= field-read) ≡ (o >>= λ set rest. Read (placed (with_set set) (bare_field (names-of a) (given g) d)) rest)
    with (Read set rest) = ap (λ (x : Positioned Selection). Read x rest) (sym (with-set-is a g d set))
    with (Refused v rest) = refl

    opened : (n : ℕ) → punct "{" t.bare ≡ true → selection_set_at values n (t ∷ ts) ≡ wanted_rest values n (begun t.pos) ts
    opened n e = set-law values n (t ∷ ts) ∙ ap (λ (w : Bool). cond w (Read t ts) (Refused syntax (t ∷ ts)) >>= λ t rest. wanted_rest values n (begun t.pos) rest) e

    at : (s : ℕ) (w : Bool) → punct "{" t.bare ≡ w → (((((opt_at (punct "{") (deeper_at values s) (t ∷ ts) >>= pair-up d) >>= pair-up g) >>= pair-up a) >>= field-read)) ≡ (((((maybe_brace_at (may_nest s) (t ∷ ts) >>= pair-up d) >>= pair-up (given g)) >>= pair-up (names-of a)) >>= bare-read) >>= headed values s)
    at s false e = rw e (ap (λ (x : Positioned Selection). Read x (t ∷ ts)) (sym (bare-is a g d)))
    at zero true e = rw e refl
    at (suc n) true e =
        rw e (ap (λ (o : Outcome Set). ((((o >>= λ set rest. Read (Some set) rest) >>= pair-up d) >>= pair-up g) >>= pair-up a) >>= field-read) (opened n e) ∙ with (wanted_rest values n (begun t.pos) ts))

abbrev after-arguments : ℕ → ℕ → List Token → Outcome (Directives × Option Set)
after-arguments values s = then_at (directives_at true values) (opt_at (punct "{") (deeper_at values s))

abbrev head-after-arguments : ℕ → ℕ → List Token → Outcome (Directives × Option Pos)
head-after-arguments values s = then_at (directives_at true values) (maybe_brace_at (may_nest s))

field-law : (values s : ℕ) (ts : List Token) → field_at values (deeper_at values s) ts ≡ (field_head_at values (may_nest s) ts >>= headed values s)
field-law values s ts = first (aliased_at ts) ∙ ap (λ (o : Outcome Names). ((o >>= λ n rest. then_at (given_arguments_at values) (head-after-arguments values s) rest >>= pair-up n) >>= bare-read) >>= headed values s) (names-law ts)
  where
    third : (a : Option Token × Token) (g : Option Arguments) (o : Outcome Directives) → ((((o >>= λ d rest. opt_at (punct "{") (deeper_at values s) rest >>= pair-up d) >>= pair-up g) >>= pair-up a) >>= field-read) ≡ (((((o >>= λ d rest. maybe_brace_at (may_nest s) rest >>= pair-up d) >>= pair-up (given g)) >>= pair-up (names-of a)) >>= bare-read) >>= headed values s)
    third a g (Refused v rest) = refl
    third a g (Read d rest) = field-end values s a g d rest

    second : (a : Option Token × Token) (o : Outcome (Option Arguments)) → (((o >>= λ g rest. after-arguments values s rest >>= pair-up g) >>= pair-up a) >>= field-read) ≡ (((((o >>= λ g rest. Read (given g) rest) >>= λ g rest. head-after-arguments values s rest >>= pair-up g) >>= pair-up (names-of a)) >>= bare-read) >>= headed values s)
    second a (Refused v rest) = refl
    second a (Read g rest) = third a g (directives_at true values rest)

    first : (o : Outcome (Option Token × Token)) → ((o >>= λ a rest. then_at (maybe_arguments_at true values) (after-arguments values s) rest >>= pair-up a) >>= field-read) ≡ ((((o >>= names-read) >>= λ n rest. then_at (given_arguments_at values) (head-after-arguments values s) rest >>= pair-up n) >>= bare-read) >>= headed values s)
    first (Refused v rest) = refl
    first (Read a rest) = second a (maybe_arguments_at true values rest)

-- ---- what stands after `...`

abbrev inline-read : Token → Inline → List Token → Outcome (Positioned Selection)
inline-read dots x rest = Read (inline_of (dots, x)) rest

abbrev inline-head-read : Token → Option (Positioned TypeCondition) × (Directives × Token) → List Token → Outcome Heading
inline-head-read dots x rest = Read (bare_inline dots.pos x.0 x.1.0, Some x.1.1.pos) rest

inline-law : (values n : ℕ) (dots : Token) (ts : List Token) → (inline_at values (selection_set_at values n) ts >>= inline-read dots) ≡ (inline_head_at values dots.pos ts >>= headed values (suc n))
unfolding opt_at
inline-law values n dots ts = first (maybe_condition_at ts)
  where
    fourth : (k : Option (Positioned TypeCondition)) (d : Directives) (o : Outcome Set) → (((o >>= pair-up d) >>= pair-up k) >>= inline-read dots) ≡ (o >>= λ set rest. Read (placed (with_set set) (bare_inline dots.pos k d)) rest)
    fourth k d (Read set rest) = refl
    fourth k d (Refused v rest) = refl

    brace : (k : Option (Positioned TypeCondition)) (d : Directives) (o : Outcome Token) → ((o >>= λ t rest. wanted_rest values n (begun t.pos) rest) >>= λ set rest. Read (placed (with_set set) (bare_inline dots.pos k d)) rest) ≡ ((((o >>= pair-up d) >>= pair-up k) >>= inline-head-read dots) >>= headed values (suc n))
    brace k d (Read t rest) = refl
    brace k d (Refused v rest) = refl

    third : (k : Option (Positioned TypeCondition)) (d : Directives) (ts : List Token) → (((selection_set_at values n ts >>= pair-up d) >>= pair-up k) >>= inline-read dots) ≡ ((((one_at (punct "{") ts >>= pair-up d) >>= pair-up k) >>= inline-head-read dots) >>= headed values (suc n))
    third k d ts =
        fourth k d (selection_set_at values n ts)
        ∙ ap (λ (o : Outcome Set). o >>= λ set rest. Read (placed (with_set set) (bare_inline dots.pos k d)) rest) (set-law values n ts)
        ∙ brace k d (one_at (punct "{") ts)

    second : (k : Option (Positioned TypeCondition)) (o : Outcome Directives) → (((o >>= λ d rest. selection_set_at values n rest >>= pair-up d) >>= pair-up k) >>= inline-read dots) ≡ ((((o >>= λ d rest. one_at (punct "{") rest >>= pair-up d) >>= pair-up k) >>= inline-head-read dots) >>= headed values (suc n))
    second k (Refused v rest) = refl
    second k (Read d rest) = third k d rest

    first : (o : Outcome (Option (Positioned TypeCondition))) → ((o >>= λ k rest. then_at (directives_at true values) (selection_set_at values n) rest >>= pair-up k) >>= inline-read dots) ≡ (((o >>= λ k rest. then_at (directives_at true values) (one_at (punct "{")) rest >>= pair-up k) >>= inline-head-read dots) >>= headed values (suc n))
    first (Refused v rest) = refl
    first (Read k rest) = second k (directives_at true values rest)

rest-law : (values s : ℕ) (dots t : Token) (ts : List Token) → (rest_at values s (t ∷ ts) >>= inline-read dots) ≡ (cond (may_nest s) (inline_head_at values dots.pos (t ∷ ts)) (deep_at inline_first (t ∷ ts)) >>= headed values s)
rest-law values zero dots t ts = go (inline_first t.bare)
  where
    go : (w : Bool) → (cond w (Refused limit (t ∷ ts)) (Refused syntax (t ∷ ts)) >>= inline-read dots) ≡ (cond w (Refused limit (t ∷ ts)) (Refused syntax (t ∷ ts)) >>= headed values zero)
    go true = refl
    go false = refl
rest-law values (suc n) dots t ts = inline-law values n dots (t ∷ ts)

abbrev after-dots : ℕ → ℕ → Reader AfterDots
after-dots values s = choose_at fragment_name (mapped_at a_name (then_at (one_at fragment_name) (directives_at true values))) (mapped_at an_inline (rest_at values s))

abbrev dotted-read : Token × AfterDots → List Token → Outcome (Positioned Selection)
dotted-read x rest = Read (dotted x) rest

dots-law : (values s : ℕ) (dots : Token) (ts : List Token) → ((after-dots values s ts >>= pair-up dots) >>= dotted-read) ≡ (after_dots_at values (may_nest s) dots.pos ts >>= headed values s)
dots-law values s dots [] = refl
dots-law values s dots (t ∷ ts) = at (fragment_name t.bare) refl
  where
    spread : (o : Outcome Directives) → ((((o >>= pair-up t) >>= λ x rest. Read (a_name x) rest) >>= pair-up dots) >>= dotted-read) ≡ (((o >>= pair-up t) >>= λ x rest. Read (bare_spread dots.pos (name_of x.0) x.1, None) rest) >>= headed values s)
    spread (Read d rest) = refl
    spread (Refused v rest) = refl

    inline : (o : Outcome Inline) → (((o >>= λ x rest. Read (an_inline x) rest) >>= pair-up dots) >>= dotted-read) ≡ (o >>= inline-read dots)
    inline (Read x rest) = refl
    inline (Refused v rest) = refl

    at : (w : Bool) → fragment_name t.bare ≡ w → ((after-dots values s (t ∷ ts) >>= pair-up dots) >>= dotted-read) ≡ (after_dots_at values (may_nest s) dots.pos (t ∷ ts) >>= headed values s)
    at true e = rw (e, fragment-within.by t.bare e) (spread (directives_at true values ts))
    at false e = rw e (inline (rest_at values s (t ∷ ts)) ∙ rest-law values s dots t ts)

-- ---- a selection

pub item-law : (values s : ℕ) (ts : List Token) → item_at values s ts ≡ (head_at values (may_nest s) ts >>= headed values s)
unfolding item_at
item-law values s [] = refl
item-law values s (t ∷ ts) = at (punct "..." t.bare) refl
  where
    at : (w : Bool) → punct "..." t.bare ≡ w → selection_at values (deeper_at values s) (rest_at values s) (t ∷ ts) ≡ (head_at values (may_nest s) (t ∷ ts) >>= headed values s)
    at true e = rw e (dots-law values s t ts)
    at false e = rw e (field-law values s (t ∷ ts))

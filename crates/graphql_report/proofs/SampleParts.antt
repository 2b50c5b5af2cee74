-- Samples stand for the tokens of values, arguments, directives, types and kinds of operations.
use Rattle.std.proofs.Common.{◌≡◌, ℕ, zero, suc, Bool, true, false, ◌&&◌, IsTrue, List, [], ◌∷◌, inl, inr, ◌⊎◌, refl, sym, ap, ◌∙◌, subst}
use Rattle.std.proofs.lemmas.Str.{chars-nil}
use Rattle.graphql_tokens.specs.tokens.Edition.{Current}
use Rattle.graphql_tokens.specs.tokens.Kinds.{is_number, is_string, is_block}
use Rattle.graphql_tokens.specs.tokens.Token.{Bare, Token}
use Rattle.graphql_tokens.specs.declared.lexer.TokenKind.{TokenKind}
use Rattle.graphql_tokens.specs.declared.lexer.TokenKind.TheVariants.{Name, Number, String as Quoted, Block}
use Rattle.graphql_reading.specs.grammar.Relations.{Rel, one, meaning, ◌∪◌, mapped}
use Rattle.graphql_reading.specs.grammar.Tests.{punct, keyword, name_but, any_number, any_string, any_block}
use Rattle.graphql_reading.proofs.TokenTests.{keyword-is, name_but-is}
use Rattle.graphql_grammar.specs.grammar.Arguments.{arguments, a_directive, directives, a_default}
use Rattle.graphql_grammar.specs.grammar.Operations.{operation_type}
use Rattle.graphql_grammar.specs.grammar.Types.{a_named_type, type_reference}
use Rattle.graphql_grammar.specs.grammar.Values.{Value, StringStands, BlockStands, a_word, a_string, a_block, dollar, a_list, an_object, a_simple_value, value}
use Rattle.graphql_report.proofs.SampleTokens.{some_string, IsSampleOf, itself, a_number as by_number, a_string as by_string, a_block as by_block, a_name as by_name, a_location as by_location, Keeps, keeps-punct, AreSamplesOf, one-is, AllowsSamples, allows-one, allows-then, allows-mapped, allows-either, allows-star, allows-plus, allows-opt, allows-punct, allows-keyword, allows-name, allows-after, allows-between}
use Prim.Native.String.{String}

-- ---- numbers

number-kind : (kind : TokenKind) → IsTrue (is_number kind) → kind ≡ Number
number-kind Number h = refl
number-kind other h = absurd cc

keeps-number : Keeps any_number
keeps-number = record { by = by }
  where
    by : (t u : Bare) → IsSampleOf t u → IsTrue (any_number t) → IsTrue (any_number u)
    by t u (itself e) h = subst (λ (t : Bare). IsTrue (any_number t)) e h
    by t u (by_number kind e) h = subst (λ (t : Bare). IsTrue (any_number t)) (sym e) refl
    by t u (by_string kind e) h = absurd (let is = number-kind t.kind h in cc)
    by t u (by_block kind e) h = absurd (let is = number-kind t.kind h in cc)
    by t u (by_name kind none elsewhere e) h = absurd (let is = number-kind t.kind h in cc)
    by t u (by_location kind none location there e) h = absurd (let is = number-kind t.kind h in cc)

-- ---- strings and block strings

abbrev IsText : Bare → List ℕ → Type 0
IsText t bytes = (IsTrue (any_string t) × StringStands Current t bytes) ⊎ (IsTrue (any_block t) × BlockStands t bytes)

string-kind : (kind : TokenKind) → IsTrue (is_string kind) → kind ≡ Quoted
string-kind Quoted h = refl
string-kind other h = absurd cc

block-kind : (kind : TokenKind) → IsTrue (is_block kind) → kind ≡ Block
block-kind Block h = refl
block-kind other h = absurd cc

no-text : (kind : TokenKind) → (kind ≡ Quoted → ⊥) → (kind ≡ Block → ⊥) → (t : Bare) (bytes : List ℕ) → t.kind ≡ kind → IsText t bytes → ⊥
no-text kind no-string no-block t bytes is (inl h) = no-string (sym is ∙ string-kind t.kind h.0)
no-text kind no-string no-block t bytes is (inr h) = no-block (sym is ∙ block-kind t.kind h.0)

empty-text : IsText some_string []
empty-text = inl (refl, ([], ([], chars-nil, tt), refl))

text-sample : (t u : Bare) (bytes : List ℕ) → IsSampleOf t u → IsText t bytes → (other : List ℕ) × IsText u other
text-sample t u bytes (itself e) h = (bytes, subst (λ (t : Bare). IsText t bytes) e h)
text-sample t u bytes (by_string kind e) h = ([], subst (λ (t : Bare). IsText t []) (sym e) empty-text)
text-sample t u bytes (by_block kind e) h = ([], subst (λ (t : Bare). IsText t []) (sym e) empty-text)
text-sample t u bytes (by_number kind e) h = absurd (no-text Number (λ e. cc) (λ e. cc) t bytes kind h)
text-sample t u bytes (by_name kind none elsewhere e) h = absurd (no-text Name (λ e. cc) (λ e. cc) t bytes kind h)
text-sample t u bytes (by_location kind none location there e) h = absurd (no-text Name (λ e. cc) (λ e. cc) t bytes kind h)

-- a string or a block string, and what is made of it
abbrev pub a_text : {A : Type 0} → (Token × List ℕ → A) → Rel A
a_text f = mapped f (meaning any_string (StringStands Current)) ∪ mapped f (meaning any_block BlockStands)

to-text : {A : Type 0} (f : Token × List ℕ → A) (y : List Token) (u : Token) (bytes : List ℕ) → y ≡ u ∷ [] → IsText u.bare bytes → a_text f y (f (u, bytes))
to-text f y u bytes is (inl h) = inl (record { value = (u, bytes); holds = (is, h.0, h.1); is = refl })
to-text f y u bytes is (inr h) = inr (record { value = (u, bytes); holds = (is, h.0, h.1); is = refl })

text-at : {A : Type 0} (f : Token × List ℕ → A) (x y : List Token) (t : Token) (bytes : List ℕ) → x ≡ t ∷ [] → IsText t.bare bytes → AreSamplesOf x y → (b : A) × a_text f y b
text-at f x y t bytes is h samples =
    let m = one-is t y (subst (λ (l : List Token). AreSamplesOf l y) is samples) in
    let other = text-sample t.bare m.sample.bare bytes m.by h in
    (f (m.sample, other.0), to-text f y m.sample other.0 m.is other.1)

pub allows-text : {A : Type 0} (f : Token × List ℕ → A) → AllowsSamples (a_text f)
allows-text {A} f = record { by = by }
  where
    by : (x y : List Token) (a : A) → a_text f x a → AreSamplesOf x y → (b : A) × a_text f y b
    by x y a (inl m) samples = text-at f x y m.value.0 m.value.1 m.holds.0 (inl (m.holds.1, m.holds.2)) samples
    by x y a (inr m) samples = text-at f x y m.value.0 m.value.1 m.holds.0 (inr (m.holds.1, m.holds.2)) samples

-- ---- names as values

abbrev words : List String
words = "true" ∷ "false" ∷ "null" ∷ []

abbrev IsWord : Bare → Type 0
IsWord t = IsTrue (keyword "true" t) ⊎ IsTrue (keyword "false" t) ⊎ IsTrue (keyword "null" t) ⊎ IsTrue (name_but words t)

word-kind : (t : Bare) → IsWord t → t.kind ≡ Name
word-kind t (inl h) = ap (λ (t : Bare). t.kind) (keyword-is "true" t h)
word-kind t (inr (inl h)) = ap (λ (t : Bare). t.kind) (keyword-is "false" t h)
word-kind t (inr (inr (inl h))) = ap (λ (t : Bare). t.kind) (keyword-is "null" t h)
word-kind t (inr (inr (inr h))) = ap (λ (t : Bare). t.kind) (name_but-is words t h)

word-sample : (t u : Bare) → IsSampleOf t u → IsWord t → IsWord u
word-sample t u (itself e) h = subst IsWord e h
word-sample t u (by_number kind e) h = absurd (let is = word-kind t h in cc)
word-sample t u (by_string kind e) h = absurd (let is = word-kind t h in cc)
word-sample t u (by_block kind e) h = absurd (let is = word-kind t h in cc)
word-sample t u (by_name kind none elsewhere e) h = subst IsWord (sym e) (inr (inr (inr refl)))
word-sample t u (by_location kind none location there e) h = subst IsWord (sym e) (inr (inr (inr refl)))

word-made : (y : List Token) (u : Token) → y ≡ u ∷ [] → IsWord u.bare → (b : Value) × a_word y b
word-made y u is (inl h) = (_, inl (record { value = u; holds = (is, h); is = refl }))
word-made y u is (inr (inl h)) = (_, inr (inl (record { value = u; holds = (is, h); is = refl })))
word-made y u is (inr (inr (inl h))) = (_, inr (inr (inl (record { value = u; holds = (is, h); is = refl }))))
word-made y u is (inr (inr (inr h))) = (_, inr (inr (inr (record { value = u; holds = (is, h); is = refl }))))

word-at : (x y : List Token) (t : Token) → x ≡ t ∷ [] → IsWord t.bare → AreSamplesOf x y → (b : Value) × a_word y b
word-at x y t is h samples =
    let m = one-is t y (subst (λ (l : List Token). AreSamplesOf l y) is samples) in
    word-made y m.sample m.is (word-sample t.bare m.sample.bare m.by h)

allows-word : AllowsSamples a_word
allows-word = record { by = by }
  where
    by : (x y : List Token) (a : Value) → a_word x a → AreSamplesOf x y → (b : Value) × a_word y b
    by x y a (inl m) samples = word-at x y m.value m.holds.0 (inl m.holds.1) samples
    by x y a (inr (inl m)) samples = word-at x y m.value m.holds.0 (inr (inl m.holds.1)) samples
    by x y a (inr (inr (inl m))) samples = word-at x y m.value m.holds.0 (inr (inr (inl m.holds.1))) samples
    by x y a (inr (inr (inr m))) samples = word-at x y m.value m.holds.0 (inr (inr (inr m.holds.1))) samples

-- ---- values

pub and-first : (v w : Bool) → IsTrue (v && w) → IsTrue v
and-first true w h = refl
and-first false w h = absurd cc

and-second : (v w : Bool) → IsTrue (v && w) → IsTrue w
and-second true w h = h
and-second false w h = absurd cc

and-both : (v w : Bool) → IsTrue v → IsTrue w → IsTrue (v && w)
and-both true w h k = k
and-both false w h k = absurd cc

keeps-dollar : (vars : Bool) → Keeps (dollar vars)
keeps-dollar vars = record { by = λ t u sample h. and-both (punct "$" u) vars ((keeps-punct "$").by t u sample (and-first (punct "$" t) vars h)) (and-second (punct "$" t) vars h) }

-- the first two of three choices, and the third
regrouped : {A : Type 0} {p q r : Rel A} → AllowsSamples (p ∪ q) → AllowsSamples r → AllowsSamples (p ∪ q ∪ r)
regrouped {A} {p} {q} {r} h k = record { by = by }
  where
    back : (y : List Token) (b : A) → (p ∪ q) y b → (p ∪ q ∪ r) y b
    back y b (inl m) = inl m
    back y b (inr m) = inr (inl m)

    by : (x y : List Token) (a : A) → (p ∪ q ∪ r) x a → AreSamplesOf x y → (b : A) × (p ∪ q ∪ r) y b
    by x y a (inl m) samples = let i = h.by x y a (inl m) samples in (i.0, back y i.0 i.1)
    by x y a (inr (inl m)) samples = let i = h.by x y a (inr m) samples in (i.0, back y i.0 i.1)
    by x y a (inr (inr m)) samples = let i = k.by x y a m samples in (i.0, inr (inr i.1))

allows-simple : (vars : Bool) → AllowsSamples (a_simple_value Current vars)
allows-simple vars =
    allows-either allows-word
    (allows-either (allows-mapped _ (allows-one keeps-number))
    (regrouped {p = a_string Current} {q = a_block} (allows-text _)
    (allows-mapped _ (allows-then (allows-one (keeps-dollar vars)) allows-name))))

allows-list : {p : Rel Value} → AllowsSamples p → AllowsSamples (a_list p)
allows-list h = allows-mapped _ (allows-then (allows-punct "[") (allows-then (allows-star h) (allows-punct "]")))

allows-object : {p : Rel Value} → AllowsSamples p → AllowsSamples (an_object p)
allows-object h = allows-mapped _ (allows-then (allows-punct "{") (allows-then (allows-star (allows-mapped _ (allows-then allows-name (allows-then (allows-punct ":") h)))) (allows-punct "}")))

pub allows-value : (vars : Bool) (n : ℕ) → AllowsSamples (value Current vars n)
allows-value vars zero = allows-simple vars
allows-value vars (suc n) = allows-either (allows-simple vars) (allows-either (allows-list (allows-value vars n)) (allows-object (allows-value vars n)))

-- ---- arguments, directives and default values

pub allows-arguments : (vars : Bool) (n : ℕ) → AllowsSamples (arguments Current vars n)
allows-arguments vars n = allows-between "(" ")" (allows-plus (allows-mapped _ (allows-then allows-name (allows-then (allows-punct ":") (allows-value vars n)))))

pub allows-directive : (vars : Bool) (n : ℕ) → AllowsSamples (a_directive Current vars n)
allows-directive vars n = allows-mapped _ (allows-then (allows-punct "@") (allows-then allows-name (allows-opt (allows-arguments vars n))))

pub allows-directives : (vars : Bool) (n : ℕ) → AllowsSamples (directives Current vars n)
allows-directives vars n = allows-star (allows-directive vars n)

pub allows-default : (n : ℕ) → AllowsSamples (a_default Current n)
allows-default n = allows-after (keeps-punct "=") (allows-value false n)

-- ---- types

allows-mark : AllowsSamples (one (punct "!"))
allows-mark = allows-punct "!"

allows-named_type : AllowsSamples a_named_type
allows-named_type = allows-mapped _ (allows-then allows-name (allows-opt allows-mark))

pub allows-type : (n : ℕ) → AllowsSamples (type_reference n)
allows-type zero = allows-named_type
allows-type (suc n) = allows-either allows-named_type (allows-mapped _ (allows-then (allows-punct "[") (allows-then (allows-type n) (allows-then (allows-punct "]") (allows-opt allows-mark)))))

-- ---- operations

pub allows-operation_type : AllowsSamples operation_type
allows-operation_type =
    allows-either (allows-mapped _ (allows-keyword "query" refl))
    (allows-either (allows-mapped _ (allows-keyword "mutation" refl))
    (allows-mapped _ (allows-keyword "subscription" refl)))

-- Tests of the tokens that only values are made of: what passes them, and tokens that do.
use Rattle.std.proofs.Common.{◌≡◌, ℕ, Bool, true, false, ◌&&◌, IsTrue, List, refl, sym, ap, subst}
use Rattle.graphql_tokens.specs.tokens.Token.{Bare}
use Rattle.graphql_tokens.specs.tokens.Cuts.{is_last}
use Rattle.graphql_tokens.specs.declared.lexer.TokenKind.{TokenKind}
use Rattle.graphql_tokens.specs.declared.lexer.TokenKind.TheVariants as kinds
use Rattle.graphql_reading.specs.grammar.Tests.{Test, punct, any_number, any_string, any_block}
use Rattle.graphql_tokens.specs.tokens.Kinds.{is_number, is_string, is_block}
use Rattle.graphql_grammar.specs.grammar.Values.{dollar}
use Rattle.graphql_reading.proofs.Theory.{IsSubset, IsInner}
use Rattle.graphql_reading.proofs.TokenTests.{punctuator, punct-is}

-- ---- kinds

is-number : (k : TokenKind) → IsTrue (is_number k) → k ≡ kinds.Number
is-number kinds.Number e = refl
is-number k e = absurd cc

is-string : (k : TokenKind) → IsTrue (is_string k) → k ≡ kinds.String
is-string kinds.String e = refl
is-string k e = absurd cc

is-block : (k : TokenKind) → IsTrue (is_block k) → k ≡ kinds.Block
is-block kinds.Block e = refl
is-block k e = absurd cc

-- ---- what passes

abbrev pub number : List ℕ → Bare
number spelling = record { kind = kinds.Number; spelling = spelling }

abbrev pub quoted : List ℕ → Bare
quoted spelling = record { kind = kinds.String; spelling = spelling }

abbrev pub block : List ℕ → Bare
block spelling = record { kind = kinds.Block; spelling = spelling }

pub any_number-is : (t : Bare) → IsTrue (any_number t) → t ≡ number t.spelling
any_number-is t e = let kind = is-number t.kind e in λ i. record { kind = kind i; spelling = t.spelling }

pub any_string-is : (t : Bare) → IsTrue (any_string t) → t ≡ quoted t.spelling
any_string-is t e = let kind = is-string t.kind e in λ i. record { kind = kind i; spelling = t.spelling }

pub any_block-is : (t : Bare) → IsTrue (any_block t) → t ≡ block t.spelling
any_block-is t e = let kind = is-block t.kind e in λ i. record { kind = kind i; spelling = t.spelling }

both-parts : (w v : Bool) → IsTrue (w && v) → IsTrue w × (v ≡ true)
both-parts true v e = (refl, e)
both-parts false v e = absurd cc

-- a `$`, and variables may stand here
pub dollar-is : (vars : Bool) (t : Bare) → IsTrue (dollar vars t) → (t ≡ punctuator "$") × (vars ≡ true)
dollar-is vars t e =
    let parts = both-parts (punct "$" t) vars e in
    (punct-is "$" t parts.0, parts.1)

-- ---- one test within another

pub any_number-within : {g : Test} → ((spelling : List ℕ) → IsTrue (g (number spelling))) → IsSubset any_number g
any_number-within {g} h = record { by = λ t e. subst (λ (t : Bare). IsTrue (g t)) (sym (any_number-is t e)) (h t.spelling) }

pub any_string-within : {g : Test} → ((spelling : List ℕ) → IsTrue (g (quoted spelling))) → IsSubset any_string g
any_string-within {g} h = record { by = λ t e. subst (λ (t : Bare). IsTrue (g t)) (sym (any_string-is t e)) (h t.spelling) }

pub any_block-within : {g : Test} → ((spelling : List ℕ) → IsTrue (g (block spelling))) → IsSubset any_block g
any_block-within {g} h = record { by = λ t e. subst (λ (t : Bare). IsTrue (g t)) (sym (any_block-is t e)) (h t.spelling) }

pub dollar-within : (vars : Bool) {g : Test} → (vars ≡ true → IsTrue (g (punctuator "$"))) → IsSubset (dollar vars) g
dollar-within vars {g} h = record { by = λ t e. let is = dollar-is vars t e in subst (λ (t : Bare). IsTrue (g t)) (sym is.0) (h is.1) }

-- ---- tests that no last token passes

pub any_number-inner : IsInner any_number
any_number-inner t e = ap (λ (t : Bare). is_last t.kind) (any_number-is t e)

pub any_string-inner : IsInner any_string
any_string-inner t e = ap (λ (t : Bare). is_last t.kind) (any_string-is t e)

pub any_block-inner : IsInner any_block
any_block-inner t e = ap (λ (t : Bare). is_last t.kind) (any_block-is t e)

pub dollar-inner : (vars : Bool) → IsInner (dollar vars)
dollar-inner vars t e = ap (λ (t : Bare). is_last t.kind) (dollar-is vars t e).0

-- What the phrases of values, arguments, directives and types consist of.
use Rattle.std.proofs.Common.{◌≡◌, ℕ, zero, suc, pred, Bool, true, false, cond, ◌&&◌, ◌||◌, List, [], ◌∷◌, refl, sym, ap, ◌∙◌, subst, codes}
use Rattle.std.specs.Str.{bytes_eq}
use Rattle.graphql_tokens.specs.tokens.Kinds.{is_punct, is_name, is_number, is_string, is_block}
use Rattle.graphql_syntax.specs.trees.TypeTree.{TypeTree}
use Rattle.graphql_tokens.specs.declared.pos.Positioned.{Positioned}
use Rattle.graphql_tokens.specs.tokens.Token.{Bare, Token}
use Rattle.graphql_tokens.specs.declared.lexer.TokenKind.{TokenKind}
use Rattle.graphql_tokens.specs.declared.lexer.TokenKind.TheVariants.{Punct}
use Rattle.graphql_reading.specs.grammar.Fronts.{syntax, limit}
use Rattle.graphql_reading.specs.grammar.Limits.{Limits}
use Rattle.graphql_reading.specs.grammar.Tests.{Test, punct, any_name, any_number, any_string, any_block}
use Rattle.graphql_reading.specs.reading.Outcome.{Outcome, Reader, Read, Refused, ◌>>=◌, one_at, choose_at, deep_at, many_at, meaning_at, meant}
use Rattle.graphql_grammar.specs.grammar.Arguments.{argument_of, directive_of}
use Rattle.graphql_grammar.specs.grammar.Types.{named_of, list_type_of}
use Rattle.graphql_grammar.specs.grammar.Values.{Value, string_of, variable_of, list_of, object_field_of, object_of, dollar}
use Rattle.graphql_grammar.specs.reading.Arguments.{argument_at, arguments_at, maybe_arguments_at, directive_at, directives_at}
use Rattle.graphql_grammar.specs.reading.Types.{mark_at, named_type_at, list_type_at, type_at}
use Rattle.graphql_grammar.specs.reading.Values.{block_text, word_at, number_at, string_at, block_at, variable_at, simple_at, simple_first, value_first, list_at, field_at, object_at, value_at}
use Rattle.graphql_grammar.proofs.ArgumentProductions.{takes-argument, takes-directive}
use Rattle.graphql_grammar.proofs.ValueProductions.{takes-value, takes-field}
use Rattle.graphql_parser.specs.Checked.{ended}
use Rattle.graphql_report.specs.declared.phrases.Mark.{Mark}
use Rattle.graphql_report.specs.declared.phrases.Mark.TheVariants as marks
use Rattle.graphql_report.specs.declared.phrases.Phrase.TheVariants as phrases
use Rattle.graphql_report.specs.inner.Left.{in_sight, mark_text, literal_at, unnamed_at, bracketed_at, phrases_at}
use Rattle.graphql_report.proofs.Apart.{mapped-ended, chosen, Is, phrase-is, mapped-is, then-is, plus-is, IsAt, at, choose-by, choose-at, opt-at, many-at, Consists}

-- one token
module _ (limits : Limits) where
  pub mark-is : (mark : Mark) → Is limits (one_at (punct (mark_text mark))) (phrases.Mark mark ∷ [])
  mark-is mark = phrase-is limits (one_at (punct (mark_text mark))) (phrases.Mark mark) (λ ts. refl)

  pub name-is : Is limits (one_at any_name) (phrases.Name ∷ [])
  name-is = phrase-is limits (one_at any_name) phrases.Name (λ ts. refl)

  pub value-is : (variables : Bool) (levels : ℕ) → Is limits (value_at variables levels) (phrases.Value variables levels ∷ [])
  value-is variables levels = phrase-is limits (value_at variables levels) (phrases.Value variables levels) (λ ts. refl)

  own_value-is : (variables : Bool) → Is limits (value_at variables limits.values) (phrases.OwnValue variables ∷ [])
  own_value-is variables = phrase-is limits (value_at variables limits.values) (phrases.OwnValue variables) (λ ts. refl)

  -- what begins with a name and a value after its colon
  field-is : (variables : Bool) (levels : ℕ) → Is limits (field_at (value_at variables levels)) (phrases.Name ∷ phrases.Mark marks.Colon ∷ phrases.Value variables levels ∷ [])
  field-is variables levels = mapped-is limits object_field_of (then-is limits name-is (then-is limits (mark-is marks.Colon) (value-is variables levels)))

  argument-is : (variables : Bool) → Is limits (argument_at variables limits.values) (phrases.Name ∷ phrases.Mark marks.Colon ∷ phrases.OwnValue variables ∷ [])
  argument-is variables = mapped-is limits argument_of (then-is limits name-is (then-is limits (mark-is marks.Colon) (own_value-is variables)))

  arguments-is : (variables : Bool) → Is limits (arguments_at variables limits.values) (phrases.Mark marks.OpenParen ∷ phrases.Name ∷ phrases.Mark marks.Colon ∷ phrases.OwnValue variables ∷ phrases.Arguments variables ∷ phrases.Mark marks.CloseParen ∷ [])
  arguments-is variables = mapped-is limits _ (then-is limits (mark-is marks.OpenParen) (then-is limits (plus-is limits any_name (phrases.Arguments variables) (λ ts. refl) (argument-is variables)) (mark-is marks.CloseParen)))

  directive-is : (variables : Bool) → Is limits (directive_at variables limits.values) (phrases.Mark marks.At ∷ phrases.Name ∷ phrases.MaybeArguments variables ∷ [])
  directive-is variables = mapped-is limits directive_of (then-is limits (mark-is marks.At) (then-is limits name-is (phrase-is limits (maybe_arguments_at variables limits.values) (phrases.MaybeArguments variables) (λ ts. refl))))

  pub directives-is : (variables : Bool) → Is limits (directives_at variables limits.values) (phrases.Directives variables ∷ [])
  directives-is variables = phrase-is limits (directives_at variables limits.values) (phrases.Directives variables) (λ ts. refl)

  pub type-is : (levels : ℕ) → Is limits (type_at levels) (phrases.Type levels ∷ [])
  type-is levels = phrase-is limits (type_at levels) (phrases.Type levels) (λ ts. refl)

  pub own_type-is : Is limits (type_at limits.types) (phrases.OwnType ∷ [])
  own_type-is = phrase-is limits (type_at limits.types) phrases.OwnType (λ ts. refl)

  pub bang-is : Is limits mark_at (phrases.MaybeMark marks.Bang ∷ [])
  bang-is = phrase-is limits mark_at (phrases.MaybeMark marks.Bang) (λ ts. refl)

  -- ---- values

  -- a name, as a value: any of the three words, or of an enum
  word-any : (ts : List Token) (b : Bare) → in_sight ts ≡ b ∷ [] → any_name b ≡ true → ended (word_at ts) ≡ ended (one_at any_name ts)
  word-any [] b seen is = absurd cc
  word-any (t ∷ ts) b seen is =
      let same : b ≡ t.bare = cc in
      words (is_name t.bare.kind) (bytes_eq t.bare.spelling (codes "true")) (bytes_eq t.bare.spelling (codes "false")) (bytes_eq t.bare.spelling (codes "null")) (sym (ap any_name same) ∙ is) refl refl refl refl
    where
      words : (n x y z : Bool) → any_name t.bare ≡ true → is_name t.bare.kind ≡ n → bytes_eq t.bare.spelling (codes "true") ≡ x → bytes_eq t.bare.spelling (codes "false") ≡ y → bytes_eq t.bare.spelling (codes "null") ≡ z → ended (word_at (t ∷ ts)) ≡ ended (one_at any_name (t ∷ ts))
      words true true y z here a e f g = rw (a, e) refl
      words true false true z here a e f g = rw (a, e, f) refl
      words true false false true here a e f g = rw (a, e, f, g) refl
      words true false false false here a e f g = rw (a, e, f, g) refl
      words false x y z here a e f g = absurd (let is : true ≡ false = sym here ∙ a in cc)

  refused-one : (test : Test) (t : Token) (ts : List Token) → test t.bare ≡ false → ended (one_at test (t ∷ ts)) ≡ Refused syntax (t ∷ ts)
  refused-one test t ts e = ap (λ (w : Bool). ended (cond w (Read t ts) (Refused syntax (t ∷ ts)))) e

  refused-block : (t : Token) (ts : List Token) → any_block t.bare ≡ false → ended (block_at (t ∷ ts)) ≡ Refused syntax (t ∷ ts)
  refused-block t ts e = mapped-ended string_of (meaning_at any_block block_text (t ∷ ts)) ∙ ap (λ (w : Bool). ended (cond w (meant t ts (block_text t.bare)) (Refused syntax (t ∷ ts)))) e

  deep-in : (A : Type 0) (test : Test) (t : Token) (ts : List Token) (w : Bool) → test t.bare ≡ w → ended (deep_at {A = A} test (t ∷ ts)) ≡ phrases_at limits (cond w (phrases.TooDeep ∷ []) (phrases.Never ∷ [])) (t ∷ ts)
  deep-in A test t ts true e = ap (λ (w : Bool). ended (cond {A = Outcome A} w (Refused limit (t ∷ ts)) (Refused syntax (t ∷ ts)))) e
  deep-in A test t ts false e = ap (λ (w : Bool). ended (cond {A = Outcome A} w (Refused limit (t ∷ ts)) (Refused syntax (t ∷ ts)))) e

  -- no level is left
  pub deep-at : (A : Type 0) (test : Test) (b : Bare) → IsAt limits b (deep_at {A = A} test) (cond (test b) (phrases.TooDeep ∷ []) (phrases.Never ∷ []))
  deep-at A test b = record { by = by }
    where
      by : (ts : List Token) → in_sight ts ≡ b ∷ [] → ended (deep_at {A = A} test ts) ≡ phrases_at limits (cond (test b) (phrases.TooDeep ∷ []) (phrases.Never ∷ [])) ts
      by [] seen = absurd cc
      by (t ∷ ts) seen = let same : t.bare ≡ b = cc in deep-in A test t ts (test b) (ap test same)

  variable-is : (variables : Bool) → Is limits (variable_at variables) (phrases.Dollar variables ∷ phrases.Name ∷ [])
  variable-is variables = mapped-is limits variable_of (then-is limits (phrase-is limits (one_at (dollar variables)) (phrases.Dollar variables) (λ ts. refl)) name-is)

  -- where no variable is in sight
  refused-variable : (variables : Bool) (t : Token) (ts : List Token) → punct "$" t.bare ≡ false → ended (variable_at variables (t ∷ ts)) ≡ Refused syntax (t ∷ ts)
  refused-variable variables t ts e =
      (variable-is variables).by (t ∷ ts)
      ∙ ap (λ (o : Outcome (Unit {0})). o >>= λ _ rest. phrases_at limits (phrases.Name ∷ []) rest) (refused-one (dollar variables) t ts (ap (λ (w : Bool). w && variables) e))

  no-punct : (kind : TokenKind) (w : Bool) → (is_punct kind && w) ≡ true → (is_number kind ≡ false) × (is_string kind ≡ false) × (is_block kind ≡ false)
  no-punct Punct w e = (refl, refl, refl)
  no-punct other w e = absurd cc

  list-is : (variables : Bool) (levels : ℕ) → Is limits (list_at variables (value_at variables levels)) (phrases.Mark marks.OpenBracket ∷ phrases.Values variables levels ∷ phrases.Mark marks.CloseBracket ∷ [])
  list-is variables levels = mapped-is limits list_of (then-is limits (mark-is marks.OpenBracket) (then-is limits (phrase-is limits (many_at (value_first variables) (value_at variables levels)) (phrases.Values variables levels) (λ ts. refl)) (mark-is marks.CloseBracket)))

  object-is : (variables : Bool) (levels : ℕ) → Is limits (object_at (value_at variables levels)) (phrases.Mark marks.OpenBrace ∷ phrases.ObjectFields variables levels ∷ phrases.Mark marks.CloseBrace ∷ [])
  object-is variables levels = mapped-is limits object_of (then-is limits (mark-is marks.OpenBrace) (then-is limits (phrase-is limits (many_at any_name (field_at (value_at variables levels))) (phrases.ObjectFields variables levels) (λ ts. refl)) (mark-is marks.CloseBrace)))

  module _ (b : Bare) where
    pub value-productions : (variables : Bool) (levels : ℕ) → Consists limits b (phrases.Value variables levels) (cond (simple_first variables b) (phrases.Simple variables ∷ []) (phrases.Bracketed variables levels ∷ []))
    unfolding value_at
    value-productions variables zero = record { by = (choose-at limits b (simple_first variables) {r = simple_at variables} {s = bracketed_at variables zero} (at limits b (phrase-is limits (simple_at variables) (phrases.Simple variables) (λ ts. refl))) (at limits b (phrase-is limits (bracketed_at variables zero) (phrases.Bracketed variables zero) (λ ts. refl)))).by }
    value-productions variables (suc levels) = record { by = (choose-at limits b (simple_first variables) {r = simple_at variables} {s = bracketed_at variables (suc levels)} (at limits b (phrase-is limits (simple_at variables) (phrases.Simple variables) (λ ts. refl))) (at limits b (phrase-is limits (bracketed_at variables (suc levels)) (phrases.Bracketed variables (suc levels)) (λ ts. refl)))).by }

    pub values-productions : (variables : Bool) (levels : ℕ) → Consists limits b (phrases.Values variables levels) (cond (value_first variables b) (phrases.Value variables levels ∷ phrases.Values variables levels ∷ []) [])
    values-productions variables levels = record { by = (many-at limits b (value_first variables) (phrases.Values variables levels) (λ ts. refl) (takes-value variables levels) (value-is variables levels)).by }

    pub fields-productions : (variables : Bool) (levels : ℕ) → Consists limits b (phrases.ObjectFields variables levels) (cond (any_name b) (phrases.Name ∷ phrases.Mark marks.Colon ∷ phrases.Value variables levels ∷ phrases.ObjectFields variables levels ∷ []) [])
    fields-productions variables levels = record { by = (many-at limits b any_name (phrases.ObjectFields variables levels) (λ ts. refl) (takes-field variables levels) (field-is variables levels)).by }

    -- ---- arguments, directives and default values

    pub arguments-productions : (variables : Bool) → Consists limits b (phrases.Arguments variables) (cond (any_name b) (phrases.Name ∷ phrases.Mark marks.Colon ∷ phrases.OwnValue variables ∷ phrases.Arguments variables ∷ []) [])
    arguments-productions variables = record { by = (many-at limits b any_name (phrases.Arguments variables) (λ ts. refl) (takes-argument variables limits.values) (argument-is variables)).by }

    pub maybe_arguments-productions : (variables : Bool) → Consists limits b (phrases.MaybeArguments variables) (cond (punct "(" b) (phrases.Mark marks.OpenParen ∷ phrases.Name ∷ phrases.Mark marks.Colon ∷ phrases.OwnValue variables ∷ phrases.Arguments variables ∷ phrases.Mark marks.CloseParen ∷ []) [])
    maybe_arguments-productions variables = record { by = (opt-at limits b (punct "(") (arguments-is variables)).by }

    pub directives-productions : (variables : Bool) → Consists limits b (phrases.Directives variables) (cond (punct "@" b) (phrases.Mark marks.At ∷ phrases.Name ∷ phrases.MaybeArguments variables ∷ phrases.Directives variables ∷ []) [])
    directives-productions variables = record { by = (many-at limits b (punct "@") (phrases.Directives variables) (λ ts. refl) (takes-directive variables limits.values) (directive-is variables)).by }

    pub default-productions : Consists limits b phrases.MaybeDefault (cond (punct "=" b) (phrases.Mark marks.Equals ∷ phrases.OwnValue false ∷ []) [])
    default-productions = record { by = (opt-at limits b (punct "=") (mapped-is limits _ (then-is limits (mark-is marks.Equals) (own_value-is false)))).by }

    pub simple-productions : (variables : Bool) → Consists limits b (phrases.Simple variables) (cond (any_name b) (phrases.Name ∷ []) (phrases.Unnamed variables ∷ []))
    simple-productions variables = record {
      by = (choose-by limits b any_name {r = word_at} {s = unnamed_at variables}
          (λ is. record { by = λ ts seen. word-any ts b seen is ∙ name-is.by ts })
          (λ _. at limits b (phrase-is limits (unnamed_at variables) (phrases.Unnamed variables) (λ ts. refl)))).by;
    }

    -- where it is no variable, a value without a name is a literal
    literal-same : (variables : Bool) → punct "$" b ≡ false → (ts : List Token) → in_sight ts ≡ b ∷ [] → ended (unnamed_at variables ts) ≡ ended (literal_at ts)
    literal-same variables none [] seen = absurd cc
    literal-same variables none (t ∷ ts) seen = go (any_number b) (any_string b) (any_block b) refl refl refl
      where
        same : t.bare ≡ b
        same = cc

        stringy : Reader Value
        stringy = choose_at any_string string_at (choose_at any_block block_at (variable_at variables))

        go : (n s k : Bool) → any_number b ≡ n → any_string b ≡ s → any_block b ≡ k → ended (unnamed_at variables (t ∷ ts)) ≡ ended (literal_at (t ∷ ts))
        go true s k a e f = ap ended (chosen any_number number_at stringy true b (t ∷ ts) seen a) ∙ sym (ap ended (chosen any_number number_at (choose_at any_string string_at block_at) true b (t ∷ ts) seen a))
        go false true k a e f =
            ap ended (chosen any_number number_at stringy false b (t ∷ ts) seen a ∙ chosen any_string string_at (choose_at any_block block_at (variable_at variables)) true b (t ∷ ts) seen e)
            ∙ sym (ap ended (chosen any_number number_at (choose_at any_string string_at block_at) false b (t ∷ ts) seen a ∙ chosen any_string string_at block_at true b (t ∷ ts) seen e))
        go false false true a e f =
            ap ended (chosen any_number number_at stringy false b (t ∷ ts) seen a ∙ chosen any_string string_at (choose_at any_block block_at (variable_at variables)) false b (t ∷ ts) seen e ∙ chosen any_block block_at (variable_at variables) true b (t ∷ ts) seen f)
            ∙ sym (ap ended (chosen any_number number_at (choose_at any_string string_at block_at) false b (t ∷ ts) seen a ∙ chosen any_string string_at block_at false b (t ∷ ts) seen e))
        go false false false a e f =
            ap ended (chosen any_number number_at stringy false b (t ∷ ts) seen a ∙ chosen any_string string_at (choose_at any_block block_at (variable_at variables)) false b (t ∷ ts) seen e ∙ chosen any_block block_at (variable_at variables) false b (t ∷ ts) seen f)
            ∙ refused-variable variables t ts (ap (punct "$") same ∙ none)
            ∙ sym (refused-block t ts (ap any_block same ∙ f))
            ∙ sym (ap ended (chosen any_number number_at (choose_at any_string string_at block_at) false b (t ∷ ts) seen a ∙ chosen any_string string_at block_at false b (t ∷ ts) seen e))

    -- a variable is no literal
    variable-same : (variables : Bool) → punct "$" b ≡ true → (ts : List Token) → in_sight ts ≡ b ∷ [] → ended (unnamed_at variables ts) ≡ ended (variable_at variables ts)
    variable-same variables is ts seen =
        let no = no-punct b.kind (bytes_eq b.spelling (codes "$")) is in
        ap ended (chosen any_number number_at (choose_at any_string string_at (choose_at any_block block_at (variable_at variables))) false b ts seen no.0
        ∙ chosen any_string string_at (choose_at any_block block_at (variable_at variables)) false b ts seen no.1
        ∙ chosen any_block block_at (variable_at variables) false b ts seen no.2)

    pub unnamed-productions : (variables : Bool) → Consists limits b (phrases.Unnamed variables) (cond (punct "$" b) (phrases.Dollar variables ∷ phrases.Name ∷ []) (phrases.Literal ∷ []))
    unnamed-productions variables = record { by = λ ts seen. go ts seen (punct "$" b) refl }
      where
        go : (ts : List Token) → in_sight ts ≡ b ∷ [] → (w : Bool) → punct "$" b ≡ w → ended (unnamed_at variables ts) ≡ phrases_at limits (cond (punct "$" b) (phrases.Dollar variables ∷ phrases.Name ∷ []) (phrases.Literal ∷ [])) ts
        go ts seen true is = variable-same variables is ts seen ∙ (variable-is variables).by ts ∙ ap (λ (w : Bool). phrases_at limits (cond w (phrases.Dollar variables ∷ phrases.Name ∷ []) (phrases.Literal ∷ [])) ts) (sym is)
        go ts seen false is = literal-same variables is ts seen ∙ (phrase-is limits literal_at phrases.Literal (λ ts. refl)).by ts ∙ ap (λ (w : Bool). phrases_at limits (cond w (phrases.Dollar variables ∷ phrases.Name ∷ []) (phrases.Literal ∷ [])) ts) (sym is)

    -- lists and objects
    pub deep-productions : (variables : Bool) → Consists limits b (phrases.Bracketed variables 0) (cond (punct "[" b || punct "{" b) (phrases.TooDeep ∷ []) (phrases.Never ∷ []))
    deep-productions variables = record { by = λ ts seen. go ts seen (punct "[" b) refl }
      where
        told : Bool → List Token → Outcome (Unit {0})
        told w ts = phrases_at limits (cond (w || punct "{" b) (phrases.TooDeep ∷ []) (phrases.Never ∷ [])) ts

        go : (ts : List Token) → in_sight ts ≡ b ∷ [] → (w : Bool) → punct "[" b ≡ w → ended (bracketed_at variables 0 ts) ≡ told (punct "[" b) ts
        go ts seen true is =
            ap ended (chosen (punct "[") (deep_at (punct "[")) (deep_at (punct "{")) true b ts seen is)
            ∙ (deep-at Value (punct "[") b).by ts seen
            ∙ ap (λ (w : Bool). phrases_at limits (cond w (phrases.TooDeep ∷ []) (phrases.Never ∷ [])) ts) is
            ∙ ap (λ (w : Bool). told w ts) (sym is)
        go ts seen false is =
            ap ended (chosen (punct "[") (deep_at (punct "[")) (deep_at (punct "{")) false b ts seen is)
            ∙ (deep-at Value (punct "{") b).by ts seen
            ∙ ap (λ (w : Bool). told w ts) (sym is)

    pub bracketed-productions : (variables : Bool) (levels inner : ℕ) → levels ≡ suc inner → Consists limits b (phrases.Bracketed variables levels) (cond (punct "[" b) (phrases.Mark marks.OpenBracket ∷ phrases.Values variables inner ∷ phrases.Mark marks.CloseBracket ∷ []) (phrases.Mark marks.OpenBrace ∷ phrases.ObjectFields variables inner ∷ phrases.Mark marks.CloseBrace ∷ []))
    bracketed-productions variables zero inner e = absurd cc
    bracketed-productions variables (suc levels) inner e = subst (λ (n : ℕ). Consists limits b (phrases.Bracketed variables (suc levels)) (cond (punct "[" b) (phrases.Mark marks.OpenBracket ∷ phrases.Values variables n ∷ phrases.Mark marks.CloseBracket ∷ []) (phrases.Mark marks.OpenBrace ∷ phrases.ObjectFields variables n ∷ phrases.Mark marks.CloseBrace ∷ [])))
        (ap pred e)
        (record { by = (choose-at limits b (punct "[") (at limits b (list-is variables levels)) (at limits b (object-is variables levels))).by })

    -- ---- types

    named-is : Is limits named_type_at (phrases.Name ∷ phrases.MaybeMark marks.Bang ∷ [])
    named-is = mapped-is limits named_of (then-is limits name-is bang-is)

    pub named-productions : (levels : ℕ) → any_name b ≡ true → Consists limits b (phrases.Type levels) (phrases.Name ∷ phrases.MaybeMark marks.Bang ∷ [])
    unfolding type_at
    named-productions zero is = record { by = λ ts seen. ap ended (chosen any_name named_type_at (deep_at (punct "[")) true b ts seen is) ∙ named-is.by ts }
    named-productions (suc levels) is = record { by = λ ts seen. ap ended (chosen any_name named_type_at (list_type_at (type_at levels)) true b ts seen is) ∙ named-is.by ts }

    pub deep_type-productions : any_name b ≡ false → Consists limits b (phrases.Type 0) (cond (punct "[" b) (phrases.TooDeep ∷ []) (phrases.Never ∷ []))
    unfolding type_at
    deep_type-productions is = record { by = λ ts seen. ap ended (chosen any_name named_type_at (deep_at (punct "[")) false b ts seen is) ∙ (deep-at (Positioned TypeTree) (punct "[") b).by ts seen }

    pub list_type-productions : (levels inner : ℕ) → levels ≡ suc inner → any_name b ≡ false → Consists limits b (phrases.Type levels) (phrases.Mark marks.OpenBracket ∷ phrases.Type inner ∷ phrases.Mark marks.CloseBracket ∷ phrases.MaybeMark marks.Bang ∷ [])
    unfolding type_at
    list_type-productions zero inner e is = absurd cc
    list_type-productions (suc levels) inner e is = subst (λ (n : ℕ). Consists limits b (phrases.Type (suc levels)) (phrases.Mark marks.OpenBracket ∷ phrases.Type n ∷ phrases.Mark marks.CloseBracket ∷ phrases.MaybeMark marks.Bang ∷ []))
        (ap pred e)
        (record { by = (λ ts seen. ap ended (chosen any_name named_type_at (list_type_at (type_at levels)) false b ts seen is) ∙ (mapped-is limits list_type_of (then-is limits (mark-is marks.OpenBracket) (then-is limits (type-is levels) (then-is limits (mark-is marks.CloseBracket) bang-is)))).by ts) })

    -- ---- as deep as the limits allow

    pub own_value-productions : (variables : Bool) (levels : ℕ) → levels ≡ limits.values → Consists limits b (phrases.OwnValue variables) (phrases.Value variables levels ∷ [])
    own_value-productions variables levels e = subst (λ (n : ℕ). Consists limits b (phrases.OwnValue variables) (phrases.Value variables n ∷ [])) (sym e) (record { by = (at limits b (value-is variables limits.values)).by })

    pub own_type-productions : (levels : ℕ) → levels ≡ limits.types → Consists limits b phrases.OwnType (phrases.Type levels ∷ [])
    own_type-productions levels e = subst (λ (n : ℕ). Consists limits b phrases.OwnType (phrases.Type n ∷ [])) (sym e) (record { by = (at limits b (type-is limits.types)).by })

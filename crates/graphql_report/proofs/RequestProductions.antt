-- What the phrases of requests consist of.
use Rattle.std.proofs.Common.{◌≡◌, ℕ, zero, suc, pred, Bool, true, false, cond, Some, None, List, [], ◌∷◌, refl, sym, ap, ◌∙◌, subst}
use Rattle.graphql_tokens.specs.tokens.Token.{Bare, Token}
use Rattle.graphql_reading.specs.grammar.Limits.{Limits}
use Rattle.graphql_reading.specs.grammar.Tests.{punct, keyword, any_name}
use Rattle.graphql_reading.specs.reading.Outcome.{one_at, then_at, mapped_at, none_at, deep_at, opt_at}
use Rattle.graphql_grammar.specs.reading.Arguments.{maybe_arguments_at, maybe_default_at}
use Rattle.graphql_grammar.specs.reading.Operations.{operation_type_at}
use Rattle.graphql_requests.specs.grammar.Request.{query_of, operation_of, fragment_of}
use Rattle.graphql_requests.specs.grammar.Selections.{Set, fragment_name, field_of, condition_of, selection_set_of}
use Rattle.graphql_requests.specs.grammar.Variables.{variable_definition_of}
use Rattle.graphql_requests.specs.reading.Request.{own_set_at, full_operation_at, fragment_at, definition_first, definition_at}
use Rattle.graphql_requests.specs.reading.Selections.{aliased_at, field_at, type_condition_at, Inline, inline_first, inline_at, a_name, an_inline, dotted, dots_at, selection_first, a_set_at, selection_set_at}
use Rattle.graphql_requests.specs.reading.SelectionSteps.{deeper_at, rest_at, item_at}
use Rattle.graphql_requests.specs.reading.Variables.{turned, default_and_directives_at, variable_definition_at, variable_definitions_at}
use Rattle.graphql_requests.proofs.HeadTakes.{item-takes}
use Rattle.graphql_requests.proofs.RequestProductions.{takes-definition}
use Rattle.graphql_requests.proofs.VariableProductions.{takes-variable_definition}
use Rattle.graphql_parser.specs.Checked.{ended}
use Rattle.graphql_report.specs.declared.phrases.Keyword.{Keyword}
use Rattle.graphql_report.specs.declared.phrases.Keyword.TheVariants as words
use Rattle.graphql_report.specs.declared.phrases.Mark.TheVariants as marks
use Rattle.graphql_report.specs.declared.phrases.Phrase.TheVariants as phrases
use Rattle.graphql_report.specs.inner.Left.{keyword_text, after_dots_at, worded_at, phrase_at, phrases_at}
use Rattle.graphql_report.proofs.Apart.{Is, phrase-is, mapped-is, then-is, plus-is, at, mapped-at, choose-by, choose-at, none-at, opt-at, many-at, Consists}
use Rattle.graphql_report.proofs.ValueProductions.{mark-is, name-is, directives-is, own_type-is, deep-at}

module _ (limits : Limits) where
  pub keyword-is : (word : Keyword) → Is limits (one_at (keyword (keyword_text word))) (phrases.Keyword word ∷ [])
  keyword-is word = phrase-is limits (one_at (keyword (keyword_text word))) (phrases.Keyword word) (λ ts. refl)

  pub operation_type-is : Is limits operation_type_at (phrases.OperationType ∷ [])
  operation_type-is = phrase-is limits operation_type_at phrases.OperationType (λ ts. refl)

  fragment_name-is : Is limits (one_at fragment_name) (phrases.FragmentName ∷ [])
  fragment_name-is = phrase-is limits (one_at fragment_name) phrases.FragmentName (λ ts. refl)

  default-is : Is limits (maybe_default_at limits.values) (phrases.MaybeDefault ∷ [])
  default-is = phrase-is limits (maybe_default_at limits.values) phrases.MaybeDefault (λ ts. refl)

  -- ---- variables

  variable_definition-is : Is limits (variable_definition_at limits.values limits.types) (phrases.Dollar true ∷ phrases.Name ∷ phrases.Mark marks.Colon ∷ phrases.OwnType ∷ phrases.AfterType ∷ [])
  variable_definition-is =
      mapped-is limits variable_definition_of
      (then-is limits (phrase-is limits (one_at (punct "$")) (phrases.Dollar true) dollar)
      (then-is limits (name-is limits) (then-is limits (mark-is limits marks.Colon) (then-is limits (own_type-is limits) (phrase-is limits (default_and_directives_at limits.values) phrases.AfterType (λ ts. refl))))))
    where
      dollar : (ts : List Token) → ended (one_at (punct "$") ts) ≡ phrase_at limits (phrases.Dollar true) ts
      dollar [] = refl
      dollar (t ∷ ts) = go (punct "$" t.bare) refl
        where
          go : (w : Bool) → punct "$" t.bare ≡ w → ended (one_at (punct "$") (t ∷ ts)) ≡ phrase_at limits (phrases.Dollar true) (t ∷ ts)
          go true e = rw e refl
          go false e = rw e refl

  variable_definitions-is : Is limits (variable_definitions_at limits.values limits.types) (phrases.Mark marks.OpenParen ∷ phrases.VariableDefinition ∷ phrases.VariableDefinitions ∷ phrases.Mark marks.CloseParen ∷ [])
  variable_definitions-is =
      mapped-is limits _ (then-is limits (mark-is limits marks.OpenParen)
      (then-is limits (plus-is limits (punct "$") phrases.VariableDefinitions (λ ts. refl) (phrase-is limits (variable_definition_at limits.values limits.types) phrases.VariableDefinition (λ ts. refl))) (mark-is limits marks.CloseParen)))

  -- ---- selections

  condition-is : Is limits type_condition_at (phrases.Keyword words.On ∷ phrases.Name ∷ [])
  condition-is = mapped-is limits condition_of (then-is limits (keyword-is words.On) (name-is limits))

  aliased-is : Is limits aliased_at (phrases.Name ∷ phrases.MaybeAliased ∷ [])
  aliased-is = mapped-is limits _ (then-is limits (name-is limits) (phrase-is limits (opt_at (punct ":") (mapped_at (λ x. x.1) (then_at (one_at (punct ":")) (one_at any_name)))) phrases.MaybeAliased (λ ts. refl)))

  field-is : (levels : ℕ) → Is limits (field_at limits.values (deeper_at limits.values levels)) (phrases.Name ∷ phrases.MaybeAliased ∷ phrases.MaybeArguments true ∷ phrases.Directives true ∷ phrases.MaybeSet levels ∷ [])
  field-is levels =
      mapped-is limits field_of (then-is limits aliased-is
      (then-is limits (phrase-is limits (maybe_arguments_at true limits.values) (phrases.MaybeArguments true) (λ ts. refl))
      (then-is limits (directives-is limits true) (phrase-is limits (opt_at (punct "{") (deeper_at limits.values levels)) (phrases.MaybeSet levels) (λ ts. refl)))))

  dots-is : (levels : ℕ) → Is limits (dots_at limits.values (rest_at limits.values levels)) (phrases.Mark marks.Dots ∷ phrases.AfterDots levels ∷ [])
  dots-is levels = mapped-is limits dotted (then-is limits (mark-is limits marks.Dots) (phrase-is limits (after_dots_at limits.values levels) (phrases.AfterDots levels) (λ ts. refl)))

  set-same : (levels : ℕ) (ts : List Token) → selection_set_at limits.values levels ts ≡ a_set_at (item_at limits.values levels) ts
  unfolding selection_set_at item_at
  set-same zero ts = refl
  set-same (suc levels) ts = refl

  set-law : (levels : ℕ) → Is limits (selection_set_at limits.values levels) (phrases.Mark marks.OpenBrace ∷ phrases.Selection levels ∷ phrases.Selections levels ∷ phrases.Mark marks.CloseBrace ∷ [])
  set-law levels = record {
    by = λ ts.
        ap ended (set-same levels ts)
        ∙ (mapped-is limits selection_set_of (then-is limits (mark-is limits marks.OpenBrace)
        (then-is limits (plus-is limits selection_first (phrases.Selections levels) (λ ts. refl) (phrase-is limits (item_at limits.values levels) (phrases.Selection levels) (λ ts. refl))) (mark-is limits marks.CloseBrace)))).by ts;
  }

  own-set-is : Is limits (own_set_at limits) (phrases.OwnSet ∷ [])
  own-set-is = phrase-is limits (own_set_at limits) (phrases.OwnSet) (λ ts. refl)

  inline-is : (levels : ℕ) → Is limits (inline_at limits.values (selection_set_at limits.values levels)) (phrases.MaybeCondition ∷ phrases.Directives true ∷ phrases.Set levels ∷ [])
  inline-is levels =
      then-is limits (phrase-is limits (opt_at (keyword "on") type_condition_at) phrases.MaybeCondition (λ ts. refl))
      (then-is limits (directives-is limits true) (phrase-is limits (selection_set_at limits.values levels) (phrases.Set levels) (λ ts. refl)))

  -- ---- definitions

  fragment-is : Is limits (fragment_at limits) (phrases.Keyword words.Fragment ∷ phrases.FragmentName ∷ phrases.Keyword words.On ∷ phrases.Name ∷ phrases.Directives true ∷ phrases.OwnSet ∷ [])
  fragment-is = mapped-is limits fragment_of (then-is limits (keyword-is words.Fragment) (then-is limits fragment_name-is (then-is limits condition-is (then-is limits (directives-is limits true) own-set-is))))

  operation-is : Is limits (full_operation_at limits) (phrases.OperationType ∷ phrases.MaybeName ∷ phrases.MaybeVariables ∷ phrases.Directives true ∷ phrases.OwnSet ∷ [])
  operation-is =
      mapped-is limits operation_of (then-is limits operation_type-is
      (then-is limits (phrase-is limits (opt_at any_name (one_at any_name)) phrases.MaybeName (λ ts. refl))
      (then-is limits (phrase-is limits (opt_at (punct "(") (variable_definitions_at limits.values limits.types)) phrases.MaybeVariables (λ ts. refl)) (then-is limits (directives-is limits true) own-set-is))))

  module _ (b : Bare) where
    pub maybe_name-productions : Consists limits b phrases.MaybeName (cond (any_name b) (phrases.Name ∷ []) [])
    maybe_name-productions = record { by = (opt-at limits b any_name (name-is limits)).by }

    pub variables-productions : Consists limits b phrases.MaybeVariables (cond (punct "(" b) (phrases.Mark marks.OpenParen ∷ phrases.VariableDefinition ∷ phrases.VariableDefinitions ∷ phrases.Mark marks.CloseParen ∷ []) [])
    variables-productions = record { by = (opt-at limits b (punct "(") variable_definitions-is).by }

    pub variable_definition-productions : Consists limits b phrases.VariableDefinition (phrases.Dollar true ∷ phrases.Name ∷ phrases.Mark marks.Colon ∷ phrases.OwnType ∷ phrases.AfterType ∷ [])
    variable_definition-productions = record { by = (at limits b variable_definition-is).by }

    pub variable_definitions-productions : Consists limits b phrases.VariableDefinitions (cond (punct "$" b) (phrases.VariableDefinition ∷ phrases.VariableDefinitions ∷ []) [])
    variable_definitions-productions = record { by = (many-at limits b (punct "$") phrases.VariableDefinitions (λ ts. refl) (takes-variable_definition limits.values limits.types) (phrase-is limits (variable_definition_at limits.values limits.types) phrases.VariableDefinition (λ ts. refl))).by }

    pub after_type-productions : Consists limits b phrases.AfterType (cond (punct "=" b) (phrases.MaybeDefault ∷ phrases.Directives true ∷ []) (phrases.Directives true ∷ phrases.MaybeDefault ∷ []))
    after_type-productions = record { by = (choose-at limits b (punct "=") (at limits b (then-is limits default-is (directives-is limits true))) (at limits b (mapped-is limits turned (then-is limits (directives-is limits true) default-is)))).by }

    pub set-productions : (levels : ℕ) → Consists limits b (phrases.Set levels) (phrases.Mark marks.OpenBrace ∷ phrases.Selection levels ∷ phrases.Selections levels ∷ phrases.Mark marks.CloseBrace ∷ [])
    set-productions levels = record { by = (at limits b (set-law levels)).by }

    pub selections-productions : (levels : ℕ) → Consists limits b (phrases.Selections levels) (cond (selection_first b) (phrases.Selection levels ∷ phrases.Selections levels ∷ []) [])
    selections-productions levels = record { by = (many-at limits b selection_first (phrases.Selections levels) (λ ts. refl) (item-takes limits.values levels) (phrase-is limits (item_at limits.values levels) (phrases.Selection levels) (λ ts. refl))).by }

    pub selection-productions : (levels : ℕ) → Consists limits b (phrases.Selection levels) (cond (punct "..." b) (phrases.Mark marks.Dots ∷ phrases.AfterDots levels ∷ []) (phrases.Name ∷ phrases.MaybeAliased ∷ phrases.MaybeArguments true ∷ phrases.Directives true ∷ phrases.MaybeSet levels ∷ []))
    unfolding item_at
    selection-productions levels = record { by = (choose-at limits b (punct "...") {r = dots_at limits.values (rest_at limits.values levels)} {s = field_at limits.values (deeper_at limits.values levels)} (at limits b (dots-is levels)) (at limits b (field-is levels))).by }

    pub aliased-productions : Consists limits b phrases.MaybeAliased (cond (punct ":" b) (phrases.Mark marks.Colon ∷ phrases.Name ∷ []) [])
    aliased-productions = record { by = (opt-at limits b (punct ":") (mapped-is limits _ (then-is limits (mark-is limits marks.Colon) (name-is limits)))).by }

    pub after_dots-productions : (levels : ℕ) → Consists limits b (phrases.AfterDots levels) (cond (fragment_name b) (phrases.FragmentName ∷ phrases.Directives true ∷ []) (phrases.Inline levels ∷ []))
    after_dots-productions levels = record {
      by = (choose-at limits b fragment_name
          (at limits b (mapped-is limits a_name (then-is limits fragment_name-is (directives-is limits true))))
          (at limits b (mapped-is limits an_inline (phrase-is limits (rest_at limits.values levels) (phrases.Inline levels) (λ ts. refl))))).by;
    }

    pub maybe_set-productions : (levels inner : ℕ) → levels ≡ suc inner → Consists limits b (phrases.MaybeSet levels) (cond (punct "{" b) (phrases.Set inner ∷ []) [])
    maybe_set-productions zero inner e = absurd cc
    maybe_set-productions (suc levels) inner e = subst (λ (n : ℕ). Consists limits b (phrases.MaybeSet (suc levels)) (cond (punct "{" b) (phrases.Set n ∷ []) [])) (ap pred e)
        (record { by = (opt-at limits b (punct "{") (phrase-is limits (selection_set_at limits.values levels) (phrases.Set levels) (λ ts. refl))).by })

    -- where none may nest
    pub deep_set-productions : Consists limits b (phrases.MaybeSet 0) (cond (punct "{" b) (phrases.TooDeep ∷ []) [])
    unfolding opt_at
    deep_set-productions = record {
      by = (choose-by limits b (punct "{") {r = mapped_at Some (deep_at (punct "{"))} {s = none_at None}
          (λ is. mapped-at limits b Some (record { by = λ ts seen. (deep-at limits Set (punct "{") b).by ts seen ∙ ap (λ (w : Bool). phrases_at limits (cond w (phrases.TooDeep ∷ []) (phrases.Never ∷ [])) ts) is }))
          (λ _. none-at limits b None)).by;
    }

    pub deep_inline-productions : Consists limits b (phrases.Inline 0) (cond (inline_first b) (phrases.TooDeep ∷ []) (phrases.Never ∷ []))
    deep_inline-productions = record { by = (deep-at limits Inline inline_first b).by }

    pub inline-productions : (levels inner : ℕ) → levels ≡ suc inner → Consists limits b (phrases.Inline levels) (phrases.MaybeCondition ∷ phrases.Directives true ∷ phrases.Set inner ∷ [])
    inline-productions zero inner e = absurd cc
    inline-productions (suc levels) inner e = subst (λ (n : ℕ). Consists limits b (phrases.Inline (suc levels)) (phrases.MaybeCondition ∷ phrases.Directives true ∷ phrases.Set n ∷ [])) (ap pred e) (record { by = (at limits b (inline-is levels)).by })

    pub condition-productions : Consists limits b phrases.MaybeCondition (cond (keyword "on" b) (phrases.Keyword words.On ∷ phrases.Name ∷ []) [])
    condition-productions = record { by = (opt-at limits b (keyword "on") condition-is).by }

    pub request_definition-productions : Consists limits b phrases.RequestDefinition (cond (punct "{" b) (phrases.OwnSet ∷ []) (phrases.WordedDefinition ∷ []))
    request_definition-productions = record { by = (choose-at limits b (punct "{") {s = worded_at limits} (at limits b (mapped-is limits query_of own-set-is)) (at limits b (phrase-is limits (worded_at limits) phrases.WordedDefinition (λ ts. refl)))).by }

    pub worded-productions : Consists limits b phrases.WordedDefinition (cond (keyword "fragment" b) (phrases.Keyword words.Fragment ∷ phrases.FragmentName ∷ phrases.Keyword words.On ∷ phrases.Name ∷ phrases.Directives true ∷ phrases.OwnSet ∷ []) (phrases.OperationType ∷ phrases.MaybeName ∷ phrases.MaybeVariables ∷ phrases.Directives true ∷ phrases.OwnSet ∷ []))
    worded-productions = record { by = (choose-at limits b (keyword "fragment") (at limits b fragment-is) (at limits b operation-is)).by }

    pub request_definitions-productions : Consists limits b phrases.RequestDefinitions (cond (definition_first b) (phrases.RequestDefinition ∷ phrases.RequestDefinitions ∷ []) [])
    request_definitions-productions = record { by = (many-at limits b definition_first phrases.RequestDefinitions (λ ts. refl) (takes-definition limits) (phrase-is limits (definition_at limits) phrases.RequestDefinition (λ ts. refl))).by }

    pub own_set-productions : (levels : ℕ) → levels ≡ limits.selections → Consists limits b phrases.OwnSet (phrases.Set levels ∷ [])
    own_set-productions levels e = subst (λ (n : ℕ). Consists limits b phrases.OwnSet (phrases.Set n ∷ [])) (sym e) (record { by = (at limits b (phrase-is limits (selection_set_at limits.values limits.selections) (phrases.Set limits.selections) (λ ts. refl))).by })

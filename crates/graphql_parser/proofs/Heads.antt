-- Selections up to their sets, part by part.
use Rattle.std.proofs.Common.{◌≡◌, ℕ, Bool, true, false, Option, Some, is_some, List, ◌∷◌, Result, refl, ap, ◌∙◌}
use Rattle.graphql_tokens.specs.declared.pos.Pos.{Pos}
use Rattle.graphql_tokens.specs.declared.pos.Positioned.{Positioned}
use Rattle.graphql_tokens.specs.tokens.Token.{Token}
use Rattle.graphql_syntax.specs.trees.Parts.{Arguments, Directives}
use Rattle.graphql_trees.specs.trees.Request.{TypeCondition}
use Rattle.graphql_reading.specs.declared.parser.Refusal.{Refusal}
use Rattle.graphql_reading.specs.grammar.Fronts.{Verdict}
use Rattle.graphql_reading.specs.grammar.Places.{nowhere}
use Rattle.graphql_reading.specs.grammar.Relations.{given}
use Rattle.graphql_reading.specs.grammar.Tests.{punct, any_name}
use Rattle.graphql_reading.specs.reading.Ahead.{Ahead, tokens}
use Rattle.graphql_reading.specs.reading.Given.{Gives, GoesOn, Refuses}
use Rattle.graphql_reading.specs.reading.Outcome.{Read, Refused, Reader, one_at, then_at, mapped_at}
use Rattle.graphql_grammar.specs.reading.Arguments.{maybe_arguments_at, directives_at}
use Rattle.graphql_requests.specs.grammar.Selections.{fragment_name}
use Rattle.graphql_requests.specs.reading.SelectionSteps.{Heading, Names, names_at, given_arguments_at, maybe_brace_at, bare_field, bare_inline, maybe_condition_at, field_head_at, inline_head_at, after_dots_at}
use Rattle.graphql_reading.proofs.Loops.{go-on}
use Rattle.graphql_reading.proofs.Steps.{gives-after}
use Rattle.graphql_requests.proofs.SelectionProductions.{fragment-within}
use Rattle.graphql_parser.specs.Checked.{rest_of, Checks}
use Rattle.graphql_parser.specs.Heads.{entered, entered_at}
use Rattle.graphql_parser.proofs.Parts.{goes-as, stops-as}
use Rattle.graphql_parser.proofs.Rests.{ended, Passed, is-read}
use Rattle.graphql_parser.proofs.Straight.{ended-mapped, rest-mapped, mapped-twice, past, past-seen}

-- ---- fields

module _ (values : ℕ) (nests : Bool) where
  -- what is left of a field after its names, its arguments, and its directives
  abbrev pub after-directives : Reader Bool
  after-directives = mapped_at is_some (maybe_brace_at nests)

  abbrev pub after-arguments : Reader Bool
  after-arguments = mapped_at (λ x. is_some x.1) (then_at (directives_at true values) (maybe_brace_at nests))

  abbrev pub after-names : Reader Bool
  after-names = mapped_at (λ x. is_some x.1.1) (then_at (given_arguments_at values) (then_at (directives_at true values) (maybe_brace_at nests)))

  abbrev heading : Names × (Arguments × (Directives × Option Pos)) → Heading
  heading x = (bare_field x.0 x.1.0 x.1.1.0, x.1.1.1)

  past-names : (ts mid : List Token) → rest_of (names_at ts) ≡ Some mid → entered_at (field_head_at values nests) ts ≡ after-names mid
  past-names ts mid h =
      mapped-twice heading entered (then_at names_at (then_at (given_arguments_at values) (then_at (directives_at true values) (maybe_brace_at nests)))) ts
      ∙ past-seen (λ (y : Arguments × (Directives × Option Pos)). is_some y.1.1) names_at (then_at (given_arguments_at values) (then_at (directives_at true values) (maybe_brace_at nests))) ts mid h

  past-arguments : (ts mid : List Token) → rest_of (maybe_arguments_at true values ts) ≡ Some mid → after-names ts ≡ after-arguments mid
  past-arguments ts mid h = past-seen (λ (y : Directives × Option Pos). is_some y.1) (given_arguments_at values) (then_at (directives_at true values) (maybe_brace_at nests)) ts mid (rest-mapped given (maybe_arguments_at true values) ts ∙ h)

  past-directives : (ts mid : List Token) → rest_of (directives_at true values ts) ≡ Some mid → after-arguments ts ≡ after-directives mid
  past-directives ts mid h = past-seen (λ (p : Option Pos). is_some p) (directives_at true values) (maybe_brace_at nests) ts mid h

  arguments-not : (ts rest : List Token) (v : Verdict) → maybe_arguments_at true values ts ≡ Refused v rest → ended (after-names ts) ≡ Refused v rest
  arguments-not ts rest v h = rw h refl

  directives-not : (ts rest : List Token) (v : Verdict) → directives_at true values ts ≡ Refused v rest → ended (after-arguments ts) ≡ Refused v rest
  directives-not ts rest v h = rw h refl

  -- the arguments are refused
  pub arguments-stop : (e : Refusal) (old named new : Ahead) → Passed old named names_at → Refuses e named new (maybe_arguments_at true values) × GoesOn named new → Refuses e old new (entered_at (field_head_at values nests)) × GoesOn old new
  arguments-stop e old named new names h = stops-as e old named new (entered_at (field_head_at values nests)) (maybe_arguments_at true values) (λ v k. ap ended (past-names (tokens old) (tokens named) names.0) ∙ arguments-not (tokens named) (tokens new) v k) names.1 h.0 h.1

  module _ (old named given : Ahead) (names : Passed old named names_at) (arguments : Passed named given (maybe_arguments_at true values)) where
    come : entered_at (field_head_at values nests) (tokens old) ≡ after-arguments (tokens given)
    come = past-names (tokens old) (tokens named) names.0 ∙ past-arguments (tokens named) (tokens given) arguments.0

    -- the directives are refused
    pub directives-stop : (e : Refusal) (new : Ahead) → Refuses e given new (directives_at true values) × GoesOn given new → Refuses e old new (entered_at (field_head_at values nests)) × GoesOn old new
    directives-stop e new h = stops-as e old given new (entered_at (field_head_at values nests)) (directives_at true values) (λ v k. ap ended come ∙ directives-not (tokens given) (tokens new) v k) (go-on old named given names.1 arguments.1) h.0 h.1

    -- all but the set is read
    pub field-goes : (result : Result Bool Refusal) (directed new : Ahead) → Passed given directed (directives_at true values) → Gives (λ follows. follows) result directed new after-directives → Gives (λ follows. follows) result old new (entered_at (field_head_at values nests))
    field-goes result directed new directives = gives-after (λ follows. follows) result old directed new (entered_at (field_head_at values nests)) after-directives (come ∙ past-directives (tokens given) (tokens directed) directives.0) (go-on old given directed (go-on old named given names.1 arguments.1) directives.1)

-- ---- inline fragments

module _ (values : ℕ) where
  abbrev pub after-condition : Reader (Directives × Token)
  after-condition = then_at (directives_at true values) (one_at (punct "{"))

  abbrev inline : Option (Positioned TypeCondition) × (Directives × Token) → Heading
  inline x = (bare_inline nowhere x.0 x.1.0, Some x.1.1.pos)

  past-condition : (ts mid : List Token) → rest_of (maybe_condition_at ts) ≡ Some mid → ended (inline_head_at values nowhere ts) ≡ ended (after-condition mid)
  past-condition ts mid h = ended-mapped inline (then_at maybe_condition_at after-condition) ts ∙ past maybe_condition_at after-condition ts mid h

  pub inline-goes : {X : Type 0} (result : Result X Refusal) (old mid new : Ahead) → Passed old mid maybe_condition_at → Checks result mid new after-condition → Checks result old new (inline_head_at values nowhere)
  inline-goes result old mid new condition = goes-as result old mid new (inline_head_at values nowhere) after-condition (past-condition (tokens old) (tokens mid) condition.0) condition.1

-- ---- spreads

module _ (values : ℕ) (nests : Bool) (t : Token) (ts : List Token) (at : fragment_name t.bare ≡ true) where
  named : any_name t.bare ≡ true
  named = fragment-within.by t.bare at

  pub spread-is : (rest : List Token) → rest_of (directives_at true values ts) ≡ Some rest → entered_at (after_dots_at values nests nowhere) (t ∷ ts) ≡ Read false rest
  spread-is rest h = let read = is-read (directives_at true values ts) rest h in rw (at, named, read.is) refl

  pub spread-not : (rest : List Token) (v : Verdict) → directives_at true values ts ≡ Refused v rest → ended (entered_at (after_dots_at values nests nowhere) (t ∷ ts)) ≡ Refused v rest
  spread-not rest v h = rw (at, named, h) refl

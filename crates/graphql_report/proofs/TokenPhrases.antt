-- Which phrases are a token, and where they are read.
use Rattle.std.proofs.Common.{◌≡◌, ℕ, Bool, true, false, cond, ◌&&◌, ◌||◌, Option, Some, None, is_some, List, ◌∷◌, refl, sym, ap, ◌∙◌, subst}
use Rattle.graphql_tokens.specs.declared.lexer.TokenKind.{TokenKind}
use Rattle.graphql_tokens.specs.declared.lexer.TokenKind.TheVariants.{String as Quoted}
use Rattle.graphql_tokens.specs.tokens.Cuts.{is_last}
use Rattle.graphql_tokens.specs.tokens.Kinds.{is_string}
use Rattle.graphql_tokens.specs.tokens.Proper.{IsProperBare}
use Rattle.graphql_tokens.specs.tokens.Token.{Bare, Token}
use Rattle.graphql_reading.specs.grammar.Fronts.{Verdict, syntax, limit}
use Rattle.graphql_reading.specs.grammar.Limits.{Limits}
use Rattle.graphql_reading.specs.grammar.Tests.{Test, keyword, any_name, any_number, any_string, any_block}
use Rattle.graphql_reading.specs.reading.Outcome.{Read, Refused, Reader, one_at, meant, meaning_at, mapped_at, choose_at}
use Rattle.graphql_grammar.specs.grammar.Operations.{kind_of}
use Rattle.graphql_grammar.specs.grammar.Values.{Value, number_of, string_of}
use Rattle.graphql_grammar.specs.reading.Values.{string_text, block_text, number_at, string_at, block_at}
use Rattle.graphql_syntax.specs.declared.types.OperationType.{OperationType}
use Rattle.graphql_syntax.specs.declared.types.OperationType.TheVariants.{Query, Mutation, Subscription}
use Rattle.graphql_schemas.specs.grammar.Descriptions.{Text, text_of}
use Prim.Native.String.{String}
use Rattle.graphql_trees.specs.declared.service.DirectiveLocation.{DirectiveLocation}
use Rattle.graphql_schemas.specs.reading.Descriptions.{is_text}
use Rattle.graphql_schemas.specs.reading.Directives.{location_named}
use Rattle.graphql_schemas.specs.reading.Schema.{root_first}
use Rattle.graphql_parser.specs.Checked.{ended}
use Rattle.graphql_parser.proofs.Strings.{string-stands}
use Rattle.graphql_report.specs.declared.phrases.Phrase.{Phrase}
use Rattle.graphql_report.specs.declared.phrases.Phrase.TheVariants as phrases
use Rattle.graphql_report.specs.inner.Left.{phrase_at, TellsToken}
use Rattle.graphql_report.proofs.Apart.{mapped-ended}

module _ (limits : Limits) where
  -- a phrase that is read where a token passes a test, and else refused
  record ByTest (p : Phrase) (b : Bare) (w : Bool) : Type 0 where
    taken : w ≡ true → (t : Token) (ts : List Token) → t.bare ≡ b → phrase_at limits p (t ∷ ts) ≡ Read tt ts
    refused : w ≡ false → (t : Token) (ts : List Token) → t.bare ≡ b → (v : Verdict) × (phrase_at limits p (t ∷ ts) ≡ Refused v (t ∷ ts))

  by-test : (p : Phrase) (b : Bare) (w given : Bool) → given ≡ w → ByTest p b w → TellsToken limits p b given
  by-test p b true true e h = h.taken refl
  by-test p b false false e h = h.refused refl
  by-test p b true false e h = absurd cc
  by-test p b false true e h = absurd cc

  one-is : (test : Test) (b : Bare) (w : Bool) → test b ≡ w → (t : Token) (ts : List Token) → t.bare ≡ b → ended (one_at test (t ∷ ts)) ≡ cond w (Read tt ts) (Refused syntax (t ∷ ts))
  one-is test b true is t ts same = ap (λ (w : Bool). ended (cond w (Read t ts) (Refused syntax (t ∷ ts)))) (ap test same ∙ is)
  one-is test b false is t ts same = ap (λ (w : Bool). ended (cond w (Read t ts) (Refused syntax (t ∷ ts)))) (ap test same ∙ is)

  -- one token by a test
  pub tells-one : (p : Phrase) (test : Test) → ((ts : List Token) → phrase_at limits p ts ≡ ended (one_at test ts)) → (b : Bare) (given : Bool) → given ≡ test b → TellsToken limits p b given
  tells-one p test e b given same = by-test p b (test b) given same (record {
    taken = λ is t ts here. e (t ∷ ts) ∙ one-is test b true is t ts here;
    refused = λ is t ts here. (syntax, e (t ∷ ts) ∙ one-is test b false is t ts here);
  })

  pub tells-never : (b : Bare) → TellsToken limits phrases.Never b false
  tells-never b = λ t ts here. (syntax, refl)

  pub tells-deep : (b : Bare) → TellsToken limits phrases.TooDeep b false
  tells-deep b = λ t ts here. (limit, refl)

  -- ---- a token with a meaning

  module _ {A : Type 0} (test : Test) (value : Bare → Option A) where
    meant-is : (t : Token) (ts : List Token) (a : A) → test t.bare ≡ true → value t.bare ≡ Some a → ended (meaning_at test value (t ∷ ts)) ≡ Read tt ts
    meant-is t ts a is means = ap (λ (w : Bool). ended (cond w (meant t ts (value t.bare)) (Refused syntax (t ∷ ts)))) is ∙ ap (λ (o : Option A). ended (meant t ts o)) means

    refused-is : (t : Token) (ts : List Token) → test t.bare ≡ false → ended (meaning_at test value (t ∷ ts)) ≡ Refused syntax (t ∷ ts)
    refused-is t ts is = ap (λ (w : Bool). ended (cond w (meant t ts (value t.bare)) (Refused syntax (t ∷ ts)))) is

    meaningless-is : (t : Token) (ts : List Token) → test t.bare ≡ true → value t.bare ≡ None → ended (meaning_at test value (t ∷ ts)) ≡ Refused syntax (t ∷ ts)
    meaningless-is t ts is means = ap (λ (w : Bool). ended (cond w (meant t ts (value t.bare)) (Refused syntax (t ∷ ts)))) is ∙ ap (λ (o : Option A). ended (meant t ts o)) means

  -- ---- the word of a location

  location-by : (b : Bare) (n : Bool) (o : Option DirectiveLocation) → any_name b ≡ n → location_named b.spelling ≡ o → ByTest phrases.Location b (n && is_some o)
  location-by b true (Some l) is names = record {
    taken = λ _ t ts here. mapped-ended _ (meaning_at any_name (λ (t : Bare). location_named t.spelling) (t ∷ ts)) ∙ meant-is any_name (λ (t : Bare). location_named t.spelling) t ts l (ap any_name here ∙ is) (ap (λ (t : Bare). location_named t.spelling) here ∙ names);
    refused = λ e. absurd cc;
  }
  location-by b true None is names = record {
    taken = λ e. absurd cc;
    refused = λ _ t ts here. (syntax, mapped-ended _ (meaning_at any_name (λ (t : Bare). location_named t.spelling) (t ∷ ts)) ∙ meaningless-is any_name (λ (t : Bare). location_named t.spelling) t ts (ap any_name here ∙ is) (ap (λ (t : Bare). location_named t.spelling) here ∙ names));
  }
  location-by b false o is names = record {
    taken = λ e. absurd cc;
    refused = λ _ t ts here. (syntax, mapped-ended _ (meaning_at any_name (λ (t : Bare). location_named t.spelling) (t ∷ ts)) ∙ refused-is any_name (λ (t : Bare). location_named t.spelling) t ts (ap any_name here ∙ is));
  }

  pub tells-location : (b : Bare) (given : Bool) → given ≡ (any_name b && is_some (location_named b.spelling)) → TellsToken limits phrases.Location b given
  tells-location b given same = by-test phrases.Location b (any_name b && is_some (location_named b.spelling)) given same (location-by b (any_name b) (location_named b.spelling) refl refl)

  -- ---- strings

  string-inner : (kind : TokenKind) → is_string kind ≡ true → is_last kind ≡ false
  string-inner Quoted e = refl
  string-inner kind e = absurd cc

  abbrev IsFine : Bare → Type 0
  IsFine b = is_last b.kind ≡ false → IsProperBare b.kind b.spelling

  string-means : {A : Type 0} (f : Token × List ℕ → A) (b : Bare) → IsFine b → any_string b ≡ true → (t : Token) (ts : List Token) → t.bare ≡ b → ended (mapped_at f (meaning_at any_string string_text) (t ∷ ts)) ≡ Read tt ts
  string-means f b fine is t ts here =
      let quoted : is_string t.bare.kind ≡ true = ap any_string here ∙ is in
      let stands = string-stands t quoted (subst (λ (b : Bare). IsProperBare b.kind b.spelling) (sym here) (fine (string-inner b.kind is))) in
      mapped-ended f (meaning_at any_string string_text (t ∷ ts)) ∙ meant-is any_string string_text t ts stands.bytes quoted stands.is

  string-refused : {A : Type 0} (f : Token × List ℕ → A) (b : Bare) → any_string b ≡ false → (t : Token) (ts : List Token) → t.bare ≡ b → ended (mapped_at f (meaning_at any_string string_text) (t ∷ ts)) ≡ Refused syntax (t ∷ ts)
  string-refused f b is t ts here = mapped-ended f (meaning_at any_string string_text (t ∷ ts)) ∙ refused-is any_string string_text t ts (ap any_string here ∙ is)

  block-means : {A : Type 0} (f : Token × List ℕ → A) (b : Bare) → any_block b ≡ true → (t : Token) (ts : List Token) → t.bare ≡ b → ended (mapped_at f (meaning_at any_block block_text) (t ∷ ts)) ≡ Read tt ts
  block-means f b is t ts here = mapped-ended f (meaning_at any_block block_text (t ∷ ts)) ∙ meant-is any_block block_text t ts _ (ap any_block here ∙ is) refl

  block-refused : {A : Type 0} (f : Token × List ℕ → A) (b : Bare) → any_block b ≡ false → (t : Token) (ts : List Token) → t.bare ≡ b → ended (mapped_at f (meaning_at any_block block_text) (t ∷ ts)) ≡ Refused syntax (t ∷ ts)
  block-refused f b is t ts here = mapped-ended f (meaning_at any_block block_text (t ∷ ts)) ∙ refused-is any_block block_text t ts (ap any_block here ∙ is)

  chosen-is : {A : Type 0} (test : Test) (r s : Reader A) (b : Bare) (w : Bool) → test b ≡ w → (t : Token) (ts : List Token) → t.bare ≡ b → ended (choose_at test r s (t ∷ ts)) ≡ ended (cond w (r (t ∷ ts)) (s (t ∷ ts)))
  chosen-is test r s b w is t ts here = ap (λ (w : Bool). ended (cond w (r (t ∷ ts)) (s (t ∷ ts)))) (ap test here ∙ is)

  abbrev text-string : Reader Text
  text-string = mapped_at text_of (meaning_at any_string string_text)

  abbrev text-block : Reader Text
  text-block = mapped_at text_of (meaning_at any_block block_text)

  text-by : (b : Bare) → IsFine b → (s k : Bool) → any_string b ≡ s → any_block b ≡ k → ByTest phrases.Text b (s || k)
  text-by b fine true k is block = record {
    taken = λ _ t ts here. chosen-is any_string text-string text-block b true is t ts here ∙ string-means text_of b fine is t ts here;
    refused = λ e. absurd cc;
  }
  text-by b fine false true is block = record {
    taken = λ _ t ts here. chosen-is any_string text-string text-block b false is t ts here ∙ block-means text_of b block t ts here;
    refused = λ e. absurd cc;
  }
  text-by b fine false false is block = record {
    taken = λ e. absurd cc;
    refused = λ _ t ts here. (syntax, chosen-is any_string text-string text-block b false is t ts here ∙ block-refused text_of b block t ts here);
  }

  pub tells-text : (b : Bare) → (is_last b.kind ≡ false → IsProperBare b.kind b.spelling) → (given : Bool) → given ≡ is_text b → TellsToken limits phrases.Text b given
  tells-text b fine given same = by-test phrases.Text b (is_text b) given same (text-by b fine (any_string b) (any_block b) refl refl)

  abbrev no-number : Reader Value
  no-number = choose_at any_string string_at block_at

  literal-by : (b : Bare) → IsFine b → (n s k : Bool) → any_number b ≡ n → any_string b ≡ s → any_block b ≡ k → ByTest phrases.Literal b (n || s || k)
  literal-by b fine true s k number is block = record {
    taken = λ _ t ts here. chosen-is any_number number_at no-number b true number t ts here ∙ mapped-ended number_of (one_at any_number (t ∷ ts)) ∙ one-is any_number b true number t ts here;
    refused = λ e. absurd cc;
  }
  literal-by b fine false true k number is block = record {
    taken = λ _ t ts here. chosen-is any_number number_at no-number b false number t ts here ∙ chosen-is any_string string_at block_at b true is t ts here ∙ string-means string_of b fine is t ts here;
    refused = λ e. absurd cc;
  }
  literal-by b fine false false true number is block = record {
    taken = λ _ t ts here. chosen-is any_number number_at no-number b false number t ts here ∙ chosen-is any_string string_at block_at b false is t ts here ∙ block-means string_of b block t ts here;
    refused = λ e. absurd cc;
  }
  literal-by b fine false false false number is block = record {
    taken = λ e. absurd cc;
    refused = λ _ t ts here. (syntax, chosen-is any_number number_at no-number b false number t ts here ∙ chosen-is any_string string_at block_at b false is t ts here ∙ block-refused string_of b block t ts here);
  }

  pub tells-literal : (b : Bare) → (is_last b.kind ≡ false → IsProperBare b.kind b.spelling) → (given : Bool) → given ≡ (any_number b || any_string b || any_block b) → TellsToken limits phrases.Literal b given
  tells-literal b fine given same = by-test phrases.Literal b (any_number b || any_string b || any_block b) given same (literal-by b fine (any_number b) (any_string b) (any_block b) refl refl refl)

  -- ---- the kind of an operation

  abbrev query-at : Reader (Token × OperationType)
  query-at = mapped_at (kind_of Query) (one_at (keyword "query"))

  abbrev mutation-at : Reader (Token × OperationType)
  mutation-at = mapped_at (kind_of Mutation) (one_at (keyword "mutation"))

  abbrev subscription-at : Reader (Token × OperationType)
  subscription-at = mapped_at (kind_of Subscription) (one_at (keyword "subscription"))

  kind-is : (word : String) (kind : OperationType) (b : Bare) (w : Bool) → keyword word b ≡ w → (t : Token) (ts : List Token) → t.bare ≡ b → ended (mapped_at (kind_of kind) (one_at (keyword word)) (t ∷ ts)) ≡ cond w (Read tt ts) (Refused syntax (t ∷ ts))
  kind-is word kind b w is t ts here = mapped-ended (kind_of kind) (one_at (keyword word) (t ∷ ts)) ∙ one-is (keyword word) b w is t ts here

  operation-by : (b : Bare) (q m s : Bool) → keyword "query" b ≡ q → keyword "mutation" b ≡ m → keyword "subscription" b ≡ s → ByTest phrases.OperationType b (q || m || s)
  operation-by b true m s query mutation subscription = record {
    taken = λ _ t ts here. chosen-is (keyword "query") query-at (choose_at (keyword "mutation") mutation-at subscription-at) b true query t ts here ∙ kind-is "query" Query b true query t ts here;
    refused = λ e. absurd cc;
  }
  operation-by b false true s query mutation subscription = record {
    taken = λ _ t ts here. chosen-is (keyword "query") query-at (choose_at (keyword "mutation") mutation-at subscription-at) b false query t ts here ∙ chosen-is (keyword "mutation") mutation-at subscription-at b true mutation t ts here ∙ kind-is "mutation" Mutation b true mutation t ts here;
    refused = λ e. absurd cc;
  }
  operation-by b false false true query mutation subscription = record {
    taken = λ _ t ts here. chosen-is (keyword "query") query-at (choose_at (keyword "mutation") mutation-at subscription-at) b false query t ts here ∙ chosen-is (keyword "mutation") mutation-at subscription-at b false mutation t ts here ∙ kind-is "subscription" Subscription b true subscription t ts here;
    refused = λ e. absurd cc;
  }
  operation-by b false false false query mutation subscription = record {
    taken = λ e. absurd cc;
    refused = λ _ t ts here. (syntax, chosen-is (keyword "query") query-at (choose_at (keyword "mutation") mutation-at subscription-at) b false query t ts here ∙ chosen-is (keyword "mutation") mutation-at subscription-at b false mutation t ts here ∙ kind-is "subscription" Subscription b false subscription t ts here);
  }

  pub tells-operation : (b : Bare) (given : Bool) → given ≡ root_first b → TellsToken limits phrases.OperationType b given
  tells-operation b given same = by-test phrases.OperationType b (root_first b) given same (operation-by b (keyword "query" b) (keyword "mutation" b) (keyword "subscription" b) refl refl refl)

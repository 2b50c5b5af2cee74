use Rattle.std.proofs.Common.{◌≡◌, true, inl, inr, ℕ, List, refl, sym, ap, ◌∙◌, subst}
use Rattle.std.proofs.lemmas.Result.{on_ok_weaker}
use Rattle.std.specs.Str.{chars}
use Rattle.graphql_tokens.specs.tokens.Alike.{inside, value_of_block}
use Rattle.graphql_tokens.specs.tokens.BlockText.{block_value}
use Rattle.graphql_tokens.specs.tokens.Kinds.{is_block}
use Rattle.graphql_tokens.specs.tokens.Proper.{Spells}
use Rattle.graphql_tokens.specs.declared.lexer.TokenKind.{TokenKind}
use Rattle.graphql_tokens.specs.declared.lexer.TokenKind.TheVariants.{Punct, Name, Number, String, Block, Fault, End}
use Rattle.graphql_layout.specs.declared.line_ends.LineBreak.{LineBreak}
use Rattle.graphql_layout.specs.texts.Blocks.{spelled}
use Rattle.graphql_layout.specs.texts.OneReading.{has_one_reading}
use Rattle.graphql_layout.proofs.BlockTexts.{spelled_means}
use Rattle.graphql_layout.proofs.Shortenings.{reads_alike}
use Rattle.graphql_layout.proofs.layout.push_token.Goals as goal

the_block : (kind : TokenKind) → is_block kind ≡ true → kind ≡ Block
the_block Block h = refl
the_block Punct h = absurd cc
the_block Name h = absurd cc
the_block Number h = absurd cc
the_block String h = absurd cc
the_block Fault h = absurd cc
the_block End h = absurd cc

pub returns-then-not-is_block : goal.returns-then-not-is_block
returns-then-not-is_block c = on_ok_weaker c.token.result (λ e. record { other = _; alike = inl refl; as_specified = λ k. refl; is = e }) c.token.ensures.ok

pub returns-then-not-has_one_reading : goal.returns-then-not-has_one_reading
returns-then-not-has_one_reading c = on_ok_weaker c.token-then-not-has_one_reading.result (λ e. record { other = _; alike = inl refl; as_specified = λ k. refl; is = e }) c.token-then-not-has_one_reading.ensures.ok

pub returns : goal.returns
returns c =
    let text : List ℕ = c.args.text.now in
    let value : List ℕ = c.deref.result.now in
    let indent : ℕ = c.saturating_mul.result in
    let raw = c.inside_quotes-raw.ensures in
    let kind : c.args.kind ≡ Block = the_block c.args.kind (sym c.is_block.ensures ∙ c.if-not-is_block.false) in
    let spells : Spells Block text = subst (λ (k : TokenKind). Spells k text) kind c.requires in
    let one : has_one_reading (inside 3 text) ≡ true = sym (c.has_one_reading.ensures ∙ ap has_one_reading raw) ∙ c.if-not-has_one_reading.false in
    let is : chars value ≡ value_of_block text = ap chars c.deref.ensures ∙ c.in_ok-value.ensures.value ∙ ap (λ (l : List ℕ). block_value (chars l)) raw in
    on_ok_weaker c.block.result (λ e.
    let between : LineBreak = record { line_end = e.0; indent = indent } in
    let means = spelled_means between value (chars (inside 3 text)) c.deref.utf8 (sym is) in
    record {
      other = record { kind = Block; spelling = spelled between value };
      alike = inr (record { block = kind; other_block = refl; value = sym is ∙ sym means.0 });
      as_specified = λ k. reads_alike text spells one ∙ sym is ∙ sym means.1;
      is = e.1;
    }) c.block.ensures.ok

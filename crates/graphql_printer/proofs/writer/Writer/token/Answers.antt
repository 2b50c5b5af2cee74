use Rattle.std.proofs.Common.{refl, sym, ◌∙◌, arith}
use Rattle.graphql_tokens.specs.tokens.Token.{Bare}
use Rattle.graphql_printer.specs.inner.Words.{loose_tokens}
use Rattle.graphql_printer.proofs.Writing.{no_rest, some_rest, still_badly, written_ok}
use Rattle.graphql_printer.proofs.writer.Writer.token.Goals as goal

pub invariant_of-self : goal.invariant_of-self
invariant_of-self c =
    let rest = c.self.inside.rest in
    let some = some_rest rest.items _ (omega (arith, rest.ok.0)) (sym c.is_empty.ensures ∙ c.if-not-is_empty.true) in
    still_badly c.keep.result rest.items c.keep.new.rest.items (record { kind = c.args.kind; spelling = c.args.spelling.now }) c.self.invariant (λ none. absurd (some none)) c.keep.ensures.ok c.keep.ensures.err

pub returns : goal.returns
returns c =
    let rest = c.self.inside.rest in
    let none = no_rest rest.items _ (omega (arith, rest.ok.0)) (sym c.is_empty.ensures ∙ c.if-not-is_empty.false) in
    let token : Bare = record { kind = c.args.kind; spelling = c.args.spelling.now } in
    written_ok c.token.result c.self.inside.sheet c.token.new.self (loose_tokens rest.items) c.args.self.now token token none c.token.ensures.ok refl c.self.view_is

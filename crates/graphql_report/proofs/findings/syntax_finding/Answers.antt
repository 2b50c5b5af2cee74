use Rattle.std.proofs.Common.{◌≡◌, ◌-◌, ◌^◌, ◌<◌, ℕ, List, length, arith, ◌++◌, take, drop, inl, refl, sym, ap, ◌∙◌, subst}
use Rattle.std.specs.Borrow.{Bor}
use Rattle.std.specs.Prelude.{codes}
use Rattle.std.specs.Str.{IsCharBoundary}
use Rattle.graphql_tokens.specs.tokens.Token.{Token}
use Rattle.graphql_tokens.specs.tokens.Seen.{seen}
use Rattle.graphql_report.specs.inner.Called.{texts}
use Rattle.graphql_report.specs.reports.Expected.{AreExpected}
use Rattle.graphql_report.specs.reports.Findings.{TellsToken}
use Rattle.graphql_report.specs.reports.Hints.{word_of}
use Rattle.graphql_report.specs.reports.Refused.{IsKnown}
use Rattle.graphql_report.specs.reports.Words.{expected}
use Rattle.graphql_report.proofs.Carets.{told-there}
use Rattle.graphql_report.proofs.Refusing.{at-lent, ends-there, its-boundary, known-lent, not-known, read-front}
use Rattle.graphql_report.proofs.findings.syntax_finding.Goals as goal

pub returns-in_default : goal.returns-in_default
returns-in_default c message stop = record {
  stands = (c.args.start, refl, inl (refl, λ token known. not-known c.args.language c.args.limits c.args.text.now c.args.read.now token c.in_default.is known));
  ends = λ token known. not-known c.args.language c.args.limits c.args.text.now c.args.read.now token c.in_default.is known;
  status = refl;
  message = (codes "the text is refused", c.in_ok-from_str.ensures.ok, λ token known. not-known c.args.language c.args.limits c.args.text.now c.args.read.now token c.in_default.is known);
}

pub returns : goal.returns
returns c message stop =
    let text : List ℕ = c.args.text.now in
    let read = c.args.read.now in
    let lent = c.in-Some.token in
    let short : length text < 2 ^ 63 = omega arith in
    let names : List (List ℕ) = texts c.as_slice-expected.result.now in
    let wrong : List ℕ = c.in_ok-passed.ensures.told.0 in
    let more : List ℕ = c.in_ok-meant.ensures.0 in
    let words : List ℕ = expected c.args.language (seen lent).bare names in
    let told : Token → Type 0 = λ t. TellsToken c.args.language c.args.limits text read.from read.unclosed t ((wrong ++ words) ++ more) (word_of c.in_ok-meant.meant) in
    record {
      stands = (
        c.place_told.result,
        refl,
        told-there (IsKnown c.args.language c.args.limits text read) text c.args.start c.place_told.result (seen lent) c.in_ok-passed.passed c.saturating_add-caret.result c.utf8.text short
            (λ token known. (known-lent c.args.language c.args.limits text read token lent c.in-Some.is known, its-boundary c.args.language c.args.limits text read.from token c.utf8.text c.requires known.0))
            c.in_ok-passed.ensures.caret c.saturating_add-caret.ensures c.place_told.ensures.start c.place_told.ensures.inside,
      );
      ends = λ token known. ends-there c.args.language c.args.limits text read token lent c.end_of_token.result c.utf8.text short c.requires c.in-Some.is known c.end_of_token.ensures;
      status = refl;
      message = (
        (wrong ++ words) ++ more,
        c.in_ok-meant.ensures.1 ∙ ap (λ (l : List ℕ). l ++ more) (c.in_ok-push_expected.ensures ∙ ap (λ (l : List ℕ). l ++ words) (c.in_ok-passed.ensures.told.1 ∙ ap (λ (l : List ℕ). l ++ wrong) c.in_ok-message.ensures.ok)),
        λ token known.
            let front : c.read_before-front.result.now ≡ take (lent.start - read.from.offset) (drop read.from.offset text) =
            c.read_before-front.ensures c.requires.0 (read-front c.args.language c.args.limits text read token lent c.utf8.text c.requires c.in-Some.is known) in
            subst told (known-lent c.args.language c.args.limits text read token lent c.in-Some.is known) (record {
              names = names;
              are_expected = subst (λ (l : List ℕ). AreExpected c.args.language c.args.limits l names) front (subst (λ (given : List (Bor (List ℕ))). AreExpected c.args.language c.args.limits c.read_before-front.result.now (texts given)) (sym c.as_slice-expected.ensures.value) c.in_ok-expected.ensures.samples);
              wrong = wrong;
              more = more;
              is = refl;
              found = c.in_ok-passed.ensures.told.2;
              faults = λ fault. c.in_ok-passed.ensures.told.3 fault (at-lent (IsCharBoundary text) c.args.language c.args.limits text read token lent c.in-Some.is known (its-boundary c.args.language c.args.limits text read.from token c.utf8.text c.requires known.0));
              hints = c.in_ok-meant.ensures.2;
            }),
      );
    }

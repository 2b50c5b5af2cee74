use Rattle.std.proofs.Common.{ℕ, ◌∷◌, [], List, inl, refl, ap, sym, ◌∙◌, arith}
use Rattle.std.specs.Str.{chars}
use Rattle.std.specs.Str.Iter.{chars_rest}
use Rattle.graphql_report.proofs.Escapes.{unit-content}
use Rattle.graphql_report.proofs.StringTexts.{first-char}
use Rattle.graphql_report.proofs.faults.ahead_in.Goals as goal

pub escape_ahead-requires : goal.escape_ahead-requires
escape_ahead-requires c =
    (chars (chars_rest c.next.new.self), first-char c.args.text.now c.chars-rest.result c.next.new.self c.in-Some.c c.utf8.text c.chars-rest.ensures.rest c.in-Some.ensures.steps ∙ ap (λ x. x ∷ chars (chars_rest c.next.new.self)) c.if-c-eq92.true)

pub returns-then-is_plain : goal.returns-then-is_plain
returns-then-is_plain c = (
  c.as_str.utf8,
  record {
    content = c.in-Some.c ∷ [];
    is_content = unit-content (c.in-Some.c ∷ []) c.in-Some.c (inl (refl, sym c.is_plain.ensures ∙ c.if-is_plain.true));
    some = omega arith;
    whole = first-char c.args.text.now c.chars-rest.result c.next.new.self c.in-Some.c c.utf8.text c.chars-rest.ensures.rest c.in-Some.ensures.steps ∙ ap (λ (l : List ℕ). c.in-Some.c ∷ chars l) (sym c.as_str.ensures);
  },
)

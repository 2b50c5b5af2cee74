use Rattle.std.proofs.Common.{length, sym, ap, ◌∙◌}
use Rattle.std.specs.Str.{chars}
use Rattle.std.proofs.lemmas.Str.{chars-nil}
use Rattle.std.specs.Prelude.{take}
use Rattle.graphql_tokens.proofs.pos.counted.CountedPlace.new.Goals as goal

pub returns-clause-counting : goal.returns-clause-counting
returns-clause-counting c = record {
  running = c.new.ensures.running;
  counted = sym (ap (λ k. length (chars (take k c.new.result.walk.text.now))) c.new.ensures.start ∙ ap length chars-nil);
}

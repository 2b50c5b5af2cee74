use Rattle.std.proofs.Common.{◌≡◌, Bool, true, false, ◌||◌, codes, sym, ◌∙◌}
use Rattle.std.proofs.lemmas.Str.Pattern.{ends_text}
use Rattle.graphql_texts.proofs.language.is_schema_file.Goals as goal
use Rattle.graphql_texts.proofs.language.is_schema_file.Goals.{then-ends_with, else-ends_with}

third : (a b c r : Bool) → a ≡ false → b ≡ false → r ≡ c → r ≡ (a || b || c)
third a b c r not_a not_b is = rw (not_a, not_b) is

pub returns-else-ends_with-2 : goal.returns-else-ends_with-2
returns-else-ends_with-2 c = elim c.if-ends_with.branch [
  | then-ends_with w ↦ absurd (let never : true ≡ false = sym w.if-ends_with.true ∙ sym w.value-is ∙ c.if-ends_with-2.false in cc)
  | else-ends_with w ↦
      third _ _ _ _
      (sym (ends_text c.ends_with.result (codes ".graphqls") c.args.name.now c.ends_with.ensures.cases) ∙ w.if-ends_with.false)
      (sym (ends_text w.ends_with-else-ends_with.result (codes ".gqls") c.args.name.now w.ends_with-else-ends_with.ensures.cases) ∙ sym w.value-is ∙ c.if-ends_with-2.false)
      (ends_text c.ends_with-else-ends_with-2.result (codes ".sdl") c.args.name.now c.ends_with-else-ends_with-2.ensures.cases)
]

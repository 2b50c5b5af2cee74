use Rattle.std.proofs.Common.{string_bytes, ap, ◌∙◌, arith}
use Rattle.graphql_commands.specs.checked.Files.{GivesGoodText}
use Rattle.graphql_commands.proofs.Chains.{next-name}
use Rattle.graphql_commands.proofs.check.check_files.Goals as goal

pub loop-file-preserved : goal.loop-file-preserved
loop-file-preserved g c = record {
  most = omega (arith, c.max-worst.ensures, c.loop-file.invariant.most, c.check_file.ensures.status);
  good = λ none. next-name (GivesGoodText g.T.Texts.gives c.args.call.now.language c.args.call.now.takes_fragments c.args.call.now.limits) c.args.texts.now c.args.files.now c.loop-file.file-index c.loop-file.texts _ _ c.check_file.new.texts
      c.loop-file-test.true
      (c.as_str.ensures.value ∙ ap string_bytes c.file-item.is)
      (c.loop-file.invariant.good (omega (arith, none, c.max-worst.ensures)))
      (c.check_file.ensures.good (omega (arith, none, c.max-worst.ensures)));
}

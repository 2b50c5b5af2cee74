use Rattle.std.proofs.Common.{string_bytes, ap, ◌∙◌, arith}
use Rattle.graphql_commands.specs.checked.Replaced.{PutsLaidOut, LeavesLaidOut}
use Rattle.graphql_commands.proofs.Chains.{next-name}
use Rattle.graphql_commands.proofs.rewriting.format_files.Goals as goal

pub loop-file-preserved : goal.loop-file-preserved
loop-file-preserved g c = record {
  most = omega (arith, c.max-worst.ensures, c.loop-file.invariant.most, c.format_file.ensures.status);
  put = next-name (PutsLaidOut g.T.Texts.gives g.T.Texts.puts c.args.call.now.limits) c.args.texts.now c.args.files.now c.loop-file.file-index c.loop-file.texts _ _ c.format_file.new.texts
      c.loop-file-test.true
      (c.as_str.ensures.value ∙ ap string_bytes c.file-item.is)
      c.loop-file.invariant.put
      c.format_file.ensures.put;
  laid_out = λ none. next-name (LeavesLaidOut g.T.Texts.gives g.T.Texts.puts c.args.call.now.limits) c.args.texts.now c.args.files.now c.loop-file.file-index c.loop-file.texts _ _ c.format_file.new.texts
      c.loop-file-test.true
      (c.as_str.ensures.value ∙ ap string_bytes c.file-item.is)
      (c.loop-file.invariant.laid_out (omega (arith, none, c.max-worst.ensures)))
      (c.format_file.ensures.laid_out (omega (arith, none, c.max-worst.ensures)));
}

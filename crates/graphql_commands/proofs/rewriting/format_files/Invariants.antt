use Rattle.std.proofs.Common.{◌≡◌, ◌≤◌, map, take, string_bytes}
use Rattle.graphql_commands.specs.checked.Files.{AreSteps}
use Rattle.graphql_commands.specs.checked.Replaced.{PutsLaidOut, LeavesLaidOut}
use Rattle.graphql_commands.proofs.rewriting.format_files.Given as goal

abbrev pub invariant-loop-file : goal.invariant-loop-file
invariant-loop-file g l = record { most : l.worst ≤ 2; put : AreSteps (PutsLaidOut g.T.Texts.gives g.T.Texts.puts l.call.limits) l.fn.texts (map string_bytes (take l.file-index l.files)) l.texts; laid_out : l.worst ≡ 0 → AreSteps (LeavesLaidOut g.T.Texts.gives g.T.Texts.puts l.call.limits) l.fn.texts (map string_bytes (take l.file-index l.files)) l.texts }

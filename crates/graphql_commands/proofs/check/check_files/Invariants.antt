use Rattle.std.proofs.Common.{◌≡◌, ◌≤◌, map, take, string_bytes}
use Rattle.graphql_commands.specs.checked.Files.{GiveGoodTexts}
use Rattle.graphql_commands.proofs.check.check_files.Given as goal

abbrev pub invariant-loop-file : goal.invariant-loop-file
invariant-loop-file g l = record { most : l.worst ≤ 2; good : l.worst ≡ 0 → GiveGoodTexts g.T.Texts.gives l.call.language l.call.takes_fragments l.call.limits l.fn.texts (map string_bytes (take l.file-index l.files)) l.texts }

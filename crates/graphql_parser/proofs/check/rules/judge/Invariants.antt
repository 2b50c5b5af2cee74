use Rattle.std.proofs.Common.{take, map}
use Rattle.graphql_memory.specs.Memory.{Takes}
use Rattle.graphql_parser.specs.HeadFunds.{heads_bytes}
use Rattle.graphql_parser.specs.RequestHeads.{head_tree}
use Rattle.graphql_parser.specs.Sorting.{IsSorted}
use Rattle.graphql_parser.proofs.check.rules.judge.Given as goal

abbrev pub invariant-loop-head : goal.invariant-loop-head
invariant-loop-head l = IsSorted (map head_tree (take l.head-index l.heads)) l.sorted × Takes (heads_bytes (take l.head-index l.heads)) l.fn.memory l.memory

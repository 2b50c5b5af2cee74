use Rattle.std.proofs.Common.{◌≡◌, ◌-◌, ◌<◌, false, get_or, sym, ◌∙◌, arith}
use Rattle.graphql_tokens.specs.inner.Blocks.{is_space}
use Rattle.graphql_tokens.proofs.BlockEnds.{ends_text_at}
use Rattle.graphql_tokens.proofs.text.block.last_text.Goals as goal
use Rattle.graphql_tokens.proofs.text.block.last_text.Goals.{then-loop-end-test+else-is_space, else-loop-end-test}

pub returns : goal.returns
returns c =
    let bs = c.args.bytes.now in
    let end = c.loop-end.end in
    let stops : 0 < end → is_space (get_or bs (end - 1) 0) ≡ false = λ some. elim c.loop-end-test.branch [
      | then-loop-end-test+else-is_space w ↦ sym w.is_space.ensures ∙ w.if-is_space.false
      | else-loop-end-test w ↦ absurd (omega arith)
    ] in
    ends_text_at bs end c.past_line.result (record { within = c.loop-end.invariant.within; spaces = c.loop-end.invariant.spaces; stops = stops }) c.requires.text c.past_line.ensures.value

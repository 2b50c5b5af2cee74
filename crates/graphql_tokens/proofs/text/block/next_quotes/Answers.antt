use Rattle.std.proofs.Common.{◌+◌, length, sym, ap, ◌∙◌, arith, length-drop}
use Rattle.std.proofs.lemmas.List.{take_rest}
use Rattle.graphql_tokens.proofs.BlockSearches.{unquoted_on, unquoted_past, unquoted_end}
use Rattle.graphql_tokens.proofs.text.block.next_quotes.Goals as goal

pub returns-then-begins_quotes-clause-none : goal.returns-then-begins_quotes-clause-none
returns-then-begins_quotes-clause-none c =
    unquoted_on c.args.bytes.now c.args.start c.loop-len.at c.in-Some.len c.loop-len.invariant.none c.in-Some.ensures.0.before

pub loop-len-preserved : goal.loop-len-preserved
loop-len-preserved c =
    let bs = c.args.bytes.now in
    let at = c.loop-len.at + c.in-Some.len in
    let short = length-drop c.loop-len.at bs in
    let rest = ap length (take_rest bs c.loop-len.at) in
    let within = c.loop-len.invariant.within in
    let found = c.in-Some.ensures.0.high in
    let from = c.loop-len.invariant.from in
    let before = unquoted_on bs c.args.start c.loop-len.at c.in-Some.len c.loop-len.invariant.none c.in-Some.ensures.0.before in
    record {
      from = omega arith;
      within = omega arith;
      none = unquoted_past bs c.args.start at before (sym c.begins_quotes.ensures ∙ c.if-begins_quotes.false);
    }

pub returns-clause-none : goal.returns-clause-none
returns-clause-none c = unquoted_end c.args.bytes.now c.args.start c.loop-len.at c.loop-len.invariant.within c.loop-len.invariant.none c.in_default.ensures

use Rattle.std.proofs.Common.{◌++◌, List, ℕ, Bool, string_bytes, sym, ap, ◌∙◌}
use Rattle.std.proofs.lemmas.Result.{on_ok_weaker}
use Rattle.std.specs.Str.{chars}
use Rattle.graphql_layout.specs.texts.Blocks.{block_of}
use Rattle.graphql_layout.proofs.BlockPushes.{block_written}
use Rattle.graphql_layout.proofs.BlockTexts.{spelled_is, block_spelled}
use Rattle.graphql_layout.proofs.blocks.push_block.Goals as goal

pub returns-clause-written : goal.returns-clause-written
returns-clause-written c =
    let cs = chars c.args.value.now in
    on_ok_weaker c.push_back.result (λ e.
    block_written c.places-leads.result.0 c.places-leads.result.1 c.args.line_break cs (string_bytes c.args.out.now) (string_bytes c.push_front.new.out) (string_bytes c.push_back.new.out) c.in_ok-push_front.ensures.written e
    ∙ ap (λ (x : List ℕ). string_bytes c.args.out.now ++ x) (ap (λ (p : Bool × Bool). block_of p.0 p.1 c.args.line_break cs) c.places-leads.ensures ∙ sym (spelled_is c.args.line_break c.args.value.now))) c.push_back.ensures

pub returns-clause-token : goal.returns-clause-token
returns-clause-token c = on_ok_weaker c.push_back.result (λ _. block_spelled c.args.line_break c.args.value.now c.utf8.value) c.push_back.ensures

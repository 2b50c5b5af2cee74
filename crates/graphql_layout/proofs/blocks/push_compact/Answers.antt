use Rattle.std.proofs.Common.{◌++◌, List, ℕ, Bool, false, string_bytes, sym, ap, ap₂, ◌∙◌}
use Rattle.std.proofs.lemmas.Result.{on_ok_weaker}
use Rattle.std.specs.Str.{chars}
use Rattle.graphql_layout.specs.declared.line_ends.LineBreak.{LineBreak}
use Rattle.graphql_layout.specs.texts.Blocks.{block_of}
use Rattle.graphql_layout.specs.texts.Shortened.{is_hung, is_open}
use Rattle.graphql_layout.proofs.BlockPushes.{block_written}
use Rattle.graphql_layout.proofs.BlockTexts.{compact_is}
use Rattle.graphql_layout.proofs.blocks.push_compact.Goals as goal

pub returns : goal.returns
returns c =
    let cs = chars c.args.value.now in
    on_ok_weaker c.push_back.result (λ e.
    block_written c.is_hung.result c.in_ok-is_open.is_open c.feed-line_break.result cs (string_bytes c.args.out.now) (string_bytes c.push_front.new.out) (string_bytes c.push_back.new.out) c.in_ok-is_open.ensures.written e
    ∙ ap (λ (x : List ℕ). string_bytes c.args.out.now ++ x) (ap₂ (λ (a b : Bool). block_of a b c.feed-line_break.result cs) c.is_hung.ensures c.in_ok-is_open.ensures.ends ∙ ap (λ (i : LineBreak). block_of (is_hung cs) (is_open 0 false cs) i cs) c.feed-line_break.ensures ∙ sym (compact_is cs))) c.push_back.ensures

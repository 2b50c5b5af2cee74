use Rattle.std.proofs.Common.{◌≡◌, ℕ, ◌+◌, ◌*◌, ◌-◌, List, ◌++◌, length, string_bytes, sym, subst, ap, ◌∙◌, take, arith}
use Rattle.std.proofs.lemmas.List.{length-append}
use Rattle.std.specs.String.Boundary.{IsSplitPoint}
use Rattle.graphql_layout.specs.texts.Blocks.{blanks}
use Rattle.graphql_layout.specs.texts.LineEnds.{line_end}
use Rattle.graphql_layout.proofs.Pushes.{line_ascii, begin_pushed, ascii_split}
use Rattle.graphql_layout.proofs.sheet.push_begin.Goals as goal

pub truncate-requires : goal.truncate-requires
truncate-requires c = λ h.
    let old = string_bytes c.args.text.now in
    let end = line_end c.args.line_end in
    let line : List ℕ = end ++ blanks 31 in
    let all : string_bytes c.push_long_line.new.text ≡ old ++ line = c.in_ok-push_long_line.ensures.ok in
    let n = length end + 2 * c.args.depth in
    let long : length line ≡ length end + 31 = length-append end (blanks 31) in
    let place : length old + n ≡ c.len.result - (31 - 2 * c.args.depth) = omega (arith, c.len.ensures, ap length all, length-append old line, long, c.requires.depth) in
    subst (λ (x : List ℕ). IsSplitPoint x (c.len.result - (31 - 2 * c.args.depth))) (sym all) (subst (IsSplitPoint (old ++ line)) place (ascii_split old line n (omega (arith, long, c.requires.depth)) (line_ascii c.args.line_end 31)))

pub returns-clause-ok : goal.returns-clause-ok
returns-clause-ok c =
    let old = string_bytes c.args.text.now in
    let end = line_end c.args.line_end in
    let line : List ℕ = end ++ blanks 31 in
    let all : string_bytes c.push_long_line.new.text ≡ old ++ line = c.in_ok-push_long_line.ensures.ok in
    let long : length line ≡ length end + 31 = length-append end (blanks 31) in
    let place : c.len.result - (31 - 2 * c.args.depth) ≡ length old + (length end + 2 * c.args.depth) = omega (arith, c.len.ensures, ap length all, length-append old line, long, c.requires.depth) in
    begin_pushed c.args.line_end c.args.text.now c.push_long_line.new.text c.truncate.new.self c.args.last (2 * c.args.depth) 31 c.requires.sheet all (c.truncate.ensures.bytes ∙ ap (λ (k : ℕ). take k (string_bytes c.push_long_line.new.text)) place)

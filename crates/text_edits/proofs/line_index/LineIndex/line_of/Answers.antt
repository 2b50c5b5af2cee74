use Rattle.std.proofs.Common.{◌≡◌, ◌-◌, ◌<◌, length, ap, arith}
use Rattle.text_edits.specs.Indexes.{starts_of}
use Rattle.text_edits.specs.Starts.{IsBegun}
use Rattle.text_edits.proofs.Indexes.{begun_text, start_found, found_between, not_first, read_at}
use Rattle.text_edits.proofs.line_index.LineIndex.line_of.Goals.{After-begun-number}
use Rattle.text_edits.proofs.line_index.LineIndex.line_of.Goals as goal

counted : (c : After-begun-number) → IsBegun (starts_of c.args.text.now) c.args.offset c.begun-number.result
counted c = begun_text c.args.text.now c.args.self.now c.args.offset c.begun-number.result c.begun-number.ensures.parted c.requires

some : (c : After-begun-number) → 0 < c.begun-number.result
some c = not_first c.args.text.now c.begun-number.result c.args.offset (counted c).high

within : (c : After-begun-number) → c.begun-number.result - 1 < length (starts_of c.args.text.now)
within c = omega (arith, (counted c).within, some c)

pub overflow_sub-number : goal.overflow_sub-number
overflow_sub-number c = let h = some (goal.at.overflow_sub-number c).After-begun-number in omega (arith, h)

pub index-requires : goal.index-requires
index-requires c =
    let inside : c.self.inside.starts.items ≡ starts_of c.args.text.now = cc in
    omega (arith, within (goal.at.index-requires c).After-begun-number, ap length inside, c.self.inside.starts.ok.0)

pub returns-clause-start : goal.returns-clause-start
returns-clause-start c =
    let inside : c.self.inside.starts.items ≡ starts_of c.args.text.now = cc in
    let low = within (goal.at.returns-clause-start c).After-begun-number in
    start_found c.args.text.now (c.begun-number.result - 1) c.index.result.now c.utf8.text low
    (read_at c.args.text.now c.self.inside.starts.items (c.begun-number.result - 1) c.index.result.now inside low c.index.ensures)

pub returns-clause-on : goal.returns-clause-on
returns-clause-on c =
    let b = counted (goal.at.returns-clause-on c).After-begun-number in
    found_between c.args.text.now c.begun-number.result c.args.offset (some (goal.at.returns-clause-on c).After-begun-number) b.within b.low b.high

pub returns-clause-low : goal.returns-clause-low
returns-clause-low c =
    let inside : c.self.inside.starts.items ≡ starts_of c.args.text.now = cc in
    let b = counted (goal.at.returns-clause-low c).After-begun-number in
    let more = some (goal.at.returns-clause-low c).After-begun-number in
    let low = within (goal.at.returns-clause-low c).After-begun-number in
    let read = read_at c.args.text.now c.self.inside.starts.items (c.begun-number.result - 1) c.index.result.now inside low c.index.ensures in
    let before = b.low (c.begun-number.result - 1) (omega (arith, more)) in
    omega (arith, read, before)

use Rattle.std.proofs.Common.{◌≡◌, ℕ, max, List, ◌++◌, string_bytes, ap, ap₂, ◌∙◌, arith}
use Rattle.std.proofs.lemmas.Result.{on_ok_weaker}
use Rattle.std.proofs.lemmas.Str.{IsUtf8-string_bytes}
use Rattle.std.specs.Str.{chars}
use Rattle.text_edits.specs.Edits.{replaced, before, from}
use Rattle.text_edits.specs.Positions.{offset_of}
use Rattle.text_edits.proofs.document.Document.apply.Goals as goal

-- an end before the start is the start
ends : (text new : List ℕ) (start end later : ℕ) → later ≡ max start end → replaced text start later new ≡ replaced text start end new
ends text new start end later e =
    let same : max start later ≡ max start end = omega (arith, e) in
    ap (λ (n : ℕ). before start text ++ (new ++ from n text)) same

pub returns-clause-ok : goal.returns-clause-ok
returns-clause-ok c =
    let start : ℕ = c.offset_of-start.result in
    let end : ℕ = c.offset_of.result in
    let text : List ℕ = chars (string_bytes c.self.inside.text) in
    let one : replaced text start c.later-end.result (chars c.args.new.now) ≡ replaced text start end (chars c.args.new.now) = ends text (chars c.args.new.now) start end c.later-end.result c.later-end.ensures in
    let two : replaced text start end (chars c.args.new.now) ≡ replaced (chars c.args.self.now) (offset_of c.args.encoding c.args.self.now c.args.range.start) (offset_of c.args.encoding c.args.self.now c.args.range.end) (chars c.args.new.now) =
    ap (λ (l : List ℕ). replaced (chars l) start end (chars c.args.new.now)) c.self.view_is
    ∙ ap₂ (λ (a b : ℕ). replaced (chars c.args.self.now) a b (chars c.args.new.now)) c.offset_of-start.ensures.value c.offset_of.ensures.value in
    on_ok_weaker c.replace.result (λ (h : chars (string_bytes c.replace.new.text) ≡ replaced text start c.later-end.result (chars c.args.new.now)). h ∙ one ∙ two) c.replace.ensures.text

pub returns-clause-valid : goal.returns-clause-valid
returns-clause-valid c = IsUtf8-string_bytes c.replace.new.text

use Rattle.std.proofs.Common.{rules, ◌≡◌, ℕ, ◌+◌, ◌-◌, ◌<◌, ◌≤◌, ◌^◌, List, length, take, drop, get_or, string_bytes, sym, ap, ap₂, subst, ◌∙◌, arith, length-drop}
use Rattle.std.proofs.lemmas.Iterator.{items_from_drains}
use Rattle.std.proofs.lemmas.Iterator.Adapters.{YieldsList-from_vec}
use Rattle.std.proofs.lemmas.List.{map-id, take_all}
use Rattle.std.specs.List.{replace_range, splice}
use Rattle.std.specs.Str.{chars, IsUtf8}
use Rattle.text_edits.specs.Indexes.{starts_of}
use Rattle.text_edits.specs.Starts.{IsBegun, starts_from}
use Rattle.text_edits.proofs.Boundaries.{chars_replaced}
use Rattle.text_edits.proofs.Indexes.{begun_text}
use Rattle.text_edits.proofs.Patches.{Patched, patched, begun_order, written}
use Rattle.text_edits.proofs.line_index.LineIndex.replace.Goals.{After-begun-passed, In_ok-splice}
use Rattle.text_edits.proofs.line_index.LineIndex.replace.Goals as goal

made_is : (begun f n b front new back : List ℕ) → begun ≡ starts_from f n b → f ≡ front → n ≡ new → b ≡ back → begun ≡ starts_from front new back
made_is begun f n b front new back e x y z = e ∙ ap₂ (λ (k l : List ℕ). starts_from k n l) x z ∙ ap (λ (k : List ℕ). starts_from front k back) y

valid : (c : After-begun-passed) → IsUtf8 (string_bytes c.args.text.now)
valid c = subst IsUtf8 c.as_str.ensures.value c.as_str.utf8

made : (c : After-begun-passed) → c.in_ok-begun.begun.items ≡ starts_from (take c.args.start (string_bytes c.args.text.now)) c.args.new.now (drop c.args.end (string_bytes c.args.text.now))
made c =
    let bytes : c.as_bytes-bytes.result.now ≡ string_bytes c.args.text.now = c.as_bytes-bytes.ensures.value ∙ c.as_str.ensures.value in
    let all : List ℕ = c.as_bytes-bytes.result.now in
    let long : length (drop c.args.end all) ≤ length all - c.args.end = omega (arith, length-drop c.args.end all) in
    let back : take (length all - c.args.end) (drop c.args.end all) ≡ drop c.args.end (string_bytes c.args.text.now) = take_all (length all - c.args.end) (drop c.args.end all) long ∙ ap (drop c.args.end) bytes in
    made_is c.in_ok-begun.begun.items (take c.args.start all) c.as_bytes.result.now (take (length all - c.args.end) (drop c.args.end all)) (take c.args.start (string_bytes c.args.text.now)) c.args.new.now (drop c.args.end (string_bytes c.args.text.now))
    c.in_ok-begun.ensures (ap (take c.args.start) bytes) c.as_bytes.ensures.value back

same : (c : After-begun-passed) → c.self.inside.starts.items ≡ starts_of (string_bytes c.args.text.now)
same c = cc

before : (c : After-begun-passed) → IsBegun c.self.inside.starts.items (c.args.start - 1) c.begun-kept.result
before c =
    let kept = begun_text (string_bytes c.args.text.now) _ _ c.begun-kept.result c.begun-kept.ensures.parted cc in
    let at : c.saturating_sub.result ≡ c.args.start - 1 = search rules in
    subst (λ (n : ℕ). IsBegun c.self.inside.starts.items n c.begun-kept.result) at (subst (λ (l : List ℕ). IsBegun l c.saturating_sub.result c.begun-kept.result) (sym (same c)) kept)

passed : (c : After-begun-passed) → IsBegun c.self.inside.starts.items c.args.end c.begun-passed.result
passed c =
    let p = begun_text (string_bytes c.args.text.now) _ _ c.begun-passed.result c.begun-passed.ensures.parted cc in
    subst (λ (l : List ℕ). IsBegun l c.args.end c.begun-passed.result) (sym (same c)) p

put : (c : In_ok-splice) → c.splice.new.self.items ≡ splice c.self.inside.starts.items c.begun-kept.result c.begun-passed.result c.in_ok-begun.begun.items
put c =
    let r = c.in_ok-splice.ensures.items in
    let d = r.3 in
    let all : r.1 ≡ c.in_ok-begun.begun.items =
    sym (map-id r.1) ∙ items_from_drains r.1 (d.1.0, d.1.1, λ _. (d.0, d.1.2)) (YieldsList-from_vec {s = r.0} c.in_ok-begun.begun.items r.2.0 (r.2.1 ∙ c.in_ok-begun.begun.ok.0)) in
    r.4 ∙ ap (λ (l : List ℕ). splice c.self.inside.starts.items c.begun-kept.result c.begun-passed.result l) all

patch : (c : After-begun-passed) (more : ℕ) (starts : List ℕ) → more ≡ c.in_ok-begun.begun.len → starts ≡ splice c.self.inside.starts.items c.begun-kept.result c.begun-passed.result c.in_ok-begun.begun.items
    → Patched (string_bytes c.args.text.now) c.args.new.now c.args.start c.args.end (c.begun-kept.result + more) starts
patch c more starts many is =
    patched (string_bytes c.args.text.now) c.args.new.now c.self.inside.starts.items c.in_ok-begun.begun.items starts c.args.start c.args.end c.begun-kept.result c.begun-passed.result (c.begun-kept.result + more)
    (valid c) c.utf8.new c.requires.order c.requires.start c.requires.end (same c) (made c) (before c) (passed c) is (omega (arith, many, c.in_ok-begun.begun.ok.0))

pub splice-requires-clause-start_le_end : goal.splice-requires-clause-start_le_end
splice-requires-clause-start_le_end c =
    let e = (goal.at.splice-requires-clause-start_le_end c).After-begun-passed in
    let order = c.requires.order in
    begun_order c.self.inside.starts.items (c.args.start - 1) c.args.end c.begun-kept.result c.begun-passed.result (omega arith) (before e) (passed e)

pub shift-requires-clause-low : goal.shift-requires-clause-low
shift-requires-clause-low c =
    let at = goal.at.shift-requires-clause-low c in
    let p = patch at.After-begun-passed c.len.result c.splice.new.self.items c.len.ensures (put at.In_ok-splice) in
    subst (λ (l : List ℕ). (k : ℕ) → c.begun-kept.result + c.len.result ≤ k → k < length l → c.args.end ≤ get_or l k 0) (sym c.as_mut_slice.ensures.value) (λ k a b. omega (arith, p.low k a b))

pub shift-requires-clause-high : goal.shift-requires-clause-high
shift-requires-clause-high c =
    let at = goal.at.shift-requires-clause-high c in
    let p = patch at.After-begun-passed c.len.result c.splice.new.self.items c.len.ensures (put at.In_ok-splice) in
    let order = c.requires.order in
    let few : length c.args.new.now < 2 ^ 63 = omega arith in
    let many : length c.as_bytes-bytes.result.now < 2 ^ 63 = omega arith in
    let same : length c.as_bytes-bytes.result.now ≡ length (string_bytes c.args.text.now) = ap length (c.as_bytes-bytes.ensures.value ∙ c.as_str.ensures.value) in
    subst (λ (l : List ℕ). (k : ℕ) → c.begun-kept.result + c.len.result ≤ k → k < length l → c.args.start + length c.args.new.now + (get_or l k 0 - c.args.end) < 2 ^ 64) (sym c.as_mut_slice.ensures.value)
    (λ k a b. omega (arith, p.low k a b, p.high k a b, few, many, same, order))

pub returns-clause-text : goal.returns-clause-text
returns-clause-text c =
    let bytes : string_bytes c.replace_range.new.self ≡ replace_range (string_bytes c.args.text.now) c.args.start c.args.end c.args.new.now =
    c.in_ok-replace_range.ensures.bytes ∙ ap (λ (l : List ℕ). replace_range l c.args.start c.args.end c.args.new.now) c.in_ok-reserve.ensures.bytes in
    ap chars bytes ∙ chars_replaced (string_bytes c.args.text.now) c.args.new.now c.args.start c.args.end (valid (goal.at.returns-clause-text c).After-begun-passed) c.utf8.new c.requires.start c.requires.end c.requires.order

pub returns-clause-index : goal.returns-clause-index
returns-clause-index c =
    let at = goal.at.returns-clause-index c in
    let p = patch at.After-begun-passed c.len.result c.splice.new.self.items c.len.ensures (put at.In_ok-splice) in
    let bytes : string_bytes c.replace_range.new.self ≡ replace_range (string_bytes c.args.text.now) c.args.start c.args.end c.args.new.now =
    c.in_ok-replace_range.ensures.bytes ∙ ap (λ (l : List ℕ). replace_range l c.args.start c.args.end c.args.new.now) c.in_ok-reserve.ensures.bytes in
    written c.splice.new.self.len (c.begun-kept.result + c.len.result) c.args.end (c.args.start + length c.args.new.now) c.splice.new.self.items c.as_mut_slice.result.now c.shift.new.starts c.as_mut_slice.ensures.value c.as_mut_slice.ensures.len c.shift.ensures
    ∙ p.moved ∙ ap starts_of (sym bytes)

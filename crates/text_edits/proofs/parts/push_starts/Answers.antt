use Rattle.std.proofs.Common.{◌≡◌, ◌+◌, ◌-◌, ◌++◌, List, ℕ, Bool, true, false, length, take, drop, get_or, sym, ap, ◌∙◌, arith, length-drop}
use Rattle.std.proofs.lemmas.List.{append-nil, take_all}
use Rattle.text_edits.specs.Lines.{ends_line}
use Rattle.text_edits.proofs.Cuts.{found, no_ends}
use Rattle.text_edits.proofs.Within.{one, pushing_next, pushing_last}
use Rattle.text_edits.proofs.parts.push_starts.Goals as goal

-- a part from an offset on
rest_of : (part : List ℕ) (at : ℕ) → take (length part - at) (drop at part) ≡ drop at part
rest_of part at = take_all (length part - at) (drop at part) (omega (arith, length-drop at part))

-- what the test says
tested : (part rest : List ℕ) (k n : ℕ) (b test : Bool) → test ≡ ends_line (get_or part k 0) (take (length part - n) (drop n part) ++ rest) → test ≡ b → ends_line (get_or part k 0) (drop n part ++ rest) ≡ b
tested part rest k n b test is e = ap (λ (l : List ℕ). ends_line (get_or part k 0) (l ++ rest)) (sym (rest_of part n)) ∙ sym is ∙ e

pub loop-found-preserved-in-Continue-1 : goal.loop-found-preserved-in-Continue-1
loop-found-preserved-in-Continue-1 c =
    let part : List ℕ = c.args.part.now in
    let at : ℕ = c.loop-found.at in
    let i : ℕ = c.in-Some.found in
    let starts : List ℕ = c.loop-found.starts.items in
    let ends : ends_line (get_or part (at + i) 0) (drop (at + i + 1) part ++ c.args.rest.now) ≡ true = tested part c.args.rest.now (at + i) (at + i + 1) true c.ends_line.result c.ends_line.ensures c.if-ends_line.true in
    pushing_next c.args.start at i part c.args.rest.now c.args.starts.now.items starts c.push.new.self.items c.loop-found.invariant
    (found (drop at part) (take (length part - at) (drop at part)) i (rest_of part at) c.in-Some.ensures)
    (c.in_ok-push.ensures.items ∙ ap (λ (b : Bool). starts ++ one b (c.args.start + (at + i + 1))) (sym ends))

pub loop-found-preserved : goal.loop-found-preserved
loop-found-preserved c =
    let part : List ℕ = c.args.part.now in
    let at : ℕ = c.loop-found.at in
    let i : ℕ = c.in-Some.found in
    let starts : List ℕ = c.loop-found.starts.items in
    let other : ends_line (get_or part (at + i) 0) (drop (at + i + 1) part ++ c.args.rest.now) ≡ false = tested part c.args.rest.now (at + i) (at + i + 1) false c.ends_line.result c.ends_line.ensures c.if-ends_line.false in
    pushing_next c.args.start at i part c.args.rest.now c.args.starts.now.items starts starts c.loop-found.invariant
    (found (drop at part) (take (length part - at) (drop at part)) i (rest_of part at) c.in-Some.ensures)
    (sym (append-nil starts) ∙ ap (λ (b : Bool). starts ++ one b (c.args.start + (at + i + 1))) (sym other))

pub returns : goal.returns
returns c =
    let part : List ℕ = c.args.part.now in
    let at : ℕ = c.loop-found.at in
    pushing_last c.args.start at part c.args.rest.now c.args.starts.now.items c.loop-found.starts.items c.loop-found.invariant
    (no_ends (drop at part) (take (length part - at) (drop at part)) (rest_of part at) c.in_default.ensures)

use Rattle.std.proofs.Common.{rules, ◌≡◌, ℕ, ◌≤◌, List, leb, length, get_or, sym, subst, arith}
use Rattle.std.proofs.lemmas.Bool.{leb-true, leb-false}
use Rattle.std.proofs.lemmas.List.Sorted.{IsPartitionPoint-from_clause, IsPartitionedBy-leb}
use Rattle.std.specs.List.Sorted.{IsNonDecreasing}
use Rattle.text_edits.specs.Starts.{IsBegun}
use Rattle.text_edits.proofs.line_index.LineIndex.begun.Goals as goal

pub returns-clause-parted : goal.returns-clause-parted
returns-clause-parted c = λ rise.
    let offset : ℕ = c.args.offset in
    let n : ℕ = c.partition_point.result in
    let starts : List ℕ = c.deref.result.now in
    let same : starts ≡ c.args.self.now = cc in
    let rises : IsNonDecreasing starts = subst IsNonDecreasing (sym same) rise in
    let p = IsPartitionPoint-from_clause (λ y. leb y offset) starts n c.partition_point.ensures.partitioned (IsPartitionedBy-leb (λ x. x) starts offset rises) (λ a r f' k. search rules) in
    let bound : n ≤ length starts = c.partition_point.ensures.bound in
    let b : IsBegun starts offset n = record {
      within = bound;
      low = λ k l. leb-true (get_or starts k 0) offset (p.0 k 0 (omega arith) l);
      high = λ k l h. leb-false (get_or starts k 0) offset (p.1 k 0 l h);
    } in
    subst (λ (l : List ℕ). IsBegun l offset n) same b

use Rattle.std.proofs.Common.{arith, ◌≡◌, ◌≢◌, ◌≤◌, ◌<◌, ◌+◌, ℕ, zero, suc, List, length, refl, inl, inr, subst, sym, ap, ◌∙◌}
use Rattle.std.specs.Prelude.{IfOk}
use Rattle.graphql_memory.specs.Memory.{Refused}
use Rattle.graphql_memory.specs.declared.Memory.{Memory}
use Rattle.graphql_parser.specs.answers.Answers.{Answers}
use Rattle.graphql_parser.specs.answers.Memory.{most_taken}
use Rattle.graphql_parser.specs.notation.Limits.{Limits}
use Rattle.graphql_parser.specs.tokens.Cuts.{IsCutInto}
use Rattle.graphql_parser.specs.tokens.Token.{Token}
use Rattle.graphql_parser_c.specs.Handing.{IsHanded}
use Rattle.graphql_parser_c.specs.Statuses.{number_of}
use Rattle.graphql_parser_c.specs.Telling.{IsSpent, limits_of}
use Rattle.graphql_parser_c.proofs.Numbers.{number_told}
use Rattle.graphql_parser_c.proofs.handing.answer.Goals as goal

no_other : (n : ℕ) → ¬ (n ≢ 0) → n ≡ 0
no_other zero a = refl
no_other (suc n) a = absurd (a (λ e. let bad : suc n ≡ 0 = e in absurd (omega (arith, bad))))

-- two numbers that aren't other than 0
both_zero : (m n : ℕ) → ¬ (m ≢ 0) → ¬ (n ≢ 0) → m ≡ n
both_zero m n a b = no_other m a ∙ sym (no_other n b)

not_denied : (m : Memory) → ¬ Refused m → ¬ (m.refusals ≢ 0)
unfolding Refused
not_denied m granted some = granted (inl some)

both : {A B : Type 0} (P : A → B → Type 0) {a c : A} {b d : B} → a ≡ c → b ≡ d → P a b → P c d
both P {a} {c} {b} {d} e f h = subst (λ x. P x d) e (subst (P a) f h)

pub returns-clause-handed : goal.returns-clause-handed
returns-clause-handed g c =
    let Hands = g.H.Handing.Hands c.args.handing.now in
    let Handed : ℕ → Type 0 = λ number. IsHanded c.made_of-made.result number c.hand_over.new.block in
    let handed = subst Handed (sym c.number-number.ensures) c.hand_over.ensures.handed in
    let told = c.hand_over.ensures.told in
    let read = λ (tokens : List Token) (cut : IsCutInto c.args.question.now.text.now tokens).
    subst (λ limits. Answers g.H.Handing.language limits tokens c.read-answer.result) c.in-Ok.ensures.1
    (c.read-answer.ensures.answers tokens (subst (λ t. IsCutInto t tokens) (sym c.in-Ok.ensures.0) cut)) in
    let limits : Limits = limits_of c.args.question.now.bounds.0 c.args.question.now.bounds.1 c.args.question.now.bounds.2 in
    let made = both (λ (l : Limits) (text : List ℕ). IfOk c.made_of-made.result (λ block. Hands l text c.read-answer.result block)) c.in-Ok.ensures.1 c.in-Ok.ensures.0 c.made_of-made.ensures.made in
    record {
      nothing = handed.0;
      answer = λ says tokens cut. (
        c.read-answer.result,
        read tokens cut,
        number_told c.read-answer.result told.0 _ told.1 (c.number-number.ensures ∙ ap number_of told.2) says,
        subst (λ made. IfOk made (λ block. Hands limits c.args.question.now.text.now c.read-answer.result block)) (handed.1 says) made,
      );
    }

pub returns-clause-left : goal.returns-clause-left
returns-clause-left g c =
    let budget = c.args.question.now.bounds.3 in
    let text = c.args.question.now.text.now in
    let answer = c.read-answer.result in
    let given = c.with_budget-memory.result in
    let after = c.read-answer.new.memory in
    let spent : IsSpent (length text) answer given after = subst (λ (t : List ℕ). IsSpent (length t) answer given after) c.in-Ok.ensures.0 c.read-answer.ensures.spent in
    let begun : given.left ≡ budget = c.with_budget-memory.ensures.left in
    let left : after.left ≡ c.left.result = sym c.left.ensures in
    record {
      at_most = both (λ (a b : ℕ). a ≤ b) left begun spent.0;
      at_least = both (λ (a b : ℕ). b ≤ a + most_taken (length text)) left begun spent.1;
      refused = λ e. elim (c.heap_denied.ensures.budget e) [
        | inl one ↦ inl one
        | inr found ↦ elim (spent.2 found.0) [
          | inl heap ↦ absurd (heap (both_zero after.refusals given.refusals found.1 (not_denied given c.with_budget-memory.ensures.granted)))
          | inr less ↦ inr (subst (λ (n : ℕ). n < most_taken (length text)) begun less)
        ]
      ];
      only = c.heap_denied.ensures.only;
    }

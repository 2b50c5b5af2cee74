-- A phrase after a mark, a phrase between brackets, and lists with a mark between their members.
use Rattle.std.proofs.Common.{map, refl}
use Rattle.graphql_reading.specs.grammar.Tests.{Test, punct}
use Rattle.graphql_reading.specs.grammar.Limits.{Limits}
use Rattle.graphql_reading.specs.grammar.Relations.{Rel, one, between, after, separated}
use Rattle.graphql_reading.specs.reading.Outcome.{Reader, between_at, after_at, separated_at}
use Rattle.graphql_reading.proofs.Theory.{IsSubset, IsInner, outside, anything}
use Rattle.graphql_reading.proofs.TokenTests.{punct-inner}
use Rattle.graphql_reading.proofs.ReadsExactly.{ReadsExactly, HasPhrase, BeginsWith, exact-one, exact-punct, exact-mapped, exact-next, exact-then-some, exact-many, begins-one, begins-mapped, begins-then, has-pair, has-map, has-star}
use Rattle.graphql_reading.proofs.Extra.{exact-opt, has-opt}
use Rattle.graphql_reading.proofs.IgnoresPlaces.{IgnoresPlaces, PassesNoBlock, ignores-one, ignores-then, ignores-mapped, ignores-star, ignores-opt}
use Prim.Native.String.{String}

-- ---- a phrase after a mark

pub exact-after : {A : Type 0} {mark : Test} {p : Limits → Rel A} {b : Limits} {f : Test} {r : Reader A} → IsInner mark → HasPhrase p → ReadsExactly p b f r → ReadsExactly (λ c. after mark (p c)) b f (after_at mark r)
exact-after inner has h = exact-mapped (exact-next has (exact-one inner) h)

pub begins-after : {A : Type 0} {mark : Test} {p : Limits → Rel A} → BeginsWith (λ c. after mark (p c)) mark
begins-after = begins-mapped (begins-then begins-one)

pub has-after : {A : Type 0} (mark : Test) {p : Limits → Rel A} → HasPhrase (λ c. one mark) → HasPhrase p → HasPhrase (λ c. after mark (p c))
has-after mark marked h = has-map (has-pair marked h)

pub ignores-after : {A : Type 0} (mark : Test) {p : Limits → Rel A} {f : A → A} → PassesNoBlock mark → IgnoresPlaces p f → IgnoresPlaces (λ c. after mark (p c)) f
ignores-after mark none h = ignores-mapped (λ x. refl) (ignores-then (ignores-one mark none) h)

-- ---- a phrase between brackets

-- nothing is looked ahead at after the closing bracket
pub exact-between : {A : Type 0} (opening closing : String) {p : Limits → Rel A} {b : Limits} {f : Test} {r : Reader A} → HasPhrase (λ c. one (punct closing)) → HasPhrase p → ReadsExactly p b (punct closing) r → ReadsExactly (λ c. between (punct opening) (p c) (punct closing)) b f (between_at (punct opening) r (punct closing))
exact-between opening closing closes has h = exact-mapped (exact-next (has-pair has closes) (exact-punct opening) (exact-then-some begins-one closes h (exact-punct closing)))

pub begins-between : {A : Type 0} {opening : Test} (closing : Test) {p : Limits → Rel A} → BeginsWith (λ c. between opening (p c) closing) opening
begins-between closing = begins-mapped (begins-then begins-one)

pub has-between : {A : Type 0} (opening closing : Test) {p : Limits → Rel A} → HasPhrase (λ c. one opening) → HasPhrase p → HasPhrase (λ c. one closing) → HasPhrase (λ c. between opening (p c) closing)
has-between opening closing opens h closes = has-map (has-pair opens (has-pair h closes))

pub ignores-between : {A : Type 0} (opening closing : Test) {p : Limits → Rel A} {f : A → A} → PassesNoBlock opening → PassesNoBlock closing → IgnoresPlaces p f → IgnoresPlaces (λ c. between opening (p c) closing) f
ignores-between opening closing opens closes h = ignores-mapped (λ x. refl) (ignores-then (ignores-one opening opens) (ignores-then h (ignores-one closing closes)))

-- ---- a list with marks

-- members that don't look ahead, and that no mark begins: by the token in sight it is known whether a mark stands
-- before the first; and no mark follows the list, so that it ends where no mark follows a member
pub exact-separated : {A : Type 0} (word : String) {p : Limits → Rel A} {b : Limits} {f first : Test} {r : Reader A} → BeginsWith p first → IsSubset first (outside (punct word)) → IsSubset f (outside (punct word)) → HasPhrase p → ReadsExactly p b anything r → ReadsExactly (λ c. separated (punct word) (p c)) b f (separated_at (punct word) r)
unfolding separated_at
exact-separated word {p = p} led unmarked away has h =
    exact-mapped (exact-then-some (begins-then led) (has-pair has (has-star {p = λ c. after (punct word) (p c)}))
    (exact-opt begins-one unmarked (exact-punct word))
    (exact-next (has-star {p = λ c. after (punct word) (p c)}) h (exact-many begins-after away (exact-after (punct-inner word) has h))))

pub has-separated : {A : Type 0} (mark : Test) {p : Limits → Rel A} → HasPhrase p → HasPhrase (λ c. separated mark (p c))
has-separated mark {p = p} h = has-map (has-pair (has-opt {p = λ c. one mark}) (has-pair h (has-star {p = λ c. after mark (p c)})))

pub ignores-separated : {A : Type 0} (mark : Test) {p : Limits → Rel A} {f : A → A} → PassesNoBlock mark → IgnoresPlaces p f → IgnoresPlaces (λ c. separated mark (p c)) (map f)
ignores-separated mark none h = ignores-mapped (λ x. refl) (ignores-then (ignores-opt (ignores-one mark none)) (ignores-then h (ignores-star (ignores-after mark none h))))

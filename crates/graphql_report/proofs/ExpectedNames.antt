-- The names that are told, joined.
use Rattle.std.proofs.Common.{◌≡◌, ℕ, List, ◌++◌, ap, ◌∙◌}
use Rattle.std.proofs.lemmas.List.{map-append}
use Rattle.std.specs.Borrow.{Bor}
use Rattle.graphql_report.specs.inner.Called.{texts}

texts-append : (xs ys : List (Bor (List ℕ))) → texts (xs ++ ys) ≡ texts xs ++ texts ys
texts-append xs ys = map-append (λ (name : Bor (List ℕ)). name.now) xs ys

-- names with others after them
pub joined : (values : List (List ℕ)) (names others both : List (Bor (List ℕ))) → texts names ≡ values → both ≡ names ++ others → texts both ≡ values ++ texts others
joined values names others both is e = ap texts e ∙ texts-append names others ∙ ap (λ (l : List (List ℕ)). l ++ texts others) is

-- Calls that print tokens, one after another.
use Rattle.std.proofs.Common.{◌≡◌, ◌≤◌, ℕ, Bool, true, List, [], ◌∷◌, ◌++◌, Result, Ok, Err, refl, ap, sym, ◌∙◌, append_assoc, append-nil, subst}
use Rattle.std.proofs.lemmas.List.{map-append}
use Rattle.graphql_tokens.specs.tokens.Token.{Bare}
use Rattle.graphql_printer.specs.inner.Prints.{Prints}
use Rattle.graphql_syntax.specs.declared.types.BaseType.{BaseType, Named, List'}
use Rattle.graphql_syntax.specs.trees.TypeTree.{base_tree}
use Rattle.graphql_printer.specs.inner.Shown.{sign, by_value, by_values, shown_mark, shown_type}

pub by_values-append : (ts us : List Bare) → by_values (ts ++ us) ≡ by_values ts ++ by_values us
by_values-append ts us = map-append by_value ts us

pub next : {E F : Type 0} {u : Unit {0}} {r : Result (Unit {0}) E} {a b c : List Bare} {ts us : List Bare} → Prints {E = F} (Ok u) a b ts → Prints r b c us → Prints r a c (ts ++ us)
next {r = Ok v} {a = a} {ts = ts} {us = us} first then_ = record { ok = then_.ok ∙ ap (λ x. x ++ by_values us) first.ok ∙ append_assoc a (by_values ts) (by_values us) ∙ ap (λ x. a ++ x) (sym (by_values-append ts us)) }
next {r = Err x} first then_ = record { ok = tt }

-- after a call that writes no token
pub kept : {E : Type 0} {r : Result (Unit {0}) E} {a b c : List Bare} {ts : List Bare} → b ≡ a → Prints r b c ts → Prints r a c ts
kept {r = r} {c = c} {ts = ts} e printed = subst (λ (x : List Bare). Prints r x c ts) e printed

-- the same tokens
pub as_tokens : {E : Type 0} {r : Result (Unit {0}) E} {a b : List Bare} {ts us : List Bare} → ts ≡ us → Prints r a b ts → Prints r a b us
as_tokens e printed = subst (Prints _ _ _) e printed

-- of some tokens the rest is left to be printed; one part of it is printed
pub part_printed : {E : Type 0} {u : Unit {0}} {a b whole : List Bare} (part others : List Bare) → Prints {E = E} (Ok u) a b part → a ++ by_values (part ++ others) ≡ whole → b ++ by_values others ≡ whole
part_printed {a = a} part others printed so_far =
    ap (λ x. x ++ by_values others) printed.ok ∙ append_assoc a (by_values part) (by_values others) ∙ ap (λ x. a ++ x) (sym (by_values-append part others)) ∙ so_far

-- nothing is left
pub all_printed : {E : Type 0} {u : Unit {0}} {a b : List Bare} (all rest : List Bare) → b ++ by_values rest ≡ a ++ by_values all → rest ≡ [] → Prints {E = E} (Ok u) a b all
all_printed {b = b} all rest so_far none = record { ok = sym (append-nil b) ∙ ap (λ l. b ++ by_values l) (sym none) ∙ so_far }

-- what is left of a list or an object while its parts are printed, which is no larger than all of it
abbrev pub IsPrintedTo : {A : Type 0} → (A → ℕ) → (A → List Bare) → A → A → List Bare → List Bare → Type 0
IsPrintedTo size shown all rest begun printed = (size rest ≤ size all) × (printed ++ by_values (shown rest) ≡ begun ++ by_values (shown all))

-- ---- types

-- a type is shown as its base, and then its mark
pub base_shown : (base : BaseType) (nullable : Bool) → shown_type (base_tree base true) ++ shown_mark nullable ≡ shown_type (base_tree base nullable)
base_shown (Named name) nullable = refl
base_shown (List' p base inner) nullable = ap (λ l. sign "[" ∷ l) (append_assoc (shown_type (base_tree base inner)) (sign "]" ∷ []) (shown_mark nullable))

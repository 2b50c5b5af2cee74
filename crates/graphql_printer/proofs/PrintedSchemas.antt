-- What calls print of schema files.
use Rattle.std.proofs.Common.{◌≡◌, true, false, List, [], ◌∷◌, ◌++◌, map, Option, Some, None, Result, Ok, refl, sym, ap, append-nil}
use Rattle.graphql_tokens.specs.declared.pos.Positioned.{Positioned}
use Rattle.graphql_tokens.specs.tokens.Token.{Bare}
use Rattle.graphql_syntax.specs.declared.types.OperationType.{OperationType}
use Rattle.graphql_syntax.specs.trees.Parts.{Name, placed}
use Rattle.graphql_printer.specs.inner.PrintedRoots.{and_then, are_none, shown_maybe_root}
use Rattle.graphql_printer.specs.inner.Prints.{Prints}
use Rattle.graphql_printer.specs.inner.Shown.{sign, shown_between}
use Rattle.graphql_printer.specs.inner.ShownSchemas.{Root, shown_led, shown_root}
use Rattle.graphql_printer.proofs.Printing.{as_tokens}

-- ---- one call after another

pub nothing : {E : Type 0} (a : List Bare) → Prints {E = E} (Ok tt) a a []
nothing a = record { ok = sym (append-nil a) }

-- ---- lists of what is its own tree

pub same_placed : {A : Type 0} (parts : List (Positioned A)) → map (placed (λ part. part)) parts ≡ parts
same_placed [] = refl
same_placed (part ∷ parts) = ap (λ others. part ∷ others) (same_placed parts)

-- ---- members after a token

-- of members that are their own trees
pub same_led : {A E : Type 0} {r : Result (Unit {0}) E} {a b : List Bare} (lead mark : Bare) (shown : Positioned A → List Bare) (list : List (Positioned A)) → Prints r a b (shown_led lead mark shown (map (placed (λ part. part)) list)) → Prints r a b (shown_led lead mark shown list)
same_led lead mark shown list printed = as_tokens (ap (shown_led lead mark shown) (same_placed list)) printed

-- ---- roots

pub no_roots : (a b d : Option (Positioned Name)) (k l m : OperationType) (roots : List Root) → are_none a b d ≡ true → and_then k a (and_then l b (and_then m d [])) ≡ roots → shown_between "{" "}" shown_root roots ≡ []
no_roots None None None k l m roots none e = ap (shown_between "{" "}" shown_root) (sym e)
no_roots (Some x) b d k l m roots none e = absurd cc
no_roots None (Some x) d k l m roots none e = absurd cc
no_roots None None (Some x) k l m roots none e = absurd cc

pub some_roots : (a b d : Option (Positioned Name)) (k l m : OperationType) (roots : List Root) → are_none a b d ≡ false → and_then k a (and_then l b (and_then m d [])) ≡ roots
    → sign "{" ∷ (shown_maybe_root k a ++ (shown_maybe_root l b ++ (shown_maybe_root m d ++ sign "}" ∷ []))) ≡ shown_between "{" "}" shown_root roots
some_roots None None None k l m roots some e = absurd cc
some_roots (Some x) None None k l m roots some e = ap (shown_between "{" "}" shown_root) e
some_roots (Some x) (Some y) None k l m roots some e = ap (shown_between "{" "}" shown_root) e
some_roots (Some x) None (Some z) k l m roots some e = ap (shown_between "{" "}" shown_root) e
some_roots (Some x) (Some y) (Some z) k l m roots some e = ap (shown_between "{" "}" shown_root) e
some_roots None (Some y) None k l m roots some e = ap (shown_between "{" "}" shown_root) e
some_roots None (Some y) (Some z) k l m roots some e = ap (shown_between "{" "}" shown_root) e
some_roots None None (Some z) k l m roots some e = ap (shown_between "{" "}" shown_root) e

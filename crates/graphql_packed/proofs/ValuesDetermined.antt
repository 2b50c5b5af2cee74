-- The bytes of values, arguments, directives and types determine them.
use Rattle.std.proofs.Common.{◌≡◌, ℕ, true, false, List, ◌++◌, refl, ap, ap₂}
use Rattle.graphql_parser.specs.trees.Parts.{Name, Argument, Arguments, Directive}
use Rattle.graphql_parser.specs.trees.TypeTree.{TypeTree, named, list as list_of}
use Rattle.graphql_parser.specs.trees.ValueTree.{Tree, variable, null, number, string, boolean, enumeration, list, object, Trees, no_trees, more_trees, Fields, no_fields, field}
use Rattle.graphql_parser.specs.types.Positioned.{Positioned}
use Rattle.graphql_packed.specs.packed.Bytes.{Bytes, number_bytes, choice, text_bytes}
use Rattle.graphql_packed.specs.packed.Values.{items_count, fields_count, value_bytes, items_bytes, fields_bytes, argument_with, arguments_bytes, directive_bytes, directives_bytes, type_bytes}
use Rattle.graphql_packed.proofs.Determined.{Determines, apart, regrouped, first_by, both_determine, of_part, made_of, number_determined, flag_determined, text_determined, word_determined, node_determined, whole_list}

-- ---- values

-- a text after a choice
text_same : {A : Type 0} (make : List ℕ → A) (n m : ℕ) (a b : List ℕ) (r s : Bytes) → (choice n ++ text_bytes a) ++ r ≡ (choice m ++ text_bytes b) ++ s → (make a ≡ make b) × (r ≡ s)
text_same make n m a b r s e = let same = text_determined.by a b r s (cc) in (ap make same.0, same.1)

-- a number after a choice, and what comes then
count_same : (n m a b : ℕ) (p q r s : Bytes) → ((choice n ++ number_bytes a) ++ p) ++ r ≡ ((choice m ++ number_bytes b) ++ q) ++ s → (a ≡ b) × (p ++ r ≡ q ++ s)
count_same n m a b p q r s e = first_by number_determined a b p q r s (cc)

mutual
  value_same : (a b : Tree) (r s : Bytes) → value_bytes a ++ r ≡ value_bytes b ++ s → (a ≡ b) × (r ≡ s)
  value_same (variable a) (variable b) r s e = text_same variable 0 0 a b r s e
  value_same null null r s e = (refl, cc)
  value_same (number a) (number b) r s e = text_same number 2 2 a b r s e
  value_same (string a) (string b) r s e = text_same string 3 3 a b r s e
  value_same (boolean false) (boolean false) r s e = (refl, cc)
  value_same (boolean true) (boolean true) r s e = (refl, cc)
  value_same (enumeration a) (enumeration b) r s e = text_same enumeration 6 6 a b r s e
  value_same (list xs) (list ys) r s e =
      let count = count_same 7 7 (items_count xs) (items_count ys) (items_bytes xs) (items_bytes ys) r s e in
      let same = items_same xs ys r s count.0 count.1 in
      (ap list same.0, same.1)
  value_same (object xs) (object ys) r s e =
      let count = count_same 8 8 (fields_count xs) (fields_count ys) (fields_bytes xs) (fields_bytes ys) r s e in
      let same = fields_same xs ys r s count.0 count.1 in
      (ap object same.0, same.1)
  value_same (boolean false) b r s e = apart (value_bytes (boolean false) ++ r) (value_bytes b ++ s) refl e
  value_same (boolean true) b r s e = apart (value_bytes (boolean true) ++ r) (value_bytes b ++ s) refl e
  value_same a (boolean false) r s e = apart (value_bytes a ++ r) (value_bytes (boolean false) ++ s) refl e
  value_same a (boolean true) r s e = apart (value_bytes a ++ r) (value_bytes (boolean true) ++ s) refl e
  value_same a b r s e = apart (value_bytes a ++ r) (value_bytes b ++ s) refl e

  items_same : (xs ys : Trees) (r s : Bytes) → items_count xs ≡ items_count ys → items_bytes xs ++ r ≡ items_bytes ys ++ s → (xs ≡ ys) × (r ≡ s)
  items_same no_trees no_trees r s n e = (refl, e)
  items_same (more_trees a xs) (more_trees b ys) r s n e =
      let first = value_same a b (items_bytes xs ++ r) (items_bytes ys ++ s) (regrouped (value_bytes a) (items_bytes xs) r (value_bytes b) (items_bytes ys) s e) in
      let others = items_same xs ys r s (cc) first.1 in
      (ap₂ more_trees first.0 others.0, others.1)
  items_same _ _ r s n e = absurd cc

  fields_same : (xs ys : Fields) (r s : Bytes) → fields_count xs ≡ fields_count ys → fields_bytes xs ++ r ≡ fields_bytes ys ++ s → (xs ≡ ys) × (r ≡ s)
  fields_same no_fields no_fields r s n e = (refl, e)
  fields_same (field k a xs) (field l b ys) r s n e =
      let one = regrouped (text_bytes k ++ value_bytes a) (fields_bytes xs) r (text_bytes l ++ value_bytes b) (fields_bytes ys) s e in
      let name = first_by text_determined k l (value_bytes a) (value_bytes b) (fields_bytes xs ++ r) (fields_bytes ys ++ s) one in
      let first = value_same a b (fields_bytes xs ++ r) (fields_bytes ys ++ s) name.1 in
      let others = fields_same xs ys r s (cc) first.1 in
      (cc, others.1)
  fields_same _ _ r s n e = absurd cc

pub value_determined : Determines value_bytes (λ value. value)
value_determined = record { by = value_same }

-- ---- arguments and directives

argument_determined : Determines (argument_with value_bytes) (λ argument. argument)
argument_determined = both_determine (of_part (λ (argument : Argument). argument.0) word_determined) (of_part (λ (argument : Argument). argument.1) (node_determined value_determined))

pub arguments_determined : Determines arguments_bytes (λ arguments. arguments)
arguments_determined = whole_list argument_determined

directive_determined : Determines directive_bytes (λ directive. directive)
directive_determined = made_of {B = Directive} (λ (x : Positioned Name × Arguments). record { name = x.0; arguments = x.1 })
    (both_determine (of_part (λ (directive : Directive). directive.name) word_determined) (of_part (λ (directive : Directive). directive.arguments) arguments_determined))

pub directives_determined : Determines directives_bytes (λ directives. directives)
directives_determined = whole_list (node_determined directive_determined)

-- ---- types

type_same : (a b : TypeTree) (r s : Bytes) → type_bytes a ++ r ≡ type_bytes b ++ s → (a ≡ b) × (r ≡ s)
type_same (named a m) (named b n) r s e =
    let mark = first_by flag_determined m n (choice 0 ++ text_bytes a) (choice 0 ++ text_bytes b) r s e in
    let same = text_same (λ x. x) 0 0 a b r s mark.1 in
    (ap₂ named same.0 mark.0, same.1)
type_same (list_of a m) (list_of b n) r s e =
    let mark = first_by flag_determined m n (choice 1 ++ type_bytes a) (choice 1 ++ type_bytes b) r s e in
    let same = type_same a b r s (cc) in
    (ap₂ list_of same.0 mark.0, same.1)
type_same (named a m) (list_of b n) r s e = let mark = first_by flag_determined m n (choice 0 ++ text_bytes a) (choice 1 ++ type_bytes b) r s e in absurd cc
type_same (list_of a m) (named b n) r s e = let mark = first_by flag_determined m n (choice 1 ++ type_bytes a) (choice 0 ++ text_bytes b) r s e in absurd cc

pub type_determined : Determines type_bytes (λ type. type)
type_determined = record { by = type_same }

-- Value trees: what a value stands for, whether variables may stand in it or not.
-- Source: GraphQL October 2021, sections 2.9 (Input Values) and 2.10 (Variables). That a number is kept as its literal,
-- and that a tree may hold a field's name twice, is this project's choice.
use Rattle.std.specs.Prelude.{ℕ, List, [], ◌∷◌, Bool, true, false, ◌||◌}

-- Names, numbers and texts are bytes: a variable's name without its `$`, a number's literal, and what
-- a string stands for. Lists and objects keep the order of their parts.
mutual
  pub data Tree : Type 0 where
    variable : List ℕ → Tree
    null : Tree
    number : List ℕ → Tree
    string : List ℕ → Tree
    boolean : Bool → Tree
    enumeration : List ℕ → Tree
    list : Trees → Tree
    object : Fields → Tree

  pub data Trees : Type 0 where
    no_trees : Trees
    more_trees : Tree → Trees → Trees

  pub data Fields : Type 0 where
    no_fields : Fields
    field : List ℕ → Tree → Fields → Fields

-- the items of a list, and the fields of an object
abbrev pub trees_of : List Tree → Trees
trees_of [] = no_trees
trees_of (t ∷ ts) = more_trees t (trees_of ts)

abbrev pub fields_of : List (List ℕ × Tree) → Fields
fields_of [] = no_fields
fields_of (f ∷ fs) = field f.0 f.1 (fields_of fs)

-- whether a variable stands in the tree at any depth
abbrev mutual
  pub has_variable : Tree → Bool
  has_variable (variable n) = true
  has_variable null = false
  has_variable (number n) = false
  has_variable (string s) = false
  has_variable (boolean b) = false
  has_variable (enumeration n) = false
  has_variable (list ts) = trees_have_variable ts
  has_variable (object fs) = fields_have_variable fs

  pub trees_have_variable : Trees → Bool
  trees_have_variable no_trees = false
  trees_have_variable (more_trees t ts) = has_variable t || trees_have_variable ts

  pub fields_have_variable : Fields → Bool
  fields_have_variable no_fields = false
  fields_have_variable (field n t fs) = has_variable t || fields_have_variable fs

-- Lists and objects that are open while a value inside them is read.
use Rattle.std.specs.Prelude.{◌≡◌, ℕ, pred, ◌+◌, ◌<◌, Bool, true, false, cond, nat_lt, codes, Option, Some, None, Result, Ok, Err, List, [], ◌∷◌, ◌++◌, length, map}
use Rattle.std.specs.Str.{bytes_eq}
use Rattle.graphql_tokens.specs.tokens.Token.{Token}
use Rattle.graphql_syntax.specs.trees.ValueTree.{Tree, null, boolean, enumeration, list, object, trees_of, fields_of}
use Rattle.graphql_reading.specs.declared.parser.Refusal.{Refusal}
use Rattle.graphql_grammar.specs.declared.value.frames.Open.{Open}
use Rattle.graphql_grammar.specs.declared.value.frames.Open.TheVariants as opens
use Rattle.graphql_grammar.specs.declared.value.frames.Frame.{Frame}
use Rattle.graphql_grammar.specs.declared.value.frames.Frame.TheVariants as frames
use Rattle.graphql_grammar.specs.declared.value.frames.Stop.{Stop}
use Rattle.graphql_grammar.specs.declared.value.frames.Stop.TheVariants as stops
use Rattle.graphql_reading.specs.grammar.Fronts.{limit}
use Rattle.graphql_grammar.specs.grammar.Merged.{merged}
use Rattle.graphql_reading.specs.grammar.Tests.{Test, punct, any_name}
use Rattle.graphql_grammar.specs.grammar.Values.{Value}
use Rattle.graphql_reading.specs.reading.Ahead.{Ahead, tokens}
use Rattle.graphql_reading.specs.reading.Given.{GoesOn, Refuses}
use Rattle.graphql_reading.specs.reading.Outcome.{Outcome, Read, Refused, Reader, ◌>>=◌, one_at, then_at, mapped_at, choose_at, none_at, many_at, with_front}
use Rattle.graphql_grammar.specs.reading.Values.{value_first, value_at, field_at}

abbrev pub Field : Type 0
Field = List ℕ × Tree

-- ---- values without their places

abbrev pub node_of : Value → Tree
node_of v = v.node

abbrev pub node_at : Reader Value → Reader Tree
node_at r = mapped_at node_of r

-- ---- what is open

-- a list or an object with what it holds so far
pub data Opened : Type 0 where
  in_list : List Tree → Opened
  in_object : List Field → Opened

-- the same, waiting for a value; an object has the name of the value
pub data Waiting : Type 0 where
  list_waits : List Tree → Waiting
  object_waits : List Field → List ℕ → Waiting

-- where the reading of one stops: at its end, or at a list or an object inside it
pub data Met : Type 0 where
  closes : Tree → Met
  enters : Waiting → Opened → Met

-- ---- what those of the code stand for, where each value stands for a tree

abbrev pub field_tree : {V : Type 0} → (V → Tree) → List ℕ × V → Field
field_tree tree f = (f.0, tree f.1)

abbrev pub opened : {V : Type 0} → (V → Tree) → Open V → Opened
opened tree (opens.List v) = in_list (map tree v.items)
opened tree (opens.Object v) = in_object (map (field_tree tree) v.items)

abbrev pub waiting : {V : Type 0} → (V → Tree) → Frame V → Waiting
waiting tree (frames.List v) = list_waits (map tree v.items)
waiting tree (frames.Object v name) = object_waits (map (field_tree tree) v.items) name

abbrev pub met : {V : Type 0} → (V → Tree) → Stop V → Met
met tree (stops.Closed v) = closes (tree v)
met tree (stops.Entered f o) = enters (waiting tree f) (opened tree o)

-- ---- the rest of a list or an object, after what it holds so far

abbrev pub list_tree : List Tree → Tree
list_tree items = list (trees_of items)

abbrev pub object_tree : List Field → Tree
object_tree fields = object (fields_of (merged fields))

abbrev pub close_list : List Tree → Reader Tree
close_list items ts = one_at (punct "]") ts >>= λ _ rest. Read (list_tree items) rest

abbrev pub close_object : List Field → Reader Tree
close_object fields ts = one_at (punct "}") ts >>= λ _ rest. Read (object_tree fields) rest

unfoldable pub list_rest : Bool → ℕ → List Tree → Reader Tree
list_rest vars b front ts = with_front front (many_at (value_first vars) (node_at (value_at vars b)) ts) >>= close_list

unfoldable pub object_rest : Bool → ℕ → List Field → Reader Tree
object_rest vars b front ts = with_front front (many_at any_name (field_at (value_at vars b)) ts) >>= close_object

abbrev pub open_rest : Bool → ℕ → Opened → Reader Tree
open_rest vars b (in_list front) ts = list_rest vars b front ts
open_rest vars b (in_object front) ts = object_rest vars b front ts

-- with one value more
abbrev pub add : Waiting → Tree → Opened
add (list_waits front) t = in_list (front ++ t ∷ [])
add (object_waits front name) t = in_object (front ++ (name, t) ∷ [])

-- what one that waits makes of its value
abbrev pub filled : Bool → ℕ → Waiting → Outcome Tree → Outcome Tree
filled vars b w read = read >>= λ t rest. open_rest vars b (add w t) rest

-- those that wait, the outermost first, each with the budget inside it; after the last there is b left
abbrev pub resume : Bool → ℕ → List Waiting → Outcome Tree → Outcome Tree
resume vars b [] read = read
resume vars b (f ∷ fs) read = filled vars (b + length fs) f (resume vars b fs read)

-- what is made of what is met, and of the tokens after it
abbrev pub goes_on : Bool → ℕ → Met → List Token → Outcome Tree
goes_on vars b (closes t) rest = Read t rest
goes_on vars b (enters w o) rest = filled vars b w (open_rest vars (pred b) o rest)

-- ---- the steps

-- the end of an object, or else the name of its next value
abbrev pub key_at : Reader (Option (List ℕ))
key_at = choose_at (punct "}") (mapped_at (λ _. None) (one_at (punct "}"))) (mapped_at (λ x. Some x.0.bare.spelling) (then_at (one_at any_name) (one_at (punct ":"))))

-- a list or an object that begins here, where so many levels are left
abbrev pub enters_at : Test → ℕ → Opened → Reader (Option Opened)
enters_at test left o ts = cond (nat_lt 0 left) (one_at test ts >>= λ _ rest. Read (Some o) rest) (Refused limit ts)

abbrev pub enter_at : ℕ → Reader (Option Opened)
enter_at left = choose_at (punct "[") (enters_at (punct "[") left (in_list [])) (choose_at (punct "{") (enters_at (punct "{") left (in_object [])) (none_at None))

-- ---- what the code gives that reads up to where it stops

-- where a list or an object begins, a level is left for it
abbrev pub HasRoom : ℕ → Met → Type 0
HasRoom b (closes t) = Unit {0}
HasRoom b (enters w o) = 0 < b

-- what the reader gives comes of what is met and the tokens after it; some were read
pub record MeetsAt (vars : Bool) (b : ℕ) (met : Met) (old new : Ahead) (r : Reader Tree) : Type 0 where
  pub told : r (tokens old) ≡ goes_on vars b met (tokens new)
  pub less : length (tokens new) < length (tokens old)
  pub room : HasRoom b met

abbrev pub Meets : {X : Type 0} → Bool → ℕ → (X → Met) → Result X Refusal → Ahead → Ahead → Reader Tree → Type 0
Meets vars b view (Ok x) old new r = MeetsAt vars b (view x) old new r × GoesOn old new
Meets vars b view (Err refusal) old new r = Refuses refusal old new r × GoesOn old new

-- ---- words

-- what a name stands for, as a value
abbrev pub word_tree : List ℕ → Tree
word_tree spelling = cond (bytes_eq spelling (codes "true")) (boolean true) (cond (bytes_eq spelling (codes "false")) (boolean false) (cond (bytes_eq spelling (codes "null")) null (enumeration spelling)))

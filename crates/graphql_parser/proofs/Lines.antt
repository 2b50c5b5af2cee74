-- What a straight line of readers gives, from what each of them gives.
use Rattle.std.proofs.Common.{◌≡◌, Bool, false, not, ◌&&◌, Some, Result, Ok, Err, List, refl, ap, ◌∙◌}
use Rattle.graphql_tokens.specs.tokens.Token.{Token}
use Rattle.graphql_reading.specs.declared.parser.Refusal.{Refusal}
use Rattle.graphql_reading.specs.declared.parser.Refusal.TheVariants.{Memory, Syntax, Limit}
use Rattle.graphql_reading.specs.grammar.Tests.{Test, any_name, keyword, punct}
use Rattle.graphql_reading.specs.reading.Ahead.{Ahead, tokens}
use Rattle.graphql_reading.specs.reading.Given.{GoesOn, Refuses}
use Rattle.graphql_reading.specs.reading.Outcome.{Outcome, Read, Refused, Reader, ◌>>=◌, one_at, then_at, mapped_at, opt_at}
use Rattle.graphql_reading.proofs.Loops.{go-on}
use Rattle.graphql_grammar.specs.reading.Arguments.{directives_at}
use Rattle.graphql_reading.specs.grammar.Limits.{Limits}
use Rattle.graphql_schemas.specs.grammar.Types.{members_of, parts_of}
use Rattle.graphql_grammar.specs.reading.Types.{type_at}
use Rattle.graphql_schemas.specs.reading.Descriptions.{maybe_description_at}
use Rattle.graphql_schemas.specs.reading.Fields.{fields_at}
use Rattle.graphql_schemas.specs.reading.Members.{implements_at}
use Rattle.graphql_schemas.specs.reading.Types.{owed_at, part_first, parts_at, some_parts_at, field_parts_at}
use Rattle.graphql_parser.specs.Checked.{rest_of, Checks}
use Rattle.graphql_parser.proofs.Rests.{IsRead, is-read, Passed}

rest-mapped : {A B : Type 0} (f : A → B) (o : Outcome A) (rest : List Token) → rest_of o ≡ Some rest → rest_of (o >>= λ a rest'. Read (f a) rest') ≡ Some rest
rest-mapped f (Read a rest') rest e = e
rest-mapped f (Refused v rest') rest e = absurd cc

-- another tree is made of what is read
pub mapped-goes : {X Y Z : Type 0} (f : Y → Z) (result : Result X Refusal) (old new : Ahead) (r : Reader Y) → Checks result old new r → Checks result old new (mapped_at f r)
mapped-goes f (Ok x) old new r h = (rest-mapped f (r (tokens old)) (tokens new) h.0, h.1)
mapped-goes f (Err Memory) old new r h = h
mapped-goes f (Err Syntax) old new r h = (ap (λ (o : Outcome _). o >>= λ a rest. Read (f a) rest) h.0, h.1)
mapped-goes f (Err Limit) old new r h = (ap (λ (o : Outcome _). o >>= λ a rest. Read (f a) rest) h.0, h.1)

-- the first part is read, and this is what comes of the others
pub then-goes : {X Y Z : Type 0} (result : Result X Refusal) (old mid new : Ahead) (r : Reader Y) (s : Reader Z) → rest_of (r (tokens old)) ≡ Some (tokens mid) → GoesOn old mid → Checks result mid new s → Checks result old new (then_at r s)
then-goes {X} {Y} {Z} result old mid new r s h on checks = go result checks
  where
    read : IsRead (r (tokens old)) (tokens mid)
    read = is-read (r (tokens old)) (tokens mid) h

    pair : Z → List Token → Outcome (Y × Z)
    pair b rest = Read (read.tree, b) rest

    same : then_at r s (tokens old) ≡ (s (tokens mid) >>= pair)
    same = ap (λ (o : Outcome Y). o >>= λ a rest. s rest >>= λ b rest'. Read (a, b) rest') read.is

    go : (result : Result X Refusal) → Checks result mid new s → Checks result old new (then_at r s)
    go (Ok x) h = (ap rest_of same ∙ rest-mapped (λ b. (read.tree, b)) (s (tokens mid)) (tokens new) h.0, go-on old mid new on h.1)
    go (Err Memory) h = (h.0, go-on old mid new on h.1)
    go (Err Syntax) h = (same ∙ ap (λ (o : Outcome Z). o >>= pair) h.0, go-on old mid new on h.1)
    go (Err Limit) h = (same ∙ ap (λ (o : Outcome Z). o >>= pair) h.0, go-on old mid new on h.1)

-- the first part is refused
pub then-stops : {Y Z : Type 0} (e : Refusal) (old new : Ahead) (r : Reader Y) (s : Reader Z) → Refuses e old new r → Refuses e old new (then_at r s)
then-stops Memory old new r s h = h
then-stops Syntax old new r s h = ap (λ (o : Outcome _). o >>= λ a rest. s rest >>= λ b rest'. Read (a, b) rest') h
then-stops Limit old new r s h = ap (λ (o : Outcome _). o >>= λ a rest. s rest >>= λ b rest'. Read (a, b) rest') h

-- one reader in place of another that reads the same here
pub goes-there : {X Y : Type 0} (result : Result X Refusal) (old new : Ahead) (r s : Reader Y) → s (tokens old) ≡ r (tokens old) → Checks result old new r → Checks result old new s
goes-there (Ok x) old new r s same h = (ap rest_of same ∙ h.0, h.1)
goes-there (Err Memory) old new r s same h = h
goes-there (Err Syntax) old new r s same h = (same ∙ h.0, h.1)
goes-there (Err Limit) old new r s same h = (same ∙ h.0, h.1)

-- a part that is owed is there
pub owed-goes : {X Y : Type 0} (result : Result X Refusal) (extend : Bool) (first : Test) (old new : Ahead) (r : Reader Y) → (extend && not (first old.hand.bare)) ≡ false → Checks result old new r → Checks result old new (owed_at extend first r)
owed-goes result extend first old new r there h = goes-there result old new r (owed_at extend first r) (rw there refl) h

-- a description, where there is one, and a name
pub described-go : {X Y : Type 0} (result : Result X Refusal) (name : Token) (old described named new : Ahead) (rest : Reader Y) → Passed old described maybe_description_at → (one_at any_name (tokens described) ≡ Read name (tokens named)) × GoesOn described named → Checks result named new rest → Checks result old new (then_at maybe_description_at (then_at (one_at any_name) rest))
described-go result name old described named new rest described-is named-is h =
    then-goes result old described new maybe_description_at (then_at (one_at any_name) rest) described-is.0 described-is.1
    (then-goes result described named new (one_at any_name) rest (ap rest_of named-is.0) named-is.1 h)

-- a colon and a type
pub typed-go : {X Y : Type 0} (result : Result X Refusal) (limits : Limits) (mark : Token) (old colon typed new : Ahead) (rest : Reader Y) → (one_at (punct ":") (tokens old) ≡ Read mark (tokens colon)) × GoesOn old colon → Passed colon typed (type_at limits.types) → Checks result typed new rest → Checks result old new (then_at (one_at (punct ":")) (then_at (type_at limits.types) rest))
typed-go result limits mark old colon typed new rest colon-is typed-is h =
    then-goes result old colon new (one_at (punct ":")) (then_at (type_at limits.types) rest) (ap rest_of colon-is.0) colon-is.1
    (then-goes result colon typed new (type_at limits.types) rest typed-is.0 typed-is.1 h)

-- directives and a list after them
pub parts-go : {X A : Type 0} (result : Result X Refusal) (limits : Limits) (first : Test) (old mid new : Ahead) (list : Reader (List A)) → Passed old mid (directives_at false limits.values) → Checks result mid new (opt_at first list) → Checks result old new (parts_at limits first list)
parts-go result limits first old mid new list read h =
    mapped-goes parts_of result old new (then_at (directives_at false limits.values) (opt_at first list))
    (then-goes result old mid new (directives_at false limits.values) (opt_at first list) read.0 read.1 h)

-- of which one is owed
pub some-parts-go : {X A : Type 0} (result : Result X Refusal) (extend : Bool) (limits : Limits) (first : Test) (old mid new : Ahead) (list : Reader (List A)) → (extend && not (part_first first old.hand.bare)) ≡ false → Passed old mid (directives_at false limits.values) → Checks result mid new (opt_at first list) → Checks result old new (some_parts_at extend limits first list)
some-parts-go result extend limits first old mid new list there read h = owed-goes result extend (part_first first) old new (parts_at limits first list) there (parts-go result limits first old mid new list read h)

-- interfaces before them
pub field-parts-go : {X : Type 0} (result : Result X Refusal) (limits : Limits) (old mid new : Ahead) → Passed old mid (opt_at (keyword "implements") implements_at) → Checks result mid new (parts_at limits (punct "{") (fields_at limits)) → Checks result old new (field_parts_at limits)
field-parts-go result limits old mid new read h =
    mapped-goes members_of result old new (then_at (opt_at (keyword "implements") implements_at) (parts_at limits (punct "{") (fields_at limits)))
    (then-goes result old mid new (opt_at (keyword "implements") implements_at) (parts_at limits (punct "{") (fields_at limits)) read.0 read.1 h)

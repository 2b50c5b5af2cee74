-- The first breach of the definitions of a schema file is what the rules say of them.
use Rattle.std.proofs.Common.{◌≡◌, Bool, true, false, cond, Option, Some, None, option_map, Result, Ok, Err, List, [], ◌∷◌, ◌++◌, refl, sym, ap, ◌∙◌, subst}
use Rattle.graphql_syntax.specs.declared.types.OperationType.TheVariants.{Query}
use Rattle.graphql_grammar.specs.answers.Answers.{AreUnbroken}
use Rattle.graphql_grammar.specs.answers.Breaches.{or_else}
use Rattle.graphql_grammar.specs.declared.error.Error.{Error}
use Rattle.graphql_grammar.specs.declared.error.Error.TheVariants as errors
use Rattle.graphql_grammar.specs.reading.DocumentOf.{IsDocumentOf, TellsOf}
use Rattle.graphql_grammar.proofs.Answering.{breaks}
use Rattle.graphql_grammar.proofs.Breaches.{none-first, none-second}
use Rattle.graphql_schemas.specs.grammar.Rules.{first_of_kind, first_repeated, missing_query, breach_of}
use Rattle.graphql_schemas.specs.grammar.Schema.{Root}
use Rattle.graphql_schemas.specs.grammar.SchemaFile.{Definition, schema, type_def, directive}
use Rattle.graphql_schemas.specs.grammar.Schemas.{schemas}
use Rattle.graphql_grammar.specs.reading.ReadBy.{IsReadBy}
use Rattle.graphql_grammar.proofs.Languages.{IsRead, is-read-by}
use Rattle.graphql_schemas.proofs.Finished.{anywhere}
use Rattle.graphql_schemas.proofs.SchemaFileProductions.{schemas-are-read}
use Rattle.graphql_schemas.specs.reading.SchemaFile.{definitions_at}
use Rattle.graphql_parser.specs.Checking.{checked}
use Rattle.graphql_parser.specs.SchemaRules.{first_breach}
use Rattle.graphql_parser.proofs.Checking.{checks-read}

-- ---- no breach

none-each : (before : List Definition) (d : Definition) (after : List Definition) → first_breach (before ++ d ∷ after) ≡ None → breach_of [] d ≡ None
none-each [] d after h = none-first (breach_of [] d) (first_breach after) h
none-each (x ∷ before) d after h = none-each before d after (none-second (breach_of [] x) (first_breach (before ++ d ∷ after)) h)

unbroken : (ds : List Definition) → first_breach ds ≡ None → AreUnbroken (checked schemas) ds
unbroken ds h before d after split = sym (anywhere before d) ∙ none-each before d after (sym (ap first_breach split) ∙ h)

-- ---- a breach

-- an error that is a rule's
abbrev IsRules : Error → Type 0
IsRules (errors.Syntax message start end) = ⊥
IsRules errors.RecursionLimitExceeded = ⊥
IsRules errors.OutOfMemory = ⊥
IsRules error = Unit {0}

is-rules : (d : Definition) (error : Error) → breach_of [] d ≡ Some error → IsRules error
is-rules (schema s) error h = go (first_repeated [] s.node.roots) (first_of_kind Query s.node.roots) h
  where
    missing : (b : Bool) → cond b None (Some (errors.MissingQueryRoot s.pos)) ≡ Some error → IsRules error
    missing true e = absurd cc
    missing false e = let same : errors.MissingQueryRoot s.pos ≡ error = cc in subst IsRules same tt

    go : (o p : Option Root) → or_else (option_map (λ root. errors.MultipleRoots root.kind s.pos root.pos) o) (missing_query s p) ≡ Some error → IsRules error
    go (Some root) p e = let same : errors.MultipleRoots root.kind s.pos root.pos ≡ error = cc in subst IsRules same tt
    go None None e = missing s.node.extend e
    go None (Some root) e = absurd cc
is-rules (type_def t) error h = absurd cc
is-rules (directive d) error h = absurd cc

tells : (breach : Option Error) (error : Error) → IsRules error → breach ≡ Some error → TellsOf breach error
tells breach (errors.Syntax message start end) rules h = absurd rules
tells breach errors.RecursionLimitExceeded rules h = absurd rules
tells breach errors.OutOfMemory rules h = absurd rules
tells breach error rules h = h

record FirstHere (ds : List Definition) (error : Error) : Type 0 where
  before : List Definition
  broken : Definition
  after : List Definition
  split : ds ≡ before ++ broken ∷ after
  none : first_breach before ≡ None
  is : breach_of [] broken ≡ Some error

first-here : (ds : List Definition) (error : Error) → first_breach ds ≡ Some error → FirstHere ds error
first-here [] error h = absurd cc
first-here (d ∷ ds) error h = go (first-here ds error) (breach_of [] d) refl h
  where
    go : (first_breach ds ≡ Some error → FirstHere ds error) → (o : Option Error) → breach_of [] d ≡ o → or_else o (first_breach ds) ≡ Some error → FirstHere (d ∷ ds) error
    go others None is e =
        let rest = others e in
        record { before = d ∷ rest.before; broken = rest.broken; after = rest.after; split = ap (λ (l : List Definition). d ∷ l) rest.split; none = ap (λ (o : Option Error). or_else o (first_breach rest.before)) is ∙ rest.none; is = rest.is }
    go others (Some x) is e = record { before = []; broken = d; after = ds; split = refl; none = refl; is = is ∙ e }

-- ---- what the rules say

pub none-told : (ds : List Definition) → first_breach ds ≡ None → IsDocumentOf (checked schemas) ds (Ok tt)
none-told ds h = record { unbroken = unbroken ds h; complete = refl; made = tt }

pub first-told : (ds : List Definition) (error : Error) → first_breach ds ≡ Some error → IsDocumentOf (checked schemas) ds (Err error)
first-told ds error h =
    let first = first-here ds error h in
    breaks (checked schemas) ds first.before first.broken first.after error first.split (unbroken first.before first.none)
    (tells (breach_of first.before first.broken) error (is-rules first.broken error first.is) (sym (anywhere first.before first.broken) ∙ first.is))

-- no rule says that memory ran out
no-memory : (ds : List Definition) → first_breach ds ≡ Some errors.OutOfMemory → ⊥
no-memory ds h = let first = first-here ds errors.OutOfMemory h in is-rules first.broken errors.OutOfMemory first.is

pub no-memory-told : {P : Type 0} (ds : List Definition) (error : Error) (result : Result (Unit {0}) Error) → first_breach ds ≡ Some error → result ≡ Err error → result ≡ Err errors.OutOfMemory → P
no-memory-told ds error result h told is = let same : error ≡ errors.OutOfMemory = cc in absurd (no-memory ds (h ∙ ap Some same))

-- ---- reading

pub schema-checks-are-read : IsRead (checked schemas) definitions_at
schema-checks-are-read = checks-read schemas definitions_at schemas-are-read

pub schema-checks-read-by : IsReadBy (checked schemas) definitions_at
schema-checks-read-by = is-read-by (checked schemas) definitions_at schema-checks-are-read

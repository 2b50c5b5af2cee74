-- Texts after one change more.
use Rattle.std.proofs.Common.{ℕ, List, [], ◌∷◌, ◌++◌, refl, subst}
use Rattle.text_edits.specs.declared.Encoding.{Encoding}
use Rattle.graphql_server.specs.declared.texts.Change.{Change}
use Rattle.graphql_server.specs.Changes.{IsChanged, AreChanged}

pub changed-append : (encoding : Encoding) (text : List ℕ) (changes : List Change) (between : List ℕ) (change : Change) (after : List ℕ) → AreChanged encoding text changes between → IsChanged encoding between change after → AreChanged encoding text (changes ++ (change ∷ [])) after
changed-append encoding text [] between change after e h =
    let P : List ℕ → Type 0 = λ t. IsChanged encoding t change after in
    (after, subst P e h, refl)
changed-append encoding text (first ∷ changes) between change after earlier h =
    (earlier.0, earlier.1, changed-append encoding earlier.0 changes between change after earlier.2 h)

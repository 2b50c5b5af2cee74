-- Diagnoses and the diagnostics that show them, one more of each.
use Rattle.std.proofs.Common.{◌≡◌, ℕ, List, [], ◌∷◌, ◌++◌, refl}
use Rattle.text_edits.specs.declared.Encoding.{Encoding}
use Rattle.graphql_texts.specs.declared.diagnoses.Diagnosis.{Diagnosis}
use Rattle.graphql_server.specs.declared.messages.Diagnostic.{Diagnostic}
use Rattle.graphql_server.specs.Ranges.{Shows, AllShown}

pub shown-append : (encoding : Encoding) (text : List ℕ) (found : List Diagnosis) (told : List Diagnostic) (diagnosis : Diagnosis) (diagnostic : Diagnostic) → AllShown encoding text found told → Shows encoding text diagnosis diagnostic → AllShown encoding text (found ++ (diagnosis ∷ [])) (told ++ (diagnostic ∷ []))
shown-append encoding text [] [] diagnosis diagnostic all shows = (shows, tt)
shown-append encoding text [] (t ∷ told) diagnosis diagnostic all shows = absurd all
shown-append encoding text (f ∷ found) [] diagnosis diagnostic all shows = absurd all
shown-append encoding text (f ∷ found) (t ∷ told) diagnosis diagnostic all shows =
    (all.0, shown-append encoding text found told diagnosis diagnostic all.1 shows)

-- if no diagnostic shows them, there are no diagnoses
pub none-shown : (encoding : Encoding) (text : List ℕ) (found : List Diagnosis) (told : List Diagnostic) → told ≡ [] → AllShown encoding text found told → found ≡ []
none-shown encoding text [] told e all = refl
none-shown encoding text (f ∷ found) [] e all = absurd all
none-shown encoding text (f ∷ found) (t ∷ told) e all = absurd cc

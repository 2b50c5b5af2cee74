use Rattle.std.proofs.Common.{◌≡◌, ◌≢◌, ℕ, ◌<◌, length, get_or, lit<, List, [], ◌∷◌, ◌++◌, Option, None, Some, IfOk, IfErr, option_and_then, refl, ap, subst, ◌∙◌}
use Rattle.std.proofs.lemmas.Str.Pattern.{split_parts}
use Rattle.json.specs.Json.{Json}
use Rattle.json.specs.Find.{get}
use Rattle.json.specs.Value.{value_view}
use Rattle.graphql_server.specs.declared.members.Wrong.TheVariants.{Missing}
use Rattle.graphql_server.specs.Members.{names, value_at}
use Rattle.graphql_server.proofs.Names.{names-first, names-one}
use Rattle.graphql_server.proofs.members.+find.Goals as goal

whole : (o : Option Json) → o ≡ option_and_then (value_at []) o
whole None = refl
whole (Some json) = refl

one_name : (path : List ℕ) (json : Json) → names path ≡ path ∷ [] → get path json ≡ value_at (names path) json
one_name path json e = rw e (whole (get path json))

more_names : (path name rest : List ℕ) (json inner : Json) → names path ≡ name ∷ names rest → get name json ≡ Some inner → value_at (names rest) inner ≡ value_at (names path) json
more_names path name rest json inner e g = rw (e, g) refl

pub returns-in-None-clause-found : goal.returns-in-None-clause-found
returns-in-None-clause-found t c =
    let free = split_parts 46 c.args.path.now None c.in-None.ensures.cases (lit< tt) in
    subst (λ (o : Option Json). IfOk c.member_at.result (λ m. o ≡ Some (value_view m.now))) (one_name c.args.path.now (value_view c.args.value.now) (names-one c.args.path.now free)) c.member_at.ensures.found

pub returns-in-None-clause-missing : goal.returns-in-None-clause-missing
returns-in-None-clause-missing t c =
    let free = split_parts 46 c.args.path.now None c.in-None.ensures.cases (lit< tt) in
    subst (λ (o : Option Json). IfErr c.member_at.result (λ lack. lack.wrong ≡ Missing → o ≡ None)) (one_name c.args.path.now (value_view c.args.value.now) (names-one c.args.path.now free)) c.member_at.ensures.missing

-- the names of the path, by its first one
cut_path : (path name rest : List ℕ) → (path ≡ name ++ (46 ∷ rest)) × ((i : ℕ) → i < length name → get_or name i 0 ≢ 46) → names path ≡ name ∷ names rest
cut_path path name rest cut = ap names cut.0 ∙ names-first name rest cut.1

pub returns-in-Ok-clause-found : goal.returns-in-Ok-clause-found
returns-in-Ok-clause-found t c =
    let name = c.in-Some.name.now in
    let rest = c.in-Some.rest.now in
    let cut = cut_path c.args.path.now name rest (split_parts 46 c.args.path.now (Some (c.in-Some.name, c.in-Some.rest)) c.in-Some.ensures.cases (lit< tt)) in
    subst (λ (o : Option Json). IfOk c.find.result (λ m. o ≡ Some (value_view m.now))) (more_names c.args.path.now name rest (value_view c.args.value.now) (value_view c.in-Ok.member.now) cut c.in-Ok.ensures.found) c.find.ensures.found

pub returns-in-Ok-clause-missing : goal.returns-in-Ok-clause-missing
returns-in-Ok-clause-missing t c =
    let name = c.in-Some.name.now in
    let rest = c.in-Some.rest.now in
    let cut = cut_path c.args.path.now name rest (split_parts 46 c.args.path.now (Some (c.in-Some.name, c.in-Some.rest)) c.in-Some.ensures.cases (lit< tt)) in
    subst (λ (o : Option Json). IfErr c.find.result (λ lack. lack.wrong ≡ Missing → o ≡ None)) (more_names c.args.path.now name rest (value_view c.args.value.now) (value_view c.in-Ok.member.now) cut c.in-Ok.ensures.found) c.find.ensures.missing

pub returns-in-Err-clause-missing : goal.returns-in-Err-clause-missing
returns-in-Err-clause-missing t c =
    let name = c.in-Some.name.now in
    let rest = c.in-Some.rest.now in
    let cut = cut_path c.args.path.now name rest (split_parts 46 c.args.path.now (Some (c.in-Some.name, c.in-Some.rest)) c.in-Some.ensures.cases (lit< tt)) in
    λ w. ap (λ ns. value_at ns (value_view c.args.value.now)) cut ∙ ap (option_and_then (value_at (names rest))) (c.in-Err.ensures.missing w)

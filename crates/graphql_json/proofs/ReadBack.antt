-- What reads the text of a value finds the value again.
use Rattle.std.proofs.Common.{◌≡◌, ℕ, ◌≤◌, List, [], option_and_then, sym, ap, ◌∙◌, append-nil}
use Rattle.graphql_json.specs.nodes.Nodes.{ReadsBack}
use Rattle.json.specs.Json.{Json, value, if_last, max_depth}
use Rattle.json.specs.Lex.{tokens}
use Rattle.json.specs.Tree.{json_tokens, depth}
use Rattle.json.proofs.Printed.Trees.{value-json_tokens}

pub reads_back : (text : List ℕ) (json : Json) → tokens text ≡ json_tokens json → ReadsBack text json
reads_back text json e =
    let within = λ (limit : ℕ) (shallow : depth json ≤ limit). ap (value limit) (e ∙ sym (append-nil (json_tokens json))) ∙ value-json_tokens json limit [] shallow in
    record { in_tokens = e; in_value = within; in_document = λ shallow. ap (option_and_then (λ p. if_last p.0 p.1)) (within max_depth shallow) }

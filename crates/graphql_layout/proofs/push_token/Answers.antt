use Rattle.std.proofs.Common.{◌≡◌, ◌++◌, List, ℕ, Bool, cond, [], ◌∷◌, string_bytes, sym, ap, ◌∙◌, append-nil, arith}
use Rattle.std.proofs.lemmas.Str.{encode_ascii}
use Rattle.graphql_tokens.specs.tokens.Seen.{seen}
use Rattle.graphql_layout.proofs.Shortenings.{proper_block, short_written}
use Rattle.graphql_layout.proofs.push_token.Goals as goal
use Rattle.graphql_layout.proofs.push_token.Goals.{then-stops+in_ok-push, else-stops}

pub returns-clause-written : goal.returns-clause-written
returns-clause-written c =
    let b = (seen c.args.token.now).bare in
    let old = string_bytes c.args.out.now in
    let mid : string_bytes c.if-stops.out ≡ old ++ cond c.stops.result (32 ∷ []) [] = elim c.if-stops.branch [
      | then-stops+in_ok-push w ↦
          ap (λ o. string_bytes o) w.out-is ∙ w.in_ok-push.ensures.bytes ∙ ap (λ (x : List ℕ). old ++ x) (encode_ascii 32 (omega arith)) ∙ ap (λ (x : Bool). old ++ cond x (32 ∷ []) []) (sym w.if-stops.true)
      | else-stops w ↦
          ap (λ o. string_bytes o) w.out-is ∙ sym (append-nil old) ∙ ap (λ (x : Bool). old ++ cond x (32 ∷ []) []) (sym w.if-stops.false)
    ] in
    short_written c.args.ending b c.stops.result old (string_bytes c.if-stops.out) (string_bytes c.push_spelling.new.out) (proper_block b c.requires) c.stops.ensures mid c.in_ok-push_spelling.ensures

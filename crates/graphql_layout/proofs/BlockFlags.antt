-- What a loop over a value's characters finds, one character on.
use Rattle.std.proofs.Common.{◌≡◌, ℕ, Bool, true, false, cond, not, eqb, ◌&&◌, ◌||◌, List, ◌∷◌, sym, ap, ◌∙◌}
use Rattle.graphql_tokens.specs.tokens.BlockText.{is_blank_char}
use Rattle.graphql_layout.specs.texts.Blocks.{begins_in_text}
use Rattle.graphql_layout.specs.texts.Shortened.{is_text, has_margin}

pub blank_more : (c : ℕ) (rest : List ℕ) (b : Bool) → b ≡ is_blank_char c → b ≡ true → begins_in_text (c ∷ rest) ≡ begins_in_text rest
blank_more c rest b e f = ap (λ x. cond x (begins_in_text rest) (not (eqb c 10))) (sym e ∙ f)

pub text_here : (c : ℕ) (rest : List ℕ) (b : Bool) → b ≡ is_blank_char c → b ≡ false → begins_in_text (c ∷ rest) ≡ not (eqb c 10)
text_here c rest b e f = ap (λ x. cond x (begins_in_text rest) (not (eqb c 10))) (sym e ∙ f)

pub margin_here : (begins : Bool) (c : ℕ) (rest : List ℕ) (b : Bool) → begins ≡ true → b ≡ is_text c → b ≡ true → has_margin begins (c ∷ rest) ≡ true
margin_here begins c rest b s e f = ap (λ x. (x && is_text c) || has_margin (eqb c 10) rest) s ∙ ap (λ x. x || has_margin (eqb c 10) rest) (sym e ∙ f)

pub margin_inside : (begins : Bool) (c : ℕ) (rest : List ℕ) → begins ≡ false → has_margin begins (c ∷ rest) ≡ has_margin (eqb c 10) rest
margin_inside begins c rest s = ap (λ x. (x && is_text c) || has_margin (eqb c 10) rest) s

pub margin_blank : (begins : Bool) (c : ℕ) (rest : List ℕ) (b : Bool) → begins ≡ true → b ≡ is_text c → b ≡ false → has_margin begins (c ∷ rest) ≡ has_margin (eqb c 10) rest
margin_blank begins c rest b s e f = ap (λ x. (x && is_text c) || has_margin (eqb c 10) rest) s ∙ ap (λ x. x || has_margin (eqb c 10) rest) (sym e ∙ f)

use Rattle.std.proofs.Common.{◌≡◌, ◌≢◌, ◌==◌, not, [], ℕ, Bool, true, false, List, length, refl, sym, ap, ◌∙◌, arith}
use Rattle.std.proofs.lemmas.Bool.{eqb-true}
use Rattle.std.proofs.lemmas.List.{nil_from_length}
use Rattle.std.proofs.lemmas.Str.{chars-nil}
use Rattle.std.specs.Str.{chars, IsUtf8}
use Rattle.graphql_layout.specs.declared.line_ends.LineBreak.{LineBreak}
use Rattle.graphql_layout.specs.texts.Blocks.{feed, may_be_block, spelled, HasValue}
use Rattle.graphql_layout.proofs.BlockTexts.{value_kept, kept_value}
use Rattle.graphql_printer.proofs.schemas.is_in_block.Goals as goal

tells : (text : List ℕ) (told : Bool) → IsUtf8 text → text ≢ [] → (told ≡ true → (between : LineBreak) → HasValue (spelled between text) text) → ((between : LineBreak) → text ≢ [] → HasValue (spelled between text) text → told ≡ true)
    → told ≡ may_be_block (chars text)
tells text told utf8 some means only = go told (may_be_block (chars text)) refl refl
  where
    go : (a b : Bool) → told ≡ a → may_be_block (chars text) ≡ b → a ≡ b
    go true true e f = refl
    go false false e f = refl
    go true false e f = sym (kept_value text utf8 (feed 0) some (means e (feed 0))) ∙ f
    go false true e f = sym e ∙ only (feed 0) some (value_kept text utf8 f (feed 0))

is_some : (text : List ℕ) → false ≡ (length text == 0) → text ≢ []
is_some text h e = let same : (length text == 0) ≡ true = ap (λ (l : List ℕ). length l == 0) e in let no : false ≡ true = h ∙ same in cc

is_none : (text : List ℕ) → true ≡ (length text == 0) → may_be_block (chars text) ≡ false
is_none text h =
    let none : text ≡ [] = nil_from_length text (omega (arith, eqb-true _ _ (sym h))) in
    ap may_be_block (ap chars none ∙ chars-nil)

pub returns-then-not-is_empty : goal.returns-then-not-is_empty
returns-then-not-is_empty c = tells c.args.text.now c.may_be_block.result c.utf8.text (is_some c.args.text.now c.if-not-is_empty.ensures) c.may_be_block.ensures.means c.may_be_block.ensures.only

pub returns-else-not-is_empty : goal.returns-else-not-is_empty
returns-else-not-is_empty c = ap not c.if-not-is_empty.false ∙ sym (is_none c.args.text.now c.if-not-is_empty.ensures)

-- What is printed of words, and of other texts without escapes.
use Rattle.std.proofs.Common.{◌≡◌, ℕ, Bool, true, false, cond, List, [], ◌∷◌, ◌++◌, ◌==◌, codes, decimal, Option, Some, None, refl, ap, ◌∙◌, append_assoc, append-nil}
use Rattle.std.proofs.lemmas.Bool.{and_parts, or_parts, not-true, eqb-false, ltb-false}
use Rattle.graphql_parser.specs.types.Pos.{Pos}
use Rattle.graphql_json.specs.inner.Buffers.{opening_text, pos_text}
use Rattle.graphql_json.specs.inner.Written.{shown_tokens}
use Rattle.graphql_json.specs.inner.Words.{is_word}
use Rattle.json.specs.Print.{escape, escape_byte, token_text, print_from}
use Rattle.json.specs.Run.{is_stop}
use Rattle.json.specs.Token.{Token, begin_object, end_object, begin_array, end_array, key, string, boolean, number}
use Rattle.json.proofs.Printed.Strings.{escape_byte_plain}

pub escape_of_word : (word : List ℕ) → is_word word ≡ true → escape word ≡ word
escape_of_word [] e = refl
escape_of_word (x ∷ xs) e =
    let parts = and_parts _ _ e in
    let none = or_parts _ _ (not-true (is_stop x) parts.0) in
    let tests = or_parts (x == 34) _ none.0 in
    let rest = escape_of_word xs parts.1 in
    λ i. escape_byte_plain x (eqb-false x 34 tests.0) (eqb-false x 92 tests.1) (ltb-false x 32 none.1) i ++ rest i

-- a comma, where it is wanted
abbrev pub comma : Bool → List ℕ
comma b = cond b (44 ∷ []) []

pub print_open : (c : Bool) → print_from c (begin_object ∷ []) ≡ comma c ++ (123 ∷ [])
unfolding print_from
print_open true = refl
print_open false = refl

pub print_close : (c : Bool) → print_from c (end_object ∷ []) ≡ 125 ∷ []
unfolding print_from
print_close true = refl
print_close false = refl

pub print_close_list : (c : Bool) → print_from c (end_array ∷ []) ≡ 93 ∷ []
unfolding print_from
print_close_list true = refl
print_close_list false = refl

key_text : (k : List ℕ) (rest : List ℕ) → escape k ≡ k → token_text (key k) ++ rest ≡ 34 ∷ (k ++ 34 ∷ 58 ∷ rest)
key_text k rest e = append_assoc (34 ∷ (escape k ++ 34 ∷ [])) (58 ∷ []) rest ∙ ap (λ l. 34 ∷ l) (append_assoc (escape k) (34 ∷ []) (58 ∷ rest) ∙ ap (λ l. l ++ 34 ∷ 58 ∷ rest) e)

pub print_key : (c : Bool) (k : List ℕ) → escape k ≡ k → print_from c (key k ∷ []) ≡ comma c ++ (34 ∷ (k ++ 34 ∷ 58 ∷ []))
unfolding print_from
print_key true k e = ap (λ l. 44 ∷ l) (key_text k [] e)
print_key false k e = key_text k [] e

pub print_list : (c : Bool) (k : List ℕ) → escape k ≡ k → print_from c (key k ∷ begin_array ∷ []) ≡ comma c ++ (34 ∷ (k ++ 34 ∷ 58 ∷ 91 ∷ []))
unfolding print_from
print_list true k e = ap (λ l. 44 ∷ l) (key_text k (91 ∷ []) e)
print_list false k e = key_text k (91 ∷ []) e

string_text : (s : List ℕ) → escape s ≡ s → token_text (string s) ++ [] ≡ 34 ∷ (s ++ 34 ∷ [])
string_text s e = append-nil _ ∙ ap (λ l. 34 ∷ (l ++ 34 ∷ [])) e

pub print_string : (c : Bool) (s : List ℕ) → escape s ≡ s → print_from c (string s ∷ []) ≡ comma c ++ (34 ∷ (s ++ 34 ∷ []))
unfolding print_from
print_string true s e = ap (λ l. 44 ∷ l) (string_text s e)
print_string false s e = string_text s e

pub print_escaped : (c : Bool) (s : List ℕ) → print_from c (string s ∷ []) ≡ comma c ++ (34 ∷ (escape s ++ 34 ∷ []))
unfolding print_from
print_escaped true s = ap (λ l. 44 ∷ l) (append-nil _)
print_escaped false s = append-nil _

pub print_number : (c : Bool) (s : List ℕ) → print_from c (number s ∷ []) ≡ comma c ++ (s ++ [])
unfolding print_from
print_number true s = refl
print_number false s = refl

pub print_boolean : (c : Bool) (b : Bool) → print_from c (boolean b ∷ []) ≡ comma c ++ (token_text (boolean b) ++ [])
unfolding print_from
print_boolean true true = refl
print_boolean true false = refl
print_boolean false true = refl
print_boolean false false = refl

pub print_empty : (c : Bool) (k : List ℕ) → escape k ≡ k → print_from c (key k ∷ begin_array ∷ end_array ∷ []) ≡ comma c ++ (34 ∷ (k ++ 34 ∷ 58 ∷ 91 ∷ 93 ∷ []))
unfolding print_from
print_empty true k e = ap (λ l. 44 ∷ l) (key_text k (91 ∷ 93 ∷ []) e)
print_empty false k e = key_text k (91 ∷ 93 ∷ []) e

-- a quoted text, and what follows it
string_then : (s rest : List ℕ) → escape s ≡ s → token_text (string s) ++ rest ≡ 34 ∷ (s ++ (34 ∷ rest))
string_then s rest e = ap (λ l. 34 ∷ l) (append_assoc (escape s) (34 ∷ []) rest ∙ ap (λ l. l ++ (34 ∷ rest)) e)

pub print_last_text : (c : Bool) (s : List ℕ) → escape s ≡ s
    → print_from c (key (codes "value") ∷ string s ∷ end_object ∷ []) ≡ comma c ++ (codes "\"value\":\"" ++ (s ++ (34 ∷ 125 ∷ [])))
unfolding print_from escape_byte
print_last_text true s e = ap (λ l. codes ",\"value\":" ++ l) (string_then s (125 ∷ []) e)
print_last_text false s e = ap (λ l. codes "\"value\":" ++ l) (string_then s (125 ∷ []) e)

-- what opens a node
kind_then : (c : Bool) (kind : List ℕ) (rest : List Token) → escape kind ≡ kind
    → print_from c (begin_object ∷ key (codes "kind") ∷ string kind ∷ rest) ≡ comma c ++ (codes "{\"kind\":\"" ++ (kind ++ (34 ∷ print_from true rest)))
unfolding print_from escape_byte
kind_then true kind rest e = ap (λ l. codes ",{\"kind\":" ++ l) (string_then kind (print_from true rest) e)
kind_then false kind rest e = ap (λ l. codes "{\"kind\":" ++ l) (string_then kind (print_from true rest) e)

print_shown : (pos : Option Pos) → print_from true (shown_tokens pos) ≡ pos_text pos
unfolding print_from escape_byte
print_shown None = refl
print_shown (Some pos) = ap (λ l. codes ",\"line\":" ++ (decimal pos.line ++ (codes ",\"column\":" ++ l))) (append-nil (decimal pos.column))

pub print_opening : (c : Bool) (kind : List ℕ) (pos : Option Pos) → escape kind ≡ kind
    → print_from c (begin_object ∷ key (codes "kind") ∷ string kind ∷ shown_tokens pos) ≡ comma c ++ opening_text kind pos
print_opening c kind pos e = kind_then c kind (shown_tokens pos) e ∙ ap (λ l. comma c ++ (codes "{\"kind\":\"" ++ (kind ++ (34 ∷ l)))) (print_shown pos)

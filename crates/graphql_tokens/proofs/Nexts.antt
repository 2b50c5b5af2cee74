-- `next` finds the token at the front of a text, and there is no other.
use Rattle.std.proofs.Common.{◌≡◌, ◌≢◌, ℕ, ◌≤◌, ◌<◌, Bool, true, false, cond, ◌&&◌, eqb, ◌⊎◌, List, [], ◌∷◌, ◌++◌, Option, Some, None, length, refl, sym, ap, ◌∙◌, append_assoc, arith, inl, inr, subst, length-append}
use Rattle.std.proofs.lemmas.Bool.Decides.{nat_tests}
use Rattle.std.specs.List.{AllByRecursion, concat}
use Rattle.graphql_tokens.specs.tokens.Edition.{Edition, Former, Current}
use Rattle.graphql_tokens.specs.tokens.Classes.{is_ignored, is_punct, is_name_start, is_name_char}
use Rattle.graphql_tokens.specs.tokens.Spelling.{Begins, IsSpelling, IsPunct, IsName, MayFollow}
use Rattle.graphql_tokens.specs.tokens.Cuts.{is_last}
use Rattle.graphql_tokens.specs.tokens.Numbers.{IsNumber}
use Rattle.graphql_tokens.specs.tokens.Strings.{IsContent, IsString}
use Rattle.graphql_tokens.specs.tokens.Blocks.{IsBlock}
use Rattle.graphql_tokens.specs.inner.Numerals.{then_past}
use Rattle.graphql_tokens.specs.inner.Numbers.{past_number}
use Rattle.graphql_tokens.specs.inner.Quoted.{past_string, past_block}
use Rattle.graphql_tokens.specs.inner.ByteClasses.{begins_number, past_class}
use Rattle.graphql_tokens.specs.inner.Reading.{next, past_char, past_dots, found, triple, double, quoted}
use Rattle.graphql_tokens.specs.declared.lexer.TokenKind.{TokenKind}
use Rattle.graphql_tokens.specs.declared.lexer.TokenKind.TheVariants.{Punct, Name, Number, String, Block, Fault, End}
use Rattle.graphql_tokens.proofs.Options.{some_same}
use Rattle.graphql_tokens.proofs.Skips.{IsRest}
use Rattle.graphql_tokens.proofs.Numbers.{Allows, number_is, number_only, number_head, number_alone}
use Rattle.graphql_tokens.proofs.StringTokens.{string_is, string_only, content_head}
use Rattle.graphql_tokens.proofs.BlockTokens.{three_quotes, block_is, block_only}
use Rattle.graphql_tokens.proofs.Contents.{former_means}

-- ---- what is found

pub record Found (kind : TokenKind) (text rest : List ℕ) : Type 0 where
  pub word : List ℕ
  pub whole : text ≡ word ++ rest
  pub begins : Begins Current kind word rest

-- a token, the end, or no token
abbrev pub IsNext : List ℕ → TokenKind → List ℕ → Type 0
IsNext text kind rest =
    Found kind text rest
    ⊎ (((text ≡ []) × (kind ≡ End) × (rest ≡ []))
    ⊎ ((text ≢ []) × (kind ≡ Fault) × (rest ≡ text)))

-- from what a reader of the kind gives
found_is : (kind : TokenKind) (c : ℕ) (cs : List ℕ) (read : Option (List ℕ)) → ((rest : List ℕ) → read ≡ Some rest → Found kind (c ∷ cs) rest)
    → (let t = found kind (c ∷ cs) read in IsNext (c ∷ cs) t.0 t.1)
found_is kind c cs None h = inr (inr ((λ no. cc), refl, refl))
found_is kind c cs (Some rest) h = inl (h rest refl)

then_some : (r : Option (List ℕ)) (f : List ℕ → Option (List ℕ)) (rest : List ℕ) → then_past r f ≡ Some rest → (mid : List ℕ) × (r ≡ Some mid) × (f mid ≡ Some rest)
then_some None f rest e = absurd cc
then_some (Some mid) f rest e = (mid, refl, e)

char_some : (d : ℕ) (text rest : List ℕ) → past_char d text ≡ Some rest → text ≡ d ∷ rest
char_some d [] rest e = absurd cc
char_some d (c ∷ cs) rest e = by (eqb c d) refl e
  where
    by : (b : Bool) → eqb c d ≡ b → cond b (Some cs) None ≡ Some rest → (c ∷ cs) ≡ d ∷ rest
    by true t e = let is : c ≡ d = grind (arith, nat_tests) in let more = some_same cs rest e in cc
    by false t e = absurd cc

-- ---- punctuators and names

punct_follows : (w rest : List ℕ) → MayFollow Punct w rest
punct_follows w [] = tt
punct_follows w (c ∷ cs) = refl

punct_found : (c : ℕ) (cs : List ℕ) → is_punct c ≡ true → Found Punct (c ∷ cs) cs
punct_found c cs p = record { word = c ∷ []; whole = refl; begins = record { spelled = inl (c, refl, p); follows = punct_follows (c ∷ []) cs } }

dots_found : (c : ℕ) (cs rest : List ℕ) → c ≡ 46 → past_dots cs ≡ Some rest → Found Punct (c ∷ cs) rest
dots_found c cs rest is e =
    let s = then_some (past_char 46 cs) (past_char 46) rest e in
    let one = char_some 46 cs s.0 s.1 in
    let two = char_some 46 s.0 rest s.2 in
    record { word = 46 ∷ 46 ∷ 46 ∷ []; whole = cc; begins = record { spelled = inr refl; follows = punct_follows (46 ∷ 46 ∷ 46 ∷ []) rest } }

-- name characters, and what ends them
record Word (text rest : List ℕ) : Type 0 where
  word : List ℕ
  whole : text ≡ word ++ rest
  chars : AllByRecursion (λ d. is_name_char d ≡ true) word
  follows : MayFollow Name [] rest

word_is : (text : List ℕ) → Word text (past_class is_name_char text)
word_is [] = record { word = []; whole = refl; chars = tt; follows = tt }
word_is (c ∷ cs) = by (word_is cs) (is_name_char c) refl
  where
    by : Word cs (past_class is_name_char cs) → (b : Bool) → is_name_char c ≡ b → Word (c ∷ cs) (cond b (past_class is_name_char cs) (c ∷ cs))
    by r true e = record { word = c ∷ r.word; whole = ap (λ x. c ∷ x) r.whole; chars = (e, r.chars); follows = r.follows }
    by r false e = record { word = []; whole = refl; chars = tt; follows = e }

follows_name : (w rest : List ℕ) → MayFollow Name [] rest → MayFollow Name w rest
follows_name w [] h = tt
follows_name w (c ∷ cs) h = h

name_found : (c : ℕ) (cs : List ℕ) → is_name_start c ≡ true → Found Name (c ∷ cs) (past_class is_name_char cs)
name_found c cs s =
    let r = word_is cs in
    record { word = c ∷ r.word; whole = ap (λ x. c ∷ x) r.whole; begins = record { spelled = (s, r.chars); follows = follows_name (c ∷ r.word) (past_class is_name_char cs) r.follows } }

-- ---- numbers

number_follows : (w rest : List ℕ) → Allows rest → MayFollow Number w rest
number_follows w [] a = tt
number_follows w (c ∷ cs) a = a

number_found : (text rest : List ℕ) → past_number text ≡ Some rest → Found Number text rest
number_found text rest e =
    let n = number_is text rest e in
    record { word = n.word; whole = n.whole; begins = record { spelled = n.number; follows = number_follows n.word rest n.allows } }

-- ---- strings and block strings

string_follows : (w rest : List ℕ) → past_char 34 rest ≡ None → MayFollow String w rest
string_follows w [] e = tt
string_follows w (c ∷ cs) e = by (eqb c 34) refl e
  where
    by : (b : Bool) → eqb c 34 ≡ b → cond b (Some cs) None ≡ None → (eqb (length w) 2 && eqb c 34) ≡ false
    by true g f = absurd (cc)
    by false g f = let x = g in grind (arith, nat_tests)

-- a string of some content may be followed by anything
long_follows : (w rest : List ℕ) → 2 < length w → MayFollow String w rest
long_follows w [] l = tt
long_follows w (c ∷ cs) l = let n : eqb (length w) 2 ≡ false = grind (arith, nat_tests) in ap (λ b. b && eqb c 34) n

block_follows : (w rest : List ℕ) → MayFollow Block w rest
block_follows w [] = tt
block_follows w (c ∷ cs) = refl

string_found : (c : ℕ) (cs rest : List ℕ) → c ≡ 34 → past_char 34 cs ≡ None → past_string cs ≡ Some rest → Found String (c ∷ cs) rest
string_found c cs rest is other e =
    let s = string_is cs rest e in
    let word = 34 ∷ (s.content ++ 34 ∷ []) in
    let split : (c ∷ cs) ≡ word ++ rest = ap (λ d. d ∷ cs) is ∙ ap (λ x. 34 ∷ x) (s.whole ∙ sym (append_assoc s.content (34 ∷ []) rest)) in
    record { word = word; whole = split; begins = record { spelled = (s.content, refl, s.means); follows = by s.content refl } }
  where
    by : (content : List ℕ) → (string_is cs rest e).content ≡ content → MayFollow String (34 ∷ ((string_is cs rest e).content ++ 34 ∷ [])) rest
    by [] f =
        let starts : cs ≡ 34 ∷ rest = (string_is cs rest e).whole ∙ ap (λ x. x ++ (34 ∷ rest)) f in
        let some : past_char 34 cs ≡ Some rest = ap (past_char 34) starts in
        absurd (cc)
    by (d ∷ ds) f = long_follows (34 ∷ ((string_is cs rest e).content ++ 34 ∷ [])) rest (omega (arith, length-append (string_is cs rest e).content (34 ∷ []), ap length f))

empty_content : IsContent Current []
empty_content = ([], ([], refl, tt))

empty_found : (c : ℕ) (cs one : List ℕ) → c ≡ 34 → past_char 34 cs ≡ Some one → past_char 34 one ≡ None → Found String (c ∷ cs) one
empty_found c cs one is e other =
    let split : (c ∷ cs) ≡ 34 ∷ 34 ∷ one = ap (λ d. d ∷ cs) is ∙ ap (λ x. 34 ∷ x) (char_some 34 cs one e) in
    record { word = 34 ∷ 34 ∷ []; whole = split; begins = record { spelled = ([], refl, empty_content); follows = string_follows (34 ∷ 34 ∷ []) one other } }

block_found : (c : ℕ) (cs one two rest : List ℕ) → c ≡ 34 → past_char 34 cs ≡ Some one → past_char 34 one ≡ Some two → past_block two ≡ Some rest → Found Block (c ∷ cs) rest
block_found c cs one two rest is e f g =
    let b = block_is two rest g in
    let word = three_quotes ++ (concat b.units ++ three_quotes) in
    let split : (c ∷ cs) ≡ word ++ rest =
    ap (λ d. d ∷ cs) is ∙ ap (λ x. 34 ∷ x) (char_some 34 cs one e ∙ ap (λ x. 34 ∷ x) (char_some 34 one two f ∙ ap (λ x. 34 ∷ x) b.whole)) in
    record { word = word; whole = split; begins = record { spelled = (b.units, refl, b.are); follows = block_follows word rest } }

quoted_is : (c : ℕ) (cs : List ℕ) → c ≡ 34 → IsNext (c ∷ cs) (quoted cs).0 (quoted cs).1
quoted_is c cs is = by (past_char 34 cs) refl
  where
    same : (text : List ℕ) → (c ∷ text) ≡ 34 ∷ text
    same text = ap (λ d. d ∷ text) is

    third : (one : List ℕ) → past_char 34 cs ≡ Some one → (p : Option (List ℕ)) → past_char 34 one ≡ p → (let t = triple one p in IsNext (c ∷ cs) t.0 t.1)
    third one e None f = inl (empty_found c cs one is e f)
    third one e (Some two) f = fourth (past_block two) refl
      where
        fourth : (r : Option (List ℕ)) → past_block two ≡ r → (let t = found Block (34 ∷ 34 ∷ 34 ∷ two) r in IsNext (c ∷ cs) t.0 t.1)
        fourth None g = inr (inr ((λ no. cc), refl, sym (same cs ∙ ap (λ x. 34 ∷ x) (char_some 34 cs one e ∙ ap (λ x. 34 ∷ x) (char_some 34 one two f)))))
        fourth (Some rest) g = inl (block_found c cs one two rest is e f g)

    by : (p : Option (List ℕ)) → past_char 34 cs ≡ p → (let t = double cs p in IsNext (c ∷ cs) t.0 t.1)
    by None e = second (past_string cs) refl
      where
        second : (r : Option (List ℕ)) → past_string cs ≡ r → (let t = found String (34 ∷ cs) r in IsNext (c ∷ cs) t.0 t.1)
        second None g = inr (inr ((λ no. cc), refl, sym (same cs)))
        second (Some rest) g = inl (string_found c cs rest is e g)
    by (Some one) e = third one e (past_char 34 one) refl

-- ---- every text

pub next_is : (text : List ℕ) → IsNext text (next text).0 (next text).1
unfolding next
next_is [] = inr (inl (refl, refl, refl))
next_is (c ∷ cs) = by (is_punct c) refl (is_name_start c) refl (eqb c 34) refl (begins_number c) (eqb c 46) refl
  where
    by : (p : Bool) → is_punct c ≡ p → (n : Bool) → is_name_start c ≡ n → (q : Bool) → eqb c 34 ≡ q → (m : Bool) → (d : Bool) → eqb c 46 ≡ d
        → (let t : TokenKind × List ℕ = cond p (Punct, cs) (cond n (Name, past_class is_name_char cs) (cond q (quoted cs) (cond m (found Number (c ∷ cs) (past_number (c ∷ cs)))
        (cond d (found Punct (c ∷ cs) (past_dots cs)) (Fault, c ∷ cs))))) in IsNext (c ∷ cs) t.0 t.1)
    by true e n f q h m d g = inl (punct_found c cs e)
    by false e true f q h m d g = inl (name_found c cs f)
    by false e false f true h m d g = quoted_is c cs (grind (arith, nat_tests))
    by false e false f false h true d g = found_is Number c cs _ (λ rest k. number_found (c ∷ cs) rest k)
    by false e false f false h false true g = found_is Punct c cs _ (λ rest k. dots_found c cs rest (grind (arith, nat_tests)) k)
    by false e false f false h false false g = inr (inr ((λ no. cc), refl, refl))

-- ---- there is no other

word_only : (w rest : List ℕ) → AllByRecursion (λ d. is_name_char d ≡ true) w → MayFollow Name [] rest → past_class is_name_char (w ++ rest) ≡ rest
word_only [] [] h f = refl
word_only [] (c ∷ cs) h f = ap (λ b. cond b (past_class is_name_char cs) (c ∷ cs)) f
word_only (c ∷ cs) rest h f = ap (λ b. cond b (past_class is_name_char (cs ++ rest)) (c ∷ (cs ++ rest))) h.0 ∙ word_only cs rest h.1 f

name_follows : (w rest : List ℕ) → MayFollow Name w rest → MayFollow Name [] rest
name_follows w [] h = tt
name_follows w (c ∷ cs) h = h

-- a name's first character is in no other class
name_alone : (c : ℕ) → is_name_start c ≡ true → (is_punct c ≡ false) × (is_ignored c ≡ false) × (c ≢ 35)
name_alone c h = (grind (arith, nat_tests), grind (arith, nat_tests), λ is. grind (arith, nat_tests))

punct_alone : (c : ℕ) → is_punct c ≡ true → (is_ignored c ≡ false) × (c ≢ 35)
punct_alone c h = (grind (arith, nat_tests), λ is. grind (arith, nat_tests))

next_name : (w rest : List ℕ) → IsName w → MayFollow Name [] rest → next (w ++ rest) ≡ (Name, rest)
unfolding next
next_name [] rest h f = absurd h
next_name (c ∷ cs) rest h f =
    let no = name_alone c h.0 in
    rw (no.0, h.0, word_only cs rest h.1 f) refl

pub at_number : (c : ℕ) (cs : List ℕ) → begins_number c ≡ true → next (c ∷ cs) ≡ found Number (c ∷ cs) (past_number (c ∷ cs))
unfolding next
at_number c cs h = let no = number_alone c h in rw (no.0, no.1, no.2, h) refl

next_punct : (w rest : List ℕ) → IsPunct w → next (w ++ rest) ≡ (Punct, rest)
unfolding next
next_punct w rest (inl p) = rw (p.1, p.2) refl
next_punct w rest (inr e) = rw e refl

allows_of : (w rest : List ℕ) → MayFollow Number w rest → Allows rest
allows_of w [] h = tt
allows_of w (c ∷ cs) h = h

next_number : (w rest : List ℕ) → IsNumber w → Allows rest → next (w ++ rest) ≡ (Number, rest)
next_number w rest n a =
    let h = number_head w n in
    let whole : w ++ rest ≡ h.first ∷ (h.more ++ rest) = ap (λ x. x ++ rest) h.is in
    let read : past_number (h.first ∷ (h.more ++ rest)) ≡ Some rest = ap past_number (sym whole) ∙ number_only w rest n a in
    ap next whole ∙ at_number h.first (h.more ++ rest) h.begins ∙ ap (found Number (h.first ∷ (h.more ++ rest))) read

at_quote : (cs : List ℕ) → next (34 ∷ cs) ≡ quoted cs
unfolding next
at_quote cs = refl

-- after the quote of a string that isn't empty
no_second : (content rest : List ℕ) → IsContent Current content → content ≢ [] → past_char 34 (content ++ (34 ∷ rest)) ≡ None
no_second [] rest m some = absurd (some refl)
no_second (c ∷ cs) rest m some = let h = content_head c cs m in ap (λ b. cond b (Some (cs ++ (34 ∷ rest))) None) h

no_third : (rest : List ℕ) → MayFollow String (34 ∷ 34 ∷ []) rest → past_char 34 rest ≡ None
no_third [] h = refl
no_third (c ∷ cs) h = let n : eqb c 34 ≡ false = h in ap (λ b. cond b (Some cs) None) n

next_string : (content rest : List ℕ) → IsContent Current content → (content ≡ [] → past_char 34 rest ≡ None) → next (34 ∷ (content ++ (34 ∷ rest))) ≡ (String, rest)
next_string [] rest m empty = at_quote (34 ∷ rest) ∙ ap (triple rest) (empty refl)
next_string (c ∷ cs) rest m empty =
    let text = (c ∷ cs) ++ (34 ∷ rest) in
    at_quote text ∙ ap (double text) (no_second (c ∷ cs) rest m (λ e. cc)) ∙ ap (found String (34 ∷ text)) (string_only (c ∷ cs) rest m)

next_string_word : (w rest : List ℕ) → IsString Current w → MayFollow String w rest → next (w ++ rest) ≡ (String, rest)
next_string_word w rest s f =
    let content = s.0 in
    let whole : w ++ rest ≡ 34 ∷ (content ++ (34 ∷ rest)) = ap (λ x. x ++ rest) s.1 ∙ ap (λ x. 34 ∷ x) (append_assoc content (34 ∷ []) rest) in
    ap next whole ∙ next_string content rest s.2 (λ e. no_third rest (subst (λ (v : List ℕ). MayFollow String v rest) (s.1 ∙ ap (λ x. 34 ∷ (x ++ 34 ∷ [])) e) f))

next_block : (w rest : List ℕ) → IsBlock w → next (w ++ rest) ≡ (Block, rest)
next_block w rest b =
    let raw = (concat b.0 ++ three_quotes) ++ rest in
    let whole : w ++ rest ≡ 34 ∷ 34 ∷ 34 ∷ raw = ap (λ x. x ++ rest) b.1 in
    ap next whole ∙ at_quote (34 ∷ 34 ∷ raw) ∙ ap (found Block (34 ∷ 34 ∷ 34 ∷ raw)) (block_only b.0 rest b.2)

pub next_only : (kind : TokenKind) (w rest : List ℕ) → Begins Current kind w rest → next (w ++ rest) ≡ (kind, rest)
next_only Punct w rest b = next_punct w rest b.spelled
next_only Name w rest b = next_name w rest b.spelled (name_follows w rest b.follows)
next_only Number w rest b = next_number w rest b.spelled (allows_of w rest b.follows)
next_only String w rest b = next_string_word w rest b.spelled b.follows
next_only Block w rest b = next_block w rest b.spelled
next_only Fault w rest b = absurd b.spelled
next_only End w rest b = absurd b.spelled

-- ---- a token begins with what is not ignored

name_rest : (w rest : List ℕ) → IsName w → IsRest (w ++ rest)
name_rest [] rest h = absurd h
name_rest (c ∷ cs) rest h = let no = name_alone c h.0 in (no.1, no.2)

punct_rest : (w rest : List ℕ) → IsPunct w → IsRest (w ++ rest)
punct_rest w rest (inl p) = rw p.1 (punct_alone p.0 p.2)
punct_rest w rest (inr e) = rw e (refl, λ no. omega arith)

pub begins_rest : (edition : Edition) (kind : TokenKind) (w rest : List ℕ) → Begins edition kind w rest → IsRest (w ++ rest)
begins_rest edition Punct w rest b = punct_rest w rest b.spelled
begins_rest edition Name w rest b = name_rest w rest b.spelled
begins_rest edition Number w rest b =
    let h = number_head w b.spelled in
    let no = number_alone h.first h.begins in
    rw h.is (no.3, no.4)
begins_rest edition String w rest b = rw b.spelled.1 (refl, λ e. omega arith)
begins_rest edition Block w rest b = rw b.spelled.1 (refl, λ e. omega arith)
begins_rest edition Fault w rest b = absurd b.spelled
begins_rest edition End w rest b = absurd b.spelled

-- a token is not the list's last
pub begins_goes_on : (edition : Edition) (kind : TokenKind) (w rest : List ℕ) → Begins edition kind w rest → is_last kind ≡ false
begins_goes_on edition Fault w rest b = absurd b.spelled
begins_goes_on edition End w rest b = absurd b.spelled
begins_goes_on edition Punct w rest b = refl
begins_goes_on edition Name w rest b = refl
begins_goes_on edition Number w rest b = refl
begins_goes_on edition String w rest b = refl
begins_goes_on edition Block w rest b = refl

-- nor is it empty
pub begins_some : (edition : Edition) (kind : TokenKind) (w rest : List ℕ) → Begins edition kind w rest → 1 ≤ length w
begins_some edition kind (c ∷ cs) rest b = omega arith
begins_some edition kind [] rest b = absurd (by kind b)
  where
    by : (k : TokenKind) → Begins edition k [] rest → ⊥
    by Punct b = no_punct b.spelled
      where
        no_punct : IsPunct [] → ⊥
        no_punct (inl p) = cc p.1
        no_punct (inr e) = cc
    by Name b = b.spelled
    by Number b = let h = number_head [] b.spelled in cc h.is
    by String b = cc b.spelled.1
    by Block b = cc b.spelled.1
    by Fault b = b.spelled
    by End b = b.spelled

-- ---- editions

-- what the former edition has, the later one has too
pub begins_later : (kind : TokenKind) (w rest : List ℕ) → Begins Former kind w rest → Begins Current kind w rest
begins_later kind w rest b = record { spelled = by kind b.spelled; follows = b.follows }
  where
    by : (k : TokenKind) → IsSpelling Former k w → IsSpelling Current k w
    by Punct s = s
    by Name s = s
    by Number s = s
    by String s = (s.0, s.1, (s.2.0, former_means s.0 s.2.0 s.2.1))
    by Block s = s
    by Fault s = s
    by End s = s

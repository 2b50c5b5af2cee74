-- The open sets of the code lie in one list, the innermost last.
use Rattle.std.proofs.Common.{◌≡◌, ℕ, zero, suc, ◌<◌, ◌≤◌, ◌+◌, ◌-◌, nat_lt, Option, Some, None, List, [], ◌∷◌, ◌++◌, length, take, drop, reverse, refl, sym, ap, ◌∙◌, Bool, true, false, arith}
use Rattle.std.proofs.lemmas.Bool.{le-ltb, lt-ltb}
use Rattle.std.proofs.lemmas.List.{take_all, drop_all, take-append-le, drop-append-le, length-append, reverse-append}
use Rattle.graphql_tokens.specs.declared.pos.Pos.{Pos}
use Rattle.graphql_tokens.specs.declared.pos.Positioned.{Positioned}
use Rattle.graphql_tokens.specs.tokens.Token.{Token}
use Rattle.graphql_trees.specs.trees.Request.{Selection}
use Rattle.graphql_reading.specs.declared.parser.Refusal.{Refusal}
use Rattle.graphql_requests.specs.declared.selections.OpenSet.{OpenSet}
use Rattle.graphql_reading.specs.grammar.Fronts.{Verdict}
use Rattle.graphql_requests.specs.grammar.Selections.{Set}
use Rattle.graphql_reading.specs.grammar.Tests.{punct}
use Rattle.graphql_reading.specs.reading.Ahead.{Ahead, Stays, tokens}
use Rattle.graphql_reading.specs.reading.Given.{Refuses, GoesOn}
use Rattle.graphql_requests.specs.reading.SelectionSteps.{Heading, Opened, closed, more, filled_in, fill_last, onto, head_at, may_nest}
use Rattle.graphql_requests.specs.reading.OpenSets.{part}
use Rattle.graphql_reading.specs.reading.Outcome.{Outcome, Read, Refused, ◌>>=◌, one_at}
use Rattle.graphql_requests.specs.reading.Selections.{selection_set_at}
use Rattle.graphql_requests.proofs.OpenSets as sets

abbrev Trees : Type 0
Trees = List (Positioned Selection)

-- the sets around one, the innermost first, and how many more may be opened
pub record Nest : Type 0 where
  pub outer : List OpenSet
  pub left : ℕ

-- where so many may nest
abbrev pub nest : ℕ → List OpenSet → Nest
nest limit outer = record { outer = reverse outer; left = limit - length outer }

may-is : (n limit left : ℕ) → left ≡ limit - n → nat_lt n limit ≡ may_nest left
may-is n limit zero e = le-ltb n limit (omega (arith, e))
may-is n limit (suc left) e = lt-ltb n limit (omega (arith, e))

pub may-enter : {n most limit : ℕ} (outer : List OpenSet) → n ≡ length outer → most ≡ limit → nat_lt n most ≡ may_nest (nest limit outer).left
may-enter {n} {most} {limit} outer size is = rw (size, is) (may-is (length outer) limit (limit - length outer) refl)

some-left : (n : ℕ) → may_nest n ≡ true → 0 < n
some-left zero e = absurd cc
some-left (suc n) e = omega arith

-- with one more around
pub entered : {limit : ℕ} (outer inner : List OpenSet) (own : OpenSet) → may_nest (nest limit outer).left ≡ true → inner ≡ outer ++ own ∷ [] → ((nest limit inner).outer ≡ own ∷ (nest limit outer).outer) × (suc (nest limit inner).left ≡ (nest limit outer).left) × (length inner ≤ limit)
entered {limit} outer inner own may e =
    let more : length inner ≡ length outer + 1 = ap length e ∙ length-append outer (own ∷ []) in
    let some = some-left (limit - length outer) may in
    (ap reverse e ∙ reverse-append outer (own ∷ []), omega (arith, more, some), omega (arith, more, some))

-- and with one less
pub left : {limit : ℕ} (inner outer : List OpenSet) (own : OpenSet) → length inner ≤ limit → inner ≡ outer ++ own ∷ [] → (((nest limit inner).outer ≡ own ∷ (nest limit outer).outer) × ((nest limit outer).left ≡ suc (nest limit inner).left)) × (length outer ≤ limit)
left {limit} inner outer own within e =
    let more : length inner ≡ length outer + 1 = ap length e ∙ length-append outer (own ∷ []) in
    ((ap reverse e ∙ reverse-append outer (own ∷ []), omega (arith, more, within)), omega (arith, more, within))

pub none-around : (outer : List OpenSet) → (0 < length outer → false ≡ true) → reverse outer ≡ []
none-around [] h = refl
none-around (x ∷ xs) h = absurd (let some = h (omega arith) in cc)

-- ---- lists whose last selection gets its set

length-fill_last : (xs : Trees) (set : Set) → length (fill_last xs set) ≡ length xs
length-fill_last [] set = refl
length-fill_last (x ∷ []) set = refl
length-fill_last (x ∷ y ∷ ys) set = ap suc (length-fill_last (y ∷ ys) set)

take-fill_last : (n : ℕ) (xs : Trees) (set : Set) → n < length xs → take n (fill_last xs set) ≡ take n xs
take-fill_last zero xs set h = refl
take-fill_last (suc n) [] set h = refl
take-fill_last (suc n) (x ∷ []) set h = absurd (omega (arith, h))
take-fill_last (suc n) (x ∷ y ∷ ys) set h = ap (λ (l : Trees). x ∷ l) (take-fill_last n (y ∷ ys) set (omega (arith, h)))

drop-fill_last : (n : ℕ) (xs : Trees) (set : Set) → n < length xs → drop n (fill_last xs set) ≡ fill_last (drop n xs) set
drop-fill_last zero xs set h = refl
drop-fill_last (suc n) [] set h = refl
drop-fill_last (suc n) (x ∷ []) set h = absurd (omega (arith, h))
drop-fill_last (suc n) (x ∷ y ∷ ys) set h = drop-fill_last n (y ∷ ys) set (omega (arith, h))

-- ---- a selection that is put after others

abbrev put : Trees → Heading → Trees × Option Pos
put xs x = (xs ++ x.0 ∷ [], x.1)

abbrev put-onto : Trees → Heading → List Token → Outcome (Trees × Option Pos)
put-onto xs x rest = Read (put xs x) rest

record Pushed (xs ys : Trees) (place : Option Pos) (head : Outcome Heading) (rest : List Token) : Type 0 where
  pub selection : Positioned Selection
  pub read : head ≡ Read (selection, place) rest
  pub made : ys ≡ xs ++ selection ∷ []

pushed : (xs ys : Trees) (place : Option Pos) (head : Outcome Heading) (rest : List Token) → (head >>= put-onto xs) ≡ Read (ys, place) rest → Pushed xs ys place head rest
pushed xs ys place (Read (x, at) left) rest e =
    let same : put xs (x, at) ≡ (ys, place) = cc in
    let there : at ≡ place = ap (λ (p : Trees × Option Pos). p.1) same in
    record { selection = x; read = cc; made = sym (ap (λ (p : Trees × Option Pos). p.0) same) }
pushed xs ys place (Refused v left) rest e = absurd (cc)

pushed-not : (xs : Trees) (head : Outcome Heading) (rest : List Token) (v : Verdict) → (head >>= put-onto xs) ≡ Refused v rest → head ≡ Refused v rest
pushed-not xs (Read x left) rest v e = absurd (cc)
pushed-not xs (Refused w left) rest v e = cc

-- ---- the parts of the list

-- the open sets whose selections these are, the innermost first
abbrev pub parts : List OpenSet → Trees → List Opened
parts [] xs = []
parts (s ∷ ss) xs = part s xs ∷ parts ss (take s.first xs)

-- each has a selection; the last waits for the next set
abbrev pub Waits : List OpenSet → Trees → Type 0
Waits [] xs = Unit {0}
Waits (s ∷ ss) xs = (s.first < length xs) × Waits ss (take s.first xs)

-- one more selection is the innermost set's, and changes no other part
part-push : (s : OpenSet) (xs : Trees) (x : Positioned Selection) → s.first ≤ length xs → part s (xs ++ x ∷ []) ≡ more (part s xs) x
part-push s xs x within = ap (λ (l : Trees). record { place = s.place; items = l }) (drop-append-le s.first xs (x ∷ []) within)

waits-push : (s : OpenSet) (ss : List OpenSet) (xs : Trees) (x : Positioned Selection) → s.first ≤ length xs → Waits ss (take s.first xs) → Waits (s ∷ ss) (xs ++ x ∷ [])
waits-push s ss xs x within waits = (omega (arith, length-append xs (x ∷ [])), rw (take-append-le s.first xs (x ∷ []) within) waits)

-- and the set that its last selection gets changes no other part
part-fill : (s : OpenSet) (xs : Trees) (set : Set) → s.first < length xs → part s (fill_last xs set) ≡ filled_in (part s xs) set
part-fill s xs set waits = ap (λ (l : Trees). record { place = s.place; items = l }) (drop-fill_last s.first xs set waits)

waits-fill : (s : OpenSet) (ss : List OpenSet) (xs : Trees) (set : Set) → Waits (s ∷ ss) xs → Waits (s ∷ ss) (fill_last xs set)
waits-fill s ss xs set waits = (omega (arith, waits.0, length-fill_last xs set), rw (take-fill_last s.first xs set waits.0) waits.1)

-- ---- what the loops keep

-- where a selection has to follow
pub record Wanted (values selections : ℕ) (start now : Ahead) (n : Nest) (own : OpenSet) (xs : Trees) : Type 0 where
  pub kept : sets.Wanted values selections start now n.left (parts n.outer (take own.first xs)) (part own xs)
  pub within : own.first ≤ length xs
  pub waits : Waits n.outer (take own.first xs)

-- and after one
pub record Behind (values selections most : ℕ) (start now : Ahead) (n : Nest) (own : OpenSet) (xs : Trees) : Type 0 where
  pub kept : sets.Behind values selections most start now n.left (parts n.outer (take own.first xs)) (part own xs)
  pub waits : Waits (own ∷ n.outer) xs

-- ---- memory was asked for

pub wanted-stays : {values selections : ℕ} {start now : Ahead} {n : Nest} {own : OpenSet} {xs : Trees} (new : Ahead) → Stays now new → Wanted values selections start now n own xs → Wanted values selections start new n own xs
wanted-stays new s w = record { kept = sets.wanted-stays new s w.kept; within = w.within; waits = w.waits }

pub after-stays : {values selections most : ℕ} {start now : Ahead} {n : Nest} {own : OpenSet} {xs : Trees} (new : Ahead) → Stays now new → Behind values selections most start now n own xs → Behind values selections most start new n own xs
after-stays new s w = record { kept = sets.after-stays new s w.kept; waits = w.waits }

-- ---- the ways on

pub opens : {values selections : ℕ} {start now : Ahead} {n : Nest} {xs : Trees} (t : Token) → (one_at (punct "{") (tokens start) ≡ Read t (tokens now)) × GoesOn start now → xs ≡ [] → n.outer ≡ [] → n.left ≡ selections → Wanted values selections start now n (record { place = t.pos; first = 0 }) xs
opens t h empty alone left = record {
  kept = rw (empty, alone, left) (sets.opens t h);
  within = omega arith;
  waits = rw alone tt;
}

pub enters : {values selections : ℕ} {start now next : Ahead} {n inner : Nest} {own : OpenSet} {xs : Trees} {nests : Bool} {place : Pos} {first : ℕ} (ys : Trees) → nests ≡ may_nest n.left → (onto xs (head_at values nests) (tokens now) ≡ Read (ys, Some place) (tokens next)) × GoesOn now next → inner.outer ≡ own ∷ n.outer → suc inner.left ≡ n.left → first ≡ length ys → Wanted values selections start now n own xs → Wanted values selections start next inner (record { place = place; first = first }) ys
enters {values} {selections} {start} {now} {next} {n} {inner} {own} {xs} {nests} {place} {first} ys may h around left size w =
    let p = pushed xs ys (Some place) (head_at values nests (tokens now)) (tokens next) h.0 in
    let may' : true ≡ nests = ap may_nest left ∙ sym may in
    let head : head_at values true (tokens now) ≡ Read (p.selection, Some place) (tokens next) = ap (λ (b : Bool). head_at values b (tokens now)) may' ∙ p.read in
    let all : take first ys ≡ ys = take_all first ys (omega (arith, size)) in
    let none : drop first ys ≡ [] = drop_all first ys (omega (arith, size)) in
    let outer : take own.first (xs ++ p.selection ∷ []) ≡ take own.first xs = take-append-le own.first xs (p.selection ∷ []) w.within in
    let kept : sets.Wanted values selections start now (suc inner.left) (parts n.outer (take own.first xs)) (part own xs) = rw left w.kept in
    record {
      kept = rw (all, none, around, p.made, part-push own xs p.selection w.within, outer) (sets.enters p.selection place head h.1 kept);
      within = omega (arith, size);
      waits = rw (all, around, p.made) (waits-push own n.outer xs p.selection w.within w.waits);
    }

pub reads : {values selections : ℕ} {start now next : Ahead} {n : Nest} {own : OpenSet} {xs : Trees} {nests : Bool} (ys : Trees) → nests ≡ may_nest n.left → (onto xs (head_at values nests) (tokens now) ≡ Read (ys, None) (tokens next)) × GoesOn now next → Wanted values selections start now n own xs → Behind values selections (length next.after) start next n own ys
reads {values} {selections} {start} {now} {next} {n} {own} {xs} {nests} ys may h w =
    let p = pushed xs ys None (head_at values nests (tokens now)) (tokens next) h.0 in
    let head : head_at values (may_nest n.left) (tokens now) ≡ Read (p.selection, None) (tokens next) = ap (λ (b : Bool). head_at values b (tokens now)) (sym may) ∙ p.read in
    let outer : take own.first (xs ++ p.selection ∷ []) ≡ take own.first xs = take-append-le own.first xs (p.selection ∷ []) w.within in
    record {
      kept = rw (p.made, part-push own xs p.selection w.within, outer) (sets.reads p.selection head h.1 w.kept);
      waits = rw p.made (waits-push own n.outer xs p.selection w.within w.waits);
    }

pub again : {values selections most : ℕ} {start now : Ahead} {n : Nest} {own : OpenSet} {xs : Trees} → punct "}" now.hand.bare ≡ false → Behind values selections most start now n own xs → Wanted values selections start now n own xs
again e w = record { kept = sets.again e w.kept; within = omega (arith, w.waits.0); waits = w.waits.1 }

pub ends : {values selections most : ℕ} {start now : Ahead} {n : Nest} {own : OpenSet} {xs : Trees} {set : Set} (next : Ahead) → punct "}" now.hand.bare ≡ true → tokens next ≡ now.after → GoesOn now next → n.outer ≡ [] → set ≡ closed (part own xs) → Behind values selections most start now n own xs → (selection_set_at values selections (tokens start) ≡ Read set (tokens next)) × GoesOn start next
ends next e there on alone is w = rw is (sets.ends next e there on (rw alone at w.kept))

pub leaves : {values selections most : ℕ} {start now : Ahead} {n around : Nest} {own : OpenSet} {xs ys zs : Trees} {set : Set} (outer : OpenSet) (next : Ahead) → punct "}" now.hand.bare ≡ true → tokens next ≡ now.after → GoesOn now next → (n.outer ≡ outer ∷ around.outer) × (around.left ≡ suc n.left) → set ≡ closed (part own xs) → ys ≡ take own.first xs → zs ≡ fill_last ys set → Behind values selections most start now n own xs → Behind values selections most start next around outer zs
leaves {n = n} {around = around} {own = own} {xs = xs} {ys = ys} {set = set} outer next e there on popped is cut made w =
    let waits : Waits (outer ∷ around.outer) ys = rw cut (rw popped.0 at w.waits.1) in
    let same : take outer.first (fill_last ys set) ≡ take outer.first ys = take-fill_last outer.first ys set waits.0 in
    record {
      kept = rw (made, popped.1, part-fill outer ys set waits.0, same, is, cut) (sets.leaves next e there on (rw popped.0 at w.kept));
      waits = rw made (waits-fill outer around.outer ys set waits);
    }

-- ---- refusals

pub reads-not : {values selections : ℕ} {start now : Ahead} {n : Nest} {own : OpenSet} {xs : Trees} {nests : Bool} (next : Ahead) (e : Refusal) → nests ≡ may_nest n.left → Refuses e now next (onto xs (head_at values nests)) × GoesOn now next → Wanted values selections start now n own xs → Refuses e start next (selection_set_at values selections) × GoesOn start next
reads-not {values} {now = now} {xs = xs} {nests = nests} next e may h w =
    sets.reads-not next e (onto xs (head_at values nests))
    (λ v k. ap (λ (b : Bool). head_at values b (tokens now)) (sym may) ∙ pushed-not xs (head_at values nests (tokens now)) (tokens next) v k) h w.kept

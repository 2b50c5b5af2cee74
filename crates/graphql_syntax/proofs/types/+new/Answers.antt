use Rattle.std.proofs.Common.{◌++◌, ◌∷◌, [], Some, sym, ap, ◌∙◌, IfOk, lit<, subst}
use Rattle.std.proofs.lemmas.List.{append-nil, append_cancel_right}
use Rattle.std.proofs.lemmas.Str.Pattern.{strip_prefix_char, strip_suffix_char}
use Rattle.graphql_syntax.specs.calls.TypeText.{IsTypeOf}
use Rattle.graphql_syntax.specs.trees.TypeTree.{named, list, type_tree, type_text, mark}
use Rattle.graphql_syntax.proofs.TypeTexts.{IsAnswer, IsRefused, given_back, no_type, list_type, name_type, one_type}
use Rattle.graphql_syntax.proofs.types.+new.Goals as goal

pub Type::new-returns-in-Some-clause-shown : goal.Type::new-returns-in-Some-clause-shown
Type::new-returns-in-Some-clause-shown t c =
    let suffix = strip_suffix_char 33 c.args.text.now (Some c.in-Some.rest) c.in-Some.ensures.cases (lit< tt) in
    subst (λ text. IfOk c.type_of.result (IsAnswer text)) (sym suffix) c.type_of.ensures.shown

pub Type::new-returns-in-Some-clause-refused : goal.Type::new-returns-in-Some-clause-refused
Type::new-returns-in-Some-clause-refused t c =
    let suffix = strip_suffix_char 33 c.args.text.now (Some c.in-Some.rest) c.in-Some.ensures.cases (lit< tt) in
    subst (λ text. IsRefused text c.type_of.result) (sym suffix) c.type_of.ensures.refused

pub Type::new-returns-in-None-clause-refused : goal.Type::new-returns-in-None-clause-refused
Type::new-returns-in-None-clause-refused t c =
    let answer = c.type_of-in-None in
    subst (λ text. IsRefused text answer.result) (append-nil c.args.text.now) answer.ensures.refused

pub Type::new-returns-in-Some-clause-back : goal.Type::new-returns-in-Some-clause-back
Type::new-returns-in-Some-clause-back t c =
    let suffix = strip_suffix_char 33 c.args.text.now (Some c.in-Some.rest) c.in-Some.ensures.cases (lit< tt) in
    given_back c.args.text.now c.type_of.result (subst (λ text. IfOk c.type_of.result (IsAnswer text)) (sym suffix) c.type_of.ensures.shown)

pub Type::new-returns-in-None-clause-back : goal.Type::new-returns-in-None-clause-back
Type::new-returns-in-None-clause-back t c =
    let answer = c.type_of-in-None in
    given_back c.args.text.now answer.result (subst (λ text. IfOk answer.result (IsAnswer text)) (append-nil c.args.text.now) answer.ensures.shown)

pub Type::new-returns-in-Some-clause-one : goal.Type::new-returns-in-Some-clause-one
Type::new-returns-in-Some-clause-one t c = one_type c.args.text.now

pub Type::new-returns-in-None-clause-one : goal.Type::new-returns-in-None-clause-one
Type::new-returns-in-None-clause-one t c = one_type c.args.text.now

pub type_text::type_of-returns-in_default-clause-shown : goal.type_text::type_of-returns-in_default-clause-shown
type_text::type_of-returns-in_default-clause-shown t c =
    let begins = rw c.in_default.is at (strip_prefix_char 91 c.args.text.now c.strip_prefix.result c.strip_prefix.ensures.cases (lit< tt)) in
    ((λ b. begins b.0 (sym c.in_ok-new.ensures.name ∙ b.1), λ yes e. c.requires.1.1 yes (e.0, sym c.in_ok-new.ensures.name ∙ e.1)), ap (λ s. s ++ mark c.args.nullable) c.in_ok-new.ensures.name)

pub type_text::type_of-returns-in_default-strip_suffix-clause-shown : goal.type_text::type_of-returns-in_default-strip_suffix-clause-shown
type_text::type_of-returns-in_default-strip_suffix-clause-shown t c =
    let prefix = strip_prefix_char 91 c.args.text.now (Some c.in-Some.after) c.in-Some.ensures.cases (lit< tt) in
    let ends = rw c.in_default-strip_suffix.is at (strip_suffix_char 93 c.in-Some.after.now c.strip_suffix.result c.strip_suffix.ensures.cases (lit< tt)) in
    no_type c.args.text.now c.in-Some.after.now c.args.nullable prefix c.requires.1.1 (λ t' proper e. ends (type_text t') e)

pub type_text::type_of-returns-in_default-2-clause-shown : goal.type_text::type_of-returns-in_default-2-clause-shown
type_text::type_of-returns-in_default-2-clause-shown t c =
    let prefix = strip_prefix_char 91 c.args.text.now (Some c.in-Some.after) c.in-Some.ensures.cases (lit< tt) in
    let suffix = strip_suffix_char 93 c.in-Some.after.now (Some c.in-Some-strip_suffix.inside) c.in-Some-strip_suffix.ensures.cases (lit< tt) in
    let none = rw c.in_default-2.is at c.in_ok-item.ensures.shown in
    no_type c.args.text.now c.in-Some.after.now c.args.nullable prefix c.requires.1.1
    (λ t' proper e. none t' (proper, append_cancel_right (type_text t') c.in-Some-strip_suffix.inside.now (93 ∷ []) (sym e ∙ suffix)))

pub type_text::type_of-returns-clause-shown : goal.type_text::type_of-returns-clause-shown
type_text::type_of-returns-clause-shown t c =
    let prefix = strip_prefix_char 91 c.args.text.now (Some c.in-Some.after) c.in-Some.ensures.cases (lit< tt) in
    let suffix = strip_suffix_char 93 c.in-Some.after.now (Some c.in-Some-strip_suffix.inside) c.in-Some-strip_suffix.ensures.cases (lit< tt) in
    let shown : IsTypeOf c.in-Some-strip_suffix.inside.now (type_tree c.in_ok-new-2.field-0.value) =
    rw c.in_ok-new-2.ensures.ok (rw c.in-Some-2.is at c.in_ok-item.ensures.shown) in
    list_type c.args.text.now c.in-Some.after.now c.in-Some-strip_suffix.inside.now c.args.nullable (type_tree c.in_ok-new-2.field-0.value) prefix suffix shown

-- where no type has the text: it begins with a bracket, for else it is that of a name,

pub type_text::type_of-returns-in_err-new-clause-refused : goal.type_text::type_of-returns-in_err-new-clause-refused
type_text::type_of-returns-in_err-new-clause-refused t c = λ no.
    let begins = rw c.in_default.is at (strip_prefix_char 91 c.args.text.now c.strip_prefix.result c.strip_prefix.ensures.cases (lit< tt)) in
    absurd (no (named c.args.text.now c.args.nullable) (name_type c.args.text.now c.args.nullable (λ b. begins b.0 b.1) c.requires.1.1))

pub type_text::type_of-returns-in_default-clause-refused : goal.type_text::type_of-returns-in_default-clause-refused
type_text::type_of-returns-in_default-clause-refused t c = λ no.
    let begins = rw c.in_default.is at (strip_prefix_char 91 c.args.text.now c.strip_prefix.result c.strip_prefix.ensures.cases (lit< tt)) in
    absurd (no (named c.args.text.now c.args.nullable) (name_type c.args.text.now c.args.nullable (λ b. begins b.0 b.1) c.requires.1.1))

-- and what stands between the brackets is the text of no type either

pub type_text::type_of-returns-in_err-item-clause-refused : goal.type_text::type_of-returns-in_err-item-clause-refused
type_text::type_of-returns-in_err-item-clause-refused t c = λ no.
    let prefix = strip_prefix_char 91 c.args.text.now (Some c.in-Some.after) c.in-Some.ensures.cases (lit< tt) in
    let suffix = strip_suffix_char 93 c.in-Some.after.now (Some c.in-Some-strip_suffix.inside) c.in-Some-strip_suffix.ensures.cases (lit< tt) in
    let none = c.in_err-item.ensures.refused (λ t' is. no (list t' c.args.nullable) (list_type c.args.text.now c.in-Some.after.now c.in-Some-strip_suffix.inside.now c.args.nullable t' prefix suffix is)) in
    absurd cc

pub type_text::type_of-returns-in_err-new-2-clause-refused : goal.type_text::type_of-returns-in_err-new-2-clause-refused
type_text::type_of-returns-in_err-new-2-clause-refused t c = λ no.
    let prefix = strip_prefix_char 91 c.args.text.now (Some c.in-Some.after) c.in-Some.ensures.cases (lit< tt) in
    let suffix = strip_suffix_char 93 c.in-Some.after.now (Some c.in-Some-strip_suffix.inside) c.in-Some-strip_suffix.ensures.cases (lit< tt) in
    let shown = rw c.in-Some-2.is at c.in_ok-item.ensures.shown in
    absurd (no (list (type_tree c.in-Some-2.item) c.args.nullable) (list_type c.args.text.now c.in-Some.after.now c.in-Some-strip_suffix.inside.now c.args.nullable (type_tree c.in-Some-2.item) prefix suffix shown))

pub type_text::type_of-returns-clause-refused : goal.type_text::type_of-returns-clause-refused
type_text::type_of-returns-clause-refused t c = λ no.
    let prefix = strip_prefix_char 91 c.args.text.now (Some c.in-Some.after) c.in-Some.ensures.cases (lit< tt) in
    let suffix = strip_suffix_char 93 c.in-Some.after.now (Some c.in-Some-strip_suffix.inside) c.in-Some-strip_suffix.ensures.cases (lit< tt) in
    let shown = rw c.in-Some-2.is at c.in_ok-item.ensures.shown in
    absurd (no (list (type_tree c.in-Some-2.item) c.args.nullable) (list_type c.args.text.now c.in-Some.after.now c.in-Some-strip_suffix.inside.now c.args.nullable (type_tree c.in-Some-2.item) prefix suffix shown))

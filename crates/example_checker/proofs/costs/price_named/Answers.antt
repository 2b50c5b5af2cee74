use Rattle.std.proofs.Common.{◌≡◌, rules, Some, None, ap, sym, ◌∙◌}
use Rattle.std.specs.Option.{option_copied, option_flatten}
use Rattle.std.specs.List.{slice_get}
use Rattle.example_checker.proofs.Entries.{item_copied, price_found}
use Rattle.example_checker.proofs.costs.price_named.Goals as goal

pub returns : goal.returns
returns c =
    let item : option_copied c.get.result ≡ slice_get c.args.prices.now c.in_ok-place.place =
    item_copied c.args.prices.now c.in_ok-place.place c.get.result c.get.ensures.lookup in
    let found = price_found c.args.document.now.fragments.entries c.args.prices.now c.args.name.now (Some c.in_ok-place.place) c.in_ok-place.ensures.index in
    c.flatten.ensures ∙ (ap option_flatten (c.copied.ensures ∙ item) ∙ sym found)

pub returns-in_err-place : goal.returns-in_err-place
returns-in_err-place c =
    let found = price_found c.args.document.now.fragments.entries c.args.prices.now c.args.name.now None c.in_err-place.ensures.index in
    first_of (cc, search (rules, found))

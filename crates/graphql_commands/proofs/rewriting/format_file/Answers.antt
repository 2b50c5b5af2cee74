use Rattle.std.proofs.Common.{◌≡◌, ◌⊎◌, ℕ, List, Result, Ok, string_bytes, subst}
use Rattle.std.specs.declared.alloc.Global.{Global}
use Rattle.std.specs.declared.string.String.{String}
use Rattle.graphql_layout.specs.texts.LaidOut.{IsLaidOut}
use Rattle.graphql_parser.specs.notation.Limits.{Limits}
use Rattle.graphql_commands.specs.checked.Files.{IsBlank}
use Rattle.graphql_commands.specs.checked.Replaced.{IsAnew, LeavesLaidOut}
use Rattle.graphql_commands.specs.declared.texts.Unread.{Unread}
use Rattle.graphql_commands.specs.declared.texts.Unwritten.{Unwritten}
use Rattle.graphql_commands.proofs.rewriting.format_file.Goals as goal

-- what is done with the text that is read under a name
of-text : {T : Type 0} (gives : T → List ℕ → Result (String Global) Unread → T → Type 0) (puts : T → List ℕ → List ℕ → Result (Unit {0}) Unwritten → T → Type 0) (limits : Limits) (here : T) (name : List ℕ) (next there : T) (said : Result (String Global) Unread) (read : String Global) (text : List ℕ)
    → text ≡ string_bytes read → said ≡ Ok read → gives here name said next
    → ((next ≡ there) × (IsBlank text ⊎ IsLaidOut text text)) ⊎ ((new : List ℕ) × IsAnew limits text new × puts next name new (Ok tt) there)
    → LeavesLaidOut gives puts limits here name there
of-text {T} gives puts limits here name next there said read text same is given done = (
  Ok read,
  next,
  subst (λ (r : Result (String Global) Unread). gives here name r next) is given,
  subst (λ (t : List ℕ). ((next ≡ there) × (IsBlank t ⊎ IsLaidOut t t)) ⊎ ((new : List ℕ) × IsAnew limits t new × puts next name new (Ok tt) there)) same done,
)

pub returns-in-Ok-clause-laid_out : goal.returns-in-Ok-clause-laid_out
returns-in-Ok-clause-laid_out g c = λ none. of-text g.T.Texts.gives g.T.Texts.puts c.args.call.now.limits c.args.texts.now c.args.name.now c.text.new.self c.format_text.new.texts c.text.result c.in-Ok.text c.as_str.result.now
    c.as_str.ensures.value c.in-Ok.is c.text.ensures (c.format_text.ensures.laid_out none)

use Rattle.std.proofs.Common.{refl, sym, ◌∙◌}
use Rattle.graphql_syntax.specs.declared.types.OperationType.TheVariants.{Query, Mutation, Subscription}
use Rattle.graphql_schemas.specs.reading.Views.{root_tree}
use Rattle.graphql_schemas.proofs.Roots.{added}
use Rattle.graphql_schemas.proofs.rules.Roots.add.Goals as goal

pub returns-in-Query : goal.returns-in-Query
returns-in-Query c before h = added Query before (root_tree c.args.root) c.args.schema _ _ _ _ c.in-Query.is h.query c.place.ensures (λ found others. record { query = found; mutation = h.mutation ∙ sym (others Mutation refl); subscription = h.subscription ∙ sym (others Subscription refl) })

pub returns-in-Mutation : goal.returns-in-Mutation
returns-in-Mutation c before h = added Mutation before (root_tree c.args.root) c.args.schema _ _ _ _ c.in-Mutation.is h.mutation c.place-in-Mutation.ensures (λ found others. record { query = h.query ∙ sym (others Query refl); mutation = found; subscription = h.subscription ∙ sym (others Subscription refl) })

pub returns-in-Subscription : goal.returns-in-Subscription
returns-in-Subscription c before h = added Subscription before (root_tree c.args.root) c.args.schema _ _ _ _ c.in-Subscription.is h.subscription c.place-in-Subscription.ensures (λ found others. record { query = h.query ∙ sym (others Query refl); mutation = h.mutation ∙ sym (others Mutation refl); subscription = found })

use Rattle.std.proofs.Common.{◌≡◌, ◌-◌, None, MatchOption, subst, rules}
use Rattle.type_layout.specs.declared.schema.Schema.{Schema}
use Rattle.type_layout.specs.Schemas.{home_at}
use Rattle.schema_names.specs.inner.Homes.{AreNamesAt}
use Rattle.schema_names.proofs.Placing.{matched, looked}
use Rattle.schema_names.proofs.named.NamedSchema.names_at.Goals as goal

pub returns : goal.returns
returns c = subst (λ (S : Schema). MatchOption c.get.result (home_at S c.args.home ≡ None) (λ names. AreNamesAt S c.args.home names.now)) c.self.view_is
    (matched (λ names. names.now) c.self.inside.schema c.self.inside.of_homes.items c.args.home (search rules) c.self.invariant.each c.get.result (looked (λ names. names.now) c.self.inside.of_homes.items (c.args.home.0 - 1) c.get.result (search rules) (search rules)))

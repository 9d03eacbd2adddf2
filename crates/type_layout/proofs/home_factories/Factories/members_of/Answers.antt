use Rattle.std.proofs.Common.{◌∙◌, ℕ, List, find, Some, None, ap, rules}
use Rattle.std.specs.Option.{option_map}
use Rattle.std.specs.Str.{bytes_eq}
use Rattle.type_layout.specs.declared.schema.Factory.{Factory}
use Rattle.type_layout.proofs.Held.{members_held}
use Rattle.type_layout.proofs.home_factories.Factories.members_of.Goals as goal

pub returns-in_default : goal.returns-in_default
returns-in_default c =
    members_held c.self.inside.members c.self.inside.held c.args.word.now None (search rules)
    ∙ ap (λ (fs : List Factory). option_map (λ (f : Factory). f.members) (find (λ f. bytes_eq c.args.word.now f.name) fs)) (search rules)

pub returns : goal.returns
returns c =
    ap (λ (l : List ℕ). Some l) (search rules)
    ∙ members_held c.self.inside.members c.self.inside.held c.args.word.now (Some c.in-Some.factory.now) (search rules)
    ∙ ap (λ (fs : List Factory). option_map (λ (f : Factory). f.members) (find (λ f. bytes_eq c.args.word.now f.name) fs)) (search rules)

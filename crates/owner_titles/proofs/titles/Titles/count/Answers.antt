use Rattle.std.proofs.Common.{refl}
use Rattle.owner_titles.specs.Meaning.{one_more}
use Rattle.owner_titles.proofs.Sounds.{changed_sound}
use Rattle.owner_titles.proofs.titles.Titles.count.Goals as goal

pub invariant_of-self : goal.invariant_of-self
invariant_of-self c = changed_sound c.self.inside.table c.self.inside.names.held c.self.inside.last c.self.inside.transactions c.self.invariant c.args.owner.0 one_more c.count.new.self c.count.ensures (λ _. refl) (λ _. refl)

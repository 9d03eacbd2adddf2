use Rattle.std.proofs.Common.{List, ℕ, ◌≡◌, Some, None, ◌∙◌}
use Rattle.pss_machine.specs.Kept.{Kept, name_of}
use Rattle.connector_parts.specs.Stands.{Stands}
use Rattle.connector_parts.proofs.Tellings.{if_ok, name_told}
use Rattle.connector_parts.proofs.parts.Parts.name_of.Goals as goal

pub returns-in-Some : goal.returns-in-Some
returns-in-Some c =
    if_ok (λ (name : List ℕ). name ≡ c.in-Some.called.now.name) (λ (name : List ℕ). (k : Kept) → Stands c.args.self.now k → name ≡ name_of k c.args.owner) c.copy.result
    (λ name is k stands. is ∙ name_told k c.titles.result.now (c.titles.ensures c.args.self.now.schema k stands.accounts) c.args.owner (Some c.in-Some.called.now) c.in-Some.ensures) c.copy.ensures

pub returns-in-None : goal.returns-in-None
returns-in-None c k stands = c.new.ensures ∙ name_told k c.titles.result.now (c.titles.ensures c.args.self.now.schema k stands.accounts) c.args.owner None c.in-None.ensures

use Rattle.std.proofs.Common.{◌∙◌, List, [], ◌∷◌, ℕ, ap}
use Rattle.type_layout.specs.declared.factories.DeclaredFactory.{DeclaredFactory}
use Rattle.type_layout.specs.Factories.{factories_held}
use Rattle.people_demo.specs.People.{ssn, name, boss}
use Rattle.people_demo.proofs.Made.{made}
use Rattle.people_demo.proofs.schema.factories.Goals as goal

pub returns : goal.returns
returns c =
    c.new.ensures ∙ ap (λ (ms : List (List ℕ)). factories_held ms c.in_ok-held.held) c.in_ok-members.ensures
    ∙ ap (λ (ds : List DeclaredFactory). factories_held (ssn.name ∷ name.name ∷ boss.name ∷ []) ds) c.in_ok-held.ensures ∙ made

use Rattle.std.proofs.Common.{subst, sym, ◌∙◌}
use Rattle.type_layout.specs.declared.schema.Schema.{Schema}
use Rattle.connector.specs.Keeping.{HasObjects}
use Rattle.people_demo.proofs.Beginning.{begins}
use Rattle.people_demo.proofs.demo.open.Goals as goal

pub new-requires-clause-objects : goal.new-requires-clause-objects
new-requires-clause-objects c =
    let made = c.requires.made.2 in
    record { catalog = made.catalog; has = subst (λ (S : Schema). HasObjects S made.catalog c.args.mounted) (sym c.requires.schema) made.objects }

pub returns : goal.returns
returns c = λ held holds made.
    let has = c.in_ok-connector.ensures in
    begins held holds c.args.mounted _ made has.live (has.schema ∙ c.requires.schema) (has.limits ∙ c.standard.ensures) has.performed
    (λ M objects. has.kept M (subst (λ (S : Schema). HasObjects S M c.args.mounted) (sym c.requires.schema) objects)) has.store c.new-2.ensures

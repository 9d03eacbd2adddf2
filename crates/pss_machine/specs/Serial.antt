-- That what was committed is as if done alone, in the order of commits.
use Rattle.std.specs.Prelude.{◌≡◌, List, [], ◌∷◌, take}
use Rattle.type_layout.specs.declared.schema.Schema.{Schema}
use Rattle.pss_catalog.specs.Catalog.{Catalog, IsUnique}
use Rattle.pss_machine.specs.declared.level.Level.{Level}
use Rattle.pss_machine.specs.declared.level.Level.TheVariants.{Serializable, ReadCommitted, Basic}
use Rattle.pss_catalog.specs.Changes.{over}
use Rattle.pss_machine.specs.Alone.{alone}
use Rattle.pss_machine.specs.Beside.{Answered, Member, Traced}

-- the catalog after operations, each by itself
abbrev pub after_alone : Schema → Catalog → List Answered → Catalog
after_alone S M [] = M
after_alone S M (x ∷ xs) = after_alone S (over M (alone S M x.op).changes) xs

-- each operation by itself, one after the other, answers what it answered
abbrev pub AnswerAlone : Schema → Catalog → List Answered → Type 0
AnswerAlone S M [] = Unit {0}
AnswerAlone S M (x ∷ xs) = ((alone S M x.op).answer ≡ x.answer) × AnswerAlone S (over M (alone S M x.op).changes) xs

-- a serializable member of the history alone, from the catalog before it, answers what it answered and leaves the catalog after it
abbrev pub IsAsAlone : Schema → Catalog → Member → Level → Type 0
IsAsAlone S M x Serializable = AnswerAlone S M x.done × (after_alone S M x.done ≡ over M x.changes)
IsAsAlone S M x ReadCommitted = Unit {0}
IsAsAlone S M x Basic = Unit {0}

-- each member of the history is, from the catalog that those before it leave
abbrev pub Serial : Schema → Catalog → List Member → Type 0
Serial S M [] = Unit {0}
Serial S M (x ∷ xs) = IsAsAlone S M x x.level × Serial S (over M x.changes) xs

-- the catalog after members of the history
abbrev pub catalog_after : Catalog → List Member → Catalog
catalog_after M [] = M
catalog_after M (x ∷ xs) = catalog_after (over M x.changes) xs

-- no key has two holders, at first and after each member
abbrev pub AllUnique : Schema → Catalog → List Member → Type 0
AllUnique S M [] = IsUnique S M
AllUnique S M (x ∷ xs) = IsUnique S M × AllUnique S (over M x.changes) xs

-- the answer is that of the operation alone on what was committed last, with the owner's changes over it
abbrev pub AnsweredAsCommitted : Schema → Catalog → List Member → Traced → Level → Type 0
AnsweredAsCommitted S M history e ReadCommitted = e.answer ≡ (alone S (over (catalog_after M (take e.commits history)) e.before) e.op).answer
AnsweredAsCommitted S M history e Serializable = Unit {0}
AnsweredAsCommitted S M history e Basic = Unit {0}

-- each read-committed owner was answered from its own changes, and else from what was committed last
abbrev pub OwnOrLast : Schema → Catalog → List Member → List Traced → Type 0
OwnOrLast S M history [] = Unit {0}
OwnOrLast S M history (e ∷ es) = AnsweredAsCommitted S M history e e.level × OwnOrLast S M history es

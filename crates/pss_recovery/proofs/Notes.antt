-- The changes that are noted.
use Rattle.std.proofs.Common.{ℕ, ◌≤◌, List, [], ◌∷◌, ◌++◌, length, Option, None, Some, IfSome, refl, sym, ap, ◌∙◌, append_assoc, append-nil}
use Rattle.std.specs.List.{AllByRecursion}
use Rattle.pss_base.specs.declared.put.Put.{Put}
use Rattle.type_layout.specs.declared.schema.Schema.{Schema}
use Rattle.pss_catalog.specs.Catalog.{Catalog}
use Rattle.pss_catalog.specs.Changes.{Change as Step}
use Rattle.page_format.specs.Objects.{HasRecord, IsRightPut}
use Rattle.pss_recovery.specs.Bodies.{IsSpellable, Spells}
use Rattle.pss_recovery.specs.Noted.{AreNoted}
use Rattle.pss_recovery.specs.Replaying.{AreMade, IsChanged, IsMade}
use Rattle.pss_recovery.specs.declared.body.Body.{Body}

-- the changes of one body more
pub noted_more : (bodies : List (List ℕ)) (puts : List Put) (octets : List ℕ) (body : Body) → AreNoted bodies puts → Spells octets body → AreNoted (bodies ++ octets ∷ []) (puts ++ body.puts)
noted_more [] puts octets body noted spells = (body, [], spells, refl, ap (λ (l : List Put). l ++ body.puts) noted ∙ sym (append-nil body.puts))
noted_more (b ∷ bodies) puts octets body noted spells = (noted.0, noted.1 ++ body.puts, noted.2, noted_more bodies noted.1 octets body noted.3 spells, ap (λ (l : List Put). l ++ body.puts) noted.4 ∙ append_assoc noted.0.puts noted.1 body.puts)

-- the record of a change that is made has 1 to 8,000 octets
right_put : (S : Schema) (M : Catalog) (next : ℕ) (put : Put) (step : Step) → IsSpellable put → IsMade S M next put step → IsRightPut put
right_put S M next put step spellable made = by put.bytes spellable.some made.short
  where
    by : (bytes : Option (List ℕ)) → IfSome bytes (λ octets. 1 ≤ length octets) → IfSome bytes (λ octets. length octets ≤ 8000) → IfSome bytes HasRecord
    by None some short = tt
    by (Some octets) some short = record { some = some; most = short }

right_all : (S : Schema) (M : Catalog) (next : ℕ) (puts : List Put) (steps : List Step) → AllByRecursion IsSpellable puts → AreMade S M next puts steps → AllByRecursion IsRightPut puts
right_all S M next [] steps each made = tt
right_all S M next (put ∷ puts) [] each made = absurd made
right_all S M next (put ∷ puts) (d ∷ ds) each made = (right_put S M next put d each.0 made.0, right_all S M next puts ds each.1 made.1)

pub right_puts : (S : Schema) (M : Catalog) (next : ℕ) (body : Body) (N : Catalog) → AllByRecursion IsSpellable body.puts → IsChanged S M next body N → AllByRecursion IsRightPut body.puts
right_puts S M next body N each changed = right_all S M body.next body.puts changed.steps each changed.made

pub all_both : (xs ys : List Put) → AllByRecursion IsRightPut xs → AllByRecursion IsRightPut ys → AllByRecursion IsRightPut (xs ++ ys)
all_both [] ys a b = b
all_both (x ∷ xs) ys a b = (a.0, all_both xs ys a.1 b)

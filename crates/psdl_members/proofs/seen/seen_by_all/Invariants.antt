use Rattle.std.proofs.Common.{◌≡◌, ℕ, true, take}
use Rattle.std.specs.List.{list_any}
use Rattle.psdl_lineage.specs.Descent.{has}
use Rattle.psdl_members.specs.inner.Rowed.{Entries}
use Rattle.psdl_members.specs.inner.Seeing.{IsSeen, Sight, seen_at}
use Rattle.psdl_members.proofs.seen.seen_by_all.Given as goal

abbrev pub invariant-loop-number : goal.invariant-loop-number
invariant-loop-number l =
    (es : Entries) (some : ℕ → Sight) → ((p : ℕ) → has l.numbers p ≡ true → IsSeen (seen_at l.seen p) es (some p)) → IsSeen l.all es (λ test. list_any (λ p. some p test) (take l.number-index l.numbers))

-- Which declarations have entries of each name.
use Rattle.std.specs.Prelude.{◌≡◌, ◌==◌, ◌||◌, ◌&&◌, ℕ, List, [], Bool, map}
use Rattle.std.proofs.Common.{get_or}
use Rattle.std.specs.List.{list_any}
use Rattle.std.specs.declared.vec.Vec.{Vec}
use Rattle.psdl_members.specs.declared.claims.Claim.{Claim}
use Rattle.psdl_members.specs.declared.entry.Entry.{Entry}
use Rattle.psdl_members.specs.declared.rows.Rows.{Rows}
use Rattle.psdl_members.specs.inner.Rowed.{row_of}

-- those of a name
abbrev pub claims_in : {Z : Type 0} → List (Vec Claim Z) → ℕ → List Claim
claims_in lists n = get_or (map (λ v. v.items) lists) n []

-- an entry of a declaration that passes a test is among them
abbrev pub has_claim : List Claim → ℕ → (Entry → Bool) → Bool
has_claim claims d test = list_any (λ c. c.declaration == d && test c.entry) claims

-- some of these entries have a name, and one of them passes a test
abbrev pub has_named : ℕ → (Entry → Bool) → List Entry → Bool
has_named n test es = list_any (λ e. e.name == n && test e) es

-- the entries of a declaration came to them
abbrev pub HasMore : {Y Z : Type 0} → List (Vec Claim Y) → List (Vec Claim Z) → ℕ → List Entry → Type 0
HasMore before now declaration es = (n d : ℕ) (test : Entry → Bool) → has_claim (claims_in now n) d test ≡ (has_claim (claims_in before n) d test || (declaration == d && has_named n test es))

-- those of each name are all entries of this name
abbrev pub AreClaims : {Z : Type 0} → Rows → List (Vec Claim Z) → Type 0
AreClaims rows claims = (n d : ℕ) (test : Entry → Bool) → has_claim (claims_in claims n) d test ≡ has_named n test (row_of rows d)

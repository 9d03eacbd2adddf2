use Rattle.std.proofs.Common.{◌≡◌, ℕ, List, Option, Some, None, Bool, true, false, refl, sym, ◌∙◌}
use Rattle.std.specs.FinMap.{get}
use Rattle.type_layout.specs.declared.key.KeyNo.{KeyNo}
use Rattle.type_layout.specs.declared.schema.Schema.{Schema}
use Rattle.pss_catalog.specs.Catalog.{Object, Catalog, holds}
use Rattle.storage_home.specs.declared.parts.Parts.{Parts}
use Rattle.storage_home.specs.Indexes.{found_at}
use Rattle.storage_home.specs.Kept.{IsKept}
use Rattle.storage_home.proofs.Finding.{told_is}
use Rattle.owner_view.specs.Views.{IsHolder}
use Rattle.owner_view.proofs.committed_homes.HomesCommitted.holder.Goals as goal

is_holder : (S : Schema) (M : Catalog) (homes : Parts) → IsKept S M homes → (key : KeyNo) (bytes : List ℕ) (o : Option ℕ) → found_at homes.keys key.0 bytes ≡ o → IsHolder S M key bytes o
is_holder S M homes kept key bytes (Some s) found = (kept.keys key bytes s).0 found
is_holder S M homes kept key bytes None found = λ s x at. by s x at (holds S key bytes x) refl
  where
    by : (s : ℕ) (x : Object) → get M s ≡ Some x → (b : Bool) → holds S key bytes x ≡ b → holds S key bytes x ≡ false
    by s x at false is = is
    by s x at true is = (let no : None ≡ Some s = sym found ∙ (kept.keys key bytes s).1 (x, at, is) in cc)

pub returns : goal.returns
returns c S M kept = is_holder S M c.args.self.now kept c.args.key c.args.bytes.now c.find_key.result (told_is S M c.args.self.now kept c.args.key c.args.bytes.now c.find_key.result (c.find_key.ensures S M kept))

-- Pages that are not what they were.
use Rattle.std.proofs.Common.{ℕ, ◌≡◌, ◌+◌, ◌^◌, ◌<◌, ◌≤◌, List, [], ◌∷◌, ◌++◌, None, Some, IfSome, subst, arith}
use Rattle.std.specs.declared.option.Option.{Option}
use Rattle.pss_base.specs.declared.damage.DamageKind.{DamageKind}
use Rattle.page_format.specs.Pages.{AreGiven, ArePages}
use Rattle.page_format.specs.Refusals.{IsPageRefusal}
use Rattle.page_format.specs.declared.fault.PageFault.{PageFault}
use Rattle.page_format.specs.declared.fault.PageFault.TheVariants as page
use Rattle.page_format.proofs.ExactPages.{pages_one_thing}

-- serials that are given are given up to a greater next one too
given_up_to : (next most : ℕ) (seen xs : List ℕ) → next ≤ most → AreGiven next seen xs → AreGiven most seen xs
given_up_to next most seen [] le are = tt
given_up_to next most seen (x ∷ xs) le are = (record { some = are.0.some; given = omega (arith, are.0.given, le); new = are.0.new }, given_up_to next most (seen ++ x ∷ []) xs le are.1)

pub lost_of : (content : Option (List ℕ)) (slots : List ℕ) (most at : ℕ) (k : DamageKind) (fault : PageFault) → most + 1 ≡ 2 ^ 64 → fault ≡ page.Damaged at k → IfSome content (IsPageRefusal most slots fault) → IfSome content (λ c. (next : ℕ) → next < 2 ^ 64 → ArePages next slots c → ⊥)
lost_of None slots most at k fault is e refused = tt
lost_of (Some c) slots most at k fault is e refused = λ next small pages.
    pages_one_thing.not_damaged most slots at k c (record { whole = pages.whole; given = given_up_to next most [] _ (omega (arith, small, is)) pages.given; packed = pages.packed }) (subst (λ (f : PageFault). IsPageRefusal most slots f c) e refused)

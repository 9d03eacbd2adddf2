-- Lists of two and of three words, and the one plan of words.
use Rattle.std.proofs.Common.{◌≡◌, ◌⊎◌, ⊎_elim, ℕ, List, [], ◌∷◌, length, get_or, slice_get, Some, sym, ap, ◌∙◌, arith}
use Rattle.std.specs.Fmt.{decimal}
use Rattle.std.proofs.lemmas.Fmt.{decimal_injective}
use Rattle.pss_daemon.specs.declared.forms.Plan.{Plan}
use Rattle.pss_daemon.specs.declared.forms.Plan.TheVariants.{Check, Init, Run, Demo}
use Rattle.pss_daemon.specs.Ends.{IsCheck, IsDemo, IsInit, IsNoPlan}
use Rattle.pss_daemon.specs.Forms.{HasOneName, HasTwoNames, IsPlanOf}

pub one_name : (words : List (List ℕ)) (command : List ℕ) → (length words ≡ 2) × (slice_get words 0 ≡ Some command) → HasOneName words command
one_name [] command h = absurd (omega (arith, h.0))
one_name (a ∷ []) command h = absurd (omega (arith, h.0))
one_name (a ∷ b ∷ []) command h = (b, cc)
one_name (a ∷ b ∷ c ∷ more) command h = absurd (omega (arith, h.0))

pub two_names : (words : List (List ℕ)) (command : List ℕ) → (length words ≡ 3) × (slice_get words 0 ≡ Some command) → HasTwoNames words command
two_names [] command h = absurd (omega (arith, h.0))
two_names (a ∷ []) command h = absurd (omega (arith, h.0))
two_names (a ∷ b ∷ []) command h = absurd (omega (arith, h.0))
two_names (a ∷ b ∷ c ∷ []) command h = (b, c, cc)
two_names (a ∷ b ∷ c ∷ d ∷ more) command h = absurd (omega (arith, h.0))

-- three words with this second one
pub second_name : (words : List (List ℕ)) (command second : List ℕ) → (length words ≡ 3) × (slice_get words 0 ≡ Some command) → second ≡ get_or words 1 second → (last : List ℕ) × (words ≡ command ∷ second ∷ last ∷ [])
second_name words command second h e =
    let names = two_names words command h in
    let same : second ≡ names.0 = e ∙ ap (λ ws. get_or ws 1 second) names.2 in
    (names.1, names.2 ∙ ap (λ w. command ∷ w ∷ names.1 ∷ []) (sym same))

-- the first bytes of the first words are the same
first_bytes : (words xs ys : List (List ℕ)) → words ≡ xs → words ≡ ys → get_or (get_or xs 0 []) 0 0 ≡ get_or (get_or ys 0 []) 0 0
first_bytes words xs ys e f = ap (λ ws. get_or (get_or ws 0 []) 0 0) (sym e ∙ f)

-- words of a demo say no other plan
pub demo_alone : (words : List (List ℕ)) (rounds : ℕ) (plan : Plan) → IsPlanOf words (Demo rounds 2) → IsPlanOf words plan → Demo rounds 2 ≡ plan
demo_alone words rounds (Check schema) is other = absurd (omega (arith, first_bytes words _ _ is.3.1 other.1.1))
demo_alone words rounds (Init schema store) is other = absurd (omega (arith, first_bytes words _ _ is.3.1 other.2.2))
demo_alone words rounds (Run schema store) is other = absurd (omega (arith, first_bytes words _ _ is.3.1 other.2.2))
demo_alone words rounds (Demo more store) is other =
    let texts : decimal rounds ≡ decimal more = ap (λ ws. get_or ws 1 []) (sym is.3.1 ∙ other.3.1) in
    let same : rounds ≡ more = decimal_injective rounds more (omega (arith, is.1)) (omega (arith, other.1)) texts in
    ap (λ n. Demo n 2) same ∙ ap (λ n. Demo more n) (sym other.2)

-- words that have one plan do not ask for another, nor for none
module _ (words : List (List ℕ)) (asked : Plan) (is : IsPlanOf words asked) (only : (plan : Plan) → IsPlanOf words plan → asked ≡ plan) where
  pub no_check : ((at : ℕ) → asked ≡ Check at → ⊥) → IsCheck words ⊎ IsNoPlan words → ⊥
  no_check other may = ⊎_elim (λ check. other check.0 (only (Check check.0) check.1)) (λ none. none asked is) may

  pub no_demo : ((rounds store : ℕ) → asked ≡ Demo rounds store → ⊥) → IsDemo words ⊎ IsNoPlan words → ⊥
  no_demo other may = ⊎_elim (λ demo. other demo.0 demo.1 (only (Demo demo.0 demo.1) demo.2)) (λ none. none asked is) may

  pub no_store : ((schema store : ℕ) → asked ≡ Init schema store → ⊥) → ((rounds store : ℕ) → asked ≡ Demo rounds store → ⊥) → IsInit words ⊎ IsDemo words → ⊥
  no_store init demo may = ⊎_elim (λ is. init is.0 is.1 (only (Init is.0 is.1) is.2)) (λ is. demo is.0 is.1 (only (Demo is.0 is.1) is.2)) may

use Rattle.std.proofs.Common.{◌≡◌, ◌∙◌, ◌<◌, ◌++◌, ◌∷◌, [], List, ℕ, length, map, take, get_or, sym, ap, arith, rules}
use Rattle.std.proofs.lemmas.List.{map_more, take_all}
use Rattle.psdl_lineage.specs.Descent.{concrete_homes}
use Rattle.psdl_check.specs.inner.Masks.{type_mask}
use Rattle.psdl_check.specs.inner.Texts.{text_in}
use Rattle.psdl_check.proofs.Conformed.{stands_there}
use Rattle.psdl_check.proofs.heirs.masks_of_types.Goals as goal

pub loop-place-preserved : goal.loop-place-preserved
loop-place-preserved c =
    let all = text_in c.args.text.now in
    let homes : List ℕ = concrete_homes all in
    let i : ℕ = c.loop-place.place in
    let mask : ℕ → ℕ = type_mask all c.args.masks.now in
    let within : i < length homes = omega (arith, c.loop-place-test.true, c.home_count-place-end.ensures) in
    let at : c.in-Some.home ≡ get_or homes i 0 = stands_there homes i c.in-Some.home within (search rules) in
    record {
      within = omega (arith, within);
      kept = c.in_ok-push.ensures.items
          ∙ ap (λ (l : List ℕ). l ++ c.mask_of_type.result ∷ []) c.loop-place.invariant.kept
          ∙ ap (λ (m : ℕ). map mask (take i homes) ++ m ∷ []) (c.mask_of_type.ensures ∙ ap mask at)
          ∙ sym (map_more mask homes i 0 within);
    }

pub returns : goal.returns
returns c =
    let all = text_in c.args.text.now in
    c.loop-place.invariant.kept ∙ ap (map (type_mask all c.args.masks.now)) (take_all c.loop-place.place (concrete_homes all) (omega (arith, c.loop-place-test.false, c.home_count-place-end.ensures)))

use Rattle.std.proofs.Common.{◌≡◌, ◌∙◌, ◌<◌, List, ℕ, Bool, length, map, filter, get_or, sym, ap, arith, rules}
use Rattle.std.proofs.lemmas.List.{take_all}
use Rattle.psdl_lineage.specs.Descent.{concrete_homes}
use Rattle.psdl_check.specs.Schemas.{home_no}
use Rattle.psdl_check.specs.inner.Masks.{has_bit}
use Rattle.psdl_check.specs.inner.Texts.{text_in}
use Rattle.psdl_check.proofs.Conformed.{home_put, home_left, stands_there}
use Rattle.psdl_check.proofs.Masks.{bit_tells}
use Rattle.psdl_check.proofs.heirs.homes_with.Goals as goal
use Rattle.psdl_check.proofs.heirs.homes_with.Goals.{then-has_bit+in_ok-push, else-has_bit}

pub loop-place-preserved : goal.loop-place-preserved
loop-place-preserved c =
    let all = text_in c.args.text.now in
    let homes : List ℕ = concrete_homes all in
    let i : ℕ = c.loop-place.place in
    let within : i < length homes = omega (arith, c.loop-place-test.true, c.home_count-place-end.ensures) in
    let at : c.in-Some.home ≡ get_or homes i 0 = stands_there homes i c.in-Some.home within (search rules) in
    let tells : (test : ℕ → Bool) → map (λ m. has_bit m c.args.bit) c.args.masks.now ≡ map test homes → c.has_bit.result ≡ test c.in-Some.home = λ test same.
    c.has_bit.ensures ∙ ap (λ (m : ℕ). has_bit m c.args.bit) c.mask_at.ensures ∙ bit_tells c.args.masks.now homes test c.args.bit i within same ∙ ap test (sym at) in
    record {
      within = omega (arith, within);
      homes = λ test same. elim c.if-has_bit.branch [
        | then-has_bit+in_ok-push w ↦
            home_put (home_no all) test homes i c.in-Some.home w.home_no.result c.loop-place.homes.items _ within at w.home_no.ensures (c.loop-place.invariant.homes test same) (sym (tells test same) ∙ w.if-has_bit.true)
            (ap (λ v. v.items) w.homes-is ∙ w.in_ok-push.ensures.items)
        | else-has_bit w ↦
            home_left (home_no all) test homes i c.in-Some.home c.loop-place.homes.items _ within at (c.loop-place.invariant.homes test same) (sym (tells test same) ∙ w.if-has_bit.false) (ap (λ v. v.items) w.homes-is)
      ];
    }

pub returns : goal.returns
returns c test same =
    let all = text_in c.args.text.now in
    c.loop-place.invariant.homes test same ∙ ap (λ (hs : List ℕ). map (home_no all) (filter test hs)) (take_all c.loop-place.place (concrete_homes all) (omega (arith, c.loop-place-test.false, c.home_count-place-end.ensures)))

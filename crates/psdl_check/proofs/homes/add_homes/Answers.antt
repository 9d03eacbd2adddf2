use Rattle.std.proofs.Common.{◌≡◌, ◌∙◌, ◌<◌, ◌≤◌, ◌+◌, List, ℕ, Some, false, true, length, take, sym, arith, subst, rules}
use Rattle.std.specs.List.{flat_map, slice_get}
use Rattle.std.proofs.lemmas.List.{take_all}
use Rattle.psdl_lineage.specs.Descent.{concrete_homes}
use Rattle.psdl_rules.specs.Faults.Limit.{most_shape}
use Rattle.psdl_standings.specs.TextLengths.{cut}
use Rattle.psdl_check.specs.Schemas.{introduced}
use Rattle.psdl_check.specs.inner.Made.{AreMade, lines_before}
use Rattle.psdl_check.specs.inner.Texts.{text_in}
use Rattle.psdl_check.proofs.FewKeys.{few_more, fits_in}
use Rattle.psdl_check.proofs.Homed.{cut_at, own_number}
use Rattle.psdl_check.proofs.Overlong.{over_is, longer, fits_more, passed_here, never_passed, take_step}
use Rattle.psdl_check.proofs.homes.add_homes.Goals as goal

pub loop-place-preserved : goal.loop-place-preserved
loop-place-preserved c =
    let all = text_in c.args.text.now in
    let i : ℕ = c.loop-place.place in
    let lt : i < length (concrete_homes all) = omega (arith, c.loop-place-test.true, c.home_count-place-end.ensures) in
    let there : slice_get (concrete_homes all) i ≡ Some c.in-Some.home = search rules in
    let few : length (flat_map (introduced all) (take i (concrete_homes all))) ≤ most_shape = omega (arith, c.loop-place.invariant.few, c.loop-place.invariant.short) in
    let parts = cut_at (concrete_homes all) i c.in-Some.home there in
    let total : c.in_ok-length.length.0 ≡ cut (length (lines_before all (i + 1))) =
    longer all i c.in-Some.home c.loop-place.length.0 c.in_ok-length.length.0 there c.loop-place.invariant.length
    (own_number all i c.in-Some.home c.loop-place.length.0 c.in_ok-length.length.0 there (c.in_ok-length.ensures.length (take i (concrete_homes all)) parts.0 (record { whole = parts.1; made = c.loop-place.invariant.made; few = few }))) in
    record {
      within = omega (arith, lt);
      ready = c.add_home.ensures.ready;
      made = subst (λ (l : List ℕ). AreMade all l c.add_home.new.making) (sym (take_step (concrete_homes all) i c.in-Some.home there))
          (c.in_ok-length.ensures.made (take i (concrete_homes all)) parts.0 (record { whole = parts.1; made = c.loop-place.invariant.made; few = few }) (sym c.is_over.ensures ∙ c.if-is_over.false));
      length = total;
      few = few_more all i c.in-Some.home there c.loop-place.invariant.few;
      short = fits_in all (i + 1) c.in_ok-length.length.0 total (sym c.is_over.ensures ∙ c.if-is_over.false);
      fits = fits_more all i c.loop-place.invariant.fits (over_is all (i + 1) c.in_ok-length.length.0 false total (sym c.if-is_over.false ∙ c.is_over.ensures));
    }

pub returns-then-is_over-clause-passing : goal.returns-then-is_over-clause-passing
returns-then-is_over-clause-passing c =
    let all = text_in c.args.text.now in
    let i : ℕ = c.loop-place.place in
    let lt : i < length (concrete_homes all) = omega (arith, c.loop-place-test.true, c.home_count-place-end.ensures) in
    let there : slice_get (concrete_homes all) i ≡ Some c.in-Some.home = search rules in
    let few : length (flat_map (introduced all) (take i (concrete_homes all))) ≤ most_shape = omega (arith, c.loop-place.invariant.few, c.loop-place.invariant.short) in
    let parts = cut_at (concrete_homes all) i c.in-Some.home there in
    let total : c.in_ok-length.length.0 ≡ cut (length (lines_before all (i + 1))) =
    longer all i c.in-Some.home c.loop-place.length.0 c.in_ok-length.length.0 there c.loop-place.invariant.length
    (own_number all i c.in-Some.home c.loop-place.length.0 c.in_ok-length.length.0 there (c.in_ok-length.ensures.length (take i (concrete_homes all)) parts.0 (record { whole = parts.1; made = c.loop-place.invariant.made; few = few }))) in
    sym (passed_here all i c.in-Some.home there lt c.loop-place.invariant.fits (over_is all (i + 1) c.in_ok-length.length.0 true total (sym c.if-is_over.true ∙ c.is_over.ensures)))

pub returns-clause-passing : goal.returns-clause-passing
returns-clause-passing c =
    let all = text_in c.args.text.now in
    sym (never_passed all c.loop-place.place (omega (arith, c.loop-place-test.false, c.loop-place.invariant.within, c.home_count-place-end.ensures)) c.loop-place.invariant.fits)

pub returns-clause-made : goal.returns-clause-made
returns-clause-made c =
    let all = text_in c.args.text.now in
    subst (λ (l : List ℕ). AreMade all l c.loop-place.making) (take_all c.loop-place.place (concrete_homes all) (omega (arith, c.loop-place-test.false, c.home_count-place-end.ensures))) c.loop-place.invariant.made

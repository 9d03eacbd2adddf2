use Rattle.std.proofs.Common.{◌≡◌, ◌∙◌, ◌+◌, ◌*◌, ◌/◌, ◌%◌, ◌<◌, ℕ, map, filter, ap, arith}
use Rattle.psdl_lineage.specs.Descent.{concrete_homes}
use Rattle.psdl_check.specs.Schemas.{home_no}
use Rattle.psdl_check.specs.inner.Masks.{is_of_heir}
use Rattle.psdl_check.specs.inner.Texts.{text_in}
use Rattle.psdl_check.proofs.Masks.{bits}
use Rattle.psdl_check.proofs.heirs.Heirs.referents.Goals as goal

pub returns-clause-homes : goal.returns-clause-homes
returns-clause-homes c =
    let all = text_in c.args.text.now in
    let d : ℕ = c.args.definition in
    let back : (d / 64) * 64 + d % 64 ≡ d = omega arith in
    let low : d % 64 < 64 = omega arith in
    c.in_ok-homes.ensures (is_of_heir all ((d / 64) * 64 + d % 64)) (ap (bits (d % 64)) c.masks.ensures ∙ c.in_ok-learn.ensures.group (d % 64) low)
    ∙ ap (λ (u : ℕ). map (home_no all) (filter (is_of_heir all u) (concrete_homes all))) back

use Rattle.std.proofs.Common.{ℕ, ◌+◌, ◌<◌, ◌≤◌, List, true, length, refl, sym, ap, subst, ◌∙◌, arith}
use Rattle.std.specs.Vec.{with_items}
use Rattle.storage_home.specs.Extents.{TurnsHeldIn}
use Rattle.storage_home.specs.Counts.{number_at, IsRaised}
use Rattle.storage_home.specs.Kept.{most}
use Rattle.storage_home.proofs.Taking.{lent_items, may_put_row, row_sum_fits, row_number_fits, row_home_some, row_home_there, row_counts_fit, row_with}
use Rattle.storage_home.proofs.parts.Parts.put_object.Goals as goal

pub overflow_add-self-2 : goal.overflow_add-self-2
overflow_add-self-2 c =
    let same = ap (λ (b : List ℕ). length b) c.as_slice.ensures in
    let fits = row_sum_fits c.args.self.now c.args.serial c.args.object c.args.keys.now c.requires in
    omega (arith, same, fits)

pub overflow_add-self-3 : goal.overflow_add-self-3
overflow_add-self-3 c = let fits = row_number_fits c.args.self.now c.args.serial c.args.object c.args.keys.now c.requires in omega (arith, fits)

pub raise-requires-clause-some : goal.raise-requires-clause-some
raise-requires-clause-some c = row_home_some c.args.self.now c.args.serial c.args.object c.args.keys.now c.requires

pub raise-requires-clause-there : goal.raise-requires-clause-there
raise-requires-clause-there c = subst (λ (l : List ℕ). c.args.object.home.0 ≤ length l) (sym c.deref_mut.ensures.value) (row_home_there c.args.self.now c.args.serial c.args.object c.args.keys.now c.requires)

pub raise-requires-clause-fits : goal.raise-requires-clause-fits
raise-requires-clause-fits c = subst (λ l. number_at l c.args.object.home.0 < most) (sym c.deref_mut.ensures.value) (row_counts_fit c.args.self.now c.args.serial c.args.object c.args.keys.now c.requires)

pub put_all-requires : goal.put_all-requires
put_all-requires c = may_put_row c.args.self.now c.args.serial c.args.object c.args.keys.now c.requires

pub returns-clause-kept : goal.returns-clause-kept
returns-clause-kept c m =
    let extents = lent_items c.args.self.now.extents _ c.hold_in.new.extents c.deref_mut-2.ensures.value c.hold_in.ensures.size in
    let counts = lent_items c.args.self.now.counts _ c.raise.new.counts c.deref_mut.ensures.value c.raise.auto.counts in
    row_with c.args.self.now c.args.serial c.args.object c.args.keys.now m
    (record { alloc = c.args.self.now.alloc; families = c.args.self.now.families; rows = c.put.new.rows; total = c.args.self.now.total + (16 + length c.as_slice.result.now); objects = c.args.self.now.objects + 1; extents = with_items c.args.self.now.extents c.hold_in.new.extents; counts = with_items c.args.self.now.counts c.raise.new.counts; keys = c.put_all.new.indexes })
    refl c.put.ensures.objects
    (ap (λ (b : List ℕ). c.args.self.now.total + (16 + length b)) c.as_slice.ensures) refl
    (subst (λ l. TurnsHeldIn c.args.self.now.extents.items l c.args.object.home.0 c.args.serial true) (sym extents) (subst (λ l. TurnsHeldIn l c.hold_in.new.extents c.args.object.home.0 c.args.serial true) c.deref_mut-2.ensures.value c.hold_in.ensures.held))
    (ap length extents ∙ c.hold_in.ensures.size ∙ ap length c.deref_mut-2.ensures.value)
    (subst (λ l. IsRaised c.args.self.now.counts.items l c.args.object.home.0) (sym counts) (subst (λ l. IsRaised l c.raise.new.counts c.args.object.home.0) c.deref_mut.ensures.value c.raise.ensures))
    (ap length counts ∙ c.raise.auto.counts ∙ ap length c.deref_mut.ensures.value)
    c.put_all.ensures.found

use Rattle.std.proofs.Common.{ℕ, ◌+◌, ◌-◌, ◌≡◌, ◌<◌, ◌≤◌, List, true, false, length, refl, sym, ap, subst, ◌∙◌}
use Rattle.std.specs.Vec.{with_items}
use Rattle.storage_home.specs.Extents.{is_entered_in, TurnsHeldIn}
use Rattle.storage_home.specs.Counts.{number_at, IsRaised}
use Rattle.storage_home.specs.Kept.{IsKept}
use Rattle.storage_home.proofs.Keeping.{without_none}
use Rattle.storage_home.proofs.Taking.{lent_items, nothing_behind, row_weighs, row_counts, row_home, row_counted, row_entered, row_without}
use Rattle.storage_home.proofs.parts.Parts.take_object.Goals as goal

pub returns-in_default-clause-kept : goal.returns-in_default-clause-kept
returns-in_default-clause-kept c m =
    let none = nothing_behind m.schema m.catalog c.args.self.now m.kept c.args.serial (sym c.in_default.ensures) in
    subst (λ M. IsKept m.schema M c.args.self.now) (sym (without_none m.catalog c.args.serial none)) m.kept

pub overflow_sub-self : goal.overflow_sub-self
overflow_sub-self c =
    subst (λ (b : List ℕ). 16 + length b ≤ c.args.self.now.total) (sym c.as_slice.ensures) (row_weighs c.requires.schema c.requires.catalog c.args.self.now c.requires.kept c.args.serial c.in-Some.object.now (sym c.in-Some.ensures))

pub overflow_sub-self-2 : goal.overflow_sub-self-2
overflow_sub-self-2 c = row_counts c.requires.schema c.requires.catalog c.args.self.now c.requires.kept c.args.serial c.in-Some.object.now (sym c.in-Some.ensures)

pub lower-requires-clause-there : goal.lower-requires-clause-there
lower-requires-clause-there c =
    subst (λ (l : List ℕ). c.in-Some.object.now.home.0 ≤ length l) (sym c.deref_mut.ensures.value) (row_home c.requires.schema c.requires.catalog c.args.self.now c.requires.kept c.args.serial c.in-Some.object.now (sym c.in-Some.ensures))

pub lower-requires-clause-some : goal.lower-requires-clause-some
lower-requires-clause-some c =
    subst (λ l. 0 < number_at l c.in-Some.object.now.home.0) (sym c.deref_mut.ensures.value) (row_counted c.requires.schema c.requires.catalog c.args.self.now c.requires.kept c.args.serial c.in-Some.object.now (sym c.in-Some.ensures))

pub release_in-requires : goal.release_in-requires
release_in-requires c =
    subst (λ l. is_entered_in l c.in-Some.object.now.home.0 c.args.serial ≡ true) (sym c.deref_mut-2.ensures.value) (row_entered c.requires.schema c.requires.catalog c.args.self.now c.requires.kept c.args.serial c.in-Some.object.now (sym c.in-Some.ensures))

pub returns-clause-kept : goal.returns-clause-kept
returns-clause-kept c m =
    let extents = lent_items c.args.self.now.extents _ c.release_in.new.extents c.deref_mut-2.ensures.value c.release_in.ensures.size in
    let counts = lent_items c.args.self.now.counts _ c.lower.new.counts c.deref_mut.ensures.value c.lower.auto.counts in
    row_without m.schema m.catalog c.args.self.now m.kept c.args.serial c.in-Some.object.now (sym c.in-Some.ensures)
    (record { alloc = c.args.self.now.alloc; families = c.args.self.now.families; rows = c.take.new.rows; total = c.args.self.now.total - (16 + length c.as_slice.result.now); objects = c.args.self.now.objects - 1; extents = with_items c.args.self.now.extents c.release_in.new.extents; counts = with_items c.args.self.now.counts c.lower.new.counts; keys = c.take_all.new.indexes })
    c.args.keys.now m.keys refl c.take.ensures.objects
    (ap (λ (b : List ℕ). c.args.self.now.total - (16 + length b)) c.as_slice.ensures) refl
    (subst (λ l. TurnsHeldIn c.args.self.now.extents.items l c.in-Some.object.now.home.0 c.args.serial false) (sym extents) (subst (λ l. TurnsHeldIn l c.release_in.new.extents c.in-Some.object.now.home.0 c.args.serial false) c.deref_mut-2.ensures.value c.release_in.ensures.held))
    (ap length extents ∙ c.release_in.ensures.size ∙ ap length c.deref_mut-2.ensures.value)
    (subst (λ l. IsRaised l c.args.self.now.counts.items c.in-Some.object.now.home.0) (sym counts) (subst (λ l. IsRaised c.lower.new.counts l c.in-Some.object.now.home.0) c.deref_mut.ensures.value c.lower.ensures))
    (ap length counts ∙ c.lower.auto.counts ∙ ap length c.deref_mut.ensures.value)
    c.take_all.ensures.found

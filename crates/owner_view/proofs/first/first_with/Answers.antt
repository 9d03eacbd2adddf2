use Rattle.std.proofs.Common.{◌≡◌, ◌≤◌, ◌+◌, List, take, length, sym, ap, subst, ◌∙◌, arith}
use Rattle.std.proofs.lemmas.Result.{IfOk-weaker}
use Rattle.pss_base.specs.declared.pid.Pid.{Pid}
use Rattle.storage_home.specs.Kept.{is_of}
use Rattle.pss_machine.specs.Changes.{listed}
use Rattle.pss_machine.specs.Homes.{extent}
use Rattle.owner_view.specs.Merging.{merged}
use Rattle.owner_view.specs.Overlay.{changes_in}
use Rattle.owner_view.proofs.Merging.{Rises, view_merged, merged_front}
use Rattle.owner_view.proofs.Ordered.{slots_of, slots_rise, slots_len, listed_slots}
use Rattle.owner_view.proofs.Told.{told_rise, fewer_told}
use Rattle.owner_view.proofs.first.first_with.Goals as goal

pub returns : goal.returns
returns g c = IfOk-weaker c.first_merged.result _ _
    (λ pids is v.
    let S = c.args.view.now.schema.now in
    let test = is_of S c.args.home in
    let es = c.args.view.now.overlay.now.states in
    let ss = c.args.serials.now in
    let changes = listed (changes_in c.args.view.now.overlay.now) in
    let told = listed_slots es ss c.requires.order in
    let rises : Rises 0 changes = subst (Rises 0) (sym told) (told_rise 0 (slots_of es ss) (slots_rise es 0 ss c.requires.order.rise)) in
    let whole = extent S v.catalog c.args.home in
    let committed : c.as_slice.result.now ≡ take c.in_ok-asked.asked whole = c.as_slice.ensures ∙ c.in_ok-committed.ensures S v.catalog v.shown in
    let many : 256 + length changes ≤ c.in_ok-asked.asked = omega (arith, c.in_ok-asked.ensures, slots_len es ss, fewer_told (slots_of es ss), ap length told) in
    is ∙ ap (λ (l : List Pid). take 256 (merged test changes l)) committed ∙ merged_front test changes 256 c.in_ok-asked.asked whole many ∙ ap (take 256) (sym (view_merged test v.catalog changes rises)))
    c.first_merged.ensures

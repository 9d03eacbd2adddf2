use Rattle.std.proofs.Common.{ℕ, ◌≡◌, ◌+◌, ◌<◌, List, length, slice_index, sym, subst}
use Rattle.page_format.specs.Pages.{ArePages}
use Rattle.page_format.proofs.Buffers.{some_all, some_weaker}
use Rattle.pss_recovery.specs.Loading.{entry_places}
use Rattle.pss_recovery.specs.Stands.{IsRefusal}
use Rattle.pss_recovery.specs.declared.fault.MountFault.TheVariants as fault
use Rattle.pss_recovery.proofs.Paged.{wrong_refused}
use Rattle.pss_recovery.proofs.paging.wrong_row.Goals as goal

pub returns-in-Ok-clause-refused : goal.returns-in-Ok-clause-refused
returns-in-Ok-clause-refused g c = λ S.
    some_weaker (g.W.Station.content c.args.w.now) _ _
    (λ image found paged wrong.
    subst (λ (n : ℕ). IsRefusal S (fault.Damaged (c.in-Ok.place + n) c.args.kind) image) (sym c.offset_of.ensures)
    (wrong_refused S c.args.root.now image c.args.index c.in-Ok.place c.args.kind paged wrong
    (subst (λ (l : List ℕ). (next : ℕ) → ArePages next l image → c.args.index < length (entry_places image l) → c.in-Ok.place ≡ slice_index (entry_places image l) c.args.index) c.as_slice.ensures found))) c.in-Ok.ensures.place

pub returns-in-Err-clause-refused : goal.returns-in-Err-clause-refused
returns-in-Err-clause-refused g c = λ S. some_all (g.W.Station.content c.args.w.now) _ (λ image paged wrong. tt)

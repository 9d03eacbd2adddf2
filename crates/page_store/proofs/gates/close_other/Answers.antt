use Rattle.std.proofs.Common.{ℕ, ◌≡◌, ◌≢◌, ◌-◌, ap, arith, subst, IfSome}
use Rattle.pss_disk.specs.Images.{Keeps}
use Rattle.pss_disk.specs.Moments.{Through}
use Rattle.redo_journal.specs.Journal.{IsClosed}
use Rattle.page_format.specs.Places.{area_start}
use Rattle.page_store.specs.Gates.{IsAnywhere}
use Rattle.page_store.proofs.Closing.{while_closing}
use Rattle.page_store.proofs.JournalThere.{while_gate}
use Rattle.page_store.proofs.gates.close_other.Goals as goal

pub returns-clause-stores : goal.returns-clause-stores
returns-clause-stores g c = λ root objects two has.
    let content = g.W.Station.content c.args.w.now in
    let e : area_start c.args.other ≡ area_start (1 - root.area) = ap area_start (let h : c.args.other ≡ 1 - root.area = omega (arith, two) in h) in
    while_closing root objects content _ _ has
    (subst (λ (n : ℕ). Through (g.W.Station.history c.args.w.now) (g.W.Station.history c.close_gate.new.w) (Keeps (λ i. i ≢ n) content)) e c.close_gate.ensures.images)
    (subst (λ (n : ℕ). IfSome content (λ x. IsClosed x n) → Through (g.W.Station.history c.args.w.now) (g.W.Station.history c.close_gate.new.w) (Keeps IsAnywhere content)) e c.close_gate.ensures.still)

pub returns-clause-journal : goal.returns-clause-journal
returns-clause-journal g c = λ position bodies has. while_gate position bodies (area_start c.args.other) (g.W.Station.content c.args.w.now) _ _ (omega (arith, c.requires.other)) has c.close_gate.ensures.images

use Rattle.std.proofs.Common.{◌≡◌, ◌-◌, ap, arith}
use Rattle.std.proofs.lemmas.Result.{on_ok_weaker}
use Rattle.page_format.specs.Places.{area_start}
use Rattle.page_store.proofs.Opening.{then_open, while_opening}
use Rattle.page_store.proofs.JournalThere.{while_gate}
use Rattle.page_store.proofs.gates.open_other.Goals as goal

pub returns-clause-stores : goal.returns-clause-stores
returns-clause-stores g c = λ root new objects packed two ready.
    let e : area_start c.args.other ≡ area_start (1 - root.area) = ap area_start (let h : c.args.other ≡ 1 - root.area = omega (arith, two) in h) in
    while_opening root new objects packed (area_start c.args.other) (g.W.Station.content c.args.w.now) _ _ e ready c.set_gate.ensures.images

pub returns-clause-opened : goal.returns-clause-opened
returns-clause-opened g c =
    on_ok_weaker c.set_gate.result (λ is. λ root new objects packed ready. then_open root new objects packed (area_start c.args.other) (g.W.Station.content c.args.w.now) (g.W.Station.content c.set_gate.new.station) is ready) c.set_gate.ensures.content

pub returns-clause-journal : goal.returns-clause-journal
returns-clause-journal g c = λ position bodies has. while_gate position bodies (area_start c.args.other) (g.W.Station.content c.args.w.now) _ _ (omega (arith, c.requires.other)) has c.set_gate.ensures.images

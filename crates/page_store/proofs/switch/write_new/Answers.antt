use Rattle.std.proofs.Common.{◌≡◌, ◌^◌, ◌<◌}
use Rattle.std.specs.Option.{option_map}
use Rattle.page_store.specs.Switch.{IsNextOf, Next, Old}
use Rattle.page_store.specs.inner.Switching.{LaysReady}
use Rattle.page_store.proofs.Laid.{laid}
use Rattle.page_store.proofs.Switching.{on_ok_two, then_ready_of, while_laid_of}
use Rattle.page_store.proofs.switch.write_new.Goals as goal

pub returns-clause-stores : goal.returns-clause-stores
returns-clause-stores g c = λ old next is may.
    while_laid_of old next c.args.new.now c.args.pages.now is (g.W.Station.content c.args.w.now) (g.W.Station.history c.args.w.now) (g.W.Station.history c.lay_root.new.w) may c.lay_root.ensures.images

pub returns-clause-ready : goal.returns-clause-ready
returns-clause-ready g c =
    let new = c.args.new.now in
    let pages = c.args.pages.now in
    let before = g.W.Station.content c.args.w.now in
    let after = g.W.Station.content c.lay_root.new.w in
    on_ok_two c.lay_root.result (after ≡ option_map (laid new pages) before) (new.next < 2 ^ 64) ((old : Old) (next : Next) → IsNextOf old next new pages → LaysReady old next before after)
    (λ is given. λ old next of. then_ready_of old next new pages of before after is c.requires.limits c.requires.pages given) c.lay_root.ensures.content c.lay_root.ensures.next

use Rattle.std.proofs.Common.{sym, ◌∙◌}
use Rattle.page_format.proofs.Answered.{after_one}
use Rattle.page_format.proofs.Settled.{settled_gone, settled_left}
use Rattle.page_format.proofs.settling.Settling.release.Goals as goal

pub returns-in-Some : goal.returns-in-Some
returns-in-Some c =
    after_one c.push.result c.push.ensures.ok (λ new puts next lt so_far.
    settled_left puts c.args.self.now c.in-Some.stored c.put_of.result c.push.new.self next (sym c.take.ensures.value ∙ c.in-Some.is) c.put_of.ensures.put c.put_of.ensures.storable lt so_far new)

pub returns-in-None : goal.returns-in-None
returns-in-None c puts next lt so_far = settled_gone puts c.args.self.now next (sym c.take.ensures.value ∙ c.in-None.is) lt so_far

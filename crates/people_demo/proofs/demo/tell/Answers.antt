use Rattle.std.proofs.Common.{ℕ, List, inl, inr, ap, refl, ◌∙◌}
use Rattle.std.specs.Io.KnownBytes.{append_known}
use Rattle.pss_disk.proofs.Passing.{weaker}
use Rattle.people_demo.proofs.demo.tell.Goals as goal

pub returns-in-Ok-speak-clause-told : goal.returns-in-Ok-speak-clause-told
returns-in-Ok-speak-clause-told g c = c.in-Ok-speak.ensures.said ∙ ap (λ (line : List ℕ). append_known (g.W.Station.now c.args.station.now).spoken line) (c.as_slice.ensures ∙ c.in-Ok.ensures)

pub returns-in-Ok-speak-clause-moments : goal.returns-in-Ok-speak-clause-moments
returns-in-Ok-speak-clause-moments g c =
    let told = c.in-Ok-speak.ensures.said ∙ ap (λ (line : List ℕ). append_known (g.W.Station.now c.args.station.now).spoken line) (c.as_slice.ensures ∙ c.in-Ok.ensures) in
    weaker _ _ _ _ (λ m has. inl (inr (has.spoken_is ∙ told))) c.speak.ensures.moments

pub returns-clause-moments : goal.returns-clause-moments
returns-clause-moments g c = weaker _ _ _ _ (λ m has. inr (refl, has.spoken_is)) c.speak.ensures.moments

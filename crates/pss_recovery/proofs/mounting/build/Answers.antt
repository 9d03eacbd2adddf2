use Rattle.std.proofs.Common.{ap, ◌∙◌}
use Rattle.pss_recovery.specs.declared.mounting.Mounted.{Mounted}
use Rattle.pss_recovery.proofs.mounting.build.Goals as goal

pub returns : goal.returns
returns c = record {
  room = c.in_ok-note.ensures.room;
  pages_ = ap (λ (m : Mounted). m.store.pages) c.built.ensures ∙ c.in_ok-note.ensures.is;
  journal_ = ap (λ (m : Mounted). m.store.journal) c.built.ensures;
  epoch_ = ap (λ (m : Mounted). m.store.epoch) c.built.ensures;
  next_ = ap (λ (m : Mounted). m.store.next) c.built.ensures;
  homes_ = ap (λ (m : Mounted). m.homes) c.built.ensures;
  answer = ap (λ (m : Mounted). m.next) c.built.ensures;
}

use Rattle.std.proofs.Common.{◌++◌, ◌-◌, length, ap, ◌∙◌}
use Rattle.page_store.specs.Kept.{Kept}
use Rattle.pss_recovery.proofs.mounting.note.Goals as goal

pub returns : goal.returns
returns c = record {
  room = c.note_reserve.new.self.room - length c.args.puts;
  is = c.note_all.ensures ∙ ap (λ (k : Kept). record k { noted = k.noted ++ c.args.puts; room = c.note_reserve.new.self.room - length c.args.puts }) c.in_ok-note_reserve.ensures.ok;
}

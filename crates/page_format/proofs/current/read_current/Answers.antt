use Rattle.std.proofs.Common.{◌≤◌, List, length, ℕ}
use Rattle.redo_journal.specs.Journal.{journal_end}
use Rattle.page_format.specs.Refusals.{IsRootRefusal}
use Rattle.page_format.specs.inner.Current.{IsCurrentHead}
use Rattle.page_format.specs.inner.Heads.{IsHead}
use Rattle.page_format.proofs.Buffers.{err_told, ok_told, some_both}
use Rattle.page_format.proofs.current.read_current.Goals as goal

pub returns-clause-current : goal.returns-clause-current
returns-clause-current g c =
    ok_told c.choose.result (g.W.Station.content c.args.w.now) (g.W.Station.content c.read_head.new.w) (IsHead 0 c.in-Ok.first) (IsHead 1 c.in-Ok-read_head.second) IsCurrentHead c.in-Ok.ensures.reads.same c.in-Ok.ensures.head c.in-Ok-read_head.ensures.head c.choose.ensures.current

pub returns-clause-refused : goal.returns-clause-refused
returns-clause-refused g c =
    let whole : List ℕ → Type 0 = λ image. (journal_end ≤ length image) × IsHead 0 c.in-Ok.first image in
    err_told c.choose.result (g.W.Station.content c.args.w.now) (g.W.Station.content c.read_head.new.w) whole (IsHead 1 c.in-Ok-read_head.second) IsRootRefusal c.in-Ok.ensures.reads.same
    (some_both (g.W.Station.content c.args.w.now) (λ image. journal_end ≤ length image) (IsHead 0 c.in-Ok.first) whole (λ image long one. (long, one)) c.requires.long c.in-Ok.ensures.head) c.in-Ok-read_head.ensures.head
    (λ image one two. c.choose.ensures.refused image one.0 one.1 two)

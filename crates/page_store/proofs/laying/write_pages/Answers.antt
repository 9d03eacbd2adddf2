use Rattle.std.proofs.Common.{◌-◌, List, ap, arith, drop, length, length-drop, subst, sym, take, ◌∙◌}
use Rattle.page_format.specs.Written.{AreWritable}
use Rattle.page_store.specs.inner.Laying.{IsApart}
use Rattle.page_format.specs.declared.new_page.NewPage.{NewPage}
use Rattle.page_store.proofs.PageRuns.{apart_dropped, next_content, rest_is, writable_dropped}
use Rattle.page_store.proofs.laying.write_pages.Goals as goal

pub write_run-requires-clause-writable : goal.write_run-requires-clause-writable
write_run-requires-clause-writable g c = subst AreWritable (sym (rest_is c.args.pages.now c.runs.k)) (writable_dropped c.args.pages.now c.runs.k c.requires.writable)

pub returns-in_err-k-clause-stretch : goal.returns-in_err-k-clause-stretch
returns-in_err-k-clause-stretch g c = λ area content first before s.
    let pages = c.args.pages.now in
    let k = c.runs.k in
    c.in_err-k.ensures.stretch area pages content first before (λ i apart. subst (λ (l : List NewPage). IsApart l i) (sym (rest_is pages k)) (apart_dropped pages k i apart)) (c.runs.invariant.stretch area content first before s)

pub runs-preserved : goal.runs-preserved
runs-preserved g c =
    let pages = c.args.pages.now in
    let k = c.runs.k in
    let n = c.in_ok-k.field-0 in
    let rest = take (length pages - k) (drop k pages) in
    record {
      within = omega (arith, c.in_ok-k.ensures.within.1, ap length (rest_is pages k), c.runs.invariant.within, length-drop k pages);
      size = c.in_ok-k.ensures.size ∙ c.runs.invariant.size;
      content = next_content c.args.epoch k n pages rest (g.W.Station.content c.args.w.now) (g.W.Station.content c.runs.w) (g.W.Station.content c.write_run.new.w) (rest_is pages k) c.runs.invariant.content c.in_ok-k.ensures.content;
      stretch = λ area content first before s. c.in_ok-k.ensures.stretch area pages content first before (λ i apart. subst (λ (l : List NewPage). IsApart l i) (sym (rest_is pages k)) (apart_dropped pages k i apart)) (c.runs.invariant.stretch area content first before s);
      cause = c.in_ok-k.ensures.cause.kept ∙ c.runs.invariant.cause;
      other = c.in_ok-k.ensures.other ∙ c.runs.invariant.other;
    }

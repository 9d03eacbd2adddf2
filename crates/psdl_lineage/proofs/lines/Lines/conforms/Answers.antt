use Rattle.std.proofs.Common.{◌≡◌, ◌∙◌, ℕ, List, ap}
use Rattle.psdl_lineage.specs.Descent.{has}
use Rattle.psdl_lineage.specs.inner.Lines.{AreOf}
use Rattle.psdl_lineage.proofs.lines.Lines.conforms.Goals as goal

pub reach-requires-clause-on : goal.reach-requires-clause-on
reach-requires-clause-on c =
    let of : AreOf c.args.graph.now c.be_at.new.self.marks c.be_at.new.self.walk c.args.from = c.be_at.ensures.lines.of c.args.from c.in_ok-be_at.ensures.at in
    of.on

pub returns-clause-lines : goal.returns-clause-lines
returns-clause-lines c =
    let of : AreOf c.args.graph.now c.be_at.new.self.marks c.be_at.new.self.walk c.args.from = c.be_at.ensures.lines.of c.args.from c.in_ok-be_at.ensures.at in
    record {
      sized = c.reach.ensures.sized ∙ c.be_at.ensures.lines.sized;
      of = λ n e.
          let same : c.args.from ≡ n = cc in
          rw (← same) (record { on = c.in_ok-found.ensures.on; ends = c.in_ok-found.ensures.same ∙ of.ends });
    }

pub returns-clause-conforms : goal.returns-clause-conforms
returns-clause-conforms c =
    let of : AreOf c.args.graph.now c.be_at.new.self.marks c.be_at.new.self.walk c.args.from = c.be_at.ensures.lines.of c.args.from c.in_ok-be_at.ensures.at in
    c.in_ok-found.ensures.reached ∙ ap (λ (l : List ℕ). has l c.args.to) of.ends

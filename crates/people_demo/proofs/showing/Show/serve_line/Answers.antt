use Rattle.people_demo.proofs.OneLine.{shows_line}
use Rattle.people_demo.proofs.showing.Show.serve_line.Goals as goal

pub returns-in-Ok : goal.returns-in-Ok
returns-in-Ok g c = record {
  shows = shows_line c.args.self.now _ c.args.line.now (g.W.Station.content c.args.station.now) (g.W.Station.content c.reply_to.new.station) c.in-Ok.reply
      c.in-Ok.ensures.goes c.in-Ok.ensures.reply c.in-Ok.ensures.saved c.add_answer.ensures;
  settled = c.in-Ok.ensures.settled;
  silent = c.reply_to.ensures.silent;
  cause = c.in-Ok.ensures.cause;
}

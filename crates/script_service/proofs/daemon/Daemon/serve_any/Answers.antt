use Rattle.script_service.proofs.Told.{ready, goes_serves, unspoken}
use Rattle.script_service.proofs.Lines.{held_then, performing, saying, speaking}
use Rattle.script_service.proofs.daemon.Daemon.serve_any.Goals as goal

pub reply_to-requires-clause-ready : goal.reply_to-requires-clause-ready
reply_to-requires-clause-ready g c = ready c.args.self.now.connector c.args.self.now.served c.requires.stands.0 c.requires.stands.1.serves c.requires.few

pub reply_to-requires-clause-settled : goal.reply_to-requires-clause-settled
reply_to-requires-clause-settled g c = c.requires.stands.1.held.settled

-- ---- a reply is spoken

pub returns-in-Ok-Some-clause-went : goal.returns-in-Ok-Some-clause-went
returns-in-Ok-Some-clause-went g c = λ went state is.
    let e = c.in-Ok-Some.ensures in
    record {
      serves = goes_serves c.args.self.now.connector c.reply_to.new.connector c.args.self.now.served state c.args.line.now is.serves e.goes;
      held = rw (c.say.ensures.content, c.say.ensures.disk)
          (held_then g.W.Station.content g.W.Station.now g.W.Station.history c.a_mounted_store_stands.ensures c.args.self.now.connector c.args.self.now.served state c.args.line.now is.serves
          c.reply_to.new.connector c.args.station.now c.reply_to.new.station is.held e.saved e.emptied e.still e.settled);
    }

pub returns-in-Ok-Some-clause-speaks : goal.returns-in-Ok-Some-clause-speaks
returns-in-Ok-Some-clause-speaks g c = λ state is.
    speaking g.W.Station.content g.W.Station.now g.W.Station.history c.a_mounted_store_stands.ensures c.args.self.now.connector c.args.self.now.served state c.args.line.now is.serves
    c.say.result c.in-Ok-Some.reply _ _ _ (rw c.in-Ok-Some.field-0-is at c.in-Ok-Some.ensures.reply) c.in-Ok-Some.ensures.silent.said c.say.ensures.speaks

pub returns-in-Ok-Some-clause-moments : goal.returns-in-Ok-Some-clause-moments
returns-in-Ok-Some-clause-moments g c = λ state is.
    let e = c.in-Ok-Some.ensures in
    let content = g.W.Station.content in
    let now = g.W.Station.now in
    let history = g.W.Station.history in
    let law = c.a_mounted_store_stands.ensures in
    let old = c.args.self.now.connector in
    let n = c.args.self.now.served in
    let line = c.args.line.now in
    saying content now history law old n state line is.serves c.say.result c.reply_to.new.connector c.args.station.now c.reply_to.new.station c.say.new.station
    (held_then content now history law old n state line is.serves c.reply_to.new.connector c.args.station.now c.reply_to.new.station is.held e.saved e.emptied e.still e.settled)
    (speaking content now history law old n state line is.serves c.say.result c.in-Ok-Some.reply _ _ _ (rw c.in-Ok-Some.field-0-is at e.reply) e.silent.said c.say.ensures.speaks)
    (performing content now history law old n state line is.serves c.say.result (now c.say.new.station).spoken c.args.station.now c.reply_to.new.station is.held e.images e.silent.moments)
    c.say.ensures.moments

-- ---- there is none

pub returns-in-Ok-None-clause-went : goal.returns-in-Ok-None-clause-went
returns-in-Ok-None-clause-went g c = λ went state is.
    let e = c.in-Ok-None.ensures in
    record {
      serves = goes_serves c.args.self.now.connector c.reply_to.new.connector c.args.self.now.served state c.args.line.now is.serves e.goes;
      held = held_then g.W.Station.content g.W.Station.now g.W.Station.history c.a_mounted_store_stands.ensures c.args.self.now.connector c.args.self.now.served state c.args.line.now is.serves
          c.reply_to.new.connector c.args.station.now c.reply_to.new.station is.held e.saved e.emptied e.still e.settled;
    }

pub returns-in-Ok-None-clause-speaks : goal.returns-in-Ok-None-clause-speaks
returns-in-Ok-None-clause-speaks g c = λ state is.
    unspoken c.args.self.now.connector c.args.self.now.served state c.args.line.now is.serves (rw c.in-Ok-None.field-0-is at c.in-Ok-None.ensures.reply) (g.W.Station.now c.args.station.now).spoken (g.W.Station.now c.reply_to.new.station).spoken c.in-Ok-None.ensures.silent.said

pub returns-in-Ok-None-clause-moments : goal.returns-in-Ok-None-clause-moments
returns-in-Ok-None-clause-moments g c = λ state is.
    performing g.W.Station.content g.W.Station.now g.W.Station.history c.a_mounted_store_stands.ensures c.args.self.now.connector c.args.self.now.served state c.args.line.now is.serves
    _ _ c.args.station.now c.reply_to.new.station is.held c.in-Ok-None.ensures.images c.in-Ok-None.ensures.silent.moments

-- ---- a call failed

pub returns-in-Err-DiskFault-clause-went : goal.returns-in-Err-DiskFault-clause-went
returns-in-Err-DiskFault-clause-went g c = λ went. absurd cc

pub returns-in-Err-DiskFault-clause-speaks : goal.returns-in-Err-DiskFault-clause-speaks
returns-in-Err-DiskFault-clause-speaks g c = λ state is. c.reply_to.ensures.silent.said

pub returns-in-Err-DiskFault-clause-moments : goal.returns-in-Err-DiskFault-clause-moments
returns-in-Err-DiskFault-clause-moments g c = λ state is.
    performing g.W.Station.content g.W.Station.now g.W.Station.history c.a_mounted_store_stands.ensures c.args.self.now.connector c.args.self.now.served state c.args.line.now is.serves
    _ _ c.args.station.now c.reply_to.new.station is.held c.reply_to.ensures.images c.reply_to.ensures.silent.moments

pub returns-in-Err-NoMemory-clause-went : goal.returns-in-Err-NoMemory-clause-went
returns-in-Err-NoMemory-clause-went g c = λ went. absurd cc

pub returns-in-Err-NoMemory-clause-speaks : goal.returns-in-Err-NoMemory-clause-speaks
returns-in-Err-NoMemory-clause-speaks g c = λ state is. c.reply_to.ensures.silent.said

pub returns-in-Err-NoMemory-clause-moments : goal.returns-in-Err-NoMemory-clause-moments
returns-in-Err-NoMemory-clause-moments g c = λ state is.
    performing g.W.Station.content g.W.Station.now g.W.Station.history c.a_mounted_store_stands.ensures c.args.self.now.connector c.args.self.now.served state c.args.line.now is.serves
    _ _ c.args.station.now c.reply_to.new.station is.held c.reply_to.ensures.images c.reply_to.ensures.silent.moments

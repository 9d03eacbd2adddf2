use Rattle.script_text.specs.Meaning.{meaning}
use Rattle.connector.specs.Keeping.{schema_of, limits_of, store_of}
use Rattle.script_service.proofs.Nothing.{passes_silent, passes_wrong, stays_silent, stays_wrong}
use Rattle.script_service.proofs.Short.{short_rest}
use Rattle.script_service.proofs.replying.reply_to_any.Goals as goal

pub reply_to_command-requires-clause-rest : goal.reply_to_command-requires-clause-rest
reply_to_command-requires-clause-rest g c = short_rest c.args.text.now c.in-Ok-Some.command c.requires.short (rw c.in-Ok-Some.field-0-is at c.in-Ok-Some.ensures.reads).0

-- ---- a line that says no command

pub returns-in-Ok-None-clause-saved : goal.returns-in-Ok-None-clause-saved
returns-in-Ok-None-clause-saved g c = λ k keeps.
    stays_silent g.W.Station.content g.W.Station.history (schema_of c.args.connector.now) (limits_of c.args.connector.now) k (store_of c.args.connector.now) c.args.station.now (meaning c.args.text.now)
    (rw c.in-Ok-None.field-0-is at c.in-Ok-None.ensures.meaning)

pub returns-in-Ok-None-clause-images : goal.returns-in-Ok-None-clause-images
returns-in-Ok-None-clause-images g c = λ k keeps.
    passes_silent g.W.Station.content g.W.Station.history (schema_of c.args.connector.now) (limits_of c.args.connector.now) k (store_of c.args.connector.now) c.args.station.now (meaning c.args.text.now)
    (rw c.in-Ok-None.field-0-is at c.in-Ok-None.ensures.meaning)

pub returns-in-Err-clause-saved : goal.returns-in-Err-clause-saved
returns-in-Err-clause-saved g c = λ k keeps.
    stays_wrong g.W.Station.content g.W.Station.history (schema_of c.args.connector.now) (limits_of c.args.connector.now) k (store_of c.args.connector.now) c.args.station.now c.in-Err.fault.column (meaning c.args.text.now)
    c.in-Err.ensures.meaning

pub returns-in-Err-clause-images : goal.returns-in-Err-clause-images
returns-in-Err-clause-images g c = λ k keeps.
    passes_wrong g.W.Station.content g.W.Station.history (schema_of c.args.connector.now) (limits_of c.args.connector.now) k (store_of c.args.connector.now) c.args.station.now c.in-Err.fault.column (meaning c.args.text.now)
    c.in-Err.ensures.meaning

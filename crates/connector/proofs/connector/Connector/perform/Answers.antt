use Rattle.std.proofs.Common.{refl}
use Rattle.connector.proofs.Keepings.{is_at, any_at, is_behind, kept_on}
use Rattle.connector.proofs.connector.Connector.perform.Goals as goal

pub perform_counted-performed-requires-clause-any : goal.perform_counted-performed-requires-clause-any
perform_counted-performed-requires-clause-any g c = any_at c.args.self.now c.requires.kept c.requires.left

pub perform_counted-performed-requires-clause-behind : goal.perform_counted-performed-requires-clause-behind
perform_counted-performed-requires-clause-behind g c = is_behind c.args.self.now c.requires.kept

pub returns-in-Ok-clause-reply : goal.returns-in-Ok-clause-reply
returns-in-Ok-clause-reply g c k keeps = (c.in-Ok.ensures.comes k (is_at c.args.self.now k keeps c.requires.left)).reply_is

pub returns-in-Ok-clause-kept : goal.returns-in-Ok-clause-kept
returns-in-Ok-clause-kept g c k keeps =
    let at = is_at c.args.self.now k keeps c.requires.left in
    kept_on c.args.self.now _ k c.args.command.now c.in-Ok.reply keeps (c.in-Ok.ensures.comes k at) refl (c.in-Ok.ensures.next k at)

pub returns-in-Ok-clause-saved : goal.returns-in-Ok-clause-saved
returns-in-Ok-clause-saved g c k keeps = c.in-Ok.ensures.saved k (is_at c.args.self.now k keeps c.requires.left)

pub returns-in-Ok-clause-images : goal.returns-in-Ok-clause-images
returns-in-Ok-clause-images g c k keeps = c.in-Ok.ensures.images k (is_at c.args.self.now k keeps c.requires.left)

pub returns-in-Err-clause-images : goal.returns-in-Err-clause-images
returns-in-Err-clause-images g c k keeps = c.in-Err.ensures.images k (is_at c.args.self.now k keeps c.requires.left)

pub returns-in-Err-clause-memory : goal.returns-in-Err-clause-memory
returns-in-Err-clause-memory g c is k keeps = c.in-Err.ensures.memory is k (is_at c.args.self.now k keeps c.requires.left)

pub returns-in-Ok-clause-still : goal.returns-in-Ok-clause-still
returns-in-Ok-clause-still g c other k keeps = c.in-Ok.ensures.still other k (is_at c.args.self.now k keeps c.requires.left)

pub returns-in-Err-clause-still : goal.returns-in-Err-clause-still
returns-in-Err-clause-still g c other k keeps = c.in-Err.ensures.still other k (is_at c.args.self.now k keeps c.requires.left)

pub returns-in-Ok-clause-schema : goal.returns-in-Ok-clause-schema
returns-in-Ok-clause-schema g c = (c.in-Ok.ensures.comes c.requires.kept.kept (is_at c.args.self.now c.requires.kept.kept c.requires.kept.keeps c.requires.left)).stay.schema

pub returns-in-Ok-clause-limits : goal.returns-in-Ok-clause-limits
returns-in-Ok-clause-limits g c = (c.in-Ok.ensures.comes c.requires.kept.kept (is_at c.args.self.now c.requires.kept.kept c.requires.kept.keeps c.requires.left)).stay.limits

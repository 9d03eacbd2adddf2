use Rattle.std.proofs.Common.{sym, ◌∙◌}
use Rattle.pss_machine.specs.Kept.{copies_of}
use Rattle.pss_asking.specs.Telling.{plain_asked}
use Rattle.connector_parts.proofs.Bounds.{copies_at}
use Rattle.data_calls.proofs.Granted.{is_many, is_last, is_full, is_within}
use Rattle.data_calls.proofs.limits.limited.Goals as goal

pub returns-then-is_many : goal.returns-then-is_many
returns-then-is_many c a =
    is_many c.args.parts.now.limits a.kept.next a.is.owner (copies_of a.kept c.args.acting.session) (plain_asked c.args.asked.now)
    (sym (c.is_many.ensures a.kept a.is.owner a.at.stands.accounts a.is.owner_there) ∙ c.if-is_many.true)

pub returns-then-is_last : goal.returns-then-is_last
returns-then-is_last c a =
    is_last c.args.parts.now.limits a.kept.next a.is.owner (copies_of a.kept c.args.acting.session) (plain_asked c.args.asked.now)
    (sym (c.is_many.ensures a.kept a.is.owner a.at.stands.accounts a.is.owner_there) ∙ c.if-is_many.false)
    (sym (c.is_last.ensures.is a.kept a.at.stands.accounts) ∙ c.if-is_last.true)

pub returns-then-is_beyond : goal.returns-then-is_beyond
returns-then-is_beyond c a =
    is_full c.args.parts.now.limits a.kept.next a.is.owner (copies_of a.kept c.args.acting.session) (plain_asked c.args.asked.now)
    (sym (c.is_many.ensures a.kept a.is.owner a.at.stands.accounts a.is.owner_there) ∙ c.if-is_many.false)
    (sym (c.is_last.ensures.is a.kept a.at.stands.accounts) ∙ c.if-is_last.false)
    (sym (c.is_beyond.ensures a.kept a.at (copies_at c.args.parts.now a.kept a.at c.args.acting.session a.is.session a.is.there)) ∙ c.if-is_beyond.true)

pub returns : goal.returns
returns c a = (
  is_within c.args.parts.now.limits a.kept.next a.is.owner (copies_of a.kept c.args.acting.session) (plain_asked c.args.asked.now)
      (sym (c.is_many.ensures a.kept a.is.owner a.at.stands.accounts a.is.owner_there) ∙ c.if-is_many.false)
      (sym (c.is_last.ensures.is a.kept a.at.stands.accounts) ∙ c.if-is_last.false)
      (sym (c.is_beyond.ensures a.kept a.at (copies_at c.args.parts.now a.kept a.at c.args.acting.session a.is.session a.is.there)) ∙ c.if-is_beyond.false),
  c.is_last.ensures.left a.kept a.at.stands.accounts c.if-is_last.false,
)

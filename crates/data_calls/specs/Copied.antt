-- What a session's own copies tell.
use Rattle.std.specs.Prelude.{ℕ, ◌≡◌, Option, Some, None, if◌then◌else◌}
use Rattle.pss_base.specs.declared.pid.Pid.{Pid}
use Rattle.pss_catalog.specs.Catalog.{Catalog, has}
use Rattle.pss_machine.specs.Operations.{PlainAnswer, Found, Gone, Get, Follow, Ask, plain_answer}
use Rattle.pss_machine.specs.Owners.{view, step_on_view}
use Rattle.pss_machine.specs.Kept.{Kept, copies_of}
use Rattle.pss_machine.specs.Asking.{Asked}
use Rattle.pss_machine.specs.Stepping.{copied_answer}
use Rattle.tx_session.specs.Following.{RefersTo}
use Rattle.connector_parts.specs.declared.parts.Parts.{Parts}
use Rattle.data_calls.specs.declared.acting.Acting.{Acting}
use Rattle.data_calls.specs.declared.copied.Told.{Told}
use Rattle.data_calls.specs.declared.copied.Told.TheVariants.{Nothing, Answer, Lead}
use Rattle.data_calls.specs.Acting.{IsActing}
use Rattle.data_calls.specs.Asking.{MayTake}

-- where a reference leads
abbrev pub lead_to : Catalog → Pid → PlainAnswer
lead_to M q = if has M q then Found q else Gone q

-- the answer in a catalog, where there is one
abbrev pub told_as : Catalog → Told → Option PlainAnswer
told_as M Nothing = None
told_as M (Answer answer) = Some (plain_answer answer)
told_as M (Lead q) = Some (lead_to M q)

-- the copy of the entry that is named tells this
abbrev pub copy_tells : (k : Kept) {acting : Acting} → IsActing k acting → Asked → Told → Type 0
copy_tells k {acting = acting} is asked told = told_as (view k.catalog is.owner) told ≡ copied_answer k.catalog is.owner (copies_of k acting.session) asked

-- a step that a copy answers may be taken
pub record MayTell (c : Parts) (acting : Acting) (asked : Asked) (answer : PlainAnswer) : Type 0 where
  pub take : MayTake c acting asked
  pub told : copied_answer take.asks.kept.catalog take.asks.is.owner (copies_of take.asks.kept acting.session) asked ≡ Some answer

-- or one that it answers by where a reference leads
pub record MayLead (c : Parts) (acting : Acting) (asked : Asked) (q : Pid) : Type 0 where
  pub take : MayTake c acting asked
  pub told : copied_answer take.asks.kept.catalog take.asks.is.owner (copies_of take.asks.kept acting.session) asked ≡ Some (lead_to (view take.asks.kept.catalog take.asks.is.owner) q)

-- or one that no copy answers
pub record MayAct (c : Parts) (acting : Acting) (asked : Asked) : Type 0 where
  pub take : MayTake c acting asked
  pub told : copied_answer take.asks.kept.catalog take.asks.is.owner (copies_of take.asks.kept acting.session) asked ≡ None

-- what the body tells on which the named entry stands: a member of the object is read, and this is what the owner sees there
pub record IsRead {c : Parts} {acting : Acting} {asked : Asked} (m : MayAct c acting asked) (p : Pid) (answer : PlainAnswer) : Type 0 where
  pub member : ℕ
  pub op_is : asked.op ≡ Ask (Get p member)
  pub told : (step_on_view c.schema m.take.asks.kept.catalog m.take.asks.is.owner asked.op).answer ≡ answer

-- a step whose answer such a body tells may be taken
pub record MayLook (c : Parts) (acting : Acting) (asked : Asked) (p : Pid) (answer : PlainAnswer) : Type 0 where
  pub act : MayAct c acting asked
  pub read : IsRead act p answer

-- what the body tells on which the named entry stands: a member of the object is followed, and it refers to this one, or to
-- none, in what the owner sees
pub record IsLed {c : Parts} {acting : Acting} {asked : Asked} (m : MayAct c acting asked) (p : Pid) (to : Option Pid) : Type 0 where
  pub member : ℕ
  pub op_is : asked.op ≡ Ask (Follow p member)
  pub refers : RefersTo (view m.take.asks.kept.catalog m.take.asks.is.owner) p member to

-- a step that such a body leads may be taken
pub record MayFollow (c : Parts) (acting : Acting) (asked : Asked) (p : Pid) (to : Option Pid) : Type 0 where
  pub act : MayAct c acting asked
  pub led : IsLed act p to

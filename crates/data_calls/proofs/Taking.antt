-- Steps that are taken: what the calls of accounts ask for, and what comes of them.
use Rattle.std.proofs.Common.{◌≡◌, ℕ, Bool, true, false, List, [], Option, Some, None, IsSome, refl, sym, ap, ◌∙◌, subst}
use Rattle.std.specs.Prelude.{Result, if◌then◌else◌}
use Rattle.pss_base.specs.declared.pid.Pid.{Pid}
use Rattle.pss_base.specs.declared.owner.OwnerNo.{OwnerNo}
use Rattle.pss_base.specs.declared.session.SessionNo.{SessionNo}
use Rattle.type_layout.specs.declared.schema.Schema.{Schema}
use Rattle.pss_catalog.specs.Catalog.{Catalog, has}
use Rattle.pss_machine.specs.declared.level.Level.{Level}
use Rattle.pss_machine.specs.declared.level.Level.TheVariants as level
use Rattle.pss_machine.specs.declared.answer.Answer.{Answer}
use Rattle.pss_machine.specs.declared.answer.Answer.TheVariants as answer
use Rattle.pss_machine.specs.declared.reply.Reply.{Reply}
use Rattle.pss_machine.specs.declared.reply.Reply.TheVariants as reply
use Rattle.pss_machine.specs.Needs.{needs}
use Rattle.pss_machine.specs.Operations.{Question, FindPid, PlainOp, Create, Set, Destroy, Ask, PlainAnswer, Found, NotFound, Gone, plain_answer}
use Rattle.pss_machine.specs.Owners.{is_basic, blocker, Step, step_on_view, view}
use Rattle.pss_machine.specs.Kept.{Kept, copies_of, name_of}
use Rattle.pss_machine.specs.Asking.{Asked}
use Rattle.pss_machine.specs.Stepping.{step_on_copy, step_of, reply_to, copied_answer, data_command}
use Rattle.pss_machine.specs.Effects.{Decision, Steps, does, says}
use Rattle.pss_machine.specs.Moving.{moved, next_after, after_step, owners_after}
use Rattle.storage_home.specs.Kept.{IsKept}
use Rattle.owner_titles.proofs.Follow.{same_follows}
use Rattle.owner_accounts.specs.declared.accounts.Accounts.{Accounts}
use Rattle.owner_accounts.specs.Accounts.{AreAccounts}
use Rattle.owner_accounts.specs.Reached.{IsReached}
use Rattle.owner_accounts.specs.Steps.{IsOwner, MayCount, MayStep, step_in}
use Rattle.owner_accounts.proofs.Runs.{reached_on}
use Rattle.pss_copies.specs.Seats.{Attends}
use Rattle.connector_parts.specs.declared.parts.Parts.{Parts}
use Rattle.connector_parts.specs.Stands.{Stands, StayAs}
use Rattle.connector_parts.proofs.Bounds.{commands_left}
use Rattle.data_calls.specs.declared.acting.Acting.{Acting}
use Rattle.data_calls.specs.Asking.{Asks, MayTake, IsFair, IsStep, Takes, Follows, decision_on}
use Rattle.data_calls.specs.Copied.{MayAct, lead_to}
use Rattle.data_calls.proofs.Granted.{held_up, is_taken, free}
use Rattle.data_calls.proofs.Steps.{OfMember, IsOnCopy, on_view, on_copy, copied_there}

-- ---- accounts that differ in nothing that they keep

pub accounts_same : (S : Schema) (a : Accounts) (k j : Kept) → AreAccounts S a k → k.catalog ≡ j.catalog → k.owners ≡ j.owners → k.titles ≡ j.titles → k.next_owner ≡ j.next_owner → k.next ≡ j.next → k.commits ≡ j.commits → k.recent ≡ j.recent → AreAccounts S a j
accounts_same S a k j are catalog owners titles next_owner next commits recent = record {
  catalog = subst (λ M. IsKept S M a.homes) catalog are.catalog;
  owners = are.owners ∙ owners;
  under = are.under;
  titles = same_follows a.titles k j are.titles (sym titles) (sym owners) (sym next_owner);
  next = are.next ∙ next;
  history = record { commits = are.history.commits ∙ commits; recent = are.history.recent ∙ recent };
}

-- two steps that need and change the same leave the same accounts
pub stepped_same : (S : Schema) (a : Accounts) (k : Kept) (n : OwnerNo) (s : SessionNo) (x y : Step) (asked : Asked) → x.needs ≡ y.needs → x.own ≡ y.own → next_after k.next x.op ≡ next_after k.next y.op
    → AreAccounts S a (after_step k n s x asked) → AreAccounts S a (after_step k n s y asked)
stepped_same S a k n s x y asked needs own next are =
    accounts_same S a (after_step k n s x asked) (after_step k n s y asked) are refl
    (ap (λ w. owners_after k n (record { op = x.op; answer = x.answer; needs = w; own = x.own })) needs ∙ ap (λ w. owners_after k n (record { op = x.op; answer = x.answer; needs = y.needs; own = w })) own)
    refl refl next refl refl

-- the parts with other accounts
abbrev pub with_accounts : Parts → Accounts → Parts
with_accounts c a = record c { accounts = a }

-- who is held up by nobody
pub none_where : (o : Option OwnerNo) → ((b : OwnerNo) → o ≡ Some b → ⊥) → o ≡ None
none_where None h = refl
none_where (Some b) h = absurd (h b refl)

pub some_there : {o : Option OwnerNo} {b : OwnerNo} → o ≡ Some b → IsSome o
some_there is = subst IsSome (sym is) refl

-- ---- what is told of words

-- the same words, told as they are equal
abbrev pub told_as : {c : Parts} {acting : Acting} {told : Result Asked Reply} → Asks c acting told → (other : Result Asked Reply) → told ≡ other → Asks c acting other
told_as {c = c} {acting = acting} a other is = record {
  kept = a.kept;
  at = a.at;
  is = a.is;
  command = a.command;
  decides = a.decides ∙ ap (data_command c.schema c.limits a.kept acting.session a.is.session) is;
  fair = λ asked told. a.fair asked (is ∙ told);
}

pub told_decides : {c : Parts} {acting : Acting} {told : Result Asked Reply} (a : Asks c acting told) (other : Result Asked Reply) → told ≡ other → decision_on a ≡ data_command c.schema c.limits a.kept acting.session a.is.session other
told_decides {c = c} {acting = acting} a other is = ap (data_command c.schema c.limits a.kept acting.session a.is.session) is

-- only this is said, and all is as before
pub refuses : {c : Parts} {acting : Acting} {told : Result Asked Reply} (a : Asks c acting told) (reply : Reply) → decision_on a ≡ says reply → Follows c a.kept (decision_on a) reply c
refuses {c = c} a reply is = record {
  reply_is = sym (ap (λ (d : Decision). d.reply) is);
  stay = record { schema = refl; limits = refl };
  stands = subst (λ (d : Decision). Stands c (moved a.kept d.effect)) (sym is) a.at.stands;
}

-- ---- what is asked of accounts

module _ {c : Parts} {acting : Acting} {asked : Asked} (m : MayTake c acting asked) where
  pub fair : IsFair c.schema m.asks.kept (copies_of m.asks.kept acting.session) asked
  fair = m.asks.fair asked refl m.within_them

  abbrev pub is_owner : IsOwner c.schema c.accounts acting.owner
  is_owner = record { limits = c.limits; kept = m.asks.kept; reached = m.asks.at.reached; are = m.asks.at.stands.accounts; owner = m.asks.is.owner; there = m.asks.is.owner_there }

  abbrev pub may_step : MayStep c.schema c.accounts acting.owner asked.op
  may_step = record { by = is_owner; fits = fair.fits; serial = fair.serial; serials = m.serials; commands = commands_left c m.asks.kept m.asks.at acting.owner }

  abbrev pub may_count : MayCount c.schema c.accounts acting.owner
  may_count = record { by = is_owner; commands = commands_left c m.asks.kept m.asks.at acting.owner }

  abbrev pub may_look : (q : Pid) → MayStep c.schema c.accounts acting.owner (Ask (FindPid q))
  may_look q = record { by = is_owner; fits = tt; serial = tt; serials = tt; commands = commands_left c m.asks.kept m.asks.at acting.owner }

  -- ---- what comes of a step

  abbrev pub step_here : Step
  step_here = step_of c.schema m.asks.kept.catalog m.asks.is.owner (copies_of m.asks.kept acting.session) asked

  pub comes : blocker m.asks.kept.owners acting.owner step_here.needs ≡ None
      → decision_on m.asks ≡ does (Steps acting.owner acting.session step_here asked) (reply_to c.schema m.asks.kept (copies_of m.asks.kept acting.session) asked step_here.answer)
  comes none = is_taken c.schema c.limits m.asks.kept acting.session m.asks.is.session acting.owner m.asks.is.owner m.asks.is.acts asked m.within_them none

  abbrev pub step_is : (answer : PlainAnswer) → blocker m.asks.kept.owners acting.owner step_here.needs ≡ None → step_here.answer ≡ answer → IsStep c.schema c.limits m.asks.kept acting asked answer
  step_is answer none told = record {
    reached = m.asks.at.reached;
    limited = m.asks.at.limited;
    performed = m.asks.at.performed;
    left = m.asks.at.left;
    few = m.asks.at.few;
    is = m.asks.is;
    fair = fair;
    within_them = m.within_them;
    step = step_here;
    step_is = refl;
    answer_is = told;
    reaches = subst (λ (d : Decision). IsReached c.schema c.limits (moved m.asks.kept d.effect)) (m.asks.decides ∙ comes none) (reached_on c.schema c.limits m.asks.kept m.asks.at.reached m.asks.command);
  }

  pub takes : (answer : PlainAnswer) → blocker m.asks.kept.owners acting.owner step_here.needs ≡ None → step_here.answer ≡ answer → (new : Parts) → StayAs c new → new.attended ≡ c.attended
      → AreAccounts c.schema new.accounts (after_step m.asks.kept acting.owner acting.session step_here asked) → Takes c m.asks.kept (decision_on m.asks) acting asked answer new
  takes answer none told new stay attended accounts = record {
    taken = record { schema_is = stay.schema; limits_is = stay.limits; step = step_is answer none told; accounts = accounts; attended = subst (Attends m.asks.kept) (sym attended) m.asks.at.stands.attended };
    comes = comes none ∙ ap (λ (a : PlainAnswer). does (Steps acting.owner acting.session step_here asked) (reply_to c.schema m.asks.kept (copies_of m.asks.kept acting.session) asked a)) told;
  }

  -- it is said, and nothing else
  pub only_says : (reply : Reply) → decision_on m.asks ≡ says reply → (new : Parts) → StayAs c new → new.attended ≡ c.attended → AreAccounts c.schema new.accounts m.asks.kept → Follows c m.asks.kept (decision_on m.asks) reply new
  only_says reply is new stay attended accounts = record {
    reply_is = sym (ap (λ (d : Decision). d.reply) is);
    stay = stay;
    stands = subst (λ (d : Decision). Stands new (moved m.asks.kept d.effect)) (sym is)
        (record { accounts = subst (λ (S : Schema). AreAccounts S new.accounts m.asks.kept) (sym stay.schema) accounts; attended = subst (Attends m.asks.kept) (sym attended) m.asks.at.stands.attended });
  }

  -- another owner holds it up
  pub busy_says : (b : OwnerNo) (name : List ℕ) → blocker m.asks.kept.owners acting.owner step_here.needs ≡ Some b → name ≡ name_of m.asks.kept b → (new : Parts) → StayAs c new → new.attended ≡ c.attended → AreAccounts c.schema new.accounts m.asks.kept
      → Follows c m.asks.kept (decision_on m.asks) (reply.Busy name) new
  busy_says b name is named new stay attended accounts =
      only_says (reply.Busy name) (held_up c.schema c.limits m.asks.kept acting.session m.asks.is.session acting.owner m.asks.is.owner m.asks.is.acts asked m.within_them b is ∙ ap (λ (n : List ℕ). says (reply.Busy n)) (sym named)) new stay attended accounts

-- ---- on what the owner sees

module _ {c : Parts} {acting : Acting} {asked : Asked} (m : MayAct c acting asked) where
  pub seen_is : step_of c.schema m.take.asks.kept.catalog m.take.asks.is.owner (copies_of m.take.asks.kept acting.session) asked ≡ step_on_view c.schema m.take.asks.kept.catalog m.take.asks.is.owner asked.op
  seen_is = on_view c.schema m.take.asks.kept.catalog m.take.asks.is.owner (copies_of m.take.asks.kept acting.session) asked m.told

  here : blocker m.take.asks.kept.owners acting.owner (step_in (may_step m.take)).needs ≡ blocker m.take.asks.kept.owners acting.owner (step_here m.take).needs
  here = ap (λ (t : Step). blocker m.take.asks.kept.owners acting.owner t.needs) (sym seen_is)

  pub act_busy : (b : OwnerNo) (name : List ℕ) → blocker m.take.asks.kept.owners acting.owner (step_in (may_step m.take)).needs ≡ Some b → name ≡ name_of m.take.asks.kept b → (new : Parts) → StayAs c new → new.attended ≡ c.attended → AreAccounts c.schema new.accounts m.take.asks.kept
      → Follows c m.take.asks.kept (decision_on m.take.asks) (reply.Busy name) new
  act_busy b name is named new stay attended accounts = busy_says m.take b name (sym here ∙ is) named new stay attended accounts

  pub act_takes : (answer : PlainAnswer) → blocker m.take.asks.kept.owners acting.owner (step_in (may_step m.take)).needs ≡ None → answer ≡ (step_in (may_step m.take)).answer → (new : Parts) → StayAs c new → new.attended ≡ c.attended
      → AreAccounts c.schema new.accounts (after_step m.take.asks.kept acting.owner acting.session (step_in (may_step m.take)) asked) → Takes c m.take.asks.kept (decision_on m.take.asks) acting asked answer new
  act_takes answer none told new stay attended accounts =
      takes m.take answer (sym here ∙ none) (ap (λ (t : Step). t.answer) seen_is ∙ sym told) new stay attended
      (subst (λ (t : Step). AreAccounts c.schema new.accounts (after_step m.take.asks.kept acting.owner acting.session t asked)) (sym seen_is) accounts)

-- ---- on a copy

of_question : (op : PlainOp) → OfMember op → (question : Question) × (op ≡ Ask question)
of_question (Create serial object) of = absurd of
of_question (Set p member value) of = absurd of
of_question (Destroy p) of = absurd of
of_question (Ask question) of = (question, refl)

-- a basic owner needs nothing to look
pub basic_needs : (S : Schema) (l : Level) (M : Catalog) (question : Question) → is_basic l ≡ true → needs S l M (Ask question) ≡ []
basic_needs S level.Basic M question e = refl
basic_needs S level.ReadCommitted M question e = absurd (cc)
basic_needs S level.Serializable M question e = absurd (cc)

module _ {c : Parts} {acting : Acting} {asked : Asked} (take : MayTake c acting asked) (answer : PlainAnswer) (told : copied_answer take.asks.kept.catalog take.asks.is.owner (copies_of take.asks.kept acting.session) asked ≡ Some answer) where
  copy_is : step_here take ≡ step_on_copy asked.op answer
  copy_is = on_copy c.schema take.asks.kept.catalog take.asks.is.owner (copies_of take.asks.kept acting.session) asked answer told

  pub there : IsOnCopy take.asks.kept.catalog take.asks.is.owner (copies_of take.asks.kept acting.session) asked answer
  there = copied_there c.schema take.asks.kept.catalog take.asks.is.owner (copies_of take.asks.kept acting.session) asked answer told

  none_blocks : blocker take.asks.kept.owners acting.owner (step_here take).needs ≡ None
  none_blocks = ap (λ (t : Step). blocker take.asks.kept.owners acting.owner t.needs) copy_is ∙ free take.asks.kept.owners acting.owner

  pub copy_takes : (new : Parts) → StayAs c new → new.attended ≡ c.attended → AreAccounts c.schema new.accounts (after_step take.asks.kept acting.owner acting.session (step_on_copy asked.op answer) asked)
      → Takes c take.asks.kept (decision_on take.asks) acting asked answer new
  copy_takes new stay attended accounts =
      takes take answer none_blocks (ap (λ (t : Step). t.answer) copy_is) new stay attended
      (subst (λ (t : Step). AreAccounts c.schema new.accounts (after_step take.asks.kept acting.owner acting.session t asked)) (sym copy_is) accounts)

  -- the command is counted
  pub told_takes : (new : Parts) → StayAs c new → new.attended ≡ c.attended
      → ((question : Question) → AreAccounts c.schema new.accounts (after_step take.asks.kept acting.owner acting.session (step_on_copy (Ask question) answer) asked)) → Takes c take.asks.kept (decision_on take.asks) acting asked answer new
  told_takes new stay attended counted =
      let q = of_question asked.op there.of in
      copy_takes new stay attended (subst (λ (op : PlainOp). AreAccounts c.schema new.accounts (after_step take.asks.kept acting.owner acting.session (step_on_copy op answer) asked)) (sym q.1) (counted q.0))

  -- or an object is looked up, which needs and changes nothing
  pub look_free : (q : Pid) → blocker take.asks.kept.owners acting.owner (step_in (may_look take q)).needs ≡ None
  look_free q =
      ap (blocker take.asks.kept.owners acting.owner) (basic_needs c.schema take.asks.is.owner.level (view take.asks.kept.catalog take.asks.is.owner) (FindPid q) there.basic) ∙ free take.asks.kept.owners acting.owner

  pub look_takes : (q : Pid) (new : Parts) → StayAs c new → new.attended ≡ c.attended → AreAccounts c.schema new.accounts (after_step take.asks.kept acting.owner acting.session (step_in (may_look take q)) asked)
      → Takes c take.asks.kept (decision_on take.asks) acting asked answer new
  look_takes q new stay attended accounts =
      let of = of_question asked.op there.of in
      copy_takes new stay attended
      (stepped_same c.schema new.accounts take.asks.kept acting.owner acting.session (step_in (may_look take q)) (step_on_copy asked.op answer) asked
      (basic_needs c.schema take.asks.is.owner.level (view take.asks.kept.catalog take.asks.is.owner) (FindPid q) there.basic) refl (sym (ap (next_after take.asks.kept.next) of.1)) accounts)

-- where a reference leads, by what the look-up found
pub lead_found : (M : Catalog) (q p : Pid) → Found p ≡ (if has M q then Found q else NotFound) → lead_to M q ≡ Found q
lead_found M q p = by (has M q)
  where
    by : (b : Bool) → Found p ≡ (if b then Found q else NotFound) → (if b then Found q else Gone q) ≡ Found q
    by true e = refl
    by false e = absurd (cc)

pub lead_gone : (M : Catalog) (q : Pid) (a : PlainAnswer) → ((p : Pid) → a ≡ Found p → ⊥) → a ≡ (if has M q then Found q else NotFound) → lead_to M q ≡ Gone q
lead_gone M q a other = by (has M q)
  where
    by : (b : Bool) → a ≡ (if b then Found q else NotFound) → (if b then Found q else Gone q) ≡ Gone q
    by true e = absurd (other q e)
    by false e = refl

-- an answer that is an object is one that was found
pub plain_found : (a : Answer) (p : Pid) → plain_answer a ≡ Found p → a ≡ answer.Found p
plain_found answer.Done p e = absurd (cc)
plain_found (answer.Found q) p e = (let same : q ≡ p = cc in ap answer.Found same)
plain_found (answer.Truth b) p e = absurd (cc)
plain_found (answer.Val v) p e = absurd (cc)
plain_found (answer.Count n) p e = absurd (cc)
plain_found (answer.List n first) p e = absurd (cc)
plain_found answer.NotFound p e = absurd (cc)
plain_found (answer.Gone q) p e = absurd (cc)
plain_found answer.Nil p e = absurd (cc)
plain_found (answer.Duplicate key) p e = absurd (cc)
plain_found answer.TooLarge p e = absurd (cc)
plain_found (answer.Busy n) p e = absurd (cc)

-- Entries that are counted, and that go.
use Rattle.std.proofs.Common.{ℕ, ◌≡◌, ◌<◌, ◌≤◌, ◌-◌, ◌^◌, List, [], Option, Some, None, refl, sym, ap, ◌∙◌, subst}
use Rattle.std.specs.Prelude.{IfSome, MatchOption, IsSomeAnd, IsTrue}
use Rattle.std.specs.Option.{option_map}
use Rattle.pss_base.specs.declared.owner.OwnerNo.{OwnerNo}
use Rattle.pss_base.specs.declared.session.SessionNo.{SessionNo}
use Rattle.type_layout.specs.Schemas.{given}
use Rattle.pss_machine.specs.declared.command.Command.{Command}
use Rattle.pss_machine.specs.declared.command.Command.TheVariants as command
use Rattle.pss_machine.specs.declared.reply.Reply.TheVariants as reply
use Rattle.pss_machine.specs.declared.session.Kind.{Kind}
use Rattle.pss_machine.specs.declared.session.Kind.TheVariants.{Basic, Transactional}
use Rattle.pss_machine.specs.Sessions.{Session, is_basic}
use Rattle.pss_machine.specs.Copies.{Entry as PlainEntry, Copies, entry_numbered}
use Rattle.pss_machine.specs.Kept.{Kept, copies_of}
use Rattle.pss_machine.specs.Effects.{Decision, Holds, does, says}
use Rattle.pss_machine.specs.Deciding.{decision, in_session, with_entry, counting, recounting, freeing, refreshing, refreshed}
use Rattle.pss_machine.specs.Moving.{moved}
use Rattle.pss_session.specs.Meaning.{session_at}
use Rattle.incarnations.specs.declared.names.Entry.{Entry}
use Rattle.incarnations.specs.Meaning.{entry_at, AreCopies}
use Rattle.pss_copies.specs.declared.parts.Parts.{Parts as Attending}
use Rattle.pss_copies.specs.Told.{entry_told}
use Rattle.pss_copies.specs.Seats.{Attends}
use Rattle.pss_copies.proofs.Held.{told_at}
use Rattle.connector_parts.specs.declared.parts.Parts.{Parts}
use Rattle.pss_session.specs.declared.register.Found.{Found}
use Rattle.connector_parts.specs.Stands.{Stands, IsAt, Comes}
use Rattle.connector_parts.specs.Found.{IsFound}
use Rattle.connector_parts.proofs.Decisions.{with_state, in_found, in_state, only_told, comes}
use Rattle.connector_parts.proofs.Bounds.{numbers_left, counts_left}
use Rattle.session_calls.proofs.Moves.{with_attended, stays_as, sessions_move, in_attended}

-- an entry counts one more at least
pub count_left : (c : Parts) (k : Kept) → IsAt c k → AreCopies c.attended.copies → (s : SessionNo) (n : ℕ) → IfSome (entry_at c.attended.copies s n) (λ e. e.count < 2 ^ 32 - 1)
count_left c k at are s n = by (entry_at c.attended.copies s n) refl
  where
    by : (o : Option Entry) → entry_at c.attended.copies s n ≡ o → IfSome o (λ e. e.count < 2 ^ 32 - 1)
    by None is = tt
    by (Some e) is =
        counts_left c k at s n (entry_told c.attended.copies n e)
        (told_at c.attended.copies k.copies are at.stands.attended.seats.told s n ∙ ap (option_map (entry_told c.attended.copies n)) is)

refreshing_is : (k : Kept) (s : SessionNo) (session : Session) (n : OwnerNo) → session.kind ≡ Basic n → refreshing k s session ≡ does (Holds s (refreshed k s session)) reply.Done
refreshing_is k s session n is = by session.kind is
  where
    by : (kind : Kind) → kind ≡ Basic n → refreshing k s (with_state session kind session.association) ≡ does (Holds s (refreshed k s (with_state session kind session.association))) reply.Done
    by (Basic m) e = refl
    by Transactional e = absurd (cc)

module _ (c : Parts) (k : Kept) (at : IsAt c k) (name : List ℕ) (found : Found) (is : IsFound k name found) where
  held_move : (copies : Copies) (a : Attending) → Attends (moved k (Holds found.number copies)) a → Stands (with_attended c a) (moved k (Holds found.number copies))
  held_move copies a attends = sessions_move c k at.stands a k.sessions (moved k (Holds found.number copies)).copies attends

  -- no entry has the number
  pub no_entry : (n : ℕ) → 2 ^ 32 ≤ n → (f : SessionNo → PlainEntry → Decision) (x : Command) → decision c.schema c.limits k x ≡ in_session k name (λ s session. with_entry k s n (f s)) → Comes c k x reply.NoEntry c
  no_entry n high f x decides =
      only_told c k at x reply.NoEntry
      (decides ∙ in_found k name found is (λ s session. with_entry k s n (f s)) ∙ ap (λ (o : Option PlainEntry). given o (says reply.NoEntry) (f found.number)) (numbers_left c k at found.number n high))

  -- an entry counts otherwise, where there is one
  pub recounted : (n : ℕ) (change : ℕ → ℕ) (x : Command) → decision c.schema c.limits k x ≡ in_session k name (λ s session. recounting k s n change) → (a : Attending) (count : Option ℕ)
      → count ≡ option_map (λ e. change e.count) (entry_numbered (copies_of k found.number) n)
      → MatchOption (entry_numbered (copies_of k found.number) n) (a ≡ c.attended) (λ e. Attends (moved k (Holds found.number (counting n (change e.count) (copies_of k found.number)))) a)
      → Comes c k x (given count reply.NoEntry reply.Count) (with_attended c a)
  recounted n change x decides a count told moves = by (entry_numbered (copies_of k found.number) n) refl told moves
    where
      f : PlainEntry → Decision
      f e = does (Holds found.number (counting n (change e.count) (copies_of k found.number))) (reply.Count (change e.count))

      decides_as : (o : Option PlainEntry) → entry_numbered (copies_of k found.number) n ≡ o → decision c.schema c.limits k x ≡ given o (says reply.NoEntry) f
      decides_as o there = decides ∙ in_found k name found is (λ s session. recounting k s n change) ∙ ap (λ (q : Option PlainEntry). given q (says reply.NoEntry) f) there

      by : (o : Option PlainEntry) → entry_numbered (copies_of k found.number) n ≡ o → count ≡ option_map (λ e. change e.count) o
          → MatchOption o (a ≡ c.attended) (λ e. Attends (moved k (Holds found.number (counting n (change e.count) (copies_of k found.number)))) a) → Comes c k x (given count reply.NoEntry reply.Count) (with_attended c a)
      by None there told same =
          subst (λ (q : Option ℕ). Comes c k x (given q reply.NoEntry reply.Count) (with_attended c a)) (sym told)
          (subst (λ (b : Attending). Comes c k x reply.NoEntry (with_attended c b)) (sym same) (only_told c k at x reply.NoEntry (decides_as None there)))
      by (Some e) there told attends =
          subst (λ (q : Option ℕ). Comes c k x (given q reply.NoEntry reply.Count) (with_attended c a)) (sym told)
          (comes c (with_attended c a) k x (Holds found.number (counting n (change e.count) (copies_of k found.number))) (reply.Count (change e.count)) (decides_as (Some e) there) (stays_as c a)
          (held_move (counting n (change e.count) (copies_of k found.number)) a attends))

  pub freed : (a : Attending) → Attends (moved k (Holds found.number (record { last = (copies_of k found.number).last; entries = [] }))) a → Comes c k (command.FreeAll name) reply.Done (with_attended c a)
  freed a attends =
      comes c (with_attended c a) k (command.FreeAll name) (Holds found.number (record { last = (copies_of k found.number).last; entries = [] })) reply.Done (in_found k name found is (λ s session. freeing k s)) (stays_as c a)
      (held_move (record { last = (copies_of k found.number).last; entries = [] }) a attends)

  pub may_refresh : (n : OwnerNo) → found.standing.kind ≡ Basic n → IsSomeAnd (session_at c.attended.sessions found.number) (λ x. IsTrue (is_basic x))
  may_refresh n kind =
      subst (λ (o : Option Session). IsSomeAnd o (λ x. IsTrue (is_basic x))) (sym (in_attended c k at.stands name found is))
      (subst (λ (q : Kind). IsTrue (is_basic (with_state is.session q is.session.association))) (sym (sym is.kind_is ∙ kind)) refl)

  pub refresh_done : (n : OwnerNo) → found.standing.kind ≡ Basic n → (a : Attending) → Attends (moved k (Holds found.number (refreshed k found.number is.session))) a → Comes c k (command.Refresh name) reply.Done (with_attended c a)
  refresh_done n kind a attends =
      comes c (with_attended c a) k (command.Refresh name) (Holds found.number (refreshed k found.number is.session)) reply.Done
      (in_found k name found is (refreshing k) ∙ refreshing_is k found.number is.session n (sym is.kind_is ∙ kind)) (stays_as c a)
      (held_move (refreshed k found.number is.session) a attends)

  pub refresh_not : found.standing.kind ≡ Transactional → Comes c k (command.Refresh name) reply.Kind c
  refresh_not kind = only_told c k at (command.Refresh name) reply.Kind (in_state k name found is (refreshing k) Transactional found.standing.association kind refl)

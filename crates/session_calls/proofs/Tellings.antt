-- What is told of sessions, entries, homes and commits.
use Rattle.std.proofs.Common.{ℕ, ◌≡◌, List, [], Option, Some, None, refl, sym, ap, ◌∙◌}
use Rattle.std.specs.Prelude.{length}
use Rattle.std.specs.Option.{option_map}
use Rattle.std.specs.FinMap.{len}
use Rattle.pss_base.specs.declared.pid.Pid.{Pid}
use Rattle.pss_base.specs.declared.owner.OwnerNo.{OwnerNo}
use Rattle.type_layout.specs.declared.home.HomeNo.{HomeNo}
use Rattle.type_layout.specs.Schemas.{given, home_at}
use Rattle.pss_machine.specs.declared.command.Command.TheVariants as command
use Rattle.pss_machine.specs.declared.reply.Reply.TheVariants as reply
use Rattle.pss_machine.specs.declared.session.Kind.TheVariants.{Basic, Transactional}
use Rattle.pss_machine.specs.Names.{home_named}
use Rattle.pss_machine.specs.Sessions.{state_of}
use Rattle.pss_machine.specs.Copies.{Entry, entry_numbered, bodies}
use Rattle.pss_machine.specs.Kept.{Kept, copies_of, transaction_count}
use Rattle.pss_machine.specs.Effects.{says}
use Rattle.pss_machine.specs.Deciding.{telling_state, telling_pid, telling_home, entry_count, lock_count, all_names, counts}
use Rattle.owner_titles.specs.History.{History}
use Rattle.owner_accounts.specs.Accounts.{IsHistory}
use Rattle.connector_parts.specs.declared.parts.Parts.{Parts}
use Rattle.pss_session.specs.declared.register.Found.{Found}
use Rattle.connector_parts.specs.Stands.{IsAt, Comes}
use Rattle.connector_parts.specs.Found.{IsFound}
use Rattle.connector_parts.proofs.Decisions.{in_found, in_state, only_told, replied}

given_map : (o : Option Entry) → given o (says reply.NoEntry) (λ e. says (reply.PidAndShort e.pid)) ≡ given (option_map (λ e. e.pid) o) (says reply.NoEntry) (λ p. says (reply.PidAndShort p))
given_map None = refl
given_map (Some e) = refl

module _ (c : Parts) (k : Kept) (at : IsAt c k) (name : List ℕ) (found : Found) (is : IsFound k name found) where
  pub status_of_basic : (n : OwnerNo) → found.standing.kind ≡ Basic n → Comes c k (command.Status name) reply.Kind c
  status_of_basic n kind = only_told c k at (command.Status name) reply.Kind (in_state k name found is (λ s session. telling_state session) (Basic n) found.standing.association kind refl)

  pub status_of_other : found.standing.kind ≡ Transactional → Comes c k (command.Status name) (reply.State (state_of found.standing.association)) c
  status_of_other kind = only_told c k at (command.Status name) (reply.State (state_of found.standing.association)) (in_state k name found is (λ s session. telling_state session) Transactional found.standing.association kind refl)

  -- the object of an entry, where there is one
  pub told_pid : (n : ℕ) (pid : Option Pid) → pid ≡ option_map (λ e. e.pid) (entry_numbered (copies_of k found.number) n) → Comes c k (command.PidOf name n) (given pid reply.NoEntry reply.PidAndShort) c
  told_pid n pid there =
      only_told c k at (command.PidOf name n) (given pid reply.NoEntry reply.PidAndShort)
      (in_found k name found is (λ s session. telling_pid k s n)
      ∙ given_map (entry_numbered (copies_of k found.number) n)
      ∙ ap (λ (o : Option Pid). given o (says reply.NoEntry) (λ p. says (reply.PidAndShort p))) (sym there)
      ∙ out pid)
    where
      out : (o : Option Pid) → given o (says reply.NoEntry) (λ p. says (reply.PidAndShort p)) ≡ says (given o reply.NoEntry reply.PidAndShort)
      out None = refl
      out (Some p) = refl

  telling_as : (word : List ℕ) (o : Option HomeNo) → o ≡ home_named c.schema word → telling_home c.schema word ≡ given o (says reply.NoHome) (λ h. says (reply.HomeFound h (given (home_at c.schema h) [] (λ home. home.name))))
  telling_as word o named = ap (λ (q : Option HomeNo). given q (says reply.NoHome) (λ h. says (reply.HomeFound h (given (home_at c.schema h) [] (λ home. home.name))))) (sym named)

  pub told_home : (word : List ℕ) (h : HomeNo) → Some h ≡ home_named c.schema word → Comes c k (command.Home name word) (reply.HomeFound h (given (home_at c.schema h) [] (λ home. home.name))) c
  told_home word h named =
      only_told c k at (command.Home name word) (reply.HomeFound h (given (home_at c.schema h) [] (λ home. home.name)))
      (in_found k name found is (λ s session. telling_home c.schema word) ∙ telling_as word (Some h) named)

  pub told_no_home : (word : List ℕ) → None ≡ home_named c.schema word → Comes c k (command.Home name word) reply.NoHome c
  told_no_home word named = only_told c k at (command.Home name word) reply.NoHome (in_found k name found is (λ s session. telling_home c.schema word) ∙ telling_as word None named)

pub told_history : (c : Parts) (k : Kept) → IsAt c k → (h : History) → IsHistory h k → Comes c k command.History (reply.History h.commits h.recent) c
told_history c k at h is = only_told c k at command.History (reply.History h.commits h.recent) (ap (λ (n : ℕ). says (reply.History n k.recent)) (sym is.commits) ∙ ap (λ (texts : List (List ℕ)). says (reply.History h.commits texts)) (sym is.recent))

-- how many there are of everything
pub told_counts : (c : Parts) (k : Kept) → IsAt c k → (sessions transactions entries attached standing locks commits objects : ℕ)
    → sessions ≡ len k.sessions → transactions ≡ transaction_count k → entries ≡ entry_count k → attached ≡ length (all_names k) → standing ≡ length (bodies (all_names k)) → locks ≡ lock_count k → commits ≡ k.commits → objects ≡ len k.catalog
    → Comes c k command.Stat (reply.Stat sessions transactions entries attached standing locks commits objects) c
told_counts c k at s t e a b l m o s_is t_is e_is a_is b_is l_is m_is o_is =
    replied c c k command.Stat (counts k) (reply.Stat s t e a b l m o) (λ i. reply.Stat (s_is i) (t_is i) (e_is i) (a_is i) (b_is i) (l_is i) (m_is i) (o_is i)) (only_told c k at command.Stat (counts k) refl)

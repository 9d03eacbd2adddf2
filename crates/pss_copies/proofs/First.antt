-- Where nobody is there yet.
use Rattle.std.proofs.Common.{◌≡◌, ℕ, List, sym, ap, ◌∙◌}
use Rattle.std.specs.Prelude.{is_some}
use Rattle.std.specs.Ordering.{nat_cmp}
use Rattle.std.specs.FinMap.{get, get-empty}
use Rattle.type_layout.specs.Types.{PlainValue}
use Rattle.pss_catalog.specs.Catalog.{Catalog}
use Rattle.pss_machine.specs.declared.session.View.TheVariants.{Committed, Own}
use Rattle.pss_machine.specs.Sessions.{Session}
use Rattle.pss_machine.specs.Copies.{Copies}
use Rattle.pss_machine.specs.Kept.{first_kept}
use Rattle.pss_machine.proofs.Logic.{none_some}
use Rattle.pss_session.specs.Meaning.{Meaning as Standing, HaveSessions, no_sessions}
use Rattle.incarnations.specs.declared.names.Entry.{Entry}
use Rattle.incarnations.specs.Keys.{session_cmp, slot_cmp, body_cmp}
use Rattle.incarnations.specs.Meaning.{Meaning, no_copies, body}
use Rattle.pss_copies.specs.Seats.{Attends}

module _ (s : Standing) (m : Meaning) (none : s ≡ no_sessions) (empty : m ≡ no_copies) where
  pub first_have : HaveSessions s m
  first_have n =
      ap (λ (m : Meaning). is_some (get m.lasts n)) empty ∙ ap is_some (get-empty {X = ℕ} session_cmp n)
      ∙ sym (ap (λ (s : Standing). is_some (get s.sessions n.0)) none ∙ ap is_some (get-empty {X = Session} nat_cmp n.0))

  pub first_attends : (M : Catalog) (next : ℕ) → Attends (first_kept M next) (record { sessions = s; copies = m })
  first_attends M next = record {
    sessions = ap (λ (s : Standing). s.sessions) none;
    next = ap (λ (s : Standing). s.next) none;
    seats = record {
      told = record {
        same = λ n. ap is_some (get-empty {X = Copies} nat_cmp n.0) ∙ sym (ap (λ (m : Meaning). is_some (get m.lasts n)) empty ∙ ap is_some (get-empty {X = ℕ} session_cmp n));
        each = λ n copies there. absurd (none_some (sym (get-empty {X = Copies} nat_cmp n.0) ∙ there));
      };
      seated = λ x e v at view. absurd (none_some (sym (ap (λ (m : Meaning). get m.entries x) empty ∙ get-empty {X = Entry} slot_cmp x) ∙ at));
      valued = record {
        committed = λ pid values at. absurd (none_some (sym (ap (λ (m : Meaning). get m.bodies (body pid Committed)) empty ∙ get-empty {X = List PlainValue} body_cmp _) ∙ at));
        own = λ pid n values at. absurd (none_some (sym (ap (λ (m : Meaning). get m.bodies (body pid (Own n))) empty ∙ get-empty {X = List PlainValue} body_cmp _) ∙ at));
      };
    };
  }

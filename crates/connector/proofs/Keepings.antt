-- What a connector keeps at first, and after a command.
use Rattle.std.proofs.Common.{ℕ, ◌≡◌, ◌+◌, ◌-◌, ◌<◌, ◌^◌, [], refl, sym, ◌∙◌, subst, arith}
use Rattle.std.specs.Ordering.{nat_cmp}
use Rattle.std.specs.FinMap.{get-empty}
use Rattle.type_layout.specs.declared.schema.Schema.{Schema}
use Rattle.type_layout.specs.Sound.{IsSoundSchema}
use Rattle.pss_catalog.specs.Catalog.{Catalog, IsGood}
use Rattle.pss_machine.specs.declared.limits.Limits.{Limits}
use Rattle.pss_machine.specs.declared.command.Command.{Command}
use Rattle.pss_machine.specs.declared.reply.Reply.{Reply}
use Rattle.pss_machine.specs.Copies.{Copies}
use Rattle.pss_machine.specs.Kept.{Kept, Title, first_kept}
use Rattle.pss_machine.specs.Deciding.{decision}
use Rattle.pss_machine.specs.Moving.{moved}
use Rattle.pss_machine.proofs.Logic.{none_some}
use Rattle.owner_accounts.specs.Reached.{IsReached}
use Rattle.owner_accounts.proofs.Runs.{reached_on}
use Rattle.connector_parts.specs.Few.{AreWithin, AreFew}
use Rattle.connector_parts.specs.Stands.{Stands, IsAt, AnyAt, Comes}
use Rattle.connector_parts.proofs.Growth.{few_on}
use Rattle.commit_saving.specs.Saving.{saved_by}
use Rattle.commit_calls.specs.Commits.{IsBehind}
use Rattle.connector.proofs.Behind.{still_behind}
use Rattle.connector.specs.declared.connector.Connector.{Connector}
use Rattle.connector.specs.Keeping.{Keeps, AnyKept, schema_of, limits_of, store_of, performed_by}

-- ---- at first

first_reached : (S : Schema) (limits : Limits) (M : Catalog) (next : ℕ) → IsSoundSchema S → AreWithin limits → IsGood S M next → IsReached S limits (first_kept M next)
first_reached S limits M next sound within good = record {
  sound = sound;
  total = within.total;
  changes = omega (arith, within.changes);
  catalog = M;
  next = next;
  good = good;
  lines = [];
  is = refl;
}

first_few : (M : Catalog) (next : ℕ) → AreFew 0 (first_kept M next)
first_few M next = record {
  sessions = omega arith;
  owners = omega arith;
  commits = omega arith;
  commands = λ n title there. absurd (none_some (sym (get-empty {X = Title} nat_cmp n) ∙ there));
  entries = λ s copies there. absurd (none_some (sym (get-empty {X = Copies} nat_cmp s) ∙ there));
}

pub first_keeps : (c : Connector) (M : Catalog) (next : ℕ) → IsSoundSchema (schema_of c) → AreWithin (limits_of c) → IsGood (schema_of c) M next → Stands c.parts (first_kept M next) → performed_by c ≡ 0 → (store_of c).next ≡ next → Keeps c (first_kept M next)
first_keeps c M next sound within good stands none stored = record {
  reached = first_reached (schema_of c) (limits_of c) M next sound within good;
  limited = within;
  stands = stands;
  few = subst (λ (p : ℕ). AreFew p (first_kept M next)) (sym none) (first_few M next);
  behind = omega (arith, stored);
}

-- ---- before and after a command

pub is_at : (c : Connector) (k : Kept) → Keeps c k → performed_by c < 2 ^ 32 - 1 → IsAt c.parts k
is_at c k keeps left = record { reached = keeps.reached; limited = keeps.limited; stands = keeps.stands; performed = performed_by c; left = left; few = keeps.few }

-- no serial is stored that was not given
pub is_behind : (c : Connector) → AnyKept c → IsBehind c.parts (store_of c)
is_behind c any = omega (arith, any.keeps.behind, any.keeps.stands.accounts.next)

pub any_at : (c : Connector) → AnyKept c → performed_by c < 2 ^ 32 - 1 → AnyAt c.parts
any_at c any left = record { kept = any.kept; at = is_at c any.kept any.keeps left }

pub kept_on : (c d : Connector) (k : Kept) (x : Command) (r : Reply) → Keeps c k → Comes c.parts k x r d.parts → performed_by d ≡ performed_by c + 1 → (store_of d).next ≡ saved_by k (store_of c).next (decision (schema_of c) (limits_of c) k x).effect
    → Keeps d (moved k (decision (schema_of c) (limits_of c) k x).effect)
kept_on c d k x r keeps h count stored = record {
  reached = subst (λ (l : Limits). IsReached (schema_of d) l (moved k (decision (schema_of c) (limits_of c) k x).effect)) (sym h.stay.limits)
      (subst (λ (S : Schema). IsReached S (limits_of c) (moved k (decision (schema_of c) (limits_of c) k x).effect)) (sym h.stay.schema) (reached_on (schema_of c) (limits_of c) k keeps.reached x));
  limited = subst AreWithin (sym h.stay.limits) keeps.limited;
  stands = h.stands;
  few = subst (λ (p : ℕ). AreFew p (moved k (decision (schema_of c) (limits_of c) k x).effect)) (sym count) (few_on (schema_of c) (limits_of c) (performed_by c) k keeps.few x);
  behind = omega (arith, stored, still_behind k (store_of c).next keeps.behind (decision (schema_of c) (limits_of c) k x).effect);
}

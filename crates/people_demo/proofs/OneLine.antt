-- What one line makes of a show.
use Rattle.std.proofs.Common.{ℕ, ◌≡◌, ◌≤◌, ◌+◌, ◌∙◌, ap, subst, Bool, true, false, List, Option, Some, None, IfSome, arith}
use Rattle.std.specs.Prelude.{if◌then◌else◌}
use Rattle.std.specs.Option.{option_map}
use Rattle.pss_base.specs.declared.lines.LineStep.{LineStep}
use Rattle.type_layout.specs.declared.schema.Schema.{Schema}
use Rattle.pss_machine.specs.declared.limits.Limits.{Limits}
use Rattle.pss_machine.specs.declared.reply.Reply.{Reply}
use Rattle.pss_machine.specs.Kept.{Kept}
use Rattle.pss_machine.specs.Effects.{Effect}
use Rattle.pss_machine.specs.Moving.{moved}
use Rattle.pss_machine.specs.Run.{reply_of}
use Rattle.pss_recovery.specs.declared.parts.Parts.{Parts as Store}
use Rattle.pss_recovery.specs.Mounted.{IsMounted}
use Rattle.commit_saving.specs.Saving.{IfTold, saved_by}
use Rattle.connector.specs.declared.connector.Connector.{Connector}
use Rattle.connector.specs.Keeping.{Keeps, limits_of, schema_of, store_of}
use Rattle.script_service.specs.Turns.{Running, effect_of, kept_after, told_by}
use Rattle.script_service.specs.Going.{Goes}
use Rattle.people_demo.specs.Tally.{is_ok, with_answer}
use Rattle.people_demo.specs.declared.tally.Tally.{Tally}
use Rattle.people_demo.specs.declared.showing.Show.{Show}
use Rattle.people_demo.specs.inner.Showing.{IsShowing, Showing, answer, served}

-- ---- the store

told_then : (P Q : List ℕ → Type 0) (old new : Option (List ℕ)) → IfTold old P → IfSome old (λ octets. P octets → IfTold new Q) → IfTold new Q
told_then P Q None new held made = absurd cc
told_then P Q (Some c) new held made = (let same : held.0 ≡ c = cc in made (subst P same held.2))

-- what is mounted after an effect
abbrev Becomes : Schema → Kept → Effect → (before after : Store) → (old new : Option (List ℕ)) → Type 0
Becomes S k effect before after old new =
    (saved : ℕ) → IfSome old (λ octets. IsMounted S k.catalog saved before octets → IfTold new (IsMounted S (moved k effect).catalog (saved_by k saved effect) after))

mounted_after : (S : Schema) (k : Kept) (effect : Effect) (before after : Store) (old new : Option (List ℕ)) (saved : Option ℕ)
    → IfSome saved (λ next. IfTold old (IsMounted S k.catalog next before)) → Becomes S k effect before after old new
    → IfSome (option_map (λ next. saved_by k next effect) saved) (λ next. IfTold new (IsMounted S (moved k effect).catalog next after))
mounted_after S k effect before after old new None held becomes = tt
mounted_after S k effect before after old new (Some next) held becomes =
    told_then (IsMounted S k.catalog next before) (IsMounted S (moved k effect).catalog (saved_by k next effect) after) old new held (becomes next)

-- ---- what is counted

few_replies : (t : Tally) (a : Option Reply) (n : ℕ) → t.replies ≤ n → (with_answer t a).replies ≤ n + 1
few_replies t None n few = omega arith
few_replies t (Some r) n few = omega arith

few_by : (b : Bool) (ok n : ℕ) → ok ≤ n → ok + (if b then 1 else 0) ≤ n + 1
few_by true ok n few = omega arith
few_by false ok n few = omega arith

few_ok : (t : Tally) (a : Option Reply) (n : ℕ) → t.ok ≤ n → (with_answer t a).ok ≤ n + 1
few_ok t None n few = omega arith
few_ok t (Some r) n few = few_by (is_ok r) t.ok n few

-- ---- the line

-- what holds by the schema and the limits of a connector holds by those of its state
by_state : (c : Connector) (r : Running) → schema_of c ≡ r.schema → limits_of c ≡ r.limits → (P : Schema → Limits → Type 0) → P (schema_of c) (limits_of c) → P r.schema r.limits
by_state c r schema limits P p = subst (λ (l : Limits). P r.schema l) limits (subst (λ (S : Schema). P S (limits_of c)) schema p)

module _ (x y : Show) (line : LineStep) (old new : Option (List ℕ)) (replied : Option Reply) where
  pub shows_line : Goes (told_by line) x.connector y.connector
      → ((k : Kept) → Keeps x.connector k → replied ≡ reply_of (schema_of x.connector) (limits_of x.connector) k (told_by line))
      → ((k : Kept) → Keeps x.connector k
      → Becomes (schema_of x.connector) k (effect_of (schema_of x.connector) (limits_of x.connector) k (told_by line)) (store_of x.connector) (store_of y.connector) old new)
      → y.tally ≡ with_answer x.tally replied → (s : Showing) → IsShowing x s old → IsShowing y (served s line) new
  shows_line goes reply becomes counted s is =
      let k = s.running.kept in
      let turned = by_state x.connector s.running is.schema is.limits in
      record {
        live = goes.live;
        schema = goes.schema ∙ is.schema;
        limits = goes.limits ∙ is.limits;
        kept = turned (λ S l. Keeps y.connector (kept_after S l k (told_by line))) (goes.kept k is.kept);
        mounted = mounted_after s.running.schema k (effect_of s.running.schema s.running.limits k (told_by line)) (store_of x.connector) (store_of y.connector) old new s.running.saved is.mounted
            (turned (λ S l. Becomes S k (effect_of S l k (told_by line)) (store_of x.connector) (store_of y.connector) old new) (becomes k is.kept));
        tally = counted ∙ ap (λ (t : Tally). with_answer t replied) is.tally
            ∙ ap (λ (a : Option Reply). with_answer s.tally a) (turned (λ S l. replied ≡ reply_of S l k (told_by line)) (reply k is.kept));
        performed = omega (arith, is.performed, goes.performed);
        replies = few_replies s.tally (answer s.running line) s.lines is.replies;
        ok = few_ok s.tally (answer s.running line) s.lines is.ok;
      }

-- One line over a store, by what a connector's call ensures.
use Rattle.std.proofs.Common.{ℕ, ◌≡◌, ◌++◌, ◌∷◌, [], ◌∙◌, inl, List, Option, Some, IfSome, refl, ap, sym, subst}
use Rattle.std.specs.Prelude.{codes}
use Rattle.pss_base.specs.declared.lines.LineStep.{LineStep}
use Rattle.pss_disk.specs.Images.{IsQuiet}
use Rattle.pss_disk.specs.Moments.{IsSettled, Moment, Through}
use Rattle.pss_disk.proofs.Passing.{both_have, none_came, then_come, weaker}
use Rattle.pss_machine.specs.Kept.{Kept}
use Rattle.pss_machine.specs.declared.command.Command.{Command}
use Rattle.pss_machine.specs.declared.command.Command.TheVariants as command
use Rattle.pss_machine.specs.declared.reply.Reply.{Reply}
use Rattle.pss_machine.specs.declared.reply.Reply.TheVariants as reply
use Rattle.pss_machine.specs.Run.{Said, Says, reply_of}
use Rattle.pss_recovery.specs.Laws.{MountedStands}
use Rattle.pss_recovery.specs.Mounted.{HasNoRecord}
use Rattle.pss_recovery.specs.declared.parts.Parts.{Parts as Store}
use Rattle.commit_saving.specs.Saving.{BecomesSaved, IsSavedThroughout, StoresNothing}
use Rattle.line_service.specs.Spoken.{HasSpoken}
use Rattle.line_service.specs.Turns.{SaidWhole, Speaks}
use Rattle.line_service.specs.declared.machine.Turn.{Turn}
use Rattle.connector.specs.declared.connector.Connector.{Connector}
use Rattle.connector.specs.Keeping.{Keeps, schema_of, limits_of, store_of}
use Rattle.connector.specs.Lines.{added}
use Rattle.connector.specs.Storing.{IsUnstored}
use Rattle.script_service.specs.Turns.{Running, effect_of, line_for, spoken_for, told_by, turn_from}
use Rattle.script_service.specs.Keeping.{IsHeld, Passes}
use Rattle.script_service.specs.Going.{Serves}
use Rattle.script_service.proofs.Held.{held_after, passes_performing, passes_saying}
use Rattle.script_service.proofs.Nothing.{silent_still, unstored_stays}
use Rattle.script_service.proofs.Told.{Replies, by_state, said_whole, speaks_turn}

-- what was said is one command
said_same : {x y : Command} → Says x ≡ Says y → x ≡ y
said_same is = cc

module _ {W : Type 0} (content : W → Option (List ℕ)) (now : W → Moment) (history : W → List Moment) (law : MountedStands) (c : Connector) (n : ℕ) (r : Running) (line : LineStep) (serves : Serves c n r) where
  -- what the connector does to the store, whatever is kept
  abbrev Stores : (c' : Connector) (old new : W) → Type 0
  Stores c' old new = (k : Kept) → Keeps c k → BecomesSaved content (schema_of c) k (effect_of (schema_of c) (limits_of c) k (told_by line)) (store_of c) (store_of c') old new

  abbrev Storing : (old new : W) → Type 0
  Storing old new = (k : Kept) → Keeps c k → IsSavedThroughout content history (schema_of c) k (effect_of (schema_of c) (limits_of c) k (told_by line)) (store_of c) old new

  -- a moment of the line, of which so much is spoken at the end
  abbrev pub IsOfLine : Turn → (before end : Option (List ℕ)) → Moment → Type 0
  IsOfLine result before end m = Passes r line before m × SaidWhole result (turn_from r line).1 before end m.spoken

  -- where it stores nothing, and is no checkpoint, the station is as before
  abbrev Still : (old new : W) → Type 0
  Still old new = (told_by line ≡ Says command.Checkpoint → ⊥) → (k : Kept) → Keeps c k → StoresNothing k (effect_of (schema_of c) (limits_of c) k (told_by line)) → new ≡ old

  pub held_then : (c' : Connector) (old new : W) → IsHeld r (store_of c) (content old) (now old).disk → Stores c' old new → (told_by line ≡ Says command.Checkpoint → IfSome (content new) HasNoRecord) → Still old new
      → IsSettled (content new) (now new) → IsHeld (turn_from r line).0 (store_of c') (content new) (now new).disk
  held_then c' old new held stores emptied still settled =
      held_after law r line (store_of c) (store_of c') (content old) (content new) (now old).disk (now new).disk held
      (by_state c n r serves (λ S l. BecomesSaved content S r.kept (effect_of S l r.kept (told_by line)) (store_of c) (store_of c') old new) (stores r.kept serves.kept)) settled
      (λ silent. ap content (silent_still (schema_of c) (limits_of c) r.kept (told_by line) silent (λ other. still other r.kept serves.kept))) emptied

  -- while it is performed nothing is spoken
  pub performing : (result : Turn) (end : Option (List ℕ)) (old new : W) → IsHeld r (store_of c) (content old) (now old).disk → Storing old new → Through (history old) (history new) (IsQuiet (now old)) → Through (history old) (history new) (IsOfLine result (now old).spoken end)
  performing result end old new held storing quiet =
      both_have (history old) (history new) (Passes r line (now old).spoken) (λ m. SaidWhole result (turn_from r line).1 (now old).spoken end m.spoken)
      (passes_performing law r line (store_of c) (content old) (now old).disk (now old) (history old) (history new) held
      (by_state c n r serves (λ S l. IsSavedThroughout content history S r.kept (effect_of S l r.kept (told_by line)) (store_of c) old new) (storing r.kept serves.kept)) quiet)
      (weaker (history old) (history new) (IsQuiet (now old)) (λ m. SaidWhole result (turn_from r line).1 (now old).spoken end m.spoken) (λ m is. inl (inl is)) quiet)

  -- what is spoken for a reply, behind what had been spoken before it was made
  pub speaking : (result : Turn) (reply : Reply) (before there end : Option (List ℕ)) → Replies c (told_by line) (Some reply) → there ≡ before → Speaks result (line_for reply) there end → Speaks result (turn_from r line).1 before end
  speaking result reply before there end replied same speaks =
      subst (λ (bytes : List ℕ). Speaks result bytes before end) (speaks_turn c n r line (Some reply) serves replied) (subst (λ (o : Option (List ℕ)). Speaks result (line_for reply) o end) same speaks)

  -- and the reply is spoken behind it
  pub saying : (result : Turn) (c' : Connector) (old new last : W) → IsHeld (turn_from r line).0 (store_of c') (content new) (now new).disk → Speaks result (turn_from r line).1 (now old).spoken (now last).spoken
      → Through (history old) (history new) (IsOfLine result (now old).spoken (now last).spoken) → Through (history new) (history last) (HasSpoken (now last).spoken (now new).disk)
      → Through (history old) (history last) (IsOfLine result (now old).spoken (now last).spoken)
  saying result c' old new last held speaks before came =
      then_come (history old) (history new) (history last) (IsOfLine result (now old).spoken (now last).spoken) before
      (both_have (history new) (history last) (Passes r line (now old).spoken) (λ m. SaidWhole result (turn_from r line).1 (now old).spoken (now last).spoken m.spoken)
      (passes_saying law r line (store_of c') (content new) (now new).disk result (now old).spoken (now last).spoken (history new) (history last) held speaks came)
      (weaker (history new) (history last) (HasSpoken (now last).spoken (now new).disk) (λ m. SaidWhole result (turn_from r line).1 (now old).spoken (now last).spoken m.spoken)
      (λ m is. subst (λ (o : Option (List ℕ)). SaidWhole result (turn_from r line).1 (now old).spoken (now last).spoken o) (sym is.spoken_is) (said_whole result (turn_from r line).1 (now old).spoken (now last).spoken speaks)) came))

  -- a command that stores nothing, performed while the station stays
  module _ (x : Command) (says : told_by line ≡ Says x) (unstored : (k : Kept) → IsUnstored k (effect_of (schema_of c) (limits_of c) k (Says x))) (other : x ≡ command.Checkpoint → ⊥) (c' : Connector) (same : store_of c' ≡ store_of c) (w : W) (held : IsHeld r (store_of c) (content w) (now w).disk) where
    pub unstored_held : IsHeld (turn_from r line).0 (store_of c') (content w) (now w).disk
    unstored_held =
        held_then c' w w held
        (λ k keeps.
        subst (λ (told : Said). BecomesSaved content (schema_of c) k (effect_of (schema_of c) (limits_of c) k told) (store_of c) (store_of c') w w) (sym says)
        (subst (λ (after : Store). BecomesSaved content (schema_of c) k (effect_of (schema_of c) (limits_of c) k (Says x)) (store_of c) after w w) (sym same)
        (unstored_stays content (schema_of c) k (effect_of (schema_of c) (limits_of c) k (Says x)) (unstored k) (store_of c) w)))
        (λ is. absurd (other (said_same (sym says ∙ is))))
        (λ other k keeps nothing. refl) held.settled

    -- its reply is spoken
    pub unstored_speaks : (result : Turn) (before end : Option (List ℕ)) → ((k : Kept) → Keeps c k → Speaks result (spoken_for (reply_of (schema_of c) (limits_of c) k (Says x))) before end) → Speaks result (turn_from r line).1 before end
    unstored_speaks result before end speaks =
        by_state c n r serves (λ S l. Speaks result (spoken_for (reply_of S l r.kept (told_by line))) before end)
        (subst (λ (told : Said). Speaks result (spoken_for (reply_of (schema_of c) (limits_of c) r.kept told)) before end) (sym says) (speaks r.kept serves.kept))

    pub unstored_saying : (result : Turn) (last : W) → ((k : Kept) → Keeps c k → Speaks result (spoken_for (reply_of (schema_of c) (limits_of c) k (Says x))) (now w).spoken (now last).spoken) → Through (history w) (history last) (HasSpoken (now last).spoken (now w).disk)
        → Through (history w) (history last) (IsOfLine result (now w).spoken (now last).spoken)
    unstored_saying result last speaks came =
        saying result c' w w last unstored_held (unstored_speaks result (now w).spoken (now last).spoken speaks) (none_came (history w) (IsOfLine result (now w).spoken (now last).spoken)) came

-- ---- the line of a value

-- behind what is spoken before a value, its text and a line feed
pub value_line : (start line : List ℕ) (r : Reply) → start ≡ codes "OK " → reply.Val (added start line) ≡ r → line ≡ start ++ added start line → line ++ 10 ∷ [] ≡ line_for r
value_line start line r is told grown =
    ap (λ (l : List ℕ). l ++ 10 ∷ []) (grown ∙ ap (λ (l : List ℕ). l ++ added start line) is) ∙ ap line_for told

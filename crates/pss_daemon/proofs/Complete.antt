-- What may be done is done, or memory is wanting: read off how a call ends.
use Rattle.std.proofs.Common.{◌≡◌, ◌∙◌, ⊎_elim, inl, inr, ℕ, ◌<◌, List, length, None, Some, IfSome, IsTrue, refl, sym, ap, subst, arith}
use Rattle.std.proofs.lemmas.Bool.{false≢true}
use Rattle.std.specs.declared.option.Option.{Option}
use Rattle.psdl_tree.specs.Trees.{Definitions}
use Rattle.psdl_directory.specs.Declarations.{all_declarations}
use Rattle.psdl_check.specs.Schemas.{schema}
use Rattle.type_layout.specs.declared.schema.Schema.{Schema}
use Rattle.pss_recovery.specs.Laws.{IsImageOneThing, IsOfImage}
use Rattle.pss_recovery.specs.Stands.{IsRefusal}
use Rattle.store_refusals.specs.Lines.{IsFilled}
use Rattle.store_refusals.specs.Refusals.{fault_of}
use Rattle.store_refusals.specs.declared.refusals.StoreRefusal.{StoreRefusal}
use Rattle.store_refusals.specs.declared.refusals.StoreRefusal.TheVariants.{NotAStore, ShapeDiffers, Damaged}
use Rattle.commit_saving.specs.Saving.{IfTold}
use Rattle.pss_disk.specs.Moments.{Disk}
use Rattle.line_service.specs.Runs.{Says, goes_past}
use Rattle.line_service.specs.declared.serving.Ending.TheVariants as ending
use Rattle.script_service.specs.Keeping.{IsLeft}
use Rattle.script_service.specs.Turns.{script_limits, turn_from}
use Rattle.pss_serving.specs.Checked.{HasFault, IsOneThing, IsSound}
use Rattle.pss_serving.specs.Counts.{Counts, HasCauses}
use Rattle.pss_serving.specs.Making.{EndsMaking}
use Rattle.pss_serving.specs.Outcomes.{Call, EndsChecking, EndsServing, OfStore, ends_before_script}
use Rattle.pss_serving.specs.declared.schema_fault.SchemaFault.{SchemaFault}
use Rattle.pss_serving.specs.declared.status.Status.{Status}
use Rattle.pss_serving.specs.declared.status.Status.TheVariants as status
use Rattle.pss_daemon.specs.Complete.{HasFailed, HasSchema, IsComplete, IsDone, IsEmpty, IsServed, IsStoreOf}
use Rattle.pss_daemon.specs.Ends.{IsNoPlan, made_of}
use Rattle.pss_daemon.specs.Forms.{IsPlanOf}
use Rattle.pss_daemon.specs.Shows.{EndsShowing}
use Rattle.pss_daemon.specs.declared.forms.Plan.{Plan}
use Rattle.pss_daemon.specs.declared.forms.Plan.TheVariants.{Check, Init, Run, Demo}

-- ---- what cannot be

told_both : (o : Option (List ℕ)) (P Q : List ℕ → Type 0) → IfSome o P → IfTold o Q → (octets : List ℕ) × P octets × Q octets
told_both None P Q p q = absurd (let no : None ≡ Some q.0 = q.1 in cc)
told_both (Some octets) P Q p q =
    let same : octets ≡ q.0 = cc q.1 in
    (octets, p, subst Q (sym same) q.2)

-- a text in which nothing is wrong has no fault
no_fault : (text : Option (List ℕ)) (fault : SchemaFault) (P : Schema → Type 0) → IfSome text (λ bytes. HasFault bytes fault) → IfSome text IsOneThing → HasSchema text P → ⊥
no_fault None fault P is one has = let no : None ≡ Some has.0 = has.1 in cc
no_fault (Some bytes) fault P is one has =
    let same : bytes ≡ has.0 = cc has.1 in
    one.never_both fault has.2.0 is (subst (λ (text : List ℕ). IsSound text has.2.0) (sym same) has.2.1)

of_image : (why : StoreRefusal) → IsOfImage (fault_of why)
of_image NotAStore = tt
of_image (ShapeDiffers home) = tt
of_image (Damaged at k) = tt

-- a store of the text's schema is not refused under it
no_refusal : IsImageOneThing → (text held : Option (List ℕ)) (tree : Definitions) (why : StoreRefusal) → IfSome text (λ bytes. IsSound bytes tree) → IfSome text IsOneThing
    → IfSome held (IsRefusal (schema (all_declarations tree)) (fault_of why)) → HasSchema text (IsStoreOf held) → ⊥
no_refusal law None held tree why sound one refusal has = let no : None ≡ Some has.0 = has.1 in cc
no_refusal law (Some bytes) held tree why sound one refusal has =
    let text : bytes ≡ has.0 = cc has.1 in
    let other : IsSound bytes has.2.0 = subst (λ (t : List ℕ). IsSound t has.2.0) (sym text) has.2.1 in
    let same : has.2.0 ≡ tree = one.one_tree has.2.0 tree other.0 sound.0 in
    let store : IsStoreOf held (schema (all_declarations tree)) = subst (λ (t : Definitions). IsStoreOf held (schema (all_declarations t))) same has.2.2 in
    let both = told_both held (IsRefusal (schema (all_declarations tree)) (fault_of why)) _ refusal store in
    law.never_both (schema (all_declarations tree)) both.2.0 both.2.1 (fault_of why) both.0 (of_image why) both.2.2 both.1

-- an empty file has no octets
no_octets : (held : Option (List ℕ)) → IsFilled held → IsEmpty held → ⊥
no_octets held filled empty =
    let both = told_both held (λ octets. 0 < length octets) (λ octets. length octets ≡ 0) filled empty in
    omega (arith, both.1, both.2)

-- a script that is served goes past no limit
no_limit : (S : Schema) (script left before after held holds : Option (List ℕ)) (disk : Option Disk)
    → OfStore S (λ first. Says turn_from first script_limits ending.TooLong (record { script = script; left = left; before = before; after = after }) (IsLeft holds disk)) held → IsServed script → ⊥
no_limit S None left before after held holds disk of served = let no : None ≡ Some served.0 = served.1 in cc
no_limit S (Some bytes) left before after held holds disk of served =
    let same : served.0 ≡ bytes = cc served.1 in
    false≢true (sym served.2 ∙ ap (λ (octets : List ℕ). goes_past script_limits octets) same ∙ of.begun.0)

-- ---- nothing outside failed

read_fails : (old new : Counts) → HasCauses status.ReadFault old new → HasFailed old new
read_fails old new causes = ⊎_elim (λ schema. inl schema.0) (λ script. inr (inl script.1)) causes

speech_fails : (old new : Counts) → HasCauses status.SpeakFault old new → HasFailed old new
speech_fails old new causes = inr (inr (inl causes.2))

disk_fails : (old new : Counts) → HasCauses status.DiskFault old new → HasFailed old new
disk_fails old new causes = inr (inr (inr causes.3))

module _ (call : Call) (old new : Counts) (calm : HasFailed old new → ⊥) where
  abbrev One : Status → Type 0
  One ending = IsTrue (ends_before_script ending) → IfSome call.schema IsOneThing

  check_done : (ending : Status) → EndsChecking ending call.schema call.before call.after old.schema new.schema → HasCauses ending old new → One ending
      → HasSchema call.schema (λ S. Unit {0}) → IsDone ending
  check_done status.Ok ends causes one has = inl refl
  check_done status.NoMemory ends causes one has = inr refl
  check_done status.SchemaRefused ends causes one has = absurd (no_fault call.schema ends.0 (λ S. Unit {0}) ends.1 (one refl) has)
  check_done status.ReadFault ends causes one has = absurd (calm (read_fails old new causes))
  check_done status.SpeakFault ends causes one has = absurd (calm (speech_fails old new causes))
  check_done status.DiskFault ends causes one has = absurd ends
  check_done status.Usage ends causes one has = absurd ends
  check_done status.StoreRefused ends causes one has = absurd ends
  check_done status.ScriptTooLong ends causes one has = absurd ends

  init_done : (ending : Status) → EndsMaking ending (made_of call) old.schema new.schema → HasCauses ending old new → One ending
      → HasSchema call.schema (λ S. IsEmpty call.held) → IsDone ending
  init_done status.Ok ends causes one has = inl refl
  init_done status.NoMemory ends causes one has = inr refl
  init_done status.SchemaRefused ends causes one has = absurd (no_fault call.schema ends.0.0 (λ S. IsEmpty call.held) ends.0.1 (one refl) has)
  init_done status.StoreRefused ends causes one has = absurd (no_octets call.held ends.2.0 has.2.2)
  init_done status.ReadFault ends causes one has = absurd (calm (read_fails old new causes))
  init_done status.SpeakFault ends causes one has = absurd (calm (speech_fails old new causes))
  init_done status.DiskFault ends causes one has = absurd (calm (disk_fails old new causes))
  init_done status.Usage ends causes one has = absurd ends
  init_done status.ScriptTooLong ends causes one has = absurd ends

  run_done : IsImageOneThing → (ending : Status) → EndsServing ending call old.schema new.schema → HasCauses ending old new → One ending
      → HasSchema call.schema (IsStoreOf call.held) → IsServed call.script → IsDone ending
  run_done law status.Ok ends causes one has served = inl refl
  run_done law status.NoMemory ends causes one has served = inr refl
  run_done law status.SchemaRefused ends causes one has served = absurd (no_fault call.schema ends.0.0 (IsStoreOf call.held) ends.0.1 (one refl) has)
  run_done law status.StoreRefused ends causes one has served =
      let of = ends.0 in
      absurd (no_refusal law call.schema call.held of.0 of.2.0 of.1 (one refl) of.2.1 has)
  run_done law status.ScriptTooLong ends causes one has served =
      absurd (no_limit (schema (all_declarations ends.0)) call.script call.left call.before call.after call.held call.holds call.disk ends.2 served)
  run_done law status.ReadFault ends causes one has served = absurd (calm (read_fails old new causes))
  run_done law status.SpeakFault ends causes one has served = absurd (calm (speech_fails old new causes))
  run_done law status.DiskFault ends causes one has served = absurd (calm (disk_fails old new causes))
  run_done law status.Usage ends causes one has served = absurd ends

  demo_done : (rounds : ℕ) (ending : Status) → EndsShowing rounds ending call → HasCauses ending old new → IsEmpty call.held → IsDone ending
  demo_done rounds status.Ok ends causes empty = inl refl
  demo_done rounds status.NoMemory ends causes empty = inr refl
  demo_done rounds status.StoreRefused ends causes empty =
      absurd (⊎_elim (λ filled. no_octets call.held filled.0 empty) (λ unmounted. let no : None ≡ Some empty.0 = sym unmounted.0 ∙ empty.1 in cc) ends)
  demo_done rounds status.SpeakFault ends causes empty = absurd (calm (speech_fails old new causes))
  demo_done rounds status.DiskFault ends causes empty = absurd (calm (disk_fails old new causes))
  demo_done rounds status.SchemaRefused ends causes empty = absurd ends
  demo_done rounds status.ReadFault ends causes empty = absurd ends
  demo_done rounds status.Usage ends causes empty = absurd ends
  demo_done rounds status.ScriptTooLong ends causes empty = absurd ends

-- ---- by what the words ask for

module _ (words : List (List ℕ)) (call : Call) (old new : Counts) (ending : Status) where
  -- they ask for nothing
  pub usage_complete : IsNoPlan words → IsComplete ending words call old new
  usage_complete none calm may =
      absurd (⊎_elim (λ check. none (Check check.0.0) check.0.1) (⊎_elim (λ init. none (Init init.0.0 init.0.1) init.0.2) (⊎_elim (λ run. none (Run run.0.0 run.0.1) run.0.2) (λ demo. none (Demo demo.0.0 demo.0.1) demo.0.2))) may)

  pub check_complete : (at : ℕ) → ((plan : Plan) → IsPlanOf words plan → Check at ≡ plan) → EndsChecking ending call.schema call.before call.after old.schema new.schema → HasCauses ending old new
      → (IsTrue (ends_before_script ending) → IfSome call.schema IsOneThing) → IsComplete ending words call old new
  check_complete at only ends causes one calm may = ⊎_elim
      (λ check. check_done call old new calm ending ends causes one check.1)
      (⊎_elim (λ init. absurd (let no : Check at ≡ Init init.0.0 init.0.1 = only (Init init.0.0 init.0.1) init.0.2 in cc))
      (⊎_elim (λ run. absurd (let no : Check at ≡ Run run.0.0 run.0.1 = only (Run run.0.0 run.0.1) run.0.2 in cc))
      (λ demo. absurd (let no : Check at ≡ Demo demo.0.0 demo.0.1 = only (Demo demo.0.0 demo.0.1) demo.0.2 in cc)))) may

  pub init_complete : (at store : ℕ) → ((plan : Plan) → IsPlanOf words plan → Init at store ≡ plan) → EndsMaking ending (made_of call) old.schema new.schema → HasCauses ending old new
      → (IsTrue (ends_before_script ending) → IfSome call.schema IsOneThing) → IsComplete ending words call old new
  init_complete at store only ends causes one calm may = ⊎_elim
      (λ check. absurd (let no : Init at store ≡ Check check.0.0 = only (Check check.0.0) check.0.1 in cc))
      (⊎_elim (λ init. init_done call old new calm ending ends causes one init.1)
      (⊎_elim (λ run. absurd (let no : Init at store ≡ Run run.0.0 run.0.1 = only (Run run.0.0 run.0.1) run.0.2 in cc))
      (λ demo. absurd (let no : Init at store ≡ Demo demo.0.0 demo.0.1 = only (Demo demo.0.0 demo.0.1) demo.0.2 in cc)))) may

  pub run_complete : IsImageOneThing → (at store : ℕ) → ((plan : Plan) → IsPlanOf words plan → Run at store ≡ plan) → EndsServing ending call old.schema new.schema → HasCauses ending old new
      → (IsTrue (ends_before_script ending) → IfSome call.schema IsOneThing) → IsComplete ending words call old new
  run_complete law at store only ends causes one calm may = ⊎_elim
      (λ check. absurd (let no : Run at store ≡ Check check.0.0 = only (Check check.0.0) check.0.1 in cc))
      (⊎_elim (λ init. absurd (let no : Run at store ≡ Init init.0.0 init.0.1 = only (Init init.0.0 init.0.1) init.0.2 in cc))
      (⊎_elim (λ run. run_done call old new calm law ending ends causes one run.1 run.2)
      (λ demo. absurd (let no : Run at store ≡ Demo demo.0.0 demo.0.1 = only (Demo demo.0.0 demo.0.1) demo.0.2 in cc)))) may

  pub demo_complete : (rounds store : ℕ) → ((plan : Plan) → IsPlanOf words plan → Demo rounds store ≡ plan) → EndsShowing rounds ending call → HasCauses ending old new → IsComplete ending words call old new
  demo_complete rounds store only ends causes calm may = ⊎_elim
      (λ check. absurd (let no : Demo rounds store ≡ Check check.0.0 = only (Check check.0.0) check.0.1 in cc))
      (⊎_elim (λ init. absurd (let no : Demo rounds store ≡ Init init.0.0 init.0.1 = only (Init init.0.0 init.0.1) init.0.2 in cc))
      (⊎_elim (λ run. absurd (let no : Demo rounds store ≡ Run run.0.0 run.0.1 = only (Run run.0.0 run.0.1) run.0.2 in cc))
      (λ demo. demo_done call old new calm rounds ending ends causes demo.1))) may

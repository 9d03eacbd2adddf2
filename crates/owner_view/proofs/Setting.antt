-- Objects with another value of a member, and the step that sets one.
use Rattle.std.proofs.Common.{◌≡◌, ◌<◌, ℕ, List, [], ◌∷◌, length, set, Option, Some, None, sym, ap, subst, ◌∙◌}
use Rattle.std.specs.List.{slice_get}
use Rattle.std.specs.FinMap.{get}
use Rattle.std.proofs.lemmas.List.{length-map}
use Rattle.std.proofs.lemmas.Option.{slice_get_within}
use Rattle.pss_base.specs.declared.pid.Pid.{Pid}
use Rattle.type_layout.specs.declared.home.HomeNo.{HomeNo}
use Rattle.type_layout.specs.declared.schema.Schema.{Schema}
use Rattle.type_layout.specs.Schemas.{given, members_at, keys_at}
use Rattle.type_layout.specs.Types.{PlainValue}
use Rattle.pss_catalog.specs.Catalog.{Object, Catalog, references}
use Rattle.pss_machine.specs.declared.level.Level.{Level}
use Rattle.pss_machine.specs.Operations.{Set, Gone, Done}
use Rattle.pss_machine.specs.Alone.{Outcome, answers, object_of, with_member, unless_gone, stored}
use Rattle.pss_machine.specs.Needs.{object_need, targets}
use Rattle.pss_machine.specs.declared.lock.Mode.TheVariants.{X as Write}
use Rattle.pss_laws.proofs.Records.{set_record}
use Rattle.owner_view.specs.declared.seen.Seen.{Seen}
use Rattle.owner_view.specs.declared.step.Step.{Step}
use Rattle.owner_view.specs.Keyed.{all_keyed, keys_of}
use Rattle.owner_view.specs.Seen.{Fits, FitsMember, IsOfHome, IsShown, home_seen}
use Rattle.owner_view.specs.Stored.{IsSeenAs, IsSeenAt}
use Rattle.owner_view.specs.Steps.{with_reads, set_needs, stored_unless, changes_put, MayBePut, ComesTo, IsGone, IsStep}
use Rattle.owner_view.proofs.Showing.{home_shown}
use Rattle.owner_view.proofs.Needing.{set_needs_are, set_gone}
use Rattle.owner_view.proofs.Removing.{is_there}

abbrev pub shown_as : (S : Schema) (state : Option Object) (seen : Seen) → IsSeenAs S state (Some seen) → IsShown S seen
shown_as S state seen there = record { object = there.0; fits = there.2; is = there.3 }

-- two objects of a home have as many keys
pub as_many_keys : (S : Schema) (state : Option Object) (object : Object) → IsOfHome state object.home → length (keys_of S state) ≡ length (all_keyed S object)
as_many_keys S None object of_home = absurd of_home
as_many_keys S (Some x) object of_home = length-map (keys_at S x.home) _ ∙ ap (λ (h : HomeNo). length (keys_at S h)) of_home ∙ sym (length-map (keys_at S object.home) _)

-- what is seen of the object of a pid is seen at its serial
abbrev pub seen_at : (S : Schema) (V : Catalog) (p : Pid) (seen : Seen) → IsSeenAs S (object_of V p) (Some seen) → IsSeenAt S V p.serial (Some seen)
seen_at S V p seen there = (there.0, (is_there V p there.0 there.1).0, there.2, there.3)

module _ (S : Schema) (V : Catalog) (p : Pid) (seen : Seen) (there : IsSeenAs S (object_of V p) (Some seen)) where
  pub home_is : (home_seen seen).0 ≡ p.home
  home_is = ap (λ (h : HomeNo). h.0) (home_shown S seen (shown_as S (object_of V p) seen there)) ∙ (is_there V p there.0 there.1).1

  pub set_home : (object : Object) → object.home ≡ there.0.home → IsOfHome (get V p.serial) object.home
  set_home object same = subst (λ (o : Option Object). IsOfHome o object.home) (sym (is_there V p there.0 there.1).0) (sym same)

-- the object keeps its layout with another value of a member
module _ (S : Schema) (p : Pid) (member : ℕ) (value : PlainValue) (fits : FitsMember S p member value) (seen : Seen) (home : (home_seen seen).0 ≡ p.home) (s : IsShown S seen) where
  member_is : slice_get (members_at S s.object.home) member ≡ Some fits.0
  member_is = (let same : home_seen seen ≡ record { 0 = p.home } = (λ i. record { 0 = home i }) in ap (λ (h : HomeNo). slice_get (members_at S h) member) (sym (home_shown S seen s) ∙ same) ∙ fits.1)

  pub member_there : member < length (members_at S s.object.home)
  member_there = slice_get_within (members_at S s.object.home) member fits.0 member_is

  -- its record with that value
  pub set_made : (at : HomeNo) (values : List PlainValue) → at ≡ home_seen seen → values ≡ set s.object.values member value → record { home = at; values = values } ≡ with_member s.object member value
  set_made at values of_home is = (let same : at ≡ s.object.home = of_home ∙ home_shown S seen s in λ i. record { home = same i; values = is i })

  pub set_fits : Fits S (with_member s.object member value)
  set_fits = record { home = s.fits.home; there = s.fits.there; is_record = set_record (members_at S s.object.home) s.object.values member fits.0 value s.fits.is_record member_is fits.2 }

module _ (S : Schema) (level : Level) (V : Catalog) (p : Pid) (member : ℕ) (value : PlainValue) where
  abbrev outcome : Option Object → Outcome
  outcome o = given o (answers (Gone p)) (λ x. unless_gone V (references value) (stored S V p.serial (with_member x member value) Done))

  pub set_is : (x object : Object) (referred : List Pid) (step : Step) → object_of V p ≡ Some x → object ≡ with_member x member value → referred ≡ references value
      → ComesTo S V (with_reads level (set_needs p.serial (keys_of S (get V p.serial)) (all_keyed S object)) (targets referred)) (stored_unless S V p.serial object referred Done) step → IsStep S level V (Set p member value) step
  set_is x object referred step there same one r = record {
    needs = r.needs ∙ (λ i. with_reads level (set_needs p.serial (keys_of S ((is_there V p x there).0 i)) (all_keyed S (same i))) (targets (one i))) ∙ set_needs_are S level V p member value x there;
    answer = r.answer ∙ (λ i. (stored_unless S V p.serial (same i) (one i) Done).answer) ∙ ap (λ (o : Option Object). (outcome o).answer) (sym there);
    changes = r.changes ∙ (λ i. (stored_unless S V p.serial (same i) (one i) Done).changes) ∙ ap (λ (o : Option Object). (outcome o).changes) (sym there);
    put = r.put;
  }

  pub set_of_gone : (referred : List Pid) (step : Step) → object_of V p ≡ None → referred ≡ references value → IsGone level p referred step → IsStep S level V (Set p member value) step
  set_of_gone referred step none one r = record {
    needs = r.needs ∙ ap (λ (l : List Pid). with_reads level (object_need Write p.serial ∷ []) (targets l)) one ∙ set_gone S level V p member value none;
    answer = r.answer ∙ ap (λ (o : Option Object). (outcome o).answer) (sym none);
    changes = ap changes_put r.put ∙ ap (λ (o : Option Object). (outcome o).changes) (sym none);
    put = subst (MayBePut S V) (sym r.put) tt;
  }

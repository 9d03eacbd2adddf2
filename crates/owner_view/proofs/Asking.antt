-- Answers to questions.
use Rattle.std.proofs.Common.{◌≡◌, ◌<◌, ℕ, Bool, true, false, cond, List, [], ◌∷◌, length, Option, Some, None, refl, sym, ap, subst, ◌∙◌}
use Rattle.std.specs.Prelude.{find}
use Rattle.std.specs.List.{slice_get}
use Rattle.std.specs.FinMap.{get}
use Rattle.pss_base.specs.declared.pid.Pid.{Pid}
use Rattle.type_layout.specs.declared.home.HomeNo.{HomeNo}
use Rattle.type_layout.specs.declared.key.KeyNo.{KeyNo}
use Rattle.type_layout.specs.declared.schema.Schema.{Schema}
use Rattle.type_layout.specs.Schemas.{given, descends, members_at}
use Rattle.type_layout.specs.Types.{PlainValue}
use Rattle.pss_catalog.specs.Catalog.{Object, Catalog, IsUnique, pid_of}
use Rattle.pss_machine.specs.Operations.{FindKey, Get, Found, NotFound, Val, Gone}
use Rattle.pss_machine.specs.Alone.{object_of, pid_at, told}
use Rattle.owner_view.specs.declared.seen.Seen.{Seen}
use Rattle.owner_view.specs.Asking.{found_below}
use Rattle.owner_view.specs.Seen.{home_seen}
use Rattle.owner_view.specs.Stored.{IsSeenAs}
use Rattle.owner_view.specs.Views.{IsHolder}
use Rattle.owner_view.proofs.Holding.{listed_holder}
use Rattle.owner_view.proofs.Showing.{home_shown}
use Rattle.owner_view.proofs.Removing.{is_there}
use Rattle.owner_view.proofs.Setting.{shown_as}

-- the object that holds a key, where it is of the home
pub keyed_is : (S : Schema) (V : Catalog) (h : HomeNo) (k : KeyNo) (bytes : List ℕ) → IsUnique S V → (holder : Option ℕ) → IsHolder S V k bytes holder → given holder NotFound (λ s. found_below S h s (get V s)) ≡ told S V (FindKey h k bytes)
keyed_is S V h k bytes unique None none = sym (ap (λ (ps : List Pid). given (find (λ p. descends S (record { 0 = p.home }) h) ps) NotFound Found) (listed_holder S V k bytes unique None none))
keyed_is S V h k bytes unique (Some s) one =
    ap (found_below S h s) one.1 ∙ by (descends S one.0.home h)
    ∙ sym (ap (λ (ps : List Pid). given (find (λ p. descends S (record { 0 = p.home }) h) ps) NotFound Found) (listed_holder S V k bytes unique (Some s) one ∙ ap (λ (o : Option Object). given o [] (λ x. pid_of (s, x) ∷ [])) one.1))
  where
    by : (b : Bool) → cond b (Found (pid_at s one.0)) NotFound ≡ given (cond b (Some (pid_of (s, one.0))) None) NotFound Found
    by true = refl
    by false = refl

module _ (S : Schema) (V : Catalog) (p : Pid) (member : ℕ) (seen : Seen) (there : IsSeenAs S (object_of V p) (Some seen)) where
  pub member_within : member < length (members_at S (record { 0 = p.home })) → member < length (members_at S (home_seen seen))
  member_within within =
      let n = (is_there V p there.0 there.1).1 in
      let same : record { 0 = p.home } ≡ home_seen seen = (λ i. record { 0 = sym n i }) ∙ sym (home_shown S seen (shown_as S (object_of V p) seen there)) in
      subst (λ (h : HomeNo). member < length (members_at S h)) same within

  pub value_told : (value : PlainValue) → slice_get there.0.values member ≡ Some value → Val value ≡ told S V (Get p member)
  value_told value is = sym (ap (λ (o : Option Object). given o (Gone p) (λ object. given (slice_get object.values member) (Gone p) Val)) there.1 ∙ ap (λ (o : Option PlainValue). given o (Gone p) Val) is)

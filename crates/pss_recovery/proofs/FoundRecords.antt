-- Whether octets spell the record of an object is decided.
use Rattle.std.proofs.Common.{ℕ, ◌≡◌, ◌⊎◌, inl, inr, ⊎_elim, ◌<◌, List, [], ◌∷◌, Option, None, Some, IsSome, refl, ap, ◌∙◌, subst}
use Rattle.std.specs.List.{flat_map}
use Rattle.std.proofs.lemmas.Bool.{false≢true}
use Rattle.pss_base.specs.declared.pid.Pid.{Pid}
use Rattle.pss_base.specs.declared.put.Put.{Put}
use Rattle.type_layout.specs.declared.home.HomeNo.{HomeNo}
use Rattle.type_layout.specs.declared.schema.Home.{Home}
use Rattle.type_layout.specs.declared.schema.Schema.{Schema}
use Rattle.type_layout.specs.Schemas.{given, home_at, members_at}
use Rattle.type_layout.specs.Sound.{IsSoundLayout, IsSoundSchema}
use Rattle.type_layout.specs.Spelling.{record_spelling}
use Rattle.type_layout.specs.Types.{PlainMember, PlainValue}
use Rattle.type_layout.specs.Values.{IsRecord}
use Rattle.cdr_codec.proofs.Records.{no_record, record_or_refusal}
use Rattle.pss_catalog.specs.Catalog.{AreGiven, Object, references}
use Rattle.redo_journal.specs.Laws.{AreOctets}
use Rattle.storage_home.specs.Applied.{IsState}
use Rattle.pss_recovery.specs.Loading.{RefersBelow}
use Rattle.pss_recovery.specs.inner.Checks.{object_of}
use Rattle.pss_recovery.proofs.Additions.{home_there}
use Rattle.page_format.proofs.Decisions.{IsDecided, both_of, less_decided}
use Rattle.pss_recovery.proofs.Rows.{stored_of}

pub record_found : (members : List PlainMember) → IsSoundLayout members → (bytes : List ℕ) → AreOctets bytes
    → ((vs : List PlainValue) × IsRecord members vs × (bytes ≡ record_spelling members vs)) ⊎ ((vs : List PlainValue) → IsRecord members vs → bytes ≡ record_spelling members vs → ⊥)
record_found members sound bytes small =
    ⊎_elim (λ spells. inl (spells.values, spells.is_record, spells.spelled)) (λ refused. inr (λ vs is spelled. no_record members bytes refused.0 sound refused.1 (record { values = vs; is_record = is; spelled = spelled })))
    (record_or_refusal members bytes sound small)

given_decided : (next : ℕ) (ps : List Pid) → IsDecided (AreGiven next ps)
given_decided next [] = inl tt
given_decided next (p ∷ ps) = both_of ((0 < p.serial) × (p.serial < next)) (AreGiven next ps) (both_of (0 < p.serial) (p.serial < next) (less_decided 0 p.serial) (less_decided p.serial next)) (given_decided next ps)

pub refers_decided : (next : ℕ) (object : Object) → IsDecided (RefersBelow next object)
refers_decided next object = given_decided next (flat_map references object.values)

module _ (S : Schema) (sound : IsSoundSchema S) (home : ℕ) (octets : List ℕ) (small : AreOctets octets) where
  abbrev number : HomeNo
  number = record { 0 = home }

  -- a row with these octets
  abbrev row : Put
  row = record { home = home; serial = 0; bytes = Some octets }

  abbrev pub IsStateSome : Type 0
  IsStateSome = ((object : Object) × IsState S home (Some octets) (Some object)) ⊎ ((object : Object) → IsState S home (Some octets) (Some object) → ⊥)

  layout_is : (h : Home) → home_at S number ≡ Some h → (object : Object) → object.home.0 ≡ home → members_at S object.home ≡ h.layout.members
  layout_is h there object is =
      let same : object.home ≡ number = λ i. record { 0 = is i } in
      ap (members_at S) same ∙ ap (λ o. given o [] (λ h. h.layout.members)) there

  of_home : (h : Home) → home_at S number ≡ Some h → IsStateSome
  of_home h there =
      ⊎_elim (λ found. inl (object_of row found.0, stored_of S row h octets found.0 there refl found.1 found.2))
      (λ none. inr (λ object state. let is = layout_is h there object state.0 in none object.values (subst (λ (m : List PlainMember). IsRecord m object.values) is state.1.1) (state.2 ∙ ap (λ m. record_spelling m object.values) is)))
      (record_found h.layout.members (sound.layouts number h there) octets small)

  pub state_found : IsStateSome
  state_found = by (home_at S number) refl
    where
      by : (o : Option Home) → home_at S number ≡ o → IsStateSome
      by None none = inr (λ object state. false≢true (subst IsSome none (home_there S row object state)))
      by (Some h) there = of_home h there

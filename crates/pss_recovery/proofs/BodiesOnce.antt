-- Bodies make one catalog, or one of them is the first that is wrong.
use Rattle.std.proofs.Common.{ℕ, zero, suc, ◌≡◌, inl, inr, ◌<◌, List, [], ◌∷◌, length, take, None, Some, refl, sym, ap, ◌∙◌, subst, arith}
use Rattle.std.specs.List.{slice_get}
use Rattle.std.proofs.lemmas.Option.{slice_get_within}
use Rattle.type_layout.specs.declared.schema.Schema.{Schema}
use Rattle.pss_catalog.specs.Catalog.{Catalog}
use Rattle.pss_catalog.specs.Changes.{over}
use Rattle.pss_catalog.proofs.Forest.{Compared, compared}
use Rattle.redo_journal.specs.Journal.{journal_start}
use Rattle.storage_home.proofs.Places.{take_end}
use Rattle.pss_recovery.specs.Replaying.{AreReplayed, IsChangeDamage, IsChanged, IsRight, gate_behind}
use Rattle.pss_recovery.specs.declared.body.Body.{Body}
use Rattle.pss_recovery.proofs.BodyParts.{one_body}
use Rattle.pss_recovery.proofs.Joins.{made_one}

module _ (S : Schema) where
  changed_once : (M : Catalog) (next : ℕ) (body : Body) (N O : Catalog) → IsChanged S M next body N → IsChanged S M next body O → N ≡ O
  changed_once M next body N O a b = a.result ∙ ap (over M) (made_one S M body.next body.puts a.steps b.steps a.made b.made) ∙ sym b.result

  -- octets that are right make one catalog and one next serial
  right_once : (M : Catalog) (next : ℕ) (octets : List ℕ) (N O : Catalog) (number last : ℕ) → IsRight S M next octets N number → IsRight S M next octets O last → (N ≡ O) × (number ≡ last)
  right_once M next octets N O number last a b =
      let same : b.body ≡ a.body = one_body octets b.body a.body b.spells a.spells in
      (changed_once M next a.body N O a.changed (subst (λ (x : Body). IsChanged S M next x O) same b.changed), a.last_ ∙ sym (b.last_ ∙ ap (λ (x : Body). x.next) same))

  pub replayed_once : (bodies : List (List ℕ)) (M : Catalog) (next : ℕ) (N O : Catalog) (number last : ℕ) → AreReplayed S M next bodies N number → AreReplayed S M next bodies O last → (N ≡ O) × (number ≡ last)
  replayed_once [] M next N O number last a b = (a.0 ∙ sym b.0, a.1 ∙ sym b.1)
  replayed_once (octets ∷ bodies) M next N O number last a b =
      let same = right_once M next octets b.0 a.0 b.1 a.1 b.2 a.2 in
      replayed_once bodies a.0 a.1 N O number last a.3 (subst (λ (n : ℕ). AreReplayed S a.0 n bodies O last) same.1 (subst (λ (K : Catalog). AreReplayed S K b.1 bodies O last) same.0 b.3))

  -- the bodies in front of one are right, and it too
  record IsRightAt (M : Catalog) (next : ℕ) (bodies : List (List ℕ)) (i : ℕ) (octets : List ℕ) : Type 0 where
    before : Catalog
    number : ℕ
    replayed : AreReplayed S M next (take i bodies) before number
    after : Catalog
    last : ℕ
    right : IsRight S before number octets after last

  right_at : (bodies : List (List ℕ)) (M : Catalog) (next : ℕ) (N : Catalog) (number i j : ℕ) (octets : List ℕ) → i < j → slice_get bodies i ≡ Some octets → AreReplayed S M next (take j bodies) N number → IsRightAt M next bodies i octets
  right_at [] M next N number i j octets less there done = absurd (let no : None ≡ Some octets = there in cc)
  right_at (b ∷ bodies) M next N number i zero octets less there done = absurd (omega (arith, less))
  right_at (b ∷ bodies) M next N number zero (suc j) octets less there done =
      let same : b ≡ octets = (cc) in
      record { before = M; number = next; replayed = (refl, refl); after = done.0; last = done.1; right = subst (λ (o : List ℕ). IsRight S M next o done.0 done.1) same done.2 }
  right_at (b ∷ bodies) M next N number (suc i) (suc j) octets less there done =
      let rest = right_at bodies done.0 done.1 N number i j octets (omega (arith, less)) there done.3 in
      record { before = rest.before; number = rest.number; replayed = (done.0, done.1, done.2, rest.replayed); after = rest.after; last = rest.last; right = rest.right }

  module _ (M : Catalog) (next : ℕ) (bodies : List (List ℕ)) where
    -- the first body that is wrong is not among bodies that are right
    not_before : (at : ℕ) (d : IsChangeDamage S M next bodies at) (j : ℕ) (N : Catalog) (number : ℕ) → d.index < j → AreReplayed S M next (take j bodies) N number → ⊥
    not_before at d j N number less done =
        let r = right_at bodies M next N number d.index j d.octets less d.there done in
        let same = replayed_once (take d.index bodies) M next r.before d.before r.number d.number r.replayed d.replayed in
        d.wrong r.after r.last (subst (λ (n : ℕ). IsRight S d.before n d.octets r.after r.last) same.1 (subst (λ (K : Catalog). IsRight S K r.number d.octets r.after r.last) same.0 r.right))

    pub not_replayed : (at : ℕ) → IsChangeDamage S M next bodies at → (N : Catalog) (number : ℕ) → AreReplayed S M next bodies N number → ⊥
    not_replayed at d N number done =
        not_before at d (length bodies) N number (slice_get_within bodies d.index d.octets d.there) (subst (λ (l : List (List ℕ)). AreReplayed S M next l N number) (sym (take_end bodies (length bodies) (omega arith))) done)

    pub damage_once : (at other : ℕ) → IsChangeDamage S M next bodies at → IsChangeDamage S M next bodies other → at ≡ other
    damage_once at other d e = by (compared d.index e.index)
      where
        by : Compared d.index e.index → at ≡ other
        by (inl less) = absurd (not_before at d e.index e.before e.number less e.replayed)
        by (inr (inr less)) = absurd (not_before other e d.index d.before d.number less d.replayed)
        by (inr (inl same)) = d.place ∙ ap (λ (n : ℕ). gate_behind journal_start (take n bodies)) same ∙ sym e.place

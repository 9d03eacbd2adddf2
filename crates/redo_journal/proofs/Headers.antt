-- What is behind a gate by its header and its body.
use Rattle.std.proofs.Common.{ℕ, ◌≡◌, ◌≢◌, ◌↔◌, ◌⊎◌, inl, inr, ⊎_elim, ◌<◌, ◌+◌, List, [], ◌∷◌, ◌++◌, length, get_or, zero, suc, Bool, true, false, None, Some, IfSome, IsTrue, refl, sym, ap, ◌∙◌, subst, arith}
use Rattle.std.proofs.lemmas.Bool.{cases_lt, false≢true}
use Rattle.std.specs.Int.{to_be_bytes, w32, w64}
use Rattle.std.specs.declared.option.Option.{Option}
use Rattle.pss_disk.specs.Octets.{octets_in}
use Rattle.pss_disk.specs.Parts.{Stands, number4, octet_at}
use Rattle.pss_disk.specs.inner.Writing.{length-octets_in}
use Rattle.pss_disk.proofs.Parts.{stands_both, stands_by}
use Rattle.std.specs.Prelude.{Result, Ok, Err, IfOk, OnOk}
use Rattle.std.specs.Option.{unwrap_or}
use Rattle.redo_journal.specs.Journal.{Chain, Ends, Fits, HasEpoch, IsDamaged, IsWrong, header, journal_end, journal_start, behind, spelled}
use Rattle.redo_journal.proofs.Chains.{chain_push}
use Rattle.redo_journal.specs.declared.fault.ReplayFault.{ReplayFault}
use Rattle.redo_journal.specs.declared.fault.ReplayFault.TheVariants as fault
use Rattle.redo_journal.specs.declared.header.Header.{Header}
use Rattle.redo_journal.specs.inner.Window.{IsHeader}

-- a test of two cases that did not hold
pub not_first : (r a : Bool) (X : Type 0) → (IsTrue r ↔ ((a ≡ false) ⊎ X)) → r ≡ false → a ≡ true
not_first r true X i e = refl
not_first r false X i e = absurd (false≢true (sym e ∙ i.1 (inl refl)))

pub not_second : (r : Bool) (X : Type 0) (gate len : ℕ) → (IsTrue r ↔ (X ⊎ (Fits gate len → ⊥))) → r ≡ false → Fits gate len
not_second r X gate len i e = ⊎_elim (λ less. less) (λ more. absurd (false≢true (sym e ∙ i.1 (inr (λ fits. omega (arith, fits, more)))))) (cases_lt (behind gate len) journal_end)

pub gate_stands : (c : List ℕ) (gate : ℕ) → octet_at c gate ≡ 165 → Stands c gate (165 ∷ [])
gate_stands c gate e = stands_by c (165 ∷ []) gate (λ i lt. by i lt)
  where
    by : (i : ℕ) → i < 1 → octet_at c (gate + i) ≡ get_or (165 ∷ []) i 0
    by zero lt = ap (octet_at c) (let h : gate + 0 ≡ gate = omega arith in h) ∙ e
    by (suc i) lt = absurd (omega (arith, lt))

-- gate, epoch, length and body are a record
whole : (epoch gate : ℕ) (h : Header) (body c : List ℕ) → IsHeader epoch gate h c → Stands c (gate + 13) body → h.is_open ≡ true → h.has_epoch ≡ true → length body ≡ h.len → Stands c gate (spelled epoch body)
unfolding header
whole epoch gate h body c is s open_ epoch_ len =
    let e = to_be_bytes w64 epoch in
    let n = to_be_bytes w32 (length body) in
    let one : Stands c gate (165 ∷ []) = gate_stands c gate (is.open_.0 open_) in
    let two : Stands c (gate + 1) e = is.epoch_.0 epoch_ in
    let three : Stands c (gate + 9) n = subst (λ (k : ℕ). Stands c (gate + 9) (to_be_bytes w32 k)) (sym len) is.stands in
    stands_both c (165 ∷ []) ((e ++ n) ++ body) gate (gate + 1) refl one
    (stands_both c (e ++ n) body (gate + 1) (gate + 13) (omega arith) (stands_both c e n (gate + 1) (gate + 9) (omega arith) two three) s)

-- the body that was read is the part of the content
pub body_added : {E : Type 0} (r : Result (Option ℕ) E) (at len : ℕ) (body : List ℕ) (bodies new : List (List ℕ)) (content : Option (List ℕ)) → length body ≡ len → IfSome content (λ c. Stands c at body) → OnOk r (new ≡ bodies ++ body ∷ [])
    → OnOk r (IfSome content (λ c. new ≡ bodies ++ octets_in (record { at = at; count = len }) c ∷ []))
body_added (Err e) at len body bodies new content l s added = tt
body_added (Ok n) at len body bodies new None l s added = tt
body_added (Ok n) at len body bodies new (Some c) l s added =
    added ∙ ap (λ b. bodies ++ b ∷ []) (sym s ∙ ap (λ k. octets_in (record { at = at; count = k }) c) l)

-- the chain with the body of the record behind its last gate
pub chain_added : {E : Type 0} (r : Result (Option ℕ) E) (epoch gate : ℕ) (h : Header) (bodies new : List (List ℕ)) (old content : Option (List ℕ)) → content ≡ old → IfOk r (λ next. next ≡ Some (behind gate h.len))
    → OnOk r (IfSome content (λ c. new ≡ bodies ++ octets_in (record { at = gate + 13; count = h.len }) c ∷ [])) → IfSome old (λ c. Chain epoch c journal_start bodies gate) → IfSome old (IsHeader epoch gate h)
    → h.is_open ≡ true → h.has_epoch ≡ true → Fits gate h.len → IfOk r (λ next. IfSome old (λ c. Chain epoch c journal_start new (unwrap_or next gate)))
chain_added (Err e) epoch gate h bodies new old content same next added chain is open_ epoch_ fits = tt
chain_added (Ok n) epoch gate h bodies new None content same next added chain is open_ epoch_ fits = tt
chain_added (Ok n) epoch gate h bodies new (Some c) content same next added chain is open_ epoch_ fits =
    let body = octets_in (record { at = gate + 13; count = h.len }) c in
    let len : length body ≡ h.len = length-octets_in (record { at = gate + 13; count = h.len }) c in
    let here : Stands c (gate + 13) body = ap (λ k. octets_in (record { at = gate + 13; count = k }) c) len in
    let by : new ≡ bodies ++ body ∷ [] = subst (λ (o : Option (List ℕ)). IfSome o (λ c. new ≡ bodies ++ octets_in (record { at = gate + 13; count = h.len }) c ∷ [])) same added in
    subst (λ (o : Option ℕ). Chain epoch c journal_start new (unwrap_or o gate)) (sym next)
    (subst (λ (k : ℕ). Chain epoch c journal_start new (behind gate k)) len
    (subst (λ (bs : List (List ℕ)). Chain epoch c journal_start bs (behind gate (length body))) (sym by)
    (chain_push epoch c journal_start bodies gate body chain (subst (λ (k : ℕ). Fits gate k) (sym len) fits) (whole epoch gate h body c is here open_ epoch_ len))))

-- the first test held: the journal ends at the gate
pub ends_there : (r : Bool) (epoch gate : ℕ) (h : Header) (content : Option (List ℕ)) → (IsTrue r ↔ ((h.is_open ≡ false) ⊎ ((gate ≡ journal_start) × (h.has_epoch ≡ false)))) → r ≡ true → IfSome content (IsHeader epoch gate h) → IfSome content (λ c. Ends epoch c gate)
ends_there r epoch gate h None i e is = tt
ends_there r epoch gate h (Some c) i e is =
    ⊎_elim (λ closed. inl (λ open_. false≢true (sym closed ∙ is.open_.1 open_))) (λ first. inr (first.0, λ epoch_. false≢true (sym first.1 ∙ is.epoch_.1 epoch_))) (i.0 e)

-- the first test did not hold and the second did: the gate is wrong
pub wrong_there : (r more : Bool) (epoch gate : ℕ) (h : Header) (content : Option (List ℕ)) → (IsTrue r ↔ ((h.is_open ≡ false) ⊎ ((gate ≡ journal_start) × (h.has_epoch ≡ false)))) → r ≡ false → (IsTrue more ↔ ((h.has_epoch ≡ false) ⊎ (Fits gate h.len → ⊥))) → more ≡ true
    → IfSome content (IsHeader epoch gate h) → IfSome content (λ c. IsWrong epoch c gate)
wrong_there r more epoch gate h None i e j f is = tt
wrong_there r more epoch gate h (Some c) i e j f is = (is.open_.0 (not_first r h.is_open _ i e), ⊎_elim other (λ long. by h.has_epoch refl long) (j.0 f))
  where
    other : h.has_epoch ≡ false → ((gate ≢ journal_start) × (HasEpoch epoch c gate → ⊥)) ⊎ (HasEpoch epoch c gate × (Fits gate (number4 c (gate + 9)) → ⊥))
    other lacks = inl (λ at. false≢true (sym e ∙ i.1 (inr (at, lacks))), λ epoch_. false≢true (sym lacks ∙ is.epoch_.1 epoch_))

    by : (b : Bool) → h.has_epoch ≡ b → (Fits gate h.len → ⊥) → ((gate ≢ journal_start) × (HasEpoch epoch c gate → ⊥)) ⊎ (HasEpoch epoch c gate × (Fits gate (number4 c (gate + 9)) → ⊥))
    by true has long = inr (is.epoch_.0 has, λ fits. long (subst (λ (n : ℕ). Fits gate n) is.len fits))
    by false lacks long = other lacks

abbrev place_of : {T : Type 0} → Result T ReplayFault → ℕ
place_of (Ok t) = 0
place_of (Err (fault.Damaged at)) = at
place_of (Err fault.DiskFault) = 0
place_of (Err fault.NoMemory) = 0

-- damage has one place
pub same_place : {T : Type 0} (gate at : ℕ) (r : Result T ReplayFault) → r ≡ Err (fault.Damaged gate) → r ≡ Err (fault.Damaged at) → at ≡ gate
same_place gate at r here there = ap place_of (sym there ∙ here)

-- the content from before is damaged behind what was read
pub damaged_there : (epoch gate at : ℕ) (bodies : List (List ℕ)) (old content : Option (List ℕ)) → content ≡ old → IfSome content (λ c. Chain epoch c journal_start bodies gate) → (at ≡ gate) × IfSome content (λ c. IsWrong epoch c gate) → IfSome old (IsDamaged epoch at)
damaged_there epoch gate at bodies old None same chain wrong = subst (λ (o : Option (List ℕ)). IfSome o (IsDamaged epoch at)) same tt
damaged_there epoch gate at bodies old (Some c) same chain wrong =
    subst (λ (o : Option (List ℕ)). IfSome o (IsDamaged epoch at)) same (subst (λ (g : ℕ). IsDamaged epoch g c) (sym wrong.0) (record { bodies = bodies; chain = chain; wrong = wrong.1 }))

abbrev fault_of : {T : Type 0} → Result T ReplayFault → ReplayFault
fault_of (Ok t) = fault.NoMemory
fault_of (Err why) = why

-- the same fault of two calls
pub same_fault : {A B : Type 0} (r : Result A ReplayFault) (s : Result B ReplayFault) (f g : ReplayFault) → r ≡ Err f → r ≡ Err g → s ≡ Err f → s ≡ Err g
same_fault r s f g one two here = here ∙ ap (λ why. Err why) (ap fault_of (sym one ∙ two))

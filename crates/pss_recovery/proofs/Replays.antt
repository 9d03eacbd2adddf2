-- One body after the other.
use Rattle.std.proofs.Common.{ℕ, ◌≡◌, ◌^◌, ◌<◌, ◌≤◌, List, [], ◌∷◌, ◌++◌, length, refl, sym, ap, ◌∙◌, subst, arith}
use Rattle.std.specs.List.{AllByRecursion}
use Rattle.pss_base.specs.declared.put.Put.{Put}
use Rattle.type_layout.specs.declared.schema.Schema.{Schema}
use Rattle.pss_catalog.specs.Catalog.{Catalog}
use Rattle.storage_home.specs.declared.homes.Homes.{Homes}
use Rattle.storage_home.specs.Kept.{IsKept}
use Rattle.redo_journal.specs.Journal.{Chain, behind, journal_start}
use Rattle.page_format.specs.Objects.{IsRightPut}
use Rattle.pss_recovery.specs.Bodies.{Spells}
use Rattle.pss_recovery.specs.Noted.{AreNoted}
use Rattle.pss_recovery.specs.Replaying.{AreReplayed, IsRight, gate_behind}
use Rattle.pss_recovery.specs.declared.body.Body.{Body}
use Rattle.pss_recovery.specs.inner.Remaking.{AreReplayedSoFar, IsMadeOf}
use Rattle.pss_recovery.proofs.Notes.{all_both, noted_more, right_puts}

-- one body more is right
pub replayed_more : (S : Schema) (M : Catalog) (next : ℕ) (bodies : List (List ℕ)) (N : Catalog) (number : ℕ) (octets : List ℕ) (O : Catalog) (last : ℕ) → AreReplayed S M next bodies N number → IsRight S N number octets O last → AreReplayed S M next (bodies ++ octets ∷ []) O last
replayed_more S M next [] N number octets O last done right =
    (O, last, subst (λ (n : ℕ). IsRight S M n octets O last) done.1 (subst (λ (K : Catalog). IsRight S K number octets O last) done.0 right), (refl, refl))
replayed_more S M next (b ∷ bodies) N number octets O last done right = (done.0, done.1, done.2, replayed_more S done.0 done.1 bodies N number octets O last done.3 right)

-- the gate behind one body more
pub gate_more : (gate : ℕ) (bodies : List (List ℕ)) (octets : List ℕ) → gate_behind gate (bodies ++ octets ∷ []) ≡ behind (gate_behind gate bodies) (length octets)
gate_more gate [] octets = refl
gate_more gate (b ∷ bodies) octets = gate_more (behind gate (length b)) bodies octets

-- gates stand behind one another
pub gate_later : (gate : ℕ) (bodies more : List (List ℕ)) → gate_behind gate bodies ≤ gate_behind gate (bodies ++ more)
gate_later gate [] more = later gate more
  where
    later : (gate : ℕ) (more : List (List ℕ)) → gate ≤ gate_behind gate more
    later gate [] = omega arith
    later gate (b ∷ more) = let rest = later (behind gate (length b)) more in omega (arith, rest)
gate_later gate (b ∷ bodies) more = gate_later (behind gate (length b)) bodies more

-- the records of a journal end at the gate behind them
pub gate_is : (epoch : ℕ) (image : List ℕ) (gate : ℕ) (bodies : List (List ℕ)) (last : ℕ) → Chain epoch image gate bodies last → gate_behind gate bodies ≡ last
gate_is epoch image gate [] last chain = sym chain
gate_is epoch image gate (b ∷ bodies) last chain = gate_is epoch image (behind gate (length b)) bodies last chain.2

-- one body more was made
module _ (S : Schema) (next : ℕ) (before : Homes) (all front : List (List ℕ)) (homes : Homes) (last : ℕ) (puts : List Put) (gate : ℕ) (so_far : AreReplayedSoFar S next before all front homes last puts gate) where
  abbrev pub replayed_on : (any : (M : Catalog) × IsKept S M before) (octets : List ℕ) (body : Body) (new : Homes) (more : List Put) (after : ℕ) (rest : List (List ℕ)) → Spells octets body → ((M : Catalog) → IsKept S M homes → IsMadeOf S M last body new)
      → more ≡ puts ++ body.puts → (behind gate (length octets) < 2 ^ 64 → after ≡ behind gate (length octets)) → (front ++ octets ∷ []) ++ rest ≡ all
      → AreReplayedSoFar S next before all (front ++ octets ∷ []) new body.next more after
  replayed_on any octets body new more after rest spells makes e gate_is_ split = record {
    made = λ M kept.
        let m = so_far.made M kept in
        let made = makes m.0 m.2 in
        (made.catalog, replayed_more S M next front m.0 last octets made.catalog body.next m.1 (record { body = body; spells = spells; last_ = refl; changed = made.changed }), made.kept);
    noted = subst (AreNoted (front ++ octets ∷ [])) (sym e) (noted_more front puts octets body so_far.noted spells);
    right =
        let m = so_far.made any.0 any.1 in
        let made = makes m.0 m.2 in
        subst (AllByRecursion IsRightPut) (sym e) (all_both puts body.puts so_far.right (right_puts S m.0 last body made.catalog spells.each made.changed));
    place = λ within.
        let here = so_far.place within in
        let next_gate = gate_more journal_start front octets in
        let later : gate_behind journal_start (front ++ octets ∷ []) ≤ gate_behind journal_start all = subst (λ (l : List (List ℕ)). gate_behind journal_start (front ++ octets ∷ []) ≤ gate_behind journal_start l) split (gate_later journal_start (front ++ octets ∷ []) rest) in
        let same : behind gate (length octets) ≡ behind (gate_behind journal_start front) (length octets) = ap (λ (g : ℕ). behind g (length octets)) here in
        gate_is_ (omega (arith, within, later, next_gate, same)) ∙ same ∙ sym next_gate;
  }

-- Octets of a content where pages and a root were laid, but for two gates.
use Rattle.std.proofs.Common.{ℕ, ◌≡◌, ◌≢◌, ◌⊎◌, ⊎_elim, ◌+◌, ◌-◌, ◌<◌, ◌≤◌, List, [], ◌∷◌, ◌++◌, length, drop, get_or, None, Some, is_some, IfSome, refl, sym, ap, ◌∙◌, subst, arith, length-append}
use Rattle.std.proofs.lemmas.Bool.{cases_lt}
use Rattle.std.proofs.lemmas.List.{get_or-append_right, get_or-drop, get_or_append_left}
use Rattle.std.specs.declared.option.Option.{Option}
use Rattle.std.specs.Option.{option_map}
use Rattle.pss_disk.specs.Octets.{octets_in, write}
use Rattle.pss_disk.specs.Parts.{octet_at}
use Rattle.pss_disk.specs.inner.Writing.{length-octets_in}
use Rattle.pss_disk.proofs.Parts.{in_part, stands_at, written_stands}
use Rattle.redo_journal.specs.Journal.{journal_start}
use Rattle.page_format.specs.Places.{area_start, slot_start}
use Rattle.page_store.specs.Switch.{IsWritten}
use Rattle.page_format.specs.Written.{list_octets, root_octets, whole_page, with_pages}
use Rattle.page_format.specs.declared.new_page.NewPage.{NewPage}
use Rattle.page_format.specs.declared.root.Root.{Root}
use Rattle.page_store.specs.inner.Switching.{Becomes}
use Rattle.page_store.proofs.Laid.{laid}

-- a content is told where the one was that it became of
pub told_on : (S : ℕ → Type 0) (f : List ℕ → List ℕ) (old new : Option (List ℕ)) → Becomes S f old new → is_some new ≡ is_some old
told_on S f None new is = ap is_some is
told_on S f (Some c) new is = ap is_some is.1

-- a write leaves the octets in front of it and behind it, also past the end
octet_in_front : (at : ℕ) (bytes c : List ℕ) (i : ℕ) → i < at → octet_at (write at bytes c) i ≡ octet_at c i
octet_in_front at [] c i lt = refl
octet_in_front at (b ∷ bytes) c i lt =
    let front = octets_in (record { at = 0; count = at }) c in
    let len : length front ≡ at = length-octets_in (record { at = 0; count = at }) c in
    get_or_append_left (front ++ (b ∷ bytes)) (drop (at + length (b ∷ bytes)) c) 0 i (omega (arith, lt, len, length-append front (b ∷ bytes)))
    ∙ get_or_append_left front (b ∷ bytes) 0 i (omega (arith, lt, len)) ∙ in_part (record { at = 0; count = at }) c i lt ∙ ap (octet_at c) (let e : 0 + i ≡ i = omega arith in e)

octet_behind : (at : ℕ) (bytes c : List ℕ) (i : ℕ) → at + length bytes ≤ i → octet_at (write at bytes c) i ≡ octet_at c i
octet_behind at [] c i le = refl
octet_behind at (b ∷ bytes) c i le =
    let front = octets_in (record { at = 0; count = at }) c in
    let head = front ++ (b ∷ bytes) in
    let n = at + length (b ∷ bytes) in
    let len : length head ≡ n = omega (arith, length-octets_in (record { at = 0; count = at }) c, length-append front (b ∷ bytes)) in
    get_or-append_right head (drop n c) n i 0 len le ∙ get_or-drop n c (i - n) 0 ∙ ap (octet_at c) (let e : n + (i - n) ≡ i = omega (arith, le) in e)

octet_within : (at : ℕ) (bytes c : List ℕ) (i : ℕ) → at ≤ i → i < at + length bytes → octet_at (write at bytes c) i ≡ get_or bytes (i - at) 0
octet_within at bytes c i low high =
    ap (octet_at (write at bytes c)) (let e : i ≡ at + (i - at) = omega (arith, low) in e) ∙ stands_at (write at bytes c) bytes at (i - at) (written_stands at bytes c) (omega (arith, low, high))

-- contents that are alike but for some places stay so
module _ (S : ℕ → Type 0) where
  abbrev AreAlike : List ℕ → List ℕ → Type 0
  AreAlike a b = (i : ℕ) → S i → octet_at b i ≡ octet_at a i

  alike_write : (at : ℕ) (bytes a b : List ℕ) → AreAlike a b → AreAlike (write at bytes a) (write at bytes b)
  alike_write at bytes a b same i s =
      ⊎_elim {A = i < at} {B = at ≤ i} {C = octet_at (write at bytes b) i ≡ octet_at (write at bytes a) i} (λ less. octet_in_front at bytes b i less ∙ same i s ∙ sym (octet_in_front at bytes a i less))
      (λ more.
      ⊎_elim {A = i < at + length bytes} {B = at + length bytes ≤ i} {C = octet_at (write at bytes b) i ≡ octet_at (write at bytes a) i} (λ inside. octet_within at bytes b i more inside ∙ sym (octet_within at bytes a i more inside))
      (λ behind. octet_behind at bytes b i behind ∙ same i s ∙ sym (octet_behind at bytes a i behind)) (cases_lt i (at + length bytes))) (cases_lt i at)

  alike_pages : (epoch : ℕ) (pages : List NewPage) (a b : List ℕ) → AreAlike a b → AreAlike (with_pages epoch pages a) (with_pages epoch pages b)
  alike_pages epoch [] a b same = same
  alike_pages epoch (p ∷ ps) a b same =
      alike_pages epoch ps (write (slot_start p.slot) (whole_page epoch p) a) (write (slot_start p.slot) (whole_page epoch p) b) (alike_write (slot_start p.slot) (whole_page epoch p) a b same)

  alike_laid : (root : Root) (pages : List NewPage) (a b : List ℕ) → AreAlike a b → AreAlike (laid root pages a) (laid root pages b)
  alike_laid root pages a b same =
      let one = with_pages root.epoch pages a in
      let two = with_pages root.epoch pages b in
      alike_write (area_start root.area + 65568) (list_octets root.slots) (write (area_start root.area + 1) (root_octets root) one) (write (area_start root.area + 1) (root_octets root) two)
      (alike_write (area_start root.area + 1) (root_octets root) one two (alike_pages root.epoch pages a b same))

-- one octet that was written
one_set : (g x : ℕ) (c : List ℕ) (i : ℕ) → i ≢ g → octet_at (write g (x ∷ []) c) i ≡ octet_at c i
one_set g x c i ne = ⊎_elim {A = i < g} {B = g ≤ i} {C = octet_at (write g (x ∷ []) c) i ≡ octet_at c i} (λ less. octet_in_front g (x ∷ []) c i less) (λ more. octet_behind g (x ∷ []) c i (omega (arith, more, ne))) (cases_lt i g)

-- a gate was closed or not, and then a root was laid
pub then_becomes_laid : (root : Root) (pages : List NewPage) (a b d : Option (List ℕ)) → (b ≡ a) ⊎ (b ≡ option_map (write (area_start root.area) (0 ∷ [])) a) → d ≡ option_map (laid root pages) b → Becomes (λ i. i ≢ area_start root.area) (laid root pages) a d
then_becomes_laid root pages None b d came e = e ∙ ap (option_map (laid root pages)) (⊎_elim (λ h. h) (λ h. h) came)
then_becomes_laid root pages (Some c) b d came e =
    ⊎_elim (λ h. (laid root pages c, e ∙ ap (option_map (laid root pages)) h, λ i ne. refl))
    (λ h. (laid root pages (write (area_start root.area) (0 ∷ []) c), e ∙ ap (option_map (laid root pages)) h, alike_laid (λ i. i ≢ area_start root.area) root pages c (write (area_start root.area) (0 ∷ []) c) (one_set (area_start root.area) 0 c))) came

-- a gate was opened, and then the first one of the journal closed or not
pub then_stays : (gate : ℕ) (a b d : Option (List ℕ)) → b ≡ option_map (write gate (165 ∷ [])) a → (d ≡ b) ⊎ (d ≡ option_map (write journal_start (0 ∷ [])) b) → Becomes (λ i. (i ≢ gate) × (i ≢ journal_start)) (λ c. c) a d
then_stays gate None b d e came = ⊎_elim (λ h. h ∙ e) (λ h. h ∙ ap (option_map (write journal_start (0 ∷ []))) e) came
then_stays gate (Some c) b d e came =
    let open_ = write gate (165 ∷ []) c in
    ⊎_elim (λ h. (open_, h ∙ e, λ i ne. one_set gate 165 c i ne.0))
    (λ h. (write journal_start (0 ∷ []) open_, h ∙ ap (option_map (write journal_start (0 ∷ []))) e, λ i ne. one_set journal_start 0 open_ i ne.1 ∙ one_set gate 165 c i ne.0)) came

-- both, one after the other
pub then_written : (root : Root) (pages : List NewPage) (a b d : Option (List ℕ)) → Becomes (λ i. i ≢ area_start root.area) (laid root pages) a b → Becomes (λ i. (i ≢ area_start root.area) × (i ≢ journal_start)) (λ c. c) b d → IfSome a (λ before. IfSome d (IsWritten root pages before))
then_written root pages None b d laid_ stays = tt
then_written root pages (Some c) b d laid_ stays = by (subst (λ o. Becomes (λ i. (i ≢ area_start root.area) × (i ≢ journal_start)) (λ x. x) o d) laid_.1 stays)
  where
    by : Becomes (λ i. (i ≢ area_start root.area) × (i ≢ journal_start)) (λ x. x) (Some laid_.0) d → IfSome d (IsWritten root pages c)
    by h = subst (λ o. IfSome o (IsWritten root pages c)) (sym h.1) (record { octets = λ i one two. h.2 i (one, two) ∙ laid_.2 i one })

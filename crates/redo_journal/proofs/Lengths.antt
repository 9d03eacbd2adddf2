-- How long images are while a record is appended.
use Rattle.std.proofs.Common.{ℕ, ◌≡◌, ◌≢◌, ⊎_elim, ◌<◌, ◌≤◌, ◌+◌, ◌-◌, List, [], ◌∷◌, length, None, Some, IfSome, sym, ◌∙◌, subst, arith}
use Rattle.std.proofs.lemmas.Option.{slice_get-get_or, slice_get_within}
use Rattle.std.specs.declared.option.Option.{Option}
use Rattle.std.specs.Option.{option_map}
use Rattle.pss_disk.specs.Images.{AllAgree, AreApart, Keeps}
use Rattle.pss_disk.specs.Moments.{Disk, DuringSync, DuringWrite, IsImage, IsSettled, Moment, Range, Through, pend, settle}
use Rattle.pss_disk.specs.Octets.{write}
use Rattle.pss_disk.specs.inner.Writing.{length-write}
use Rattle.pss_disk.proofs.Images.{untouched_start}
use Rattle.pss_disk.proofs.Passing.{none_came, then_come, weaker}
use Rattle.redo_journal.specs.Journal.{NoShorter}
use Rattle.redo_journal.specs.inner.Laying.{laid}
use Rattle.redo_journal.proofs.Spelling.{length-laid}

-- what the last sync made sure of is no shorter than the content
abbrev HasLong : Option (List ℕ) → Option Disk → Type 0
HasLong content disk = IfSome content (λ c. IfSome disk (λ d. length c ≤ length d.kept))

abbrev IsLong : Option (List ℕ) → Option Disk → Type 0
IsLong content disk = IfSome content (λ c. IfSome disk (λ d. (image : List ℕ) → IsImage d image → length c ≤ length image))

-- since a settled disk there were only writes
pub record Lengths (content : Option (List ℕ)) (before history : List Moment) (now : Moment) : Type 0 where
  pub kept : HasLong content now.disk
  pub images : Through before history (NoShorter content)

apart_long : (content : Option (List ℕ)) (disk : Option Disk) → AreApart (λ i. ⊥) content disk → HasLong content disk
apart_long None disk h = tt
apart_long (Some c) None h = tt
apart_long (Some c) (Some d) h = subst (λ (l : List ℕ). length c ≤ length l) (sym h.kept) (omega arith)

kept_long : (content : Option (List ℕ)) (disk : Option Disk) → HasLong content disk → IsLong content disk
kept_long None disk h = tt
kept_long (Some c) None h = tt
kept_long (Some c) (Some d) h = λ image is. omega (arith, h, is.no_shorter)

pend_long : (content : Option (List ℕ)) (disk : Option Disk) (range : Range) → HasLong content disk → HasLong content (option_map (pend range) disk)
pend_long None disk range h = tt
pend_long (Some c) None range h = tt
pend_long (Some c) (Some d) range h = h

write_long : (content : Option (List ℕ)) (now m : Moment) (range : Range) → HasLong content now.disk → DuringWrite range now m → HasLong content m.disk
write_long content now m range h d =
    ⊎_elim (λ e. subst (λ (x : Moment). HasLong content x.disk) (sym e) h) (λ e. subst (λ (x : Moment). HasLong content x.disk) (sym e) (pend_long content now.disk range h)) d

settled_long : (at : ℕ) (bytes : List ℕ) (content : Option (List ℕ)) (disk : Option Disk) → IsLong content (settle (option_map (write at bytes) content) disk)
settled_long at bytes None disk = tt
settled_long at bytes (Some c) None = tt
settled_long at bytes (Some c) (Some d) = λ image is. let n : length (write at bytes c) ≤ length image = is.no_shorter in omega (arith, n, length-write at bytes c)

pub lengths_start : (content : Option (List ℕ)) (now : Moment) (history : List Moment) → IsSettled content now → Lengths content history history now
lengths_start content now history settled = record { kept = apart_long content now.disk (untouched_start (λ i. ⊥) content now settled); images = none_came history (NoShorter content) }

module _ (content : Option (List ℕ)) (before history later : List Moment) (now : Moment) (s : Lengths content before history now) where
  -- a write, whether it failed or not
  pub lengths_write : (range : Range) (new : Moment) → Through history later (DuringWrite range now) → DuringWrite range now new → Lengths content before later new
  lengths_write range new time d = record {
    kept = write_long content now new range s.kept d;
    images = then_come before history later (NoShorter content) s.images (weaker history later (DuringWrite range now) (NoShorter content) (λ m e. kept_long content m.disk (write_long content now m range s.kept e)) time);
  }

  sync_long : (at : ℕ) (bytes : List ℕ) (written : Option (List ℕ)) → written ≡ option_map (write at bytes) content → (m : Moment) → DuringSync written now m → NoShorter content m
  sync_long at bytes written is m d =
      ⊎_elim (λ e. subst (λ (x : Moment). IsLong content x.disk) (sym e) (kept_long content now.disk s.kept))
      (λ e. subst (λ (x : Moment). IsLong content x.disk) (sym e) (subst (λ (x : Option (List ℕ)). IsLong content (settle x now.disk)) (sym is) (settled_long at bytes content now.disk))) d

  -- up to a sync of what was written
  pub lengths_sync : (at : ℕ) (bytes : List ℕ) (written : Option (List ℕ)) → written ≡ option_map (write at bytes) content → Through history later (DuringSync written now) → Through before later (NoShorter content)
  lengths_sync at bytes written is time = then_come before history later (NoShorter content) s.images (weaker history later (DuringSync written now) (NoShorter content) (sync_long at bytes written is) time)

-- while the gate in front of what was laid is opened
module _ (end epoch : ℕ) (body : List ℕ) where
  reaches : (l c : List ℕ) → length l ≡ 13 + length body → (end + 14 ≤ length (write (end + 1) l c)) × (length c ≤ length (write (end + 1) l c))
  reaches [] c e = absurd (omega (arith, e))
  reaches (x ∷ xs) c e = let n = length-write (end + 1) (x ∷ xs) c in (omega (arith, e, n), omega (arith, n))

  opened_disk : (old : Option (List ℕ)) (disk : Option Disk) → AllAgree (λ i. i ≢ end) (option_map (write (end + 1) (laid epoch body)) old) disk → IsLong old disk
  opened_disk None disk h = tt
  opened_disk (Some c) None h = tt
  opened_disk (Some c) (Some d) h = λ image is.
      let lay = write (end + 1) (laid epoch body) c in
      let r = reaches (laid epoch body) c (length-laid epoch body) in
      let last : ℕ = length lay - 1 in
      let lt : last < length lay = omega (arith, r.0) in
      let within : last < length image = slice_get_within image last _ (h image is last (λ e. omega (arith, e, r.0)) lt ∙ slice_get-get_or lay last 0 lt) in
      omega (arith, within, r.0, r.1)

  pub opened_long : (old content : Option (List ℕ)) → content ≡ option_map (write (end + 1) (laid epoch body)) old → (m : Moment) → Keeps (λ i. i ≢ end) content m → NoShorter old m
  opened_long old content is m h = opened_disk old m.disk (subst (λ (x : Option (List ℕ)). AllAgree (λ i. i ≢ end) x m.disk) is h)

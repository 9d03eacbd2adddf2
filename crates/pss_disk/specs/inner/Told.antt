-- What a station in memory tells of now.
use Rattle.std.proofs.Common.{◌≡◌, ◌⊎◌, ⊎_elim, ℕ, List, [], ◌∷◌, Some, None, IsSome, refl, length, ◌≤◌, ◌/◌, arith, length-take}
use Rattle.std.proofs.lemmas.Bool.{false≢true}
use Rattle.pss_disk.specs.Moments.{Disk, IsImage, TellsContent, last_moment, settled}
use Rattle.pss_disk.specs.Tape.{Tape, State, half, start, after, after_all, moment_of, moments_from, moments_of, state_of, now_of}
use Rattle.pss_disk.specs.declared.call.Call.{Call}
use Rattle.pss_disk.specs.declared.call.Call.TheVariants.{Quiet, Spoke, Wrote, Tore, Synced}
use Rattle.pss_disk.specs.inner.Writing.{written_is_image}

pub tells_nothing : {A : Type 0} → (IsSome {T = List ℕ} None ⊎ IsSome {T = Disk} None) → A
tells_nothing told = ⊎_elim (λ h. absurd (false≢true h)) (λ h. absurd (false≢true h)) told

last_after : (s : State) (calls : List Call) → last_moment (moment_of s ∷ moments_from s calls) ≡ Some (moment_of (after_all s calls))
last_after s [] = refl
last_after s (call ∷ calls) = last_after (after call s) calls

pub last_of_tape : (tape : Tape) → last_moment (moments_of tape) ≡ Some (now_of tape)
last_of_tape tape = last_after (start tape.first) tape.calls

pub half_fits : (bytes : List ℕ) → length (half bytes) ≤ length bytes
half_fits bytes = omega (arith, length-take (length bytes / 2) bytes)

-- the content is an image at first, and stays one at each call
pub start_is_image : (first : List ℕ) → IsImage (settled first) first
start_is_image first = record { no_shorter = omega arith; no_longer = omega arith; others = λ i lt clear. refl }

abbrev pub IsSound : State → Type 0
IsSound s = IsImage s.disk s.content

pub after_call : (call : Call) (s : State) → IsSound s → IsSound (after call s)
after_call Quiet s is = is
after_call (Spoke bytes) s is = is
after_call (Wrote at bytes) s is = written_is_image s.disk at (length bytes) bytes s.content (omega arith) is
after_call (Tore at bytes) s is = written_is_image s.disk at (length bytes) (half bytes) s.content (half_fits bytes) is
after_call Synced s is = start_is_image s.content

pub after_calls : (s : State) (calls : List Call) → IsSound s → IsSound (after_all s calls)
after_calls s [] is = is
after_calls s (call ∷ calls) is = after_calls (after call s) calls (after_call call s is)

pub content_of_tape : (tape : Tape) → TellsContent (Some (state_of tape).content) (now_of tape)
content_of_tape tape = ((state_of tape).content, refl, after_calls (start tape.first) tape.calls (start_is_image tape.first))

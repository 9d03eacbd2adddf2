-- What a station in memory has: all its calls, one after another.
use Rattle.std.specs.Prelude.{ℕ, zero, suc, ◌≡◌, ◌<◌, ◌≤◌, ◌/◌, ◌==◌, ◌||◌, ◌⊎◌, List, [], ◌∷◌, ◌++◌, length, take, true, false, nat_le, Some, slice_get, if◌then◌else◌}
use Rattle.pss_base.specs.Causes.{one_more}
use Rattle.pss_disk.specs.Moments.{Moment, Disk, is_covered, pend, settled}
use Rattle.pss_disk.specs.Octets.{range_of, write}
use Rattle.pss_disk.specs.declared.call.Call.{Call}
use Rattle.pss_disk.specs.declared.call.Call.TheVariants.{Quiet, Spoke, Wrote, Tore, Synced}

-- the octets of the disk at first, each call since then, which calls fail, and how often disk and speech have failed
pub record Tape : Type 0 where
  pub first : List ℕ
  pub calls : List Call
  pub failing : List ℕ
  pub disk_faults : ℕ
  pub speak_faults : ℕ

-- what a read gives, all that was spoken, and what a crash may leave
pub record State : Type 0 where
  pub content : List ℕ
  pub spoken : List ℕ
  pub disk : Disk

-- a station at first
abbrev pub start : List ℕ → State
start bytes = record { content = bytes; spoken = []; disk = settled bytes }

-- the first half of the bytes
abbrev pub half : List ℕ → List ℕ
half bytes = take (length bytes / 2) bytes

-- what a call does
abbrev pub after : Call → State → State
after Quiet s = s
after (Spoke bytes) s = record { content = s.content; spoken = s.spoken ++ bytes; disk = s.disk }
after (Wrote at bytes) s = record { content = write at bytes s.content; spoken = s.spoken; disk = pend (range_of at bytes) s.disk }
after (Tore at bytes) s = record { content = write at (half bytes) s.content; spoken = s.spoken; disk = pend (range_of at bytes) s.disk }
after Synced s = record { content = s.content; spoken = s.spoken; disk = settled s.content }

-- what the calls do, one after another
abbrev pub after_all : State → List Call → State
after_all s [] = s
after_all s (call ∷ calls) = after_all (after call s) calls

-- what a station in this state tells
abbrev pub moment_of : State → Moment
moment_of s = record { spoken = Some s.spoken; disk = Some s.disk }

-- the moment after each call
abbrev pub moments_from : State → List Call → List Moment
moments_from s [] = []
moments_from s (call ∷ calls) = moment_of (after call s) ∷ moments_from (after call s) calls

-- the state after all calls so far
abbrev pub state_of : Tape → State
state_of tape = after_all (start tape.first) tape.calls

-- the state after the first so many calls
abbrev pub state_at : ℕ → Tape → State
state_at count tape = after_all (start tape.first) (take count tape.calls)

-- the first moment, and the one after each call
abbrev pub moments_of : Tape → List Moment
moments_of tape = moment_of (start tape.first) ∷ moments_from (start tape.first) tape.calls

-- the present moment
abbrev pub now_of : Tape → Moment
now_of tape = moment_of (state_of tape)

-- the tape with a call more
abbrev pub recorded : Call → Tape → Tape
recorded call tape = record tape { calls = tape.calls ++ call ∷ [] }

-- the tape after the disk failed once more
abbrev pub disk_failed : Tape → Tape
disk_failed tape = record tape { disk_faults = one_more tape.disk_faults }

-- the tape after speech failed once more
abbrev pub speech_failed : Tape → Tape
speech_failed tape = record tape { speak_faults = one_more tape.speak_faults }

-- a call of the disk failed; it was recorded by what it did, or for want of memory did nothing
abbrev pub FailedDisk : Call → Tape → Tape → Type 0
FailedDisk call old new = (new ≡ disk_failed (recorded call old)) ⊎ (new ≡ disk_failed old)

-- the same of speech
abbrev pub FailedSpeech : Call → Tape → Tape → Type 0
FailedSpeech call old new = (new ≡ speech_failed (recorded call old)) ⊎ (new ≡ speech_failed old)

-- this octet stands wherever any may, in the greatest length
pub record IsFilled (octet : ℕ) (disk : Disk) (image : List ℕ) : Type 0 where
  pub no_shorter : length disk.kept ≤ length image
  pub long : length image ≡ disk.longest
  pub filled : (i : ℕ) → i < disk.longest → (is_covered disk.pending i || nat_le (length disk.kept) i) ≡ true → slice_get image i ≡ Some octet
  pub others : (i : ℕ) → i < length disk.kept → is_covered disk.pending i ≡ false → slice_get image i ≡ slice_get disk.kept i

-- the octet that a pick fills in
abbrev pub filling : ℕ → ℕ
filling pick = if pick == 2 then 165 else (if pick == 3 then 90 else pick)

-- 0 keeps no pending write, 1 keeps all of them, any other pick fills in an octet
abbrev pub IsPicked : ℕ → State → List ℕ → Type 0
IsPicked zero s image = image ≡ s.disk.kept
IsPicked (suc zero) s image = image ≡ s.content
IsPicked (suc (suc n)) s image = IsFilled (filling (suc (suc n))) s.disk image

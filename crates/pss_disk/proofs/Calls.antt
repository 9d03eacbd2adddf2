-- One call more of a station in memory.
use Rattle.std.proofs.Common.{◌≡◌, ◌⊎◌, ⊎_elim, inl, inr, ℕ, zero, ◌+◌, ◌/◌, ◌≤◌, List, [], ◌∷◌, ◌++◌, length, refl, sym, ap, ◌∙◌, subst, arith, append-nil, length-append}
use Rattle.std.proofs.Math.Seq.{take-length}
use Rattle.std.specs.Prelude.{Result, Ok, Err, OnErr}
use Rattle.pss_disk.specs.Moments.{Moment, Through, DuringSpeak, spoke}
use Rattle.pss_disk.specs.Tape.{Tape, State, half, after, after_all, moment_of, moments_from, moments_of, recorded, start, state_of, FailedDisk, FailedSpeech}
use Rattle.pss_disk.specs.declared.call.Call.{Call}
use Rattle.pss_disk.specs.declared.call.Call.TheVariants.{Spoke}

pub on_err : {T E : Type 0} (r : Result T E) (P : Type 0) → P → OnErr r P
on_err (Ok t) P p = tt
on_err (Err e) P p = p

pub after_all-push : (s : State) (calls : List Call) (call : Call) → after_all s (calls ++ call ∷ []) ≡ after call (after_all s calls)
after_all-push s [] call = refl
after_all-push s (c ∷ calls) call = after_all-push (after c s) calls call

pub moments_from-push : (s : State) (calls : List Call) (call : Call) → moments_from s (calls ++ call ∷ []) ≡ moments_from s calls ++ moment_of (after call (after_all s calls)) ∷ []
moments_from-push s [] call = refl
moments_from-push s (c ∷ calls) call = ap (λ ms. moment_of (after c s) ∷ ms) (moments_from-push (after c s) calls call)

pub ruleset one_more_call = (after_all-push, moments_from-push)

-- the call came, or none did
pub record Stepped (call : Call) (old new : Tape) : Type 0 where
  pub first : new.first ≡ old.first
  pub calls : (new.calls ≡ old.calls ++ call ∷ []) ⊎ (new.calls ≡ old.calls)

pub step_of : (call : Call) (old new : Tape) → new ≡ recorded call old → Stepped call old new
step_of call old new e = record { first = ap (λ (t : Tape). t.first) e; calls = inl (ap (λ (t : Tape). t.calls) e) }

pub failed_disk : (call : Call) (old new : Tape) → FailedDisk call old new → Stepped call old new
failed_disk call old new f =
    ⊎_elim (λ e. record { first = ap (λ (t : Tape). t.first) e; calls = inl (ap (λ (t : Tape). t.calls) e) })
    (λ e. record { first = ap (λ (t : Tape). t.first) e; calls = inr (ap (λ (t : Tape). t.calls) e) }) f

pub failed_speech : (call : Call) (old new : Tape) → FailedSpeech call old new → Stepped call old new
failed_speech call old new f =
    ⊎_elim (λ e. record { first = ap (λ (t : Tape). t.first) e; calls = inl (ap (λ (t : Tape). t.calls) e) })
    (λ e. record { first = ap (λ (t : Tape). t.first) e; calls = inr (ap (λ (t : Tape). t.calls) e) }) f

-- the state after a call
pub state_recorded : (call : Call) (old new : Tape) → new ≡ recorded call old → state_of new ≡ after call (state_of old)
state_recorded call old new e = ap state_of e ∙ after_all-push (start old.first) old.calls call

module _ (call : Call) (old new : Tape) (s : Stepped call old new) where
  -- what holds before and after the call holds now
  pub now_or_after : (P : State → Type 0) → P (state_of old) → P (after call (state_of old)) → P (state_of new)
  now_or_after P before later =
      let here : state_of new ≡ after_all (start old.first) new.calls = ap (λ f. after_all (start f) new.calls) s.first in
      subst P (sym here) (⊎_elim (λ e. subst P (sym (ap (after_all (start old.first)) e ∙ after_all-push (start old.first) old.calls call)) later) (λ e. subst P (sym (ap (after_all (start old.first)) e)) before) s.calls)

  same_first : moments_of new ≡ moment_of (start old.first) ∷ moments_from (start old.first) new.calls
  same_first = ap (λ f. moment_of (start f) ∷ moments_from (start f) new.calls) s.first

  pub time_of : (P : Moment → Type 0) → P (moment_of (after call (state_of old))) → Through (moments_of old) (moments_of new) P
  time_of P later = ⊎_elim one none s.calls
    where
      one : new.calls ≡ old.calls ++ call ∷ [] → Through (moments_of old) (moments_of new) P
      one e = record {
        came = moment_of (after call (state_of old)) ∷ [];
        grown = same_first ∙ ap (λ cs. moment_of (start old.first) ∷ moments_from (start old.first) cs) e ∙ ap (λ ms. moment_of (start old.first) ∷ ms) (moments_from-push (start old.first) old.calls call);
        each = (later, tt);
      }

      none : new.calls ≡ old.calls → Through (moments_of old) (moments_of new) P
      none e = record { came = []; grown = same_first ∙ ap (λ cs. moment_of (start old.first) ∷ moments_from (start old.first) cs) e ∙ sym (append-nil (moments_of old)); each = tt }

  pub once_of : length (moments_of new) ≤ length (moments_of old) + 1
  once_of = ⊎_elim
      (λ e. omega (arith, ap length (same_first ∙ ap (λ cs. moment_of (start old.first) ∷ moments_from (start old.first) cs) e), ap length (moments_from-push (start old.first) old.calls call), length-append (moments_from (start old.first) old.calls) (moment_of (after call (state_of old)) ∷ [])))
      (λ e. omega (arith, ap length (same_first ∙ ap (λ cs. moment_of (start old.first) ∷ moments_from (start old.first) cs) e))) s.calls

-- no bytes, the first half of them, all of them were spoken
pub spoke_none : (bytes : List ℕ) (s : State) → DuringSpeak bytes (moment_of s) (moment_of s)
spoke_none bytes s = (zero, ap (λ said. moment_of (record s { spoken = said })) (sym (append-nil s.spoken)))

pub spoke_part : (bytes : List ℕ) (s : State) → DuringSpeak bytes (moment_of s) (moment_of (after (Spoke (half bytes)) s))
spoke_part bytes s = (length bytes / 2, refl)

pub spoke_whole : (bytes : List ℕ) (s : State) → DuringSpeak bytes (moment_of s) (moment_of (after (Spoke bytes) s))
spoke_whole bytes s = (length bytes, ap (λ said. spoke said (moment_of s)) (sym (take-length bytes)))

-- The moment of one call that speaks.
use Rattle.std.proofs.Common.{◌≡◌, inl, ℕ, ◌+◌, ◌≤◌, List, [], ◌∷◌, ◌++◌, length, take, Result, Ok, Err, OnOk, OnErr, Some, None, refl, sym, ◌∙◌, ap, subst, arith, length-append}
use Rattle.std.specs.Prelude.{IsSome}
use Rattle.std.specs.declared.option.Option.{Option}
use Rattle.std.specs.Io.KnownBytes.{append_known}
use Rattle.pss_disk.specs.Moments.{Moment, Through, Each, DuringSpeak, IsLast, last_moment, spoke}
use Rattle.line_service.specs.Spoken.{HasSpoken}

last_added : (a : List Moment) (m : Moment) → last_moment (a ++ m ∷ []) ≡ Some m
last_added [] m = refl
last_added (x ∷ []) m = refl
last_added (x ∷ y ∷ a) m = last_added (y ∷ a) m

-- the moment of one call has spoken what is spoken behind the call
came_last : (a b : List Moment) (bytes said : List ℕ) (now new m : Moment) → DuringSpeak bytes now m → new ≡ spoke said now → b ≡ a ++ m ∷ [] → IsLast b new → m.spoken ≡ new.spoken
came_last a b bytes said now new m during is grown last = by_told now.spoken refl
  where
    here : m.spoken ≡ append_known now.spoken (take during.0 bytes)
    here = ap (λ (x : Moment). x.spoken) during.1

    behind : new.spoken ≡ append_known now.spoken said
    behind = ap (λ (x : Moment). x.spoken) is

    same_moment : (x y : Moment) → Some x ≡ Some y → x ≡ y
    same_moment x y e = cc

    by_told : (s : Option (List ℕ)) → now.spoken ≡ s → m.spoken ≡ new.spoken
    by_told None e = here ∙ ap (λ s. append_known s (take during.0 bytes)) e ∙ sym (behind ∙ ap (λ s. append_known s said) e)
    by_told (Some x) e =
        let told : IsSome new.spoken = subst IsSome (sym (behind ∙ ap (λ s. append_known s said) e)) refl in
        ap (λ (y : Moment). y.spoken) (same_moment m new (sym (ap last_moment grown ∙ last_added a m) ∙ last (inl told)))

-- some bytes were spoken in the call, whatever it answered
pub spoke_some : {A E : Type 0} (result : Result A E) (bytes : List ℕ) (now new : Moment) → OnOk result (new ≡ spoke bytes now) → OnErr result (DuringSpeak bytes now new) → (said : List ℕ) × (new ≡ spoke said now)
spoke_some (Ok a) bytes now new ok err = (bytes, ok)
spoke_some (Err e) bytes now new ok err = (take err.0 bytes, err.1)

-- a call at which one moment comes at most
in_one_call : (a b : List Moment) (bytes said : List ℕ) (now new : Moment) → Through a b (DuringSpeak bytes now) → length b ≤ length a + 1 → new ≡ spoke said now → IsLast b new → Through a b (HasSpoken new.spoken now.disk)
in_one_call a b bytes said now new through once is last = of_came through.came through.grown through.each
  where
    of_came : (came : List Moment) → b ≡ a ++ came → Each (DuringSpeak bytes now) came → Through a b (HasSpoken new.spoken now.disk)
    of_came [] grown each = record { came = []; grown = grown; each = tt }
    of_came (m ∷ []) grown each = record {
      came = m ∷ [];
      grown = grown;
      each = (record { spoken_is = came_last a b bytes said now new m each.0 is grown last; disk_is = ap (λ (x : Moment). x.disk) each.0.1 }, tt);
    }
    of_came (m ∷ n ∷ more) grown each = absurd (omega (arith, once, ap length grown, length-append a (m ∷ n ∷ more)))

pub in_the_call : {A E : Type 0} (result : Result A E) (a b : List Moment) (bytes : List ℕ) (now new : Moment) → OnOk result (new ≡ spoke bytes now) → OnErr result (DuringSpeak bytes now new)
    → Through a b (DuringSpeak bytes now) → length b ≤ length a + 1 → IsLast b new → Through a b (HasSpoken new.spoken now.disk)
in_the_call result a b bytes now new ok err through once last =
    let some = spoke_some result bytes now new ok err in
    in_one_call a b bytes some.0 now new through once some.1 last

-- the call leaves the disk
pub disk_stays : {A E : Type 0} (result : Result A E) (bytes : List ℕ) (now new : Moment) → OnOk result (new ≡ spoke bytes now) → OnErr result (DuringSpeak bytes now new) → new.disk ≡ now.disk
disk_stays result bytes now new ok err = ap (λ (x : Moment). x.disk) (spoke_some result bytes now new ok err).1

-- What the calls up to the last sync leave, and those behind it.
use Rattle.std.proofs.Common.{ℕ, zero, suc, ◌≡◌, ◌≢◌, ◌<◌, ◌≤◌, ◌+◌, ◌⊎◌, ⊎_elim, List, [], ◌∷◌, ◌++◌, length, take, drop, max, slice_get, nat_le, ◌||◌, Bool, true, false, Some, slice_index_or, refl, sym, ap, ◌∙◌, subst, arith, length-append}
use Rattle.std.specs.Prelude.{All, IfSome}
use Rattle.std.specs.declared.option.Option.{Option}
use Rattle.std.proofs.lemmas.Bool.{cases_lt}
use Rattle.std.proofs.lemmas.Grind.{common_steps, take_at_read}
use Rattle.std.proofs.lemmas.List.{take_all, drop_all, drop-append-le, take-append-le, take-append-drop}
use Rattle.std.proofs.lemmas.List.Elements.{All-nil, All-push, All-get_or, All-drop}
use Rattle.pss_disk.specs.Moments.{Range, Disk, IsImage, Moment, is_within, is_covered, pend, reach, settled}
use Rattle.pss_disk.specs.Octets.{range_of, write}
use Rattle.pss_disk.specs.Tape.{Tape, State, IsFilled, IsPicked, after, after_all, filling, half, moment_of, moments_from, moments_of, start, state_at}
use Rattle.pss_disk.specs.declared.call.Call.{Call}
use Rattle.pss_disk.specs.declared.call.Call.TheVariants.{Quiet, Spoke, Wrote, Tore, Synced}
use Rattle.pss_disk.specs.inner.Crash.{IsLastSync, IsNoSync}
use Rattle.pss_disk.specs.inner.Told.{IsSound, after_calls, start_is_image}
use Rattle.pss_disk.specs.inner.Writing.{neither}
use Rattle.pss_disk.proofs.Calls.{after_all-push}

-- the first calls, and one more
pub one_more : (calls : List Call) (k : ℕ) (call : Call) → k < length calls → call ≡ slice_index_or calls k call → take (k + 1) calls ≡ take k calls ++ call ∷ []
one_more calls k call lt e = (take_at_read calls k call lt).1 ∙ ap (λ x. take k calls ++ x ∷ []) (sym e)

pub no_calls : IsLastSync [] 0
no_calls = record { within = omega arith; clear = λ first. refl; behind = All-nil IsNoSync }

pub a_sync : (calls : List Call) → IsLastSync (calls ++ Synced ∷ []) (length calls + 1)
a_sync calls =
    let n : length (calls ++ Synced ∷ []) ≡ length calls + 1 = omega (arith, length-append calls (Synced ∷ [])) in
    record {
      within = omega (arith, n);
      clear = λ first.
          let e : take (length calls + 1) (calls ++ Synced ∷ []) ≡ calls ++ Synced ∷ [] = take_all _ (calls ++ Synced ∷ []) (omega (arith, n)) in
          let s : after_all (start first) (take (length calls + 1) (calls ++ Synced ∷ [])) ≡ after Synced (after_all (start first) calls) = ap (after_all (start first)) e ∙ after_all-push (start first) calls Synced in
          ap (λ (x : State). x.disk) s ∙ ap (λ (x : State). settled x.content) (sym s);
      behind = subst (All IsNoSync) (sym (drop_all (length calls + 1) (calls ++ Synced ∷ []) (omega (arith, n)))) (All-nil IsNoSync);
    }

pub no_sync : (calls : List Call) (call : Call) (count : ℕ) → IsNoSync call → IsLastSync calls count → IsLastSync (calls ++ call ∷ []) count
no_sync calls call count quiet is =
    let same = take-append-le count calls (call ∷ []) is.within in
    record {
      within = omega (arith, is.within, length-append calls (call ∷ []));
      clear = λ first. ap (λ cs. (after_all (start first) cs).disk) same ∙ is.clear first ∙ ap (λ cs. settled (after_all (start first) cs).content) (sym same);
      behind = subst (All IsNoSync) (sym (drop-append-le count calls (call ∷ []) is.within)) (All-push IsNoSync (drop count calls) call is.behind quiet);
    }

-- what a call does to the content rests on the content alone
pub content_after : (call : Call) (s : State) → (after call s).content ≡ (after call (start s.content)).content
content_after Quiet s = refl
content_after (Spoke bytes) s = refl
content_after (Wrote at bytes) s = refl
content_after (Tore at bytes) s = refl
content_after Synced s = refl

pub content_push : (first content new : List ℕ) (calls : List Call) (call : Call) → content ≡ (after_all (start first) calls).content → new ≡ (after call (start content)).content → new ≡ (after_all (start first) (calls ++ call ∷ [])).content
content_push first content new calls call is e =
    e ∙ ap (λ c. (after call (start c)).content) is ∙ sym (content_after call (after_all (start first) calls)) ∙ ap (λ (s : State). s.content) (sym (after_all-push (start first) calls call))

-- what was kept stays so up to a sync
pub kept_after : (calls : List Call) (s : State) → All IsNoSync calls → (after_all s calls).disk.kept ≡ s.disk.kept
kept_after [] s none = refl
kept_after (Quiet ∷ calls) s none = kept_after calls s (All-drop IsNoSync 1 (Quiet ∷ calls) none)
kept_after (Spoke bytes ∷ calls) s none = kept_after calls (after (Spoke bytes) s) (All-drop IsNoSync 1 ((Spoke bytes) ∷ calls) none)
kept_after (Wrote at bytes ∷ calls) s none = kept_after calls (after (Wrote at bytes) s) (All-drop IsNoSync 1 ((Wrote at bytes) ∷ calls) none)
kept_after (Tore at bytes ∷ calls) s none = kept_after calls (after (Tore at bytes) s) (All-drop IsNoSync 1 ((Tore at bytes) ∷ calls) none)
kept_after (Synced ∷ calls) s none = absurd (All-get_or IsNoSync (Synced ∷ calls) 0 Synced (omega arith) none)

pub filled_start : (octet : ℕ) (first : List ℕ) → IsFilled octet (settled first) first
filled_start octet first = record {
  no_shorter = omega arith;
  long = refl;
  filled = λ i lt h. absurd (omega (arith, lt, past (length first) i h));
  others = λ i lt clear. refl;
}
  where
    past : (n i : ℕ) → (false || nat_le n i) ≡ true → n ≤ i
    past n i h = grind (arith, common_steps)

past_end : (b : Bool) (n i : ℕ) → n ≤ i → (b || nat_le n i) ≡ true
past_end true n i le = refl
past_end false n i le = grind (arith, common_steps)

or_false : (a b : Bool) → (a || b) ≡ ((a || false) || b)
or_false true b = refl
or_false false b = refl

-- filled once, and once more
joined : (octet : ℕ) (d e r : Disk) (image new : List ℕ) → IsFilled octet d image → IsFilled octet e new → e.kept ≡ image → r.kept ≡ d.kept → r.longest ≡ e.longest
    → ((i : ℕ) → is_covered r.pending i ≡ (is_covered e.pending i || is_covered d.pending i)) → IsFilled octet r new
joined octet d e r image new f g base kept longest covered = record {
  no_shorter = omega (arith, f.no_shorter, g.no_shorter, ap length base, ap length kept);
  long = g.long ∙ sym longest;
  filled = λ i lt h. by i lt h (is_covered e.pending i) refl (cases_lt i (length image));
  others = λ i lt clear.
      let both = neither (is_covered e.pending i) (is_covered d.pending i) (sym (covered i) ∙ clear) in
      let within : i < length d.kept = omega (arith, lt, ap length kept) in
      g.others i (omega (arith, within, f.no_shorter, ap length base)) both.0 ∙ ap (λ l. slice_get l i) base ∙ f.others i within both.1 ∙ ap (λ l. slice_get l i) (sym kept);
}
  where
    by : (i : ℕ) → i < r.longest → (is_covered r.pending i || nat_le (length r.kept) i) ≡ true → (c : Bool) → is_covered e.pending i ≡ c → (i < length image) ⊎ (length image ≤ i) → slice_get new i ≡ Some octet
    by i lt h true c side = g.filled i (omega (arith, lt, longest)) (ap (λ b. b || nat_le (length e.kept) i) c)
    by i lt h false c side = ⊎_elim
        (λ less.
        let free : (is_covered d.pending i || nat_le (length d.kept) i) ≡ true =
        ap (λ b. (b || is_covered d.pending i) || nat_le (length d.kept) i) (sym c) ∙ ap (λ b. b || nat_le (length d.kept) i) (sym (covered i)) ∙ ap (λ l. is_covered r.pending i || nat_le (length l) i) (sym kept) ∙ h in
        g.others i (omega (arith, less, ap length base)) c ∙ ap (λ l. slice_get l i) base ∙ f.filled i (omega (arith, less, f.long)) free)
        (λ more. g.filled i (omega (arith, lt, longest)) (past_end (is_covered e.pending i) (length e.kept) i (omega (arith, more, ap length base)))) side

a_range : (octet : ℕ) (d : Disk) (range : Range) (image new : List ℕ) → IsFilled octet d image → IsFilled octet (pend range (settled image)) new → IsFilled octet (pend range d) new
a_range octet d range image new f g =
    joined octet d (pend range (settled image)) (pend range d) image new f g refl refl (ap (λ n. max n (reach range)) (sym f.long)) (λ i. or_false (is_within range i) (is_covered d.pending i))

pub filled_push : (octet : ℕ) (call : Call) (s : State) (image new : List ℕ) → IsNoSync call → IsFilled octet s.disk image → IsFilled octet (after call (start image)).disk new → IsFilled octet (after call s).disk new
filled_push octet Quiet s image new none f g = joined octet s.disk (settled image) s.disk image new f g refl refl (sym f.long) (λ i. refl)
filled_push octet (Spoke bytes) s image new none f g = joined octet s.disk (settled image) s.disk image new f g refl refl (sym f.long) (λ i. refl)
filled_push octet (Wrote at bytes) s image new none f g = a_range octet s.disk (range_of at bytes) image new f g
filled_push octet (Tore at bytes) s image new none f g = a_range octet s.disk (range_of at bytes) image new f g
filled_push octet Synced s image new none f g = absurd none

pub is_no_sync : (call : Call) → call ≢ Synced → IsNoSync call
is_no_sync Quiet other = tt
is_no_sync (Spoke bytes) other = tt
is_no_sync (Wrote at bytes) other = tt
is_no_sync (Tore at bytes) other = tt
is_no_sync Synced other = other refl

-- two states of the same content and disk
pub record Alike (s t : State) : Type 0 where
  pub content : s.content ≡ t.content
  pub disk : s.disk ≡ t.disk

alike_after : (call : Call) (s t : State) → Alike s t → Alike (after call s) (after call t)
alike_after Quiet s t a = a
alike_after (Spoke bytes) s t a = record { content = a.content; disk = a.disk }
alike_after (Wrote at bytes) s t a = record { content = ap (write at bytes) a.content; disk = ap (pend (range_of at bytes)) a.disk }
alike_after (Tore at bytes) s t a = record { content = ap (write at (half bytes)) a.content; disk = ap (pend (range_of at bytes)) a.disk }
alike_after Synced s t a = record { content = a.content; disk = ap settled a.content }

pub alike_all : (calls : List Call) (s t : State) → Alike s t → Alike (after_all s calls) (after_all t calls)
alike_all [] s t a = a
alike_all (call ∷ calls) s t a = alike_all calls (after call s) (after call t) (alike_after call s t a)

picked_alike : (pick : ℕ) (s t : State) (image : List ℕ) → Alike s t → IsPicked pick s image → IsPicked pick t image
picked_alike zero s t image a p = p ∙ ap (λ (d : Disk). d.kept) a.disk
picked_alike (suc zero) s t image a p = p ∙ a.content
picked_alike (suc (suc n)) s t image a p = subst (λ d. IsFilled (filling (suc (suc n))) d image) a.disk p

after_all-append : (s : State) (calls more : List Call) → after_all s (calls ++ more) ≡ after_all (after_all s calls) more
after_all-append s [] more = refl
after_all-append s (call ∷ calls) more = after_all-append (after call s) calls more

-- from the content at the last sync on
pub picked_whole : (pick count : ℕ) (first content image : List ℕ) (calls : List Call) → IsLastSync calls count → content ≡ (after_all (start first) (take count calls)).content
    → IsPicked pick (after_all (start content) (drop count calls)) image → IsPicked pick (after_all (start first) calls) image
picked_whole pick count first content image calls is e p =
    let t = after_all (start first) (take count calls) in
    let a : Alike (start content) t = record { content = e; disk = ap settled e ∙ sym (is.clear first) } in
    let whole : after_all t (drop count calls) ≡ after_all (start first) calls = sym (after_all-append (start first) (take count calls) (drop count calls)) ∙ ap (after_all (start first)) (take-append-drop count calls) in
    subst (λ s. IsPicked pick s image) whole (picked_alike pick (after_all (start content) (drop count calls)) (after_all t (drop count calls)) image (alike_all (drop count calls) (start content) t a) p)

pub picked_none : (first : List ℕ) (calls : List Call) (pick : ℕ) → pick ≡ 0 → All IsNoSync calls → IsPicked pick (after_all (start first) calls) first
picked_none first calls zero e none = sym (kept_after calls (start first) none)
picked_none first calls (suc n) e none = absurd (omega (arith, e))

-- what is picked is an image
pub picked_is_image : (s : State) (image : List ℕ) (pick : ℕ) → IsSound s → IsPicked pick s image → IsImage s.disk image
picked_is_image s image zero sound p =
    subst (IsImage s.disk) (sym p) (record { no_shorter = omega arith; no_longer = omega (arith, sound.no_shorter, sound.no_longer); others = λ i lt clear. refl })
picked_is_image s image (suc zero) sound p = subst (IsImage s.disk) (sym p) sound
picked_is_image s image (suc (suc n)) sound p = record { no_shorter = p.no_shorter; no_longer = omega (arith, p.long); others = λ i lt clear. p.others i lt clear }

pub moment_after : (k : ℕ) (s : State) (calls : List Call) → k ≤ length calls → slice_get (moment_of s ∷ moments_from s calls) k ≡ Some (moment_of (after_all s (take k calls)))
moment_after zero s calls le = refl
moment_after (suc k) s [] le = absurd (omega (arith, le))
moment_after (suc k) s (call ∷ calls) le = moment_after k (after call s) calls (omega (arith, le))

-- the images of a station in memory are those of its moments
pub crash_is_image : (k pick : ℕ) (tape : Tape) (image : List ℕ) → k ≤ length tape.calls → IsPicked pick (state_at k tape) image → IfSome (slice_get (moments_of tape) k) (λ (m : Moment). IfSome m.disk (λ disk. IsImage disk image))
crash_is_image k pick tape image le p =
    subst (λ (o : Option Moment). IfSome o (λ (m : Moment). IfSome m.disk (λ disk. IsImage disk image))) (sym (moment_after k (start tape.first) tape.calls le))
    (picked_is_image (state_at k tape) image pick (after_calls (start tape.first) (take k tape.calls) (start_is_image tape.first)) p)

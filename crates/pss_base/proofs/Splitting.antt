-- Lines that were taken come in front of those that are left.
use Rattle.std.proofs.Common.{◌≡◌, ⊎_elim, ℕ, ◌+◌, List, [], ◌∷◌, ◌++◌, length, map, Bool, true, false, not, IsTrue, Some, refl, sym, ◌∙◌, ap, append_assoc, append-nil}
use Rattle.pss_base.specs.Lines.{raw_lines, bytes_of, line_of, within, is_over}
use Rattle.pss_base.specs.Reading.{Reading, TakesLine, IsOver}
use Rattle.pss_base.specs.Order.{lines_to, is_over_to, IsFirstLine, ComeInOrder}
use Rattle.pss_base.specs.declared.lines.LineStep.{LineStep}
use Rattle.pss_base.specs.declared.lines.LineStep.TheVariants.{Line, TooLong, End, Limit, ReadFault, NoMemory}
use Rattle.pss_base.proofs.LineLaws.{Raw, IsRun, all_bytes, all_ended, ended_first, run_whole, within-append, is_over-append, limit_here}

-- the lines taken, and what is left after them
pub record Splits (raws : List Raw) (n b n' b' : ℕ) (xs ys : List ℕ) : Type 0 where
  pub raw : within n b (raw_lines xs) ≡ raws ++ within n' b' (raw_lines ys)
  pub over : is_over n b (raw_lines xs) ≡ is_over n' b' (raw_lines ys)

pub splits : (raws : List Raw) (n b n' b' : ℕ) (xs ys : List ℕ) (at_end : Bool) → IsRun raws → (at_end ≡ false → all_ended raws ≡ true) → (IsTrue at_end → ys ≡ [])
    → n ≡ n' + length raws → b ≡ b' + length (all_bytes raws) → xs ≡ all_bytes raws ++ ys → Splits raws n b n' b' xs ys
splits raws n b n' b' xs ys at_end run ended end en eb is =
    let same : raw_lines xs ≡ raws ++ raw_lines ys = by_end at_end ended end in
    record {
      raw = ap (within n b) same ∙ within-append raws (raw_lines ys) n b n' b' en eb;
      over = ap (is_over n b) same ∙ is_over-append raws (raw_lines ys) n b n' b' en eb;
    }
  where
    by_end : (at_end : Bool) → (at_end ≡ false → all_ended raws ≡ true) → (IsTrue at_end → ys ≡ []) → raw_lines xs ≡ raws ++ raw_lines ys
    by_end false ended end = ap raw_lines is ∙ ended_first raws ys run (ended refl)
    by_end true ended end =
        let none : ys ≡ [] = end refl in
        rw none (ap raw_lines (is ∙ ap (λ l. all_bytes raws ++ l) none ∙ append-nil (all_bytes raws)) ∙ run_whole raws run ∙ sym (append-nil raws))

still : (ended end : Bool) → end ≡ not ended → end ≡ false → ended ≡ true
still true end is e = refl
still false end is e = cc

was : (ended end : Bool) → end ≡ not ended → IsTrue end → ended ≡ false
was true end is e = cc
was false end is e = refl

one_ended : (raw : Raw) → raw.1 ≡ true → all_ended (raw ∷ []) ≡ true
one_ended raw e = rw e

first_line_of : (old new : Reading) (before after : List ℕ) (step : LineStep) → TakesLine old new (Some before) (Some after) step → IsFirstLine old new before after step
first_line_of old new before after step t =
    let s = splits (t.raw ∷ []) old.lines_left old.bytes_left new.lines_left new.bytes_left before after new.at_end
    (t.one, λ e. ((t.last e).0, refl), tt)
    (λ e. one_ended t.raw (still t.raw.1 new.at_end t.end e))
    (λ e. (t.last (was t.raw.1 new.at_end t.end e)).1)
    t.lines
    (t.bytes ∙ ap (λ l. new.bytes_left + length l) (sym (append-nil (bytes_of t.raw))))
    (t.taken ∙ ap (λ l. l ++ after) (sym (append-nil (bytes_of t.raw)))) in
    record {
      first = ap (map line_of) s.raw ∙ ap (λ l. l ∷ lines_to new after) (sym t.told);
      over = s.over;
      seen = λ e. (t.last (was t.raw.1 new.at_end t.end e)).1;
    }

over_of : (old : Reading) (before after : List ℕ) → IsOver old (Some before) (Some after) → (lines_to old before ≡ []) × (is_over_to old before ≡ true)
over_of old before after o =
    let shape : before ≡ o.part ++ o.next ∷ after = o.taken ∙ append_assoc o.part (o.next ∷ []) after in
    let here = limit_here old.lines_left old.bytes_left o.part o.next after o.one o.over in
    (ap (lines_to old) shape ∙ ap (map line_of) here.1, ap (is_over_to old) shape ∙ here.0)

pub come_in_order : ComeInOrder
come_in_order old new before after (Line text) seen s = first_line_of old new before after (Line text) s
come_in_order old new before after TooLong seen s = first_line_of old new before after TooLong s
come_in_order old new before after End seen s =
    let none : after ≡ [] = ⊎_elim (λ t. sym s.0 ∙ seen t) (λ z. z) s.1 in
    (s.0 ∙ none, none)
come_in_order old new before after Limit seen s = over_of old before after s
come_in_order old new before after ReadFault seen s = tt
come_in_order old new before after NoMemory seen s = tt

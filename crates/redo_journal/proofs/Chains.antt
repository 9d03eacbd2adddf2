-- Which bodies an image holds that agrees with a content.
use Rattle.std.proofs.Common.{ℕ, zero, suc, get_or, ◌≡◌, ◌≢◌, ◌⊎◌, inl, inr, ⊎_elim, ◌<◌, ◌≤◌, ◌+◌, List, [], ◌∷◌, ◌++◌, length, slice_get, None, Some, IfSome, refl, sym, ap, ◌∙◌, subst, arith, length-append}
use Rattle.std.proofs.lemmas.Bool.{cases_eq}
use Rattle.std.proofs.lemmas.Option.{get_or_from_slice_get, slice_get_within}
use Rattle.std.specs.declared.option.Option.{Option}
use Rattle.std.specs.Option.{option_map}
use Rattle.pss_disk.specs.Images.{Agrees, AllAgree, IsOutside, Keeps}
use Rattle.pss_disk.specs.Moments.{Disk, IsImage, Moment}
use Rattle.pss_disk.specs.Octets.{range_of, write}
use Rattle.pss_disk.specs.Parts.{Stands, octet_at}
use Rattle.pss_disk.specs.inner.Writing.{in_second, length-write, write_before, write_within}
use Rattle.pss_disk.proofs.Images.{agrees_write, misses_behind, misses_but}
use Rattle.pss_disk.proofs.Parts.{agrees_at, same_part, stands_at, stands_both, stands_first, stands_by, stands_still, written_stands}
use Rattle.redo_journal.specs.Journal.{Chain, Fits, Holds, HoldsEither, IsReady, Position, advanced, behind, header, journal_start, spelled}
use Rattle.redo_journal.specs.inner.Laying.{laid}
use Rattle.redo_journal.proofs.Spelling.{length-header, length-laid, length-spelled}

pub chain_later : (epoch : ℕ) (image : List ℕ) (gate : ℕ) (bodies : List (List ℕ)) (last : ℕ) → Chain epoch image gate bodies last → gate ≤ last
chain_later epoch image gate [] last c = omega (arith, c)
chain_later epoch image gate (body ∷ bodies) last c = omega (arith, chain_later epoch image (behind gate (length body)) bodies last c.2)

-- the same octets up to the last gate
pub chain_same : (epoch : ℕ) (a b : List ℕ) (gate : ℕ) (bodies : List (List ℕ)) (last : ℕ) → Chain epoch a gate bodies last → ((i : ℕ) → i < last → octet_at a i ≡ octet_at b i) → Chain epoch b gate bodies last
chain_same epoch a b gate [] last c same = c
chain_same epoch a b gate (body ∷ bodies) last c same =
    let record_ = spelled epoch body in
    let more = chain_later epoch a (behind gate (length body)) bodies last c.2 in
    let stands : Stands b gate record_ = sym (same_part (range_of gate record_) a b (λ i from to. same i (omega (arith, to, more, length-spelled epoch body)))) ∙ c.1 in
    (c.0, stands, chain_same epoch a b (behind gate (length body)) bodies last c.2 same)

-- one more body
pub chain_push : (epoch : ℕ) (image : List ℕ) (gate : ℕ) (bodies : List (List ℕ)) (last : ℕ) (body : List ℕ) → Chain epoch image gate bodies last → Fits last (length body) → Stands image last (spelled epoch body)
    → Chain epoch image gate (bodies ++ body ∷ []) (behind last (length body))
chain_push epoch image gate [] last body c fits stands =
    let e : last ≡ gate = c in
    (subst (λ (g : ℕ). Fits g (length body)) e fits, subst (λ (g : ℕ). Stands image g (spelled epoch body)) e stands, ap (λ (g : ℕ). behind g (length body)) e)
chain_push epoch image gate (b ∷ bodies) last body c fits stands = (c.0, c.1, chain_push epoch image (behind gate (length b)) bodies last body c.2 fits stands)

octet_of : (image : List ℕ) (i x : ℕ) → slice_get image i ≡ Some x → octet_at image i ≡ x
octet_of image i x e = get_or_from_slice_get image i x 0 e

not_open : (x : ℕ) (image : List ℕ) (i : ℕ) → slice_get image i ≡ Some x → x ≢ 165 → octet_at image i ≢ 165
not_open x image i e ne open_ = ne (sym (octet_of image i x e) ∙ open_)

module _ (end epoch : ℕ) (before : List (List ℕ)) (body : List ℕ) where
  abbrev here : Position
  here = record { end = end; epoch = epoch }

  abbrev bytes : List ℕ
  bytes = laid epoch body

  abbrev lay : List ℕ → List ℕ
  lay content = write (end + 1) (laid epoch body) content

  -- what is behind the gate does not count while the gate is closed
  pub held : (c image : List ℕ) → IsReady here before c → ((i : ℕ) → i < end + 1 → octet_at c i ≡ octet_at image i) → Holds here before image
  held c image r same = record {
    chain = chain_same epoch c image journal_start before end r.chain (λ i lt. same i (omega (arith, lt)));
    ends = inl (λ open_. not_open r.gate c end r.there r.closed (same end (omega arith) ∙ open_));
  }

  pub while_laid : (c image : List ℕ) → IsReady here before c → Agrees (IsOutside (range_of (end + 1) bytes)) c image → Holds here before image
  while_laid c image r agrees =
      held c image r (λ i lt. sym (agrees_at (IsOutside (range_of (end + 1) bytes)) c image i agrees (misses_behind (end + 1) (range_of (end + 1) bytes) (omega arith) i lt) (omega (arith, lt, slice_get_within c end r.gate r.there))))

  long : (c : List ℕ) → end + 14 + length body ≤ length (lay c)
  long c = reaches (laid epoch body) (length-laid epoch body)
    where
      reaches : (l : List ℕ) → length l ≡ 13 + length body → end + 14 + length body ≤ length (write (end + 1) l c)
      reaches [] e = absurd (omega (arith, e))
      reaches (x ∷ xs) e = omega (arith, e, length-write (end + 1) (x ∷ xs) c)

  -- a closed gate stands behind what was laid
  gate_behind : (c : List ℕ) → slice_get (lay c) (behind end (length body)) ≡ Some 0
  gate_behind c =
      let h = header epoch (length body) in
      let front = h ++ body in
      let n : length front ≡ 12 + length body = omega (arith, length-append h body, length-header epoch (length body)) in
      write_within (end + 1) bytes c (12 + length body) (behind end (length body)) (omega (arith, length-laid epoch body)) (omega arith)
      ∙ in_second front (0 ∷ []) 0 (12 + length body) (omega (arith, n))

  still_behind : (c image : List ℕ) → Agrees (λ i. i ≢ end) (lay c) image → slice_get image (behind end (length body)) ≡ Some 0
  still_behind c image agrees = agrees (behind end (length body)) (λ e. omega (arith, e)) (omega (arith, long c)) ∙ gate_behind c

  zero_is_closed : ◌≢◌ {A = ℕ} 0 165
  zero_is_closed e = omega (arith, e)

  same_before : (c image : List ℕ) → IsReady here before c → Agrees (λ i. i ≢ end) (lay c) image → (i : ℕ) → i < end → octet_at c i ≡ octet_at image i
  same_before c image r agrees i lt =
      sym (agrees_at (λ k. k ≢ end) (lay c) image i agrees (λ e. omega (arith, e, lt)) (omega (arith, lt, long c))
      ∙ agrees_at (λ k. k < end + 1) c (lay c) i (λ k less within. write_before (end + 1) bytes c k less within) (omega (arith, lt)) (omega (arith, lt, slice_get_within c end r.gate r.there)))

  -- the gate is open, so the new body counts
  chain_more : (c image : List ℕ) → Fits end (length body) → IsReady here before c → Agrees (λ i. i ≢ end) (lay c) image → octet_at image end ≡ 165 → Chain epoch image journal_start (before ++ body ∷ []) (behind end (length body))
  chain_more c image fits r agrees open_ =
      let h = header epoch (length body) in
      let front = h ++ body in
      let n : length front ≡ 12 + length body = omega (arith, length-append h body, length-header epoch (length body)) in
      let laid_front : Stands (lay c) (end + 1) front = stands_first (lay c) front (0 ∷ []) (end + 1) (written_stands (end + 1) bytes c) in
      let rest : Stands image (end + 1) front =
      stands_still (λ i. i ≢ end) (lay c) image front (end + 1) agrees (λ i from to. λ e. omega (arith, e, from)) (omega (arith, n, long c)) laid_front in
      let gate : Stands image end (165 ∷ []) = stands_by image (165 ∷ []) end (λ i lt. gate_at i lt) in
      chain_push epoch image journal_start before end body (chain_same epoch c image journal_start before end r.chain (same_before c image r agrees)) fits
      (stands_both image (165 ∷ []) front end (end + 1) refl gate rest)
    where
      gate_at : (i : ℕ) → i < 1 → octet_at image (end + i) ≡ get_or (165 ∷ []) i 0
      gate_at zero lt = ap (octet_at image) (let e : end + 0 ≡ end = omega arith in e) ∙ open_
      gate_at (suc i) lt = absurd (omega (arith, lt))

  opened : (c image : List ℕ) → Fits end (length body) → IsReady here before c → Agrees (λ i. i ≢ end) (lay c) image → octet_at image end ≡ 165 → Holds (advanced (length body) here) (before ++ body ∷ []) image
  opened c image fits r agrees open_ = record {
    chain = chain_more c image fits r agrees open_;
    ends = inl (not_open 0 image (behind end (length body)) (still_behind c image agrees) zero_is_closed);
  }

  pub while_opened : (c image : List ℕ) → Fits end (length body) → IsReady here before c → Agrees (λ i. i ≢ end) (lay c) image → Holds here before image ⊎ Holds (advanced (length body) here) (before ++ body ∷ []) image
  while_opened c image fits r agrees =
      ⊎_elim (λ e. inr (opened c image fits r agrees e))
      (λ ne. inl (record { chain = chain_same epoch c image journal_start before end r.chain (same_before c image r agrees); ends = inl ne })) (cases_eq (octet_at image end) 165)

  pub then_ready : (c : List ℕ) → Fits end (length body) → IsReady here before c → IsReady (advanced (length body) here) (before ++ body ∷ []) (write end (165 ∷ []) (lay c))
  then_ready c fits r =
      let image = write end (165 ∷ []) (lay c) in
      let agrees : Agrees (λ i. i ≢ end) (lay c) image = agrees_write (λ i. i ≢ end) end (165 ∷ []) (lay c) (misses_but end) in
      let gate : octet_at image end ≡ 165 = ap (octet_at image) (let e : end ≡ end + 0 = omega arith in e) ∙ stands_at image (165 ∷ []) end 0 (written_stands end (165 ∷ []) (lay c)) (omega arith) in
      record {
        chain = chain_more c image fits r agrees gate;
        gate = 0;
        there = still_behind c image agrees;
        closed = zero_is_closed;
      }

  -- the same of the images of a moment
  abbrev on_disk : Option Disk → Type 0
  on_disk disk = IfSome disk (λ d. (image : List ℕ) → IsImage d image → Holds here before image ⊎ Holds (advanced (length body) here) (before ++ body ∷ []) image)

  first_disk : (content : Option (List ℕ)) (disk : Option Disk) → IfSome content (IsReady here before) → AllAgree (IsOutside (range_of (end + 1) bytes)) content disk → on_disk disk
  first_disk None disk r h = subst on_disk (sym h) tt
  first_disk (Some c) None r h = tt
  first_disk (Some c) (Some d) r h = λ image is. inl (while_laid c image r (h image is))

  second_disk : (content : Option (List ℕ)) (disk : Option Disk) → Fits end (length body) → IfSome content (IsReady here before) → AllAgree (λ i. i ≢ end) (option_map lay content) disk → on_disk disk
  second_disk None disk fits r h = subst on_disk (sym h) tt
  second_disk (Some c) None fits r h = tt
  second_disk (Some c) (Some d) fits r h = λ image is. while_opened c image fits r (h image is)

  pub either_while_laid : (content : Option (List ℕ)) → IfSome content (IsReady here before) → (m : Moment) → Keeps (IsOutside (range_of (end + 1) bytes)) content m → HoldsEither here before body m
  either_while_laid content r m h = first_disk content m.disk r h

  pub either_while_opened : (old content : Option (List ℕ)) → Fits end (length body) → content ≡ option_map lay old → IfSome old (IsReady here before) → (m : Moment) → Keeps (λ i. i ≢ end) content m → HoldsEither here before body m
  either_while_opened old content fits is r m h = second_disk old m.disk fits r (subst (λ (x : Option (List ℕ)). AllAgree (λ i. i ≢ end) x m.disk) is h)

  pub ready_then : (old content new : Option (List ℕ)) → Fits end (length body) → content ≡ option_map lay old → new ≡ option_map (write end (165 ∷ [])) content → IfSome old (IsReady here before) → IfSome new (IsReady (advanced (length body) here) (before ++ body ∷ []))
  ready_then old content new fits is e r = subst (λ (x : Option (List ℕ)). IfSome x (IsReady (advanced (length body) here) (before ++ body ∷ []))) (sym (e ∙ ap (option_map (write end (165 ∷ []))) is)) (by old r)
    where
      by : (old : Option (List ℕ)) → IfSome old (IsReady here before) → IfSome (option_map (write end (165 ∷ [])) (option_map lay old)) (IsReady (advanced (length body) here) (before ++ body ∷ []))
      by None r = tt
      by (Some c) r = then_ready c fits r

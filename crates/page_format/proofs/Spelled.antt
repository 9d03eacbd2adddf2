-- Entries, pages and slots as octets, one behind the other.
use Rattle.std.proofs.Common.{ℕ, zero, suc, ◌≡◌, ◌+◌, ◌-◌, ◌*◌, ◌<◌, ◌≤◌, List, [], ◌∷◌, ◌++◌, length, take, replicate, get_or, flat_map, refl, sym, ap, ◌∙◌, subst, arith, append-nil, append_assoc, length-append}
use Rattle.std.proofs.lemmas.List.{length-replicate}
use Rattle.std.specs.Int.{to_be_bytes, w32, w64}
use Rattle.pss_base.specs.declared.put.Put.{Put}
use Rattle.page_format.specs.Objects.{entries_left, entry_left}
use Rattle.page_format.specs.Pages.{Entry, page_magic, page_zeros}
use Rattle.page_format.specs.Roots.{root_magic}
use Rattle.page_format.specs.Written.{AreStorable, AreWritable, IsWritable, entries_octets, entry_octets, list_octets, page_octets, pages_octets, root_octets, whole_page}
use Rattle.page_format.specs.declared.new_page.NewPage.{NewPage}
use Rattle.page_format.specs.declared.root.Root.{Root}
use Rattle.page_format.specs.inner.Buffers.{Filled}
use Rattle.page_format.proofs.EntryOctets.{length_entry}

-- what a buffer has after one more put
abbrev pub and_then : Filled → List ℕ → Filled
and_then b octets = record { size = b.size; octets = b.octets ++ octets }

pub first_put : (b c : Filled) (xs ys : List ℕ) → c ≡ and_then b xs → xs ≡ ys → c ≡ and_then b ys
first_put b c xs ys e same = e ∙ ap (and_then b) same

pub put_more : (b c d : Filled) (before xs ys : List ℕ) → c ≡ and_then b before → d ≡ and_then c xs → xs ≡ ys → d ≡ and_then b (before ++ ys)
put_more b c d before xs ys e f same = f ∙ ap (λ x. and_then x xs) e ∙ ap (λ l. record { size = b.size; octets = l }) (append_assoc b.octets before xs) ∙ ap (λ l. and_then b (before ++ l)) same

-- the element that comes next in a list
module _ {X : Type 0} (f : X → List ℕ) where
  next_taken : (xs : List X) (i : ℕ) (x : X) → i < length xs → x ≡ get_or xs i x → flat_map f (take (suc i) xs) ≡ flat_map f (take i xs) ++ f x
  next_taken [] i x lt at = absurd (omega (arith, lt))
  next_taken (y ∷ ys) zero x lt at = append-nil (f y) ∙ ap f (sym at)
  next_taken (y ∷ ys) (suc i) x lt at = ap (λ l. f y ++ l) (next_taken ys i x (omega (arith, lt)) at) ∙ sym (append_assoc (f y) (flat_map f (take i ys)) (f x))

  -- there is room for it
  pub next_fits : (xs : List X) (i : ℕ) (x : X) → i < length xs → x ≡ get_or xs i x → length (flat_map f (take i xs)) + length (f x) ≤ length (flat_map f xs)
  next_fits [] i x lt at = absurd (omega (arith, lt))
  next_fits (y ∷ ys) zero x lt at = let len : length (f x) ≡ length (f y) = ap (λ z. length (f z)) at in omega (arith, len, length-append (f y) (flat_map f ys))
  next_fits (y ∷ ys) (suc i) x lt at = omega (arith, next_fits ys i x (omega (arith, lt)) at, length-append (f y) (flat_map f (take i ys)), length-append (f y) (flat_map f ys))

  -- a buffer with the elements so far takes the next one
  pub put_next : (xs : List X) (i : ℕ) (x : X) (b c d : Filled) (ys : List ℕ) → i < length xs → x ≡ get_or xs i x → c ≡ and_then b (flat_map f (take i xs)) → d ≡ and_then c ys → ys ≡ f x → d ≡ and_then b (flat_map f (take (i + 1) xs))
  put_next xs i x b c d ys lt at before e same =
      put_more b c d (flat_map f (take i xs)) ys (f x) before e same ∙ ap (and_then b) (sym (next_taken xs i x lt at) ∙ ap (λ (n : ℕ). flat_map f (take n xs)) (let h : suc i ≡ i + 1 = omega arith in h))

-- the entry that a change leaves, among those that changes leave
pub left_at : (puts : List Put) (i : ℕ) (put : Put) → i < length puts → put ≡ get_or puts i put → entry_left put ≡ get_or (entries_left puts) i (entry_left put)
left_at [] i put lt at = absurd (omega (arith, lt))
left_at (x ∷ puts) zero put lt at = ap entry_left at
left_at (x ∷ puts) (suc i) put lt at = left_at puts i put (omega (arith, lt)) at

pub length-left : (puts : List Put) → length (entries_left puts) ≡ length puts
length-left [] = refl
length-left (x ∷ puts) = omega (arith, length-left puts)

pub there_left : (puts : List Put) (i : ℕ) → i < length puts → i < length (entries_left puts)
there_left puts i lt = omega (arith, lt, length-left puts)

pub writable_at : (ps : List NewPage) (i : ℕ) (p : NewPage) → AreWritable ps → i < length ps → p ≡ get_or ps i p → IsWritable p
writable_at [] i p ok lt at = absurd (omega (arith, lt))
writable_at (x ∷ ps) zero p ok lt at = subst IsWritable (sym at) ok.0
writable_at (x ∷ ps) (suc i) p ok lt at = writable_at ps i p ok.1 (omega (arith, lt)) at

pub writable_taken : (ps : List NewPage) (n : ℕ) → AreWritable ps → AreWritable (take n ps)
writable_taken [] zero ok = tt
writable_taken [] (suc n) ok = tt
writable_taken (p ∷ ps) zero ok = tt
writable_taken (p ∷ ps) (suc n) ok = (ok.0, writable_taken ps n ok.1)

-- each entry takes at least seventeen octets
pub few_entries : (es : List Entry) → AreStorable es → length es * 17 ≤ length (entries_octets es)
few_entries [] ok = omega arith
few_entries (e ∷ es) ok = omega (arith, few_entries es ok.1, ok.0.some, length_entry e, length-append (entry_octets e) (entries_octets es))

-- the octets of a page
pub length_page : (epoch slot : ℕ) (es : List Entry) → length (page_octets epoch slot es) ≡ 40 + length (entries_octets es)
length_page epoch slot es =
    by (to_be_bytes w64 epoch) (to_be_bytes w32 slot) (to_be_bytes w32 (length es)) (to_be_bytes w32 (length (entries_octets es))) (entries_octets es) refl refl refl refl
  where
    by : (e s c u os : List ℕ) → length e ≡ 8 → length s ≡ 4 → length c ≡ 4 → length u ≡ 4 → length (page_magic ++ (e ++ (s ++ (c ++ (u ++ (page_zeros ++ os)))))) ≡ 40 + length os
    by e s c u os a b d f =
        omega (
          arith,
          a,
          b,
          d,
          f,
          length-append page_magic (e ++ (s ++ (c ++ (u ++ (page_zeros ++ os))))),
          length-append e (s ++ (c ++ (u ++ (page_zeros ++ os)))),
          length-append s (c ++ (u ++ (page_zeros ++ os))),
          length-append c (u ++ (page_zeros ++ os)),
          length-append u (page_zeros ++ os),
          length-append page_zeros os,
        )

pub length_whole : (epoch : ℕ) (p : NewPage) → IsWritable p → length (whole_page epoch p) ≡ 16384
unfolding whole_page
length_whole epoch p ok =
    omega (arith, ok.short, length_page epoch p.slot p.entries, length-append (page_octets epoch p.slot p.entries) (replicate (16344 - length (entries_octets p.entries)) 0), length-replicate {A = ℕ} (16344 - length (entries_octets p.entries)) 0)

pub length_pages : (epoch : ℕ) (ps : List NewPage) → AreWritable ps → length (pages_octets epoch ps) ≡ length ps * 16384
length_pages epoch [] ok = refl
length_pages epoch (p ∷ ps) ok = omega (arith, length_whole epoch p ok.0, length_pages epoch ps ok.1, length-append (whole_page epoch p) (pages_octets epoch ps))

pub length_list : (slots : List ℕ) → length (list_octets slots) ≡ length slots * 4
length_list [] = refl
length_list (s ∷ slots) = by (to_be_bytes w32 s) refl (length_list slots)
  where
    by : (xs : List ℕ) → length xs ≡ 4 → length (list_octets slots) ≡ length slots * 4 → length (xs ++ list_octets slots) ≡ suc (length slots) * 4
    by xs e rest = omega (arith, e, length-append xs (list_octets slots), rest)

pub length_root : (root : Root) → length (root_octets root) ≡ 31 + length root.shape
unfolding root_octets
length_root root = by (to_be_bytes w64 root.epoch) (to_be_bytes w64 root.next) (to_be_bytes w32 (length root.shape)) (to_be_bytes w32 (length root.slots)) root.shape refl refl refl refl
  where
    by : (e n l c os : List ℕ) → length e ≡ 8 → length n ≡ 8 → length l ≡ 4 → length c ≡ 4 → length (root_magic ++ (e ++ (n ++ (l ++ (c ++ os))))) ≡ 31 + length os
    by e n l c os a b d f =
        omega (arith, a, b, d, f, length-append root_magic (e ++ (n ++ (l ++ (c ++ os)))), length-append e (n ++ (l ++ (c ++ os))), length-append n (l ++ (c ++ os)), length-append l (c ++ os), length-append c os)

-- the parts of an entry, of a page and of a root in a row
pub entry_parts : (e : Entry) → ((to_be_bytes w32 e.home ++ to_be_bytes w32 (length e.octets)) ++ to_be_bytes w64 e.serial) ++ e.octets ≡ entry_octets e
unfolding entry_octets
entry_parts e =
    append_assoc (to_be_bytes w32 e.home ++ to_be_bytes w32 (length e.octets)) (to_be_bytes w64 e.serial) e.octets ∙ append_assoc (to_be_bytes w32 e.home) (to_be_bytes w32 (length e.octets)) (to_be_bytes w64 e.serial ++ e.octets)

module _ (a b c d e : List ℕ) where
  module _ (f : List ℕ) where
    six_parts : ((((a ++ b) ++ c) ++ d) ++ e) ++ f ≡ a ++ (b ++ (c ++ (d ++ (e ++ f))))
    six_parts = append_assoc (((a ++ b) ++ c) ++ d) e f ∙ append_assoc ((a ++ b) ++ c) d (e ++ f) ∙ append_assoc (a ++ b) c (d ++ (e ++ f)) ∙ append_assoc a b (c ++ (d ++ (e ++ f)))

    seven_parts : (g : List ℕ) → (((((a ++ b) ++ c) ++ d) ++ e) ++ f) ++ g ≡ a ++ (b ++ (c ++ (d ++ (e ++ (f ++ g)))))
    seven_parts g = append_assoc ((((a ++ b) ++ c) ++ d) ++ e) f g ∙ append_assoc (((a ++ b) ++ c) ++ d) e (f ++ g) ∙ append_assoc ((a ++ b) ++ c) d (e ++ (f ++ g)) ∙ append_assoc (a ++ b) c (d ++ (e ++ (f ++ g))) ∙ append_assoc a b (c ++ (d ++ (e ++ (f ++ g))))

pub page_parts : (epoch : ℕ) (p : NewPage)
    → ((((((page_magic ++ to_be_bytes w64 epoch) ++ to_be_bytes w32 p.slot) ++ to_be_bytes w32 (length p.entries)) ++ to_be_bytes w32 (length (entries_octets p.entries))) ++ page_zeros) ++ entries_octets p.entries) ++ replicate (16344 - length (entries_octets p.entries)) 0
    ≡ whole_page epoch p
unfolding whole_page
page_parts epoch p =
    ap (λ l. l ++ replicate (16344 - length (entries_octets p.entries)) 0)
    (seven_parts page_magic (to_be_bytes w64 epoch) (to_be_bytes w32 p.slot) (to_be_bytes w32 (length p.entries)) (to_be_bytes w32 (length (entries_octets p.entries))) page_zeros (entries_octets p.entries))

pub root_parts : (root : Root) → ((((root_magic ++ to_be_bytes w64 root.epoch) ++ to_be_bytes w64 root.next) ++ to_be_bytes w32 (length root.shape)) ++ to_be_bytes w32 (length root.slots)) ++ root.shape ≡ root_octets root
unfolding root_octets
root_parts root = six_parts root_magic (to_be_bytes w64 root.epoch) (to_be_bytes w64 root.next) (to_be_bytes w32 (length root.shape)) (to_be_bytes w32 (length root.slots)) root.shape

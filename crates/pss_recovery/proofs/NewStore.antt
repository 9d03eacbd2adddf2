-- What a new store stands for.
use Rattle.std.proofs.Common.{ℕ, ◌≡◌, inl, inr, ◌≤◌, List, [], ◌∷◌, length, map, sum, refl, sym, ap, ◌∙◌, arith}
use Rattle.std.specs.Ordering.{nat_cmp}
use Rattle.std.specs.FinMap.{empty, entries, len-empty, len-entries}
use Rattle.pss_disk.specs.Parts.{octet_at}
use Rattle.type_layout.specs.declared.schema.Schema.{Schema}
use Rattle.type_layout.specs.ShapeText.{shape_text}
use Rattle.pss_catalog.specs.Catalog.{Object, total, weight}
use Rattle.redo_journal.specs.Journal.{journal_end, journal_start}
use Rattle.page_format.specs.declared.root.Root.{Root}
use Rattle.page_format.specs.Roots.{HasFields, HasRoot, IsWrongField}
use Rattle.page_format.specs.Written.{root_octets}
use Rattle.page_format.proofs.Spelled.{length_root}
use Rattle.page_store.proofs.LaidOctets.{IsRead, root_read}
use Rattle.pss_recovery.specs.Stands.{Stands}
use Rattle.pss_recovery.specs.inner.Blanks.{IsMade, first_root}

no_items : {A : Type 0} (l : List A) → length l ≡ 0 → l ≡ []
no_items [] e = refl
no_items (x ∷ l) e = absurd (omega (arith, e))

pub nothing_weighs : (S : Schema) → total S empty ≡ 0
nothing_weighs S = ap (λ (l : List (ℕ × Object)). sum (map (λ e. weight S e.1) l)) (no_items (entries (empty {X = Object} {R = nat_cmp})) (sym (len-entries (empty {X = Object} {R = nat_cmp})) ∙ len-empty nat_cmp Object))

module _ (S : Schema) (shape image : List ℕ) (is : shape_text S ≡ shape) (short : length shape ≤ 65536) (made : IsMade journal_end (root_octets (first_root shape)) image) where
  abbrev root : Root
  root = first_root shape

  zero_there : (i : ℕ) → 131072 ≤ i → octet_at image i ≡ 0
  zero_there i le = made.rest i (omega (arith, length_root root, short, le))

  closed : (i : ℕ) → 131072 ≤ i → octet_at image i ≡ 165 → ⊥
  closed i le e = omega (arith, zero_there i le, e)

  read : IsRead root image
  read = root_read root image (omega arith) (omega arith) short (omega arith) made.root_

  fields : HasFields image root
  fields = record {
    epoch = read.epoch;
    next = read.next;
    shape_length = read.shape_length;
    shape = read.shape;
    page_count = read.page_count;
    slots = λ k lt. absurd (omega (arith, lt));
  }

  none_wrong : (at : ℕ) → IsWrongField image 0 at → ⊥
  none_wrong at (inl w) = omega (arith, fields.next, w.1)
  none_wrong at (inr (inl w)) = omega (arith, fields.shape_length, w.1, short)
  none_wrong at (inr (inr (inl w))) = omega (arith, fields.page_count, w.1)
  none_wrong at (inr (inr (inr w))) = omega (arith, fields.page_count, w.within)

  has_root : HasRoot root image
  has_root = record {
    long = omega (arith, made.long);
    current = record { area_ = omega arith; root = record { gate = made.gate; magic = read.magic }; newer = λ other. absurd (closed 131072 (omega arith) other.gate) };
    fields = fields;
    right = none_wrong;
  }

  pub new_store : Stands S empty 1 image
  new_store = record {
    root = root;
    base = empty;
    end = journal_start;
    bodies = [];
    read = record {
      loaded = record {
        paged = record {
          rooted = record { root_ = has_root; shape = sym is };
          pages = record { whole = λ k lt. absurd (omega (arith, lt)); given = tt; packed = λ j k less lt. absurd (omega (arith, lt)) };
        };
        loaded = refl;
        bounded = omega (arith, nothing_weighs S);
      };
      journal = record { chain = refl; ends = inl (closed journal_start (omega arith)) };
    };
    replayed = (refl, refl);
  }

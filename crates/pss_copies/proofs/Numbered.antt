-- The entries of one session by their numbers, whatever becomes of them.
use Rattle.std.proofs.Common.{◌≡◌, ℕ, ◌==◌, ◌&&◌, Bool, true, false, not, cond, List, [], ◌∷◌, ◌++◌, map, Option, Some, None, refl, sym, ap, ◌∙◌}
use Rattle.std.specs.Prelude.{filter, find, if◌then◌else◌}
use Rattle.std.specs.Option.{option_map}
use Rattle.std.proofs.lemmas.Bool.{eqb-true}
use Rattle.pss_base.specs.declared.pid.Pid.{Pid}
use Rattle.type_layout.specs.Schemas.{given}
use Rattle.pss_machine.specs.Copies.{Loose, Entry, Copies, entry_numbered, at_entry, without_entry, with_stand, is_attached, Body, detached_from}
use Rattle.pss_machine.proofs.Attached.{has_number}

abbrev pub numbered : ℕ → List Entry → Option Entry
numbered n es = find (λ e. e.number == n) es

pub numbered_map : (f : Entry → Entry) → ((e : Entry) → (f e).number ≡ e.number) → (n : ℕ) (es : List Entry) → numbered n (map f es) ≡ option_map f (numbered n es)
numbered_map f keeps n [] = refl
numbered_map f keeps n (e ∷ es) = ap (λ m. cond (m == n) (Some (f e)) (numbered n (map f es))) (keeps e) ∙ by (e.number == n) (numbered_map f keeps n es)
  where
    by : (b : Bool) → numbered n (map f es) ≡ option_map f (numbered n es) → cond b (Some (f e)) (numbered n (map f es)) ≡ option_map f (cond b (Some e) (numbered n es))
    by true rest = refl
    by false rest = rest

-- the entry of one number is another
pub numbered_at : (m : ℕ) (f : Entry → Entry) → ((e : Entry) → (f e).number ≡ e.number) → (n : ℕ) (c : Copies) → entry_numbered (at_entry m f c) n ≡ cond (n == m) (option_map f (entry_numbered c n)) (entry_numbered c n)
numbered_at m f keeps n c = numbered_map (λ e. if e.number == m then f e else e) (λ e. kept e (e.number == m)) n c.entries ∙ by (numbered n c.entries) refl
  where
    kept : (e : Entry) (b : Bool) → (if b then f e else e).number ≡ e.number
    kept e true = keeps e
    kept e false = refl

    each : (e : Entry) (b : Bool) → Some (if b then f e else e) ≡ cond b (Some (f e)) (Some e)
    each e true = refl
    each e false = refl

    none : (b : Bool) → None ≡ cond {A = Option Entry} b None None
    none true = refl
    none false = refl

    by : (o : Option Entry) → numbered n c.entries ≡ o → option_map (λ e. if e.number == m then f e else e) o ≡ cond (n == m) (option_map f o) o
    by None is = none (n == m)
    by (Some e) is = each e (e.number == m) ∙ ap (λ k. cond (k == m) (Some (f e)) (Some e)) (has_number n c.entries e is)

-- the entry of one number is gone
pub numbered_without : (m n : ℕ) (c : Copies) → entry_numbered (without_entry m c) n ≡ cond (n == m) None (entry_numbered c n)
numbered_without m n c = over c.entries
  where
    same : (b : Bool) → b ≡ b
    same b = refl

    over : (es : List Entry) → numbered n (filter (λ e. not (e.number == m)) es) ≡ cond (n == m) None (numbered n es)
    over [] = none (n == m)
      where
        none : (b : Bool) → None ≡ cond {A = Option Entry} b None None
        none true = refl
        none false = refl
    over (e ∷ es) = by (e.number == m) refl (e.number == n) refl (over es)
      where
        by : (a : Bool) → (e.number == m) ≡ a → (b : Bool) → (e.number == n) ≡ b → numbered n (filter (λ e. not (e.number == m)) es) ≡ cond (n == m) None (numbered n es)
            → numbered n (cond (not a) (e ∷ filter (λ e. not (e.number == m)) es) (filter (λ e. not (e.number == m)) es)) ≡ cond (n == m) None (cond b (Some e) (numbered n es))
        by true at true is rest =
            let one : (n == m) ≡ true = ap (λ k. k == m) (sym (eqb-true e.number n is)) ∙ at in
            rest ∙ ap (λ t. cond t None (numbered n es)) one ∙ sym (ap (λ t. cond t None (Some e)) one)
        by true at false is rest = rest
        by false at true is rest =
            let other : (n == m) ≡ false = ap (λ k. k == m) (sym (eqb-true e.number n is)) ∙ at in
            ap (λ t. cond t (Some e) (numbered n (filter (λ e. not (e.number == m)) es))) is ∙ sym (ap (λ t. cond t None (Some e)) other)
        by false at false is rest = ap (λ t. cond t (Some e) (numbered n (filter (λ e. not (e.number == m)) es))) is ∙ rest

-- one entry more
pub numbered_pushed : (n : ℕ) (x : Entry) (es : List Entry) → numbered n (es ++ x ∷ []) ≡ given (numbered n es) (cond (x.number == n) (Some x) None) Some
numbered_pushed n x [] = refl
numbered_pushed n x (e ∷ es) = by (e.number == n) (numbered_pushed n x es)
  where
    by : (b : Bool) → numbered n (es ++ x ∷ []) ≡ given (numbered n es) (cond (x.number == n) (Some x) None) Some
        → cond b (Some e) (numbered n (es ++ x ∷ [])) ≡ given (cond b (Some e) (numbered n es)) (cond (x.number == n) (Some x) None) Some
    by true rest = refl
    by false rest = rest

-- an entry that stands on a body which passes the test stands on none
abbrev pub let_go : (Pid → Body) → (Body → Bool) → Entry → Entry
let_go body test e = if is_attached e && test (body e.pid) then with_stand Loose e else e

pub numbered_detached : (body : Pid → Body) (test : Body → Bool) (n : ℕ) (c : Copies) → entry_numbered (detached_from body test c) n ≡ option_map (let_go body test) (entry_numbered c n)
numbered_detached body test n c = numbered_map (let_go body test) (λ e. by e (is_attached e && test (body e.pid))) n c.entries
  where
    by : (e : Entry) (b : Bool) → (if b then with_stand Loose e else e).number ≡ e.number
    by e true = refl
    by e false = refl

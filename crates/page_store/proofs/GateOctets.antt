-- A gate is closed, or was closed.
use Rattle.std.proofs.Common.{ℕ, ◌≡◌, List, ◌↔◌, Bool, true, IsTrue, None, Some, IfSome, sym, ap, subst}
use Rattle.std.specs.declared.option.Option.{Option}
use Rattle.pss_disk.specs.Images.{AllAgree, IsQuiet, Keeps}
use Rattle.pss_disk.specs.Moments.{Disk, IsSettled, IsStill, Moment, Through}
use Rattle.pss_disk.proofs.Images.{untouched_keeps, untouched_start}
use Rattle.pss_disk.proofs.Passing.{weaker}
use Rattle.redo_journal.specs.Journal.{IsClosed, IsOpen}
use Rattle.page_store.specs.Gates.{IsAnywhere}

-- what is kept everywhere is kept there
fewer : (S : ℕ → Type 0) (content : Option (List ℕ)) (disk : Option Disk) → AllAgree IsAnywhere content disk → AllAgree S content disk
fewer S None disk h = h
fewer S (Some c) None h = h
fewer S (Some c) (Some d) h = λ image is i s lt. h image is i tt lt

pub keeps_there : (S : ℕ → Type 0) (content : Option (List ℕ)) (m : Moment) → Keeps IsAnywhere content m → Keeps S content m
keeps_there S content m h = fewer S content m.disk h

-- a settled content is kept while it is only read
pub read_keeps : (S : ℕ → Type 0) (content : Option (List ℕ)) (before after : List Moment) (now : Moment) → IsSettled content now → Through before after (IsStill now) → Through before after (Keeps S content)
read_keeps S content before after now settled time = weaker before after (IsStill now) (Keeps S content) (λ m e. subst (λ x. Keeps S content x) (sym e) (untouched_keeps S content now (untouched_start S content now settled))) time

pub read_quiet : (before after : List Moment) (now : Moment) → Through before after (IsStill now) → Through before after (IsQuiet now)
read_quiet before after now time = weaker before after (IsStill now) (IsQuiet now) (λ m e. ap (λ (x : Moment). x.spoken) e) time

pub settled_still : (a b : Option (List ℕ)) (now later : Moment) → b ≡ a → later ≡ now → IsSettled a now → IsSettled b later
settled_still a b now later e f h = subst (λ c. IsSettled c later) (sym e) (subst (λ m. IsSettled a m) (sym f) h)

-- a gate that is open is not closed
pub not_still : (gate : ℕ) (content : Option (List ℕ)) (open_ : Bool) (S : ℕ → Type 0) (before after : List Moment) → IfSome content (λ c. IsTrue open_ ↔ IsOpen c gate) → open_ ≡ true → Through before after (Keeps S content) → IfSome content (λ c. IsClosed c gate) → Through before after (Keeps IsAnywhere content)
not_still gate None open_ S before after read e h closed = weaker before after (Keeps S None) (Keeps IsAnywhere None) (λ m k. k) h
not_still gate (Some c) open_ S before after read e h closed = absurd (closed (read.0 e))

pub not_closed : (gate : ℕ) (content : Option (List ℕ)) (open_ : Bool) (X : Type 0) → IfSome content (λ c. IsTrue open_ ↔ IsOpen c gate) → open_ ≡ true → IfSome content (λ c. IsClosed c gate → X)
not_closed gate None open_ X is e = tt
not_closed gate (Some c) open_ X is e = λ closed. absurd (closed (is.0 e))

-- moments that came, seen from the content and the moment before
pub from_before : (S : ℕ → Type 0) (old now : Option (List ℕ)) (before after : List Moment) → now ≡ old → Through before after (Keeps S now) → Through before after (Keeps S old)
from_before S old now before after same h = subst (λ o. Through before after (Keeps S o)) same h

pub quiet_before : (old now : Moment) (before after : List Moment) → now ≡ old → Through before after (IsQuiet now) → Through before after (IsQuiet old)
quiet_before old now before after same h = subst (λ m. Through before after (IsQuiet m)) same h

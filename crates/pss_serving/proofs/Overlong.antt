-- A text of which more than the limit was read is what its first bytes are: too long.
use Rattle.std.proofs.Common.{◌≡◌, ◌∙◌, ap, arith, ℕ, ◌≤◌, ◌<◌, List, length, take, Some, None, IfSome, Result, Ok, Err}
use Rattle.std.specs.declared.option.Option.{Option}
use Rattle.std.proofs.lemmas.List.{take-take, length-take-le}
use Rattle.pss_base.specs.declared.place.Place.{Place}
use Rattle.psdl_tokens.specs.Places.{place_of}
use Rattle.psdl_syntax.specs.Syntax.{IsFault, most_bytes}
use Rattle.psdl_syntax.specs.declared.syntax_fault.SyntaxKind.{SyntaxKind}
use Rattle.psdl_syntax.specs.declared.syntax_fault.SyntaxKind.TheVariants as kinds
use Rattle.pss_serving.specs.Found.{IsFound}
use Rattle.pss_serving.specs.declared.reading.SoundText.{SoundText}
use Rattle.pss_serving.specs.declared.reading.Unread.{Unread}
use Rattle.pss_serving.specs.declared.reading.Unread.TheVariants as unread
use Rattle.pss_serving.specs.declared.schema_fault.SchemaFault.TheVariants.{Syntax, Check}

fits_not : (n size : ℕ) (all : List ℕ) → size < n → n < length all → length (take n all) ≤ size → ⊥
fits_not n size all past over fits =
    let is : length (take n all) ≡ n = length-take-le n all (omega arith) in
    omega arith

module _ (n : ℕ) (all : List ℕ) (past : most_bytes < n) (over : n < length all) where
  none : length (take n all) ≤ most_bytes → ⊥
  none = fits_not n most_bytes all past over

  too_long : (place : Place) (kind : SyntaxKind) → IsFault (take n all) place kind → IsFault all place kind
  too_long place kinds.BadByte f = absurd (none f.within)
  too_long place kinds.OpenComment f = absurd (none f.within)
  too_long place kinds.BadLiteral f = absurd (none f.within)
  too_long place kinds.LiteralTooWide f = absurd (none f.within)
  too_long place kinds.Unexpected f = absurd (none f.stop.within)
  too_long place kinds.LeftOut f = absurd (none f.within)
  too_long place kinds.TooDeep f = absurd (none f.within)
  too_long place kinds.TooLong f = record {
    over = grind arith;
    here = f.here ∙ ap place_of (take-take most_bytes n all (grind arith));
  }
  too_long place kinds.NoMemory f = f

  known : (found : Result SoundText Unread) → IsFound found (Some (take n all)) → IsFound found (Some all)
  known (Ok sound) o = absurd (none (rw o.0.2 at o.0.1.0.within))
  known (Err (unread.Refused (Syntax fault))) o = too_long fault.place fault.kind o
  known (Err (unread.Refused (Check fault))) o = absurd (none o.1.within)
  known (Err unread.ReadFault) o = tt
  known (Err unread.NoMemory) o = tt

unknown : (found : Result SoundText Unread) (bytes : List ℕ) → IsFound found (Some bytes) → IsFound found None
unknown (Ok sound) bytes o = ((o.0.0, o.0.1, tt), o.1)
unknown (Err (unread.Refused fault)) bytes o = tt
unknown (Err unread.ReadFault) bytes o = tt
unknown (Err unread.NoMemory) bytes o = tt

-- all bytes that come were read
pub whole : (found : Result SoundText Unread) (bytes : List ℕ) (left : Option (List ℕ)) → IfSome left (λ all. bytes ≡ all) → IsFound found (Some bytes) → IsFound found left
whole found bytes None is of = unknown found bytes of
whole found bytes (Some all) is of = rw is at of

-- the first bytes tell of the whole text
pub longer : (n : ℕ) (found : Result SoundText Unread) (bytes : List ℕ) (left : Option (List ℕ)) → most_bytes < n → IfSome left (λ all. (n < length all) × (bytes ≡ take n all))
    → IsFound found (Some bytes) → IsFound found left
longer n found bytes None past is of = unknown found bytes of
longer n found bytes (Some all) past is of = known n all past is.0 found (rw is.1 at of)

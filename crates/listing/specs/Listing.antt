-- The listing of a stream of bytes (docs/LISTER.md).
use Rattle.std.specs.Prelude.{◌≡◌, ℕ, ◌+◌, ◌*◌, ◌<◌, ◌≤◌, Bool, List, [], ◌∷◌, ◌++◌, length, take, drop, Some, None, Option, nat_lt}
use Rattle.tape.specs.declared.signals.Signal.{Signal}
use Rattle.tape.specs.declared.signals.Entry.{Entry}
use Rattle.tape.specs.Follow.{Follows, limit, model}
use Rattle.tape.specs.Numbers.{signal_of}
use Rattle.tape.specs.Reading.{Reads}
use Rattle.listing.specs.declared.listing.Listing.{Listing}
use Rattle.listing.specs.declared.listing.Fed.{Fed}
use Rattle.listing.specs.Lines.{lines}

-- two bytes to a signal number, the high one first
abbrev pub signals : List ℕ → List Signal
signals [] = []
signals (high ∷ []) = []
signals (high ∷ low ∷ bs) = signal_of (high * 256 + low) ∷ signals bs

-- the odd last byte, if there is one
abbrev pub odd : List ℕ → Option ℕ
odd [] = None
odd (high ∷ []) = Some high
odd (high ∷ low ∷ bs) = odd bs

-- the tape of a stream: its signals, as far as they are counted
abbrev pub tape_of : List ℕ → List Signal
tape_of input = take limit (signals input)

-- more signals came than are counted
abbrev pub over_of : List ℕ → Bool
over_of input = nat_lt limit (length (signals input))

-- a listing that was fed all of `input`, whose tape has the entries es
pub record Listens (input : List ℕ) (es : List Entry) (x : Listing) : Type 0 where
  pub follows : Follows (tape_of input) es (model x.reader)
  pub waits : x.high ≡ odd input
  pub over : x.over ≡ over_of input

-- a listing of `input` was fed the front of `piece`, as much as was told: the entries that came by it are `more`, their lines
-- stand at the front of `out`, as many bytes as was told, and behind them is what was there
pub record FedOn (input piece : List ℕ) (es : List Entry) (out : List ℕ) (told : Fed) (after : List ℕ) (x : Listing) : Type 0 where
  pub more : List Entry
  pub listens : Listens (input ++ take told.taken piece) (es ++ more) x
  pub counts : told.written ≡ length (lines more)
  pub holds : after ≡ lines more ++ drop told.written out

-- it goes on as long as the piece and 50 places last: so many were there before each byte that was taken
abbrev pub WentOn : (input piece : List ℕ) (es : List Entry) (out : List ℕ) (told : Fed) → Type 0
WentOn input piece es out told =
    (i : ℕ) → i < told.taken → (fs : List Entry) (q : ℕ) (r : List ℕ) → Reads 0 (tape_of (input ++ take i piece)) (es ++ fs) q r → length (lines fs) + 50 ≤ length out

-- what is told, whatever was fed before: if not the whole piece is taken, fewer than 50 places are left, and no byte completes
-- more than one line
pub record Stops (piece out : List ℕ) (told : Fed) : Type 0 where
  pub within : told.taken ≤ length piece
  pub fits : told.written ≤ length out
  pub ended : told.taken < length piece → length out < told.written + 50
  pub slow : told.written ≤ 50 * told.taken

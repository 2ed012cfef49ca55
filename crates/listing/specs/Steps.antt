-- What one signal, some bytes and one step do to a listing: for the calls that no other crate sees.
use Rattle.std.specs.Prelude.{◌≡◌, ℕ, ◌<◌, ◌≤◌, true, cond, List, [], ◌++◌, length, take, drop, Option}
use Rattle.std.specs.Option.{option_to_list}
use Rattle.tape.specs.declared.signals.Signal.{Signal}
use Rattle.tape.specs.declared.signals.Entry.{Entry}
use Rattle.tape.specs.Follow.{Follows, heard, full, model}
use Rattle.tape.specs.Reading.{Reads}
use Rattle.listing.specs.declared.listing.Listing.{Listing}
use Rattle.listing.specs.declared.listing.Advance.{Advance}
use Rattle.listing.specs.declared.listing.Fed.{Fed}
use Rattle.listing.specs.Lines.{lines}
use Rattle.listing.specs.Listing.{tape_of, Listens}

-- the signal s behind the tape t: it completes the entry r, if any
pub record Stepped (t : List Signal) (es : List Entry) (s : Signal) (r : Option Entry) (x y : Listing) : Type 0 where
  pub follows : Follows (heard t s) (es ++ option_to_list r) (model y.reader)
  pub waits : y.high ≡ x.high
  pub over : y.over ≡ cond (full t) true x.over

-- the listing x is fed `bytes`, behind whatever it was fed, and is y: they complete the entries `more`
abbrev pub Hears : Listing → List ℕ → List Entry → Listing → Type 0
Hears x bytes more y = (input : List ℕ) (es : List Entry) → Listens input es x → Listens (input ++ bytes) (es ++ more) y

-- no entry is complete before the last of `bytes`
abbrev pub Waits : Listing → List ℕ → Type 0
Waits x bytes =
    (input : List ℕ) (es : List Entry) → Listens input es x → (i : ℕ) → i < length bytes → (fs : List Entry) (q : ℕ) (r : List ℕ) → Reads 0 (tape_of (input ++ take i bytes)) (es ++ fs) q r → fs ≡ []

-- a step of the listing x, which then is y, takes at least one byte from the front of the piece; the last one completes the entry
-- that is told, if any
pub record Advances (x : Listing) (piece : List ℕ) (y : Listing) (told : Advance) : Type 0 where
  pub within : told.taken ≤ length piece
  pub moves : 0 < told.taken
  pub hears : Hears x (take told.taken piece) (option_to_list told.entry) y
  pub waits : Waits x (take told.taken piece)

-- such a step, after which the line of the entry, if any, stands at the front of `out`, which has room for a longest line
pub record FedOnce (x : Listing) (piece out : List ℕ) (y : Listing) (after : List ℕ) (told : Fed) : Type 0 where
  pub room : 50 ≤ length out
  pub entry : Option Entry
  pub advances : Advances x piece y (record { taken = told.taken; entry = entry })
  pub counts : told.written ≡ length (lines (option_to_list entry))
  pub holds : after ≡ lines (option_to_list entry) ++ drop told.written out
  pub few : told.written ≤ 50

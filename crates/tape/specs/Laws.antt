-- Laws of the reading (docs/READING.md).
use Rattle.std.specs.Prelude.{◌≡◌, ℕ, suc, ◌<◌, ◌≤◌, List, [], ◌∷◌, ◌++◌}
use Rattle.tape.specs.declared.signals.Signal.{Signal}
use Rattle.tape.specs.declared.signals.Signal.TheVariants.{Byte, Pause}
use Rattle.tape.specs.declared.signals.Entry.{Entry}
use Rattle.tape.specs.declared.reader.TapeReader.{TapeReader}
use Rattle.tape.specs.Reading.{Reads}
use Rattle.tape.specs.Follow.{Follows, model}

-- every byte of the tape is one
abbrev pub OfBytes : List Signal → Type 0
OfBytes [] = Unit {0}
OfBytes (Byte b ∷ t) = (b < 256) × OfBytes t
OfBytes (Pause ∷ t) = OfBytes t

-- a tape's entries, and the frame begun with its place
pub record Reading (t : List Signal) : Type 0 where
  pub entries : List Entry
  pub front : ℕ
  pub begun : List ℕ
  pub reads : Reads 0 t entries front begun

pub record Same (es es' : List Entry) (q q' : ℕ) (r r' : List ℕ) : Type 0 where
  pub entries : es ≡ es'
  pub front : q ≡ q'
  pub begun : r ≡ r'

abbrev pub EachTapeHasOneReading : Type 0
EachTapeHasOneReading =
    ((t : List Signal) → OfBytes t → Reading t)
    × ((t : List Signal) (es es' : List Entry) (q q' : ℕ) (r r' : List ℕ) → Reads 0 t es q r → Reads 0 t es' q' r' → Same es es' q q' r r')

-- what was read stays read: a longer tape has the entries of the shorter, and more behind them
abbrev pub ALongerTapeKeepsTheEntries : Type 0
ALongerTapeKeepsTheEntries =
    (t u : List Signal) (es fs : List Entry) (q q' : ℕ) (r r' : List ℕ) → OfBytes t → OfBytes u → Reads 0 t es q r → Reads 0 (t ++ u) fs q' r' → (more : List Entry) × (fs ≡ es ++ more)

-- each place is at least p and above the place before it, and all are below q
abbrev pub Ascends : ℕ → List Entry → ℕ → Type 0
Ascends p [] q = p ≤ q
Ascends p (e ∷ es) q = (p ≤ e.place) × Ascends (suc e.place) es q

-- the entries are in order of place, and stand before the frame begun
abbrev pub PlacesAscend : Type 0
PlacesAscend = (t : List Signal) (es : List Entry) (q : ℕ) (r : List ℕ) → Reads 0 t es q r → Ascends 0 es q

abbrev pub EachReaderHasATape : Type 0
EachReaderHasATape = (x : TapeReader) → (t : List Signal) × (es : List Entry) × Follows t es (model x)

-- What a tape reader holds, and what one more signal gives (docs/READING.md).
use Rattle.std.specs.Prelude.{◌≡◌, ℕ, ◌+◌, Bool, cond, ◌&&◌, List, [], ◌∷◌, ◌++◌, length, take, ◌==◌, nat_le, slice_index, Result, Ok, Err, Option, is_err}
use Rattle.std.specs.Option.{option_to_list}
use Rattle.tape.specs.declared.signals.Signal.{Signal}
use Rattle.tape.specs.declared.signals.Entry.{Entry}
use Rattle.tape.specs.declared.signals.TapeFull.{TapeFull}
use Rattle.tape.specs.declared.reader.TapeReader.{TapeReader}
use Rattle.tape.specs.Reading.{Reads}

-- as many signals as are counted
abbrev pub limit : ℕ
limit = 4294967295

abbrev pub full : List Signal → Bool
full t = length t == limit

-- the tape t once the signal s was given: a full one takes no more
abbrev pub heard : List Signal → Signal → List Signal
heard t s = cond (full t) t (t ++ s ∷ [])

-- what a reader holds: bytes, of which the first `held` are the frame begun, its place, and how many signals came
pub record Held : Type 0 where
  pub bytes : List ℕ
  pub held : ℕ
  pub place : ℕ
  pub signals : ℕ

abbrev pub model : TapeReader → Held
model x = record { bytes = x.begun; held = x.held; place = x.place; signals = x.signals }

-- the tape t was taken, and its entries are es
pub record Follows (t : List Signal) (es : List Entry) (x : Held) : Type 0 where
  pub reads : Reads 0 t es x.place (take x.held x.bytes)
  pub count : length t ≡ x.signals

-- the entries that an answer tells
abbrev pub gained : Result (Option Entry) TapeFull → List Entry
gained (Ok e) = option_to_list e
gained (Err f) = []

-- the answer that refuses
abbrev pub is_full : Result (Option Entry) TapeFull → Bool
is_full r = is_err r

-- a reader of the tape t, whose entries are es, was given the signal s and answered r: it refused just where the tape is full,
-- and now it follows the tape with s, whose entries are es and those that r tells
pub record Took (t : List Signal) (es : List Entry) (s : Signal) (r : Result (Option Entry) TapeFull) (x : Held) : Type 0 where
  pub refuses : is_full r ≡ full t
  pub follows : Follows (heard t s) (es ++ gained r) x

-- a reader takes the bytes f at once if no frame is begun, if they are a whole frame, and if the tape has room for them
abbrev pub at_once : Held → List ℕ → Bool
at_once x f = x.held == 0 && length f == slice_index f 0 + 1 && nat_le (x.signals + length f) limit

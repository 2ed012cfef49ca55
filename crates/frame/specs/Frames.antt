-- Frames of a kind: what a frame is read as, and how a packet is written (docs/FRAME.md).
use Rattle.std.specs.Prelude.{◌≡◌, ℕ, ◌+◌, cond, List, ◌∷◌, length, take, drop, Ok, Err, Result, ◌==◌, nat_le, nat_lt, slice_index}
use Rattle.frame.specs.Faults.{unless, after}
use Rattle.frame.specs.Model.{Model}
use Rattle.frame.specs.declared.faults.Fault.{Fault}
use Rattle.frame.specs.declared.faults.Fault.TheVariants.{NoPayload, Cut, UnknownType, WrongLength}
use Rattle.frame.specs.declared.packet.Packet.{Packet}

-- a whole frame: its length byte counts the bytes behind it
abbrev pub Whole : List ℕ → Type 0
Whole xs = length xs ≡ slice_index xs 0 + 1

-- the whole frame at the front of some bytes; where too few are there, it is cut
abbrev pub front_of : List ℕ → Result (List ℕ) Fault
front_of xs = cond (nat_lt (slice_index xs 0) (length xs)) (Ok (take (slice_index xs 0 + 1) xs)) (Err (Cut (length xs)))

module _ {X : Type 0} where
  abbrev pub then_by : Result (List ℕ) Fault → (List ℕ → Result X Fault) → Result X Fault
  then_by (Ok xs) rest = rest xs
  then_by (Err f) rest = Err f

module _ {R : Type 0} where
  abbrev pub packet : ℕ → R → Packet R
  packet q r = record { seq = q; «record» = r }

  -- the whole frame of a packet of a kind
  abbrev pub written : Model R → Packet R → List ℕ
  written m p = (m.size + 3) ∷ m.number ∷ m.sub_of p.«record» ∷ p.seq ∷ m.bytes p.«record»

  -- what a whole frame is read as by a kind: the packet of these bytes, or the first fault
  abbrev pub judged_whole : Model R → List ℕ → Result (List ℕ) Fault
  judged_whole m xs =
      unless (nat_le 4 (slice_index xs 0)) NoPayload
      (unless (slice_index xs 1 == m.number) UnknownType
      (unless (slice_index xs 0 == m.size + 3) WrongLength
      (after (m.verdict (slice_index xs 2) (drop 4 xs)) xs)))

  abbrev pub judged : Model R → List ℕ → Result (List ℕ) Fault
  judged m xs = then_by (front_of xs) (judged_whole m)

  -- a reading, with the packet as its frame
  abbrev pub shown : Model R → Result (Packet R) Fault → Result (List ℕ) Fault
  shown m (Ok p) = Ok (written m p)
  shown m (Err f) = Err f

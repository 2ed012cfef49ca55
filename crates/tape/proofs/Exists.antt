-- Each tape has a reading.
use Rattle.std.proofs.Common.{ℕ, zero, suc, ◌+◌, ◌<◌, List, [], ◌∷◌, ◌++◌, length, sym, refl, subst, inl, inr, append_assoc, append-nil, arith}
use Rattle.std.proofs.Math.Nat.{eq-or-lt_of_le}
use lib.Seq.{append_snoc}
use Rattle.frame.specs.Fields.{Bytes}
use Rattle.record.proofs.One.{judged_some}
use Rattle.tape.specs.declared.signals.Signal.{Signal}
use Rattle.tape.specs.declared.signals.Signal.TheVariants.{Byte, Pause}
use Rattle.tape.specs.declared.signals.Entry.{Entry}
use Rattle.tape.specs.Reading.{Tells, cut, Reads}
use Rattle.tape.specs.Laws.{OfBytes}
use Rattle.tape.proofs.Grow.{len_byte, held, grow_more, grow_full, grow_pause, retold, reads_none}

bytes_push : (r : List ℕ) (b : ℕ) → Bytes r → b < 256 → Bytes (r ++ b ∷ [])
bytes_push [] b h l zero = l
bytes_push [] b h l (suc i) = omega arith
bytes_push (x ∷ r) b h l zero = h 0
bytes_push (x ∷ r) b h l (suc i) = bytes_push r b (λ j. h (suc j)) l i

-- the entry of a frame
pub tells_some : (p : ℕ) (f : List ℕ) → Bytes f → (e : Entry) × Tells p f e
tells_some p f b =
    let v = judged_some f b in
    (record { place = p; verdict = v.0 }, record { placed = refl; judged = v.1 })

-- a tape whose reading begins with the entries es
pub record From (es : List Entry) (t : List Signal) : Type 0 where
  pub more : List Entry
  pub front : ℕ
  pub begun : List ℕ
  pub bytes : Bytes begun
  pub reads : Reads 0 t (es ++ more) front begun

-- the reading of a tape with one more signal
next : (es : List Entry) (t : List Signal) (s : Signal) → OfBytes (s ∷ []) → From es t → From es (t ++ s ∷ [])
next es t (Byte b) o R =
    elim (eq-or-lt_of_le (held R.reads b)) [
      | inr h ↦ record { more = R.more; front = R.front; begun = R.begun ++ b ∷ []; bytes = bytes_push R.begun b R.bytes o.0; reads = grow_more R.reads b h }
      | inl h ↦
          let e = tells_some R.front (R.begun ++ b ∷ []) (bytes_push R.begun b R.bytes o.0) in
          record { more = R.more ++ e.0 ∷ []; front = R.front + suc (len_byte R.begun b); begun = []; bytes = λ i. omega arith; reads = retold (append_assoc es R.more (e.0 ∷ [])) (grow_full R.reads b h e.0 e.1) }
    ]
next es t Pause o R = record { more = R.more ++ cut R.front R.begun; front = R.front + length R.begun; begun = []; bytes = λ i. omega arith; reads = retold (append_assoc es R.more (cut R.front R.begun)) (grow_pause R.reads) }

pub goes_on : (es : List Entry) (t u : List Signal) → OfBytes u → From es t → From es (t ++ u)
goes_on es t [] o R = subst (From es) (sym (append-nil t)) R
goes_on es t (Byte b ∷ u) o R = subst (From es) (append_snoc t (Byte b) u) (goes_on es (t ++ Byte b ∷ []) u o.1 (next es t (Byte b) (o.0, tt) R))
goes_on es t (Pause ∷ u) o R = subst (From es) (append_snoc t Pause u) (goes_on es (t ++ Pause ∷ []) u o (next es t Pause tt R))

pub from_none : From [] []
from_none = record { more = []; front = 0; begun = []; bytes = λ i. omega arith; reads = reads_none }

-- The laws of the reading.
use Rattle.std.proofs.Common.{ℕ, suc, ◌+◌, ◌≤◌, List, [], ◌∷◌, ◌++◌, length, sym, ◌∙◌, subst, append-nil, arith}
use Rattle.tape.specs.declared.signals.Signal.{Signal}
use Rattle.tape.specs.declared.signals.Entry.{Entry}
use Rattle.tape.specs.Reading.{cut, Parts, Reads}
use Rattle.tape.specs.Reading.Parts.{none, remnant, frame}
use Rattle.tape.specs.Reading.Reads.{last, stretch}
use Rattle.tape.specs.Laws.{OfBytes, Reading, EachTapeHasOneReading, ALongerTapeKeepsTheEntries, Ascends, PlacesAscend}
use Rattle.tape.proofs.Grow.{parts_end, retold}
use Rattle.tape.proofs.Unique.{reads_one}
use Rattle.tape.proofs.Exists.{From, goes_on, from_none}

reading : (t : List Signal) → OfBytes t → Reading t
reading t o = let R = goes_on [] [] t o from_none in record { entries = R.more; front = R.front; begun = R.begun; reads = R.reads }

pub one_reading : EachTapeHasOneReading
one_reading = (reading, λ t es es' q q' r r' R S. reads_one R S)

-- the entries es of a tape of bytes are its own
own : (t : List Signal) (es : List Entry) (q : ℕ) (r : List ℕ) → OfBytes t → Reads 0 t es q r → From es t
own t es q r o R =
    let A = goes_on [] [] t o from_none in
    let same = reads_one A.reads R in
    record { more = []; front = A.front; begun = A.begun; bytes = A.bytes; reads = retold (same.entries ∙ sym (append-nil es)) A.reads }

pub entries_stay : ALongerTapeKeepsTheEntries
entries_stay t u es fs q q' r r' ot ou R S =
    let A = goes_on es t u ou (own t es q r ot R) in
    (A.more, (reads_one S A.reads).entries)

lower : (p p' : ℕ) (es : List Entry) (q : ℕ) → p' ≤ p → Ascends p es q → Ascends p' es q
lower p p' [] q h a = omega arith
lower p p' (e ∷ es) q h a = (omega (arith, a.0), a.1)

join : (p : ℕ) (es : List Entry) (q : ℕ) (fs : List Entry) (q' : ℕ) → Ascends p es q → Ascends q fs q' → Ascends p (es ++ fs) q'
join p [] q fs q' a b = lower q p fs q' a b
join p (e ∷ es) q fs q' a b = (a.0, join (suc e.place) es q fs q' a.1 b)

cut_ascends : (q : ℕ) (r : List ℕ) → Ascends q (cut q r) (q + length r)
cut_ascends q [] = omega arith
cut_ascends q (b ∷ r) = (omega arith, omega arith)

parts_ascend : {p : ℕ} {s : List ℕ} {es : List Entry} {q : ℕ} {r : List ℕ} → Parts p s es q r → Ascends p es q
parts_ascend none = omega arith
parts_ascend (remnant h) = omega arith
parts_ascend (frame {p = p} {L = L} bs rest {e = a} {es = es} {q = q} e eq T P) = (omega (arith, T.placed), lower (p + suc L) (suc a.place) es q (omega (arith, T.placed)) (parts_ascend P))

ascend : {p : ℕ} {t : List Signal} {es : List Entry} {q : ℕ} {r : List ℕ} → Reads p t es q r → Ascends p es q
ascend (last eq P) = parts_ascend P
ascend (stretch {p = p} {bs = bs} {es = es} {more = more} {q = q} {q' = q'} {r = r} eq P R) =
    join p es q (cut q r ++ more) q' (parts_ascend P) (join q (cut q r) (p + length bs) more q' (subst (Ascends q (cut q r)) (parts_end P) (cut_ascends q r)) (ascend R))

pub places_ascend : PlacesAscend
places_ascend t es q r R = ascend R

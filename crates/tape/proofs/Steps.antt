-- What each kind of step does to the reading.
use Rattle.std.proofs.Common.{◌≡◌, ℕ, ◌+◌, ◌<◌, ◌≤◌, false, cond, List, [], ◌∷◌, ◌++◌, map, length, get_or, take, set, Ok, Err, Some, None, Result, Option, sym, refl, ap, ◌∙◌, subst, append-nil, arith, length-append, length-take-le, get_or-take, ne_eqb}
use Rattle.std.proofs.Math.Path.{transport}
use Rattle.std.proofs.lemmas.List.{take_more_set, length_push, length-map}
use Rattle.frame.specs.declared.faults.Fault.{Fault}
use Rattle.frame.specs.declared.faults.Fault.TheVariants.{Cut}
use Rattle.frame.specs.declared.packet.Packet.{Packet}
use Rattle.record.specs.declared.records.Record.{Record}
use Rattle.record.specs.Frames.{verdict_of, told}
use Rattle.tape.specs.declared.signals.Signal.{Signal}
use Rattle.tape.specs.declared.signals.Signal.TheVariants.{Byte, Pause}
use Rattle.tape.specs.declared.signals.Entry.{Entry}
use Rattle.tape.specs.Reading.{cut, Reads}
use Rattle.tape.specs.Follow.{limit, full, gained, Held, Follows, Took}
use Rattle.tape.proofs.Grow.{len_byte, held, grow_more, grow_full, grow_pause, grow_frame, reads_none}

-- a reading, its place and its frame begun written another way
pub moved : {t : List Signal} {es : List Entry} {q q' : ℕ} {r r' : List ℕ} → q ≡ q' → r ≡ r' → Reads 0 t es q r → Reads 0 t es q' r'
moved {t} {es} e f R = transport (λ i. Reads 0 t es (e i) (f i)) R

pub follows_none : (bs : List ℕ) → Follows [] [] (record { bytes = bs; held = 0; place = 0; signals = 0 })
follows_none bs = record { reads = reads_none; count = refl }

-- a reader of the tape t is given the signal s, for which the tape has room
module _ (t : List Signal) (es : List Entry) (s : Signal) (x : Held) (n : ℕ) (F : Follows t es x) (counts : n ≡ x.signals + 1) (room : n ≤ limit) (fits : x.held < length x.bytes) where
  -- it answers o and holds y, as the reading with s says
  took : (o : Option Entry) (y : Held) {v : Signal} {fs : List Entry} {q : ℕ} {f : List ℕ} → y.signals ≡ n → s ≡ v → Reads 0 (t ++ v ∷ []) fs q f → fs ≡ es ++ gained (Ok o) → q ≡ y.place → f ≡ take y.held y.bytes → Took t es s (Ok o) y
  took o y ys e R gains at begun =
      let free : full t ≡ false = ne_eqb (length t) limit (λ z. omega (arith, F.count)) in
      let reads = transport (λ i. Reads 0 (t ++ sym e i ∷ []) (gains i) (at i) (begun i)) R in
      record {
        refuses = sym free;
        follows = subst (λ v. Follows (cond v t (t ++ s ∷ [])) (es ++ gained (Ok o)) y) (sym free) (record { reads = reads; count = omega (arith, length_push t s, F.count) });
      }

  held_is : length (take x.held x.bytes) ≡ x.held
  held_is = length-take-le x.held x.bytes (omega arith)

  -- the frame begun with one more byte
  with : (b : ℕ) → take x.held x.bytes ++ b ∷ [] ≡ take (x.held + 1) (set x.bytes x.held b)
  with b = sym (take_more_set x.bytes x.held b fits)

  len_is : (b : ℕ) → len_byte (take x.held x.bytes) b ≡ get_or (set x.bytes x.held b) 0 0
  len_is b = ap (λ l. get_or l 0 0) (with b) ∙ get_or-take (x.held + 1) (set x.bytes x.held b) 0 0 (omega arith)

  pub took_more : (b : ℕ) → s ≡ Byte b → x.held < get_or (set x.bytes x.held b) 0 0 → Took t es s (Ok None) (record { bytes = set x.bytes x.held b; held = x.held + 1; place = x.place; signals = n })
  took_more b e less = took None _ refl e (grow_more F.reads b (omega (arith, held_is, len_is b))) (sym (append-nil es)) refl (with b)

  -- a step that ends a frame or a remnant: what it answers and holds is e and z
  ended : {a e : Entry} {y z : Held} → a ≡ e → y ≡ z → Took t es s (Ok (Some e)) z → Took t es s (Ok (Some a)) y
  ended f g T = transport (λ i. Took t es s (Ok (Some (sym f i))) (sym g i)) T

  pub took_full : (b : ℕ) (v : Result (Packet Record) Fault) {a : Entry} {y : Held} → s ≡ Byte b → get_or (set x.bytes x.held b) 0 0 ≤ x.held → told v ≡ verdict_of (take (x.held + 1) (set x.bytes x.held b)) → a ≡ record { place = x.place; verdict = v } → y ≡ record { bytes = set x.bytes x.held b; held = 0; place = x.place + (x.held + 1); signals = n } → Took t es s (Ok (Some a)) y
  took_full b v e ends to f g =
      let whole : length (take x.held x.bytes) ≡ len_byte (take x.held x.bytes) b = omega (arith, held_is, len_is b, held F.reads b) in
      ended f g (took (Some _) _ refl e (grow_full F.reads b whole _ (record { placed = refl; judged = to ∙ ap verdict_of (sym (with b)) })) refl (omega (arith, held_is, whole)) refl)

  pub took_quiet : s ≡ Pause → x.held ≡ 0 → Took t es s (Ok None) (record { bytes = x.bytes; held = x.held; place = x.place; signals = n })
  took_quiet e h =
      let nil : [] ≡ take x.held x.bytes = ap (λ k. take k x.bytes) (sym h) in
      took None _ refl e (grow_pause F.reads) (ap (λ l. es ++ cut x.place l) (sym nil)) (omega (arith, held_is)) nil

  cut_some : (q : ℕ) (l : List ℕ) → 0 < length l → cut q l ≡ record { place = q; verdict = Err (Cut (length l)) } ∷ []
  cut_some q [] h = absurd (omega arith)
  cut_some q (b ∷ l) h = refl

  pub took_cut : {a : Entry} {y : Held} → s ≡ Pause → 0 < x.held → a ≡ record { place = x.place; verdict = Err (Cut x.held) } → y ≡ record { bytes = x.bytes; held = 0; place = x.place + x.held; signals = n } → Took t es s (Ok (Some a)) y
  took_cut e some f g =
      let one = cut_some x.place (take x.held x.bytes) (omega (arith, held_is)) in
      ended f g (took (Some _) _ refl e (grow_pause F.reads) (ap (λ l. es ++ l) (one ∙ ap (λ k. record { place = x.place; verdict = Err (Cut k) } ∷ []) held_is)) (ap (λ k. x.place + k) held_is) refl)

-- a whole frame at once
pub took_frame : (t : List Signal) (es : List Entry) (f : List ℕ) (a : Entry) (x y : Held) → Follows t es x → x.held ≡ 0 → length f ≡ get_or f 0 0 + 1 → a.place ≡ x.place → told a.verdict ≡ verdict_of f → y.held ≡ 0 → y.place ≡ x.place + length f → y.signals ≡ x.signals + length f → Follows (t ++ map Byte f) (es ++ a ∷ []) y
took_frame t es f a x y F none w pl to yh yp ys =
    let R = grow_frame (moved refl (ap (λ n. take n x.bytes) none) F.reads) f w a (record { placed = pl; judged = to }) in
    record {
      reads = moved (sym yp) (ap (λ n. take n y.bytes) (sym yh)) R;
      count = length-append t (map Byte f) ∙ omega (arith, F.count, length-map f Byte);
    }

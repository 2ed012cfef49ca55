-- How a reading grows with the tape: one lemma for each thing that a signal does.
use Rattle.std.proofs.Common.{◌≡◌, ℕ, zero, suc, ◌+◌, ◌<◌, ◌≤◌, List, [], ◌∷◌, ◌++◌, map, length, get_or, take, sym, refl, ap, ◌∙◌, subst, append_assoc, append-nil, arith, length-append, length-take-le, take_all, get_or-take, take-suc}
use Rattle.std.proofs.Math.Path.{transport}
use Rattle.std.proofs.lemmas.List.{map-append}
use Rattle.tape.specs.declared.signals.Signal.{Signal}
use Rattle.tape.specs.declared.signals.Signal.TheVariants.{Byte, Pause}
use Rattle.tape.specs.declared.signals.Entry.{Entry}
use Rattle.tape.specs.Reading.{Tells, cut, Parts, Reads}
use Rattle.tape.specs.Reading.Parts.{none, remnant, frame}
use Rattle.tape.specs.Reading.Reads.{last, stretch}

-- the length byte of the bytes r with b behind them
abbrev pub len_byte : List ℕ → ℕ → ℕ
len_byte r b = get_or (r ++ b ∷ []) 0 0

-- what remains never fills a frame
parts_held : {p : ℕ} {s : List ℕ} {es : List Entry} {q : ℕ} {r : List ℕ} → Parts p s es q r → (b : ℕ) → length r ≤ len_byte r b
parts_held none b = omega arith
parts_held (remnant h) b = h
parts_held (frame bs rest e eq T P) b = parts_held P b

pub parts_end : {p : ℕ} {s : List ℕ} {es : List Entry} {q : ℕ} {r : List ℕ} → Parts p s es q r → q + length r ≡ p + length s
parts_end none = refl
parts_end (remnant h) = refl
parts_end (frame bs rest e eq T P) = omega (arith, parts_end P, ap length eq, length-append bs rest)

parts_more : {p : ℕ} {s : List ℕ} {es : List Entry} {q : ℕ} {r : List ℕ} → Parts p s es q r → (b : ℕ) → length r < len_byte r b → Parts p (s ++ b ∷ []) es q (r ++ b ∷ [])
parts_more none b h = remnant h
parts_more (remnant {L = L} {bs = bs} g) b h = remnant (omega (arith, length-append bs (b ∷ [])))
parts_more (frame {L = L} bs rest e eq T P) b h =
    frame bs (rest ++ b ∷ []) e (ap (λ x. x ++ b ∷ []) eq ∙ append_assoc (L ∷ bs) rest (b ∷ [])) T (parts_more P b h)

parts_full : {p : ℕ} {s : List ℕ} {es : List Entry} {q : ℕ} {r : List ℕ} → Parts p s es q r → (b : ℕ) → length r ≡ len_byte r b → (a : Entry) → Tells q (r ++ b ∷ []) a → Parts p (s ++ b ∷ []) (es ++ a ∷ []) (q + suc (len_byte r b)) []
parts_full none b h a A = frame [] [] h refl A none
parts_full (remnant {L = L} {bs = bs} g) b h a A = frame (bs ++ b ∷ []) [] (omega (arith, length-append bs (b ∷ []))) (sym (append-nil _)) A none
parts_full (frame {L = L} bs rest e eq T P) b h a A =
    frame bs (rest ++ b ∷ []) e (ap (λ x. x ++ b ∷ []) eq ∙ append_assoc (L ∷ bs) rest (b ∷ [])) T (parts_full P b h a A)

pub held : {p : ℕ} {t : List Signal} {es : List Entry} {q : ℕ} {r : List ℕ} → Reads p t es q r → (b : ℕ) → length r ≤ len_byte r b
held (last eq P) b = parts_held P b
held (stretch eq P R) b = held R b

-- one more byte of the frame begun
pub grow_more : {p : ℕ} {t : List Signal} {es : List Entry} {q : ℕ} {r : List ℕ} → Reads p t es q r → (b : ℕ) → length r < len_byte r b → Reads p (t ++ Byte b ∷ []) es q (r ++ b ∷ [])
grow_more (last {bs = bs} eq P) b h = last (ap (λ x. x ++ Byte b ∷ []) eq ∙ sym (map-append Byte bs (b ∷ []))) (parts_more P b h)
grow_more (stretch {bs = bs} {after = after} eq P R) b h =
    stretch (ap (λ x. x ++ Byte b ∷ []) eq ∙ append_assoc (map Byte bs) (Pause ∷ after) (Byte b ∷ [])) P (grow_more R b h)

regroup : (a b c d : List Entry) → a ++ (b ++ (c ++ d)) ≡ (a ++ (b ++ c)) ++ d
regroup a b c d = simp append_assoc

-- the same reading, its entries written another way
pub retold : {p : ℕ} {t : List Signal} {es es' : List Entry} {q : ℕ} {r : List ℕ} → es ≡ es' → Reads p t es q r → Reads p t es' q r
retold {p} {t} {q = q} {r = r} e R = subst (λ l. Reads p t l q r) e R

-- the last byte of a frame
pub grow_full : {p : ℕ} {t : List Signal} {es : List Entry} {q : ℕ} {r : List ℕ} → Reads p t es q r → (b : ℕ) → length r ≡ len_byte r b → (a : Entry) → Tells q (r ++ b ∷ []) a → Reads p (t ++ Byte b ∷ []) (es ++ a ∷ []) (q + suc (len_byte r b)) []
grow_full (last {bs = bs} eq P) b h a A = last (ap (λ x. x ++ Byte b ∷ []) eq ∙ sym (map-append Byte bs (b ∷ []))) (parts_full P b h a A)
grow_full {p} {t} (stretch {bs = bs} {after = after} {es = es} {more = more} {q = q} {r = r} eq P R) b h a A =
    retold (regroup es (cut q r) more (a ∷ []))
    (stretch (ap (λ x. x ++ Byte b ∷ []) eq ∙ append_assoc (map Byte bs) (Pause ∷ after) (Byte b ∷ [])) P (grow_full R b h a A))

-- a pause
pub grow_pause : {p : ℕ} {t : List Signal} {es : List Entry} {q : ℕ} {r : List ℕ} → Reads p t es q r → Reads p (t ++ Pause ∷ []) (es ++ cut q r) (q + length r) []
grow_pause {p} {t} {es} {q} {r} (last {bs = bs} eq P) =
    retold (ap (λ l. es ++ l) (append-nil (cut q r)))
    (subst (λ n. Reads p (t ++ Pause ∷ []) (es ++ (cut q r ++ [])) n []) (sym (parts_end P))
    (stretch (ap (λ x. x ++ Pause ∷ []) eq) P (last {bs = []} refl none)))
grow_pause {p} {t} (stretch {bs = bs} {after = after} {es = es} {more = more} {q = q} {r = r} eq P R) =
    retold (regroup es (cut q r) more _)
    (stretch (ap (λ x. x ++ Pause ∷ []) eq ∙ append_assoc (map Byte bs) (Pause ∷ after) (Pause ∷ [])) P (grow_pause R))

-- the tape that has no signal
pub reads_none : Reads 0 [] [] 0 []
reads_none = last {bs = []} refl none

-- the first bytes of a frame
pub grow_front : {t : List Signal} {es : List Entry} {q : ℕ} → Reads 0 t es q [] → (f : List ℕ) (j : ℕ) → j ≤ length f → j ≤ get_or f 0 0 → Reads 0 (t ++ map Byte (take j f)) es q (take j f)
grow_front {t} {es} {q} R f zero h g = subst (λ l. Reads 0 l es q []) (sym (append-nil t)) R
grow_front {t} {es} {q} R f (suc j) h g =
    let b = get_or f j 0 in
    let more : take j f ++ b ∷ [] ≡ take (suc j) f = sym (take-suc f j 0 h) in
    let len : len_byte (take j f) b ≡ get_or f 0 0 = ap (λ r. get_or r 0 0) more ∙ get_or-take (suc j) f 0 0 (omega arith) in
    let size : length (take j f) ≡ j = length-take-le j f (omega arith) in
    let S = grow_more (grow_front R f j (omega arith) (omega arith)) b (omega (arith, len, size)) in
    let tape : (t ++ map Byte (take j f)) ++ Byte b ∷ [] ≡ t ++ map Byte (take (suc j) f) = append_assoc t (map Byte (take j f)) (Byte b ∷ []) ∙ ap (λ l. t ++ l) (sym (map-append Byte (take j f) (b ∷ [])) ∙ ap (map Byte) more) in
    transport (λ i. Reads 0 (tape i) es q (more i)) S

-- a whole frame
pub grow_frame : {t : List Signal} {es : List Entry} {q : ℕ} → Reads 0 t es q [] → (f : List ℕ) → length f ≡ get_or f 0 0 + 1 → (a : Entry) → Tells q f a → Reads 0 (t ++ map Byte f) (es ++ a ∷ []) (q + length f) []
grow_frame {t} {es} {q} R f w a A =
    let j = get_or f 0 0 in
    let b = get_or f j 0 in
    let more : take j f ++ b ∷ [] ≡ f = sym (take-suc f j 0 (omega arith)) ∙ take_all (suc j) f (omega arith) in
    let len : len_byte (take j f) b ≡ j = ap (λ r. get_or r 0 0) more in
    let size : length (take j f) ≡ j = length-take-le j f (omega arith) in
    let S = grow_full (grow_front R f j (omega arith) (omega arith)) b (omega (arith, len, size)) a (subst (λ l. Tells q l a) (sym more) A) in
    let tape : (t ++ map Byte (take j f)) ++ Byte b ∷ [] ≡ t ++ map Byte f = append_assoc t (map Byte (take j f)) (Byte b ∷ []) ∙ ap (λ l. t ++ l) (sym (map-append Byte (take j f) (b ∷ [])) ∙ ap (map Byte) more) in
    let place : q + suc (len_byte (take j f) b) ≡ q + length f = omega (arith, len, w) in
    transport (λ i. Reads 0 (tape i) (es ++ a ∷ []) (place i) []) S

-- No tape has two readings.
use Rattle.std.proofs.Common.{◌≡◌, ℕ, suc, ◌+◌, List, [], ◌∷◌, ◌++◌, map, length, sym, refl, ap, ◌∙◌, subst, arith, length-append}
use Rattle.std.proofs.Math.Path.{transport}
use Rattle.tape.specs.declared.signals.Signal.{Signal}
use Rattle.tape.specs.declared.signals.Signal.TheVariants.{Byte, Pause}
use Rattle.tape.specs.declared.signals.Entry.{Entry}
use Rattle.record.proofs.One.{told_one}
use Rattle.tape.specs.Reading.{Tells, Parts, Reads}
use Rattle.tape.specs.Reading.Parts.{none, remnant, frame}
use Rattle.tape.specs.Reading.Reads.{last, stretch}
use Rattle.tape.specs.Laws.{Same}
use Rattle.tape.proofs.Lists.{nil_cons, same_cut}

-- a frame has one entry
tells_one : (p : ℕ) (f : List ℕ) (a b : Entry) → Tells p f a → Tells p f b → a ≡ b
tells_one p f a b A B =
    let e = A.placed ∙ sym B.placed in
    let v = told_one a.verdict b.verdict (A.judged ∙ sym B.judged) in
    λ i. record { place = e i; verdict = v i }

pub parts_one : {p : ℕ} {s : List ℕ} {es es' : List Entry} {q q' : ℕ} {r r' : List ℕ} → Parts p s es q r → Parts p s es' q' r' → Same es es' q q' r r'
parts_one none none = record { entries = refl; front = refl; begun = refl }
parts_one none (frame bs rest e eq T P) = absurd (nil_cons _ _ eq)
parts_one (remnant g) (remnant h) = record { entries = refl; front = refl; begun = refl }
parts_one (remnant {L = L} {bs = cs} g) (frame {L = M} bs rest e eq T P) =
    let h : L ≡ M = cc in absurd (omega (arith, ap length eq, length-append bs rest))
parts_one (frame bs rest e eq T P) none = absurd (nil_cons _ _ eq)
parts_one (frame {L = M} bs rest e eq T P) (remnant {L = L} {bs = cs} g) =
    let h : L ≡ M = cc in absurd (omega (arith, ap length eq, length-append bs rest))
parts_one (frame {p = p} {L = L} bs rest {e = a} {es = es} {q = q} {r = r} e eq T P) (frame {L = M} cs left {e = a'} {es = fs} {q = q'} {r = r'} f fq U Q) =
    let both = sym eq ∙ fq in
    let h : L ≡ M = cc in
    let t : bs ++ rest ≡ cs ++ left = cc in
    let k = same_cut bs cs rest left (omega arith) t in
    let k0 = sym k.0 in
    let k1 = sym k.1 in
    let m = sym h in
    let same = tells_one p (L ∷ bs) a a' T (transport (λ i. Tells p (m i ∷ k0 i) a') U) in
    let ih = parts_one P (transport (λ i. Parts (p + suc (m i)) (k1 i) fs q' r') Q) in
    let ihe = ih.entries in
    record { entries = cc; front = ih.front; begun = ih.begun }

bytes_inj : (bs cs : List ℕ) → map Byte bs ≡ map Byte cs → bs ≡ cs
bytes_inj [] [] e = refl
bytes_inj [] (c ∷ cs) e = absurd (nil_cons _ _ e)
bytes_inj (b ∷ bs) [] e = absurd (nil_cons _ _ (sym e))
bytes_inj (b ∷ bs) (c ∷ cs) e =
    let t : map Byte bs ≡ map Byte cs = cc in
    let ih = bytes_inj bs cs t in
    cc

no_pause : (bs cs : List ℕ) (a : List Signal) → map Byte bs ≡ map Byte cs ++ Pause ∷ a → ⊥
no_pause [] [] a e = nil_cons _ _ e
no_pause [] (c ∷ cs) a e = nil_cons _ _ e
no_pause (b ∷ bs) [] a e = let z : ◌≡◌ {A = ℕ} 0 1 = cc in omega arith
no_pause (b ∷ bs) (c ∷ cs) a e = no_pause bs cs a (cc)

first_pause : (bs cs : List ℕ) (a a' : List Signal) → map Byte bs ++ Pause ∷ a ≡ map Byte cs ++ Pause ∷ a' → (bs ≡ cs) × (a ≡ a')
first_pause [] [] a a' e = (refl, cc)
first_pause [] (c ∷ cs) a a' e = let z : ◌≡◌ {A = ℕ} 0 1 = cc in absurd (omega arith)
first_pause (b ∷ bs) [] a a' e = let z : ◌≡◌ {A = ℕ} 0 1 = cc in absurd (omega arith)
first_pause (b ∷ bs) (c ∷ cs) a a' e =
    let t : map Byte bs ++ Pause ∷ a ≡ map Byte cs ++ Pause ∷ a' = cc in
    let ih = first_pause bs cs a a' t in
    let i0 = ih.0 in
    (cc, ih.1)

pub reads_one : {p : ℕ} {t : List Signal} {es es' : List Entry} {q q' : ℕ} {r r' : List ℕ} → Reads p t es q r → Reads p t es' q' r' → Same es es' q q' r r'
reads_one {p} (last {bs = bs} eq P) (last {bs = cs} {es = fs} {q = q'} {r = r'} fq Q) =
    parts_one P (subst (λ l. Parts p l fs q' r') (sym (bytes_inj bs cs (sym eq ∙ fq))) Q)
reads_one (last {bs = bs} eq P) (stretch {bs = cs} {after = a} fq Q S) = absurd (no_pause bs cs a (sym eq ∙ fq))
reads_one (stretch {bs = bs} {after = a} eq P R) (last {bs = cs} fq Q) = absurd (no_pause cs bs a (sym fq ∙ eq))
reads_one {p} (stretch {bs = bs} {after = a} eq P R) (stretch {bs = cs} {after = b} {es = fs} {more = ms} {q = q} {q' = q'} {r = r} {r' = r'} fq Q S) =
    let k = first_pause bs cs a b (sym eq ∙ fq) in
    let k0 = sym k.0 in
    let k1 = sym k.1 in
    let i = parts_one P (transport (λ i. Parts p (k0 i) fs q r) Q) in
    let j = reads_one R (transport (λ i. Reads (p + length (k0 i)) (k1 i) ms q' r') S) in
    let i0 = i.entries in
    let i1 = i.front in
    let i2 = i.begun in
    let j0 = j.entries in
    record { entries = cc; front = j.front; begun = j.begun }

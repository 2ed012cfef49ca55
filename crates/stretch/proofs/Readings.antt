-- The reading of a stretch, part by part.
use Rattle.std.proofs.Common.{◌≡◌, ℕ, suc, ◌+◌, ◌<◌, ◌≤◌, List, [], ◌∷◌, ◌++◌, length, get_or, sym, refl, ap, ◌∙◌, subst, arith, length-append}
use Rattle.std.proofs.Math.Path.{transport}
use Rattle.tape.specs.declared.signals.Entry.{Entry}
use Rattle.tape.specs.Reading.{Tells, Parts}
use Rattle.tape.proofs.Lists.{nil_cons, same_cut}
use Rattle.stretch.specs.Handed.{Left}
use Rattle.stretch.proofs.Calls.{Front}

-- the same reading, its numbers and lists written another way
pub rewritten : {p p' : ℕ} {s s' : List ℕ} {es : List Entry} {q q' : ℕ} {r r' : List ℕ} → p ≡ p' → s ≡ s' → q ≡ q' → r ≡ r' → Parts p s es q r → Parts p' s' es q' r'
rewritten {es = es} a b c d P = transport (λ i. Parts (a i) (b i) es (c i) (d i)) P

-- a frame before a reading
pub put_before : {x y : Left} (f : List ℕ) {e : Entry} {es : List Entry} {q : ℕ} {r : List ℕ} → Front x f y → Tells x.place f e → Parts y.place y.rest es q r → Parts x.place x.rest (e ∷ es) q r
put_before [] F T P = absurd (omega (arith, F.sized))
put_before {x} {y} (L ∷ bs) F T P =
    let n : length bs ≡ L = omega (arith, F.sized) in
    let past : y.place ≡ x.place + suc L = omega (arith, F.past) in
    Parts.frame bs y.rest n F.cut T (rewritten past refl refl refl P)

-- too few bytes
pub short : (p : ℕ) (s : List ℕ) → 0 < length s → length s ≤ get_or s 0 0 → Parts p s [] p s
short p [] some few = absurd (omega arith)
short p (L ∷ bs) some few = Parts.remnant (omega arith)

pub nothing : (p : ℕ) (s : List ℕ) → s ≡ [] → Parts p s [] p []
nothing p s e = rewritten refl (sym e) refl refl Parts.none

-- a reading that begins with the frame f at the place p, and the bytes behind it
pub record Behind (p : ℕ) (f rest : List ℕ) (es : List Entry) (q : ℕ) (r : List ℕ) : Type 0 where
  pub entry : Entry
  pub others : List Entry
  pub both : es ≡ entry ∷ others
  pub tells : Tells p f entry
  pub parts : Parts (p + length f) rest others q r

pub behind : {p : ℕ} {s : List ℕ} {es : List Entry} {q : ℕ} {r : List ℕ} → Parts p s es q r → (f rest : List ℕ) → length f ≡ get_or f 0 0 + 1 → s ≡ f ++ rest → Behind p f rest es q r
behind P [] rest n e = absurd (omega arith)
behind Parts.none (L ∷ bs) rest n e = absurd (nil_cons L (bs ++ rest) e)
behind (Parts.remnant {L = M} {bs = cs} h) (L ∷ bs) rest n e =
    let k : L ≡ M = cc in absurd (omega (arith, ap length e, length-append bs rest))
behind (Parts.frame {p = p} {L = M} cs after {e = a} {es = es} {q = q} {r = r} m eq T P) (L ∷ bs) rest n e =
    let both = sym eq ∙ e in
    let k : M ≡ L = cc in
    let t : cs ++ after ≡ bs ++ rest = cc in
    let c = same_cut cs bs after rest (omega arith) t in
    let c0 = c.0 in
    let past : p + suc M ≡ p + length (L ∷ bs) = omega arith in
    record { entry = a; others = es; both = refl; tells = subst (λ l. Tells p l a) (λ i. k i ∷ c0 i) T; parts = rewritten past c.1 refl refl P }

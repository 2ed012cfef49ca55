-- The laws of tokens.
use Rattle.std.proofs.Common.{◌≡◌, ℕ, zero, suc, ◌+◌, ◌<◌, ◌≤◌, List, [], ◌∷◌, ◌++◌, length, take, drop, sym, refl, ap, ◌∙◌, subst, append-nil, arith, length-append, length-drop, take-append-drop, length-take-le}
use mathlib.Core.List.{append_cancel_left}
use native.Mathlib.Decide.{dec_lt}
use Rattle.std.proofs.lemmas.Bool.Decides.{nat_tests}
use Rattle.tape.specs.declared.signals.Entry.{Entry}
use Rattle.tape.specs.Reading.{Tells, Parts}
use Rattle.tape.proofs.Lists.{nil_cons}
use Rattle.tape.proofs.Unique.{parts_one}
use Rattle.stretch.specs.Tokens.{Part, frame, empty, remnant, place_of, bytes_of, bytes, whole}
use Rattle.stretch.specs.Handed.{Left, standing, Handed, Handing}
use Rattle.stretch.specs.Handed.Handing.{done, more}
use Rattle.stretch.specs.Laws.{Placed, Parted, Told, remains, EachStretchHasOneListOfTokens, TokensAreTheStretch, TokensAreFramesAndARemnant, TokensTellTheReading}
use Rattle.stretch.specs.Laws.Told.{none, by_frame, by_empty, by_remnant}
use Rattle.stretch.proofs.Calls.{Front, Gives, of_frame, of_empty, of_remnant, gives, gives_none, shrinks}
use Rattle.stretch.proofs.Readings.{rewritten, put_before, short, nothing, behind}

hands_remnant : (p L : ℕ) (bs : List ℕ) → length bs < L → Handed (standing p (L ∷ bs)) (remnant p (L ∷ bs) ∷ []) (standing (p + length (L ∷ bs)) [])
hands_remnant p L bs h = record { gives = grind (arith, nat_tests); splits = sym (append-nil _ ∙ append-nil _); moves = ap (λ l. p + length l) (sym (append-nil (L ∷ bs))) }

whole_bytes : (L p : ℕ) (f : List ℕ) → bytes_of (whole L p f) ≡ f
whole_bytes L p f = grind (arith, nat_tests)

hands_frame : (p L : ℕ) (bs : List ℕ) → L ≤ length bs → Handed (standing p (L ∷ bs)) (whole L p (L ∷ take L bs) ∷ []) (standing (p + suc L) (drop L bs))
hands_frame p L bs h =
    let one : L + 1 ≡ suc L = omega arith in
    let front : take (L + 1) (L ∷ bs) ≡ L ∷ take L bs = ap (λ n. take n (L ∷ bs)) one in
    let own = append-nil (bytes_of (whole L p (L ∷ take L bs))) ∙ whole_bytes L p (L ∷ take L bs) in
    record {
      gives = grind (arith, nat_tests);
      splits = ap (λ l. L ∷ l) (sym (take-append-drop L bs)) ∙ ap (λ l. l ++ drop L bs) (sym own);
      moves = omega (arith, length-take-le L bs h, ap length own);
    }

-- n bounds the length
tokens_below : (n p : ℕ) (s : List ℕ) → length s ≤ n → (ts : List Part) × Handing (standing p s) ts
tokens_below n p [] h = ([], done {y = standing p []} (record { gives = refl; splits = refl; moves = omega arith }))
tokens_below zero p (L ∷ bs) h = absurd (omega arith)
tokens_below (suc n) p (L ∷ bs) h =
    elim (dec_lt (length bs) L) [
      | yes few ↦
          let N = tokens_below n (p + length (L ∷ bs)) [] (omega arith) in
          (remnant p (L ∷ bs) ∷ N.0, more (hands_remnant p L bs few) N.1)
      | no all ↦
          let N = tokens_below n (p + suc L) (drop L bs) (omega (arith, length-drop L bs)) in
          (whole L p (L ∷ take L bs) ∷ N.0, more (hands_frame p L bs (omega arith)) N.1)
    ]

tokens_one : {x : Left} {ts us : List Part} → Handing x ts → Handing x us → ts ≡ us
tokens_one (done H) (done G) = refl
tokens_one (done H) (more G M) = absurd (nil_cons _ [] (H.gives ∙ sym G.gives))
tokens_one (more H N) (done G) = absurd (nil_cons _ [] (G.gives ∙ sym H.gives))
tokens_one (more {x = x} {y = y} {t = t} {ts = ts} H N) (more {y = z} {t = u} {ts = us} G M) =
    let both = H.gives ∙ sym G.gives in
    let is : t ≡ u = cc in
    let rest = append_cancel_left (bytes (t ∷ [])) y.rest z.rest (sym H.splits ∙ G.splits ∙ ap (λ v. bytes (v ∷ []) ++ z.rest) (sym is)) in
    let place = H.moves ∙ ap (λ v. x.place + length (bytes (v ∷ []))) is ∙ sym G.moves in
    let same : y ≡ z = λ i. standing (place i) (rest i) in
    let ih = tokens_one N (subst (λ v. Handing v us) (sym same) M) in
    cc

pub one_list : EachStretchHasOneListOfTokens
one_list = (λ x. tokens_below (length x.rest) x.place x.rest (omega arith), λ x ts us N M. tokens_one N M)

all_bytes : {x : Left} {ts : List Part} → Handing x ts → bytes ts ≡ x.rest
all_bytes (done {x = x} H) = sym (gives_none x.place x.rest H.gives)
all_bytes (more {x = x} {y = y} {t = t} H N) =
    ap (λ l. bytes_of t ++ l) (all_bytes N) ∙ ap (λ l. l ++ y.rest) (sym (append-nil (bytes_of t))) ∙ sym H.splits

own_place : {x y : Left} {t : Part} → Gives x t y → place_of t ≡ x.place
own_place (of_frame F h) = refl
own_place (of_empty F h) = refl
own_place (of_remnant some few e) = refl

all_places : {x : Left} {ts : List Part} → Handing x ts → Placed x.place ts
all_places (done H) = tt
all_places (more {x = x} {t = t} {ts = ts} H N) =
    (own_place (gives H), subst (λ n. Placed n ts) (H.moves ∙ ap (λ l. x.place + length l) (append-nil (bytes_of t))) (all_places N))

pub are_the_stretch : TokensAreTheStretch
are_the_stretch x ts N = (all_bytes N, all_places N)

no_more : {y : Left} {ts : List Part} → Handing y ts → y.rest ≡ [] → ts ≡ []
no_more (done H) e = refl
no_more (more H N) e = absurd (omega (arith, shrinks H, ap length e))

parted_more : {x y : Left} {t : Part} {ts : List Part} → Gives x t y → Handing y ts → Parted ts → Parted (t ∷ ts)
parted_more (of_frame F h) N P = (F.sized, h, P)
parted_more (of_empty F h) N P = (F.sized, h, P)
parted_more (of_remnant some few e) N P = (some, few, no_more N e)

parted : {x : Left} {ts : List Part} → Handing x ts → Parted ts
parted (done H) = tt
parted (more H N) = parted_more (gives H) N (parted N)

pub are_parted : TokensAreFramesAndARemnant
are_parted x ts N = parted N

-- behind a front, the end stays
same_end : {x y : Left} (f : List ℕ) → Front x f y → (ts : List Part) → remains (x.place + length x.rest) ts ≡ remains (y.place + length y.rest) ts
same_end {x} {y} f F ts =
    let e : x.place + length x.rest ≡ y.place + length y.rest = omega (arith, F.past, ap length F.cut, length-append f y.rest) in
    ap (λ n. remains n ts) e

-- what the tokens ts of x tell
abbrev Tell : Left → List Part → List Entry → ℕ → List ℕ → Type 0
Tell x ts es q r = Told ts es × (remains (x.place + length x.rest) ts ≡ standing q r)

told_none : {ts : List Part} {es : List Entry} → ts ≡ [] → Told ts es → es ≡ []
told_none e none = refl
told_none e (by_frame T N) = absurd (nil_cons _ _ (sym e))
told_none e (by_empty T N) = absurd (nil_cons _ _ (sym e))
told_none e (by_remnant N) = absurd (nil_cons _ _ (sym e))

-- a whole frame, as a token of either sort, before what the tokens behind it tell
tell_front : {x y : Left} {f : List ℕ} {ts : List Part} (t : Part) → Front x f y → ((e : Entry) (es : List Entry) → Tells x.place f e → Told ts es → Told (t ∷ ts) (e ∷ es)) → ((es : List Entry) (q : ℕ) (r : List ℕ) → Parts y.place y.rest es q r → Tell y ts es q r) → (es : List Entry) (q : ℕ) (r : List ℕ) → Parts x.place x.rest es q r → Told (t ∷ ts) es × (remains (x.place + length x.rest) ts ≡ standing q r)
tell_front {x} {y} {f} {ts} t F by ih es q r P =
    let B = behind P f y.rest F.sized F.cut in
    let k = ih B.others q r (rewritten (sym F.past) refl refl refl B.parts) in
    (subst (Told (t ∷ ts)) (sym B.both) (by B.entry B.others B.tells k.0), same_end f F ts ∙ k.1)

tell_more : {x y : Left} {t : Part} {ts : List Part} → Gives x t y → Handing y ts → ((es : List Entry) (q : ℕ) (r : List ℕ) → Parts y.place y.rest es q r → Tell y ts es q r) → (es : List Entry) (q : ℕ) (r : List ℕ) → Parts x.place x.rest es q r → Tell x (t ∷ ts) es q r
tell_more {x} (of_frame {f = f} F h) N ih es q r P = tell_front (frame x.place f) F (λ e us T U. by_frame T U) ih es q r P
tell_more {x} (of_empty {f = f} F h) N ih es q r P = tell_front (empty x.place f) F (λ e us T U. by_empty T U) ih es q r P
tell_more {x} {ts = ts} (of_remnant some few e) N ih es q r P =
    let k = parts_one P (short x.place x.rest some few) in
    let last : Told ts [] = subst (λ l. Told l []) (sym (no_more N e)) none in
    (subst (Told (remnant x.place x.rest ∷ ts)) (sym k.entries) (by_remnant last), λ i. standing (sym k.front i) (sym k.begun i))

-- the reading is what the tokens tell
tell : {x : Left} {ts : List Part} → Handing x ts → (es : List Entry) (q : ℕ) (r : List ℕ) → Parts x.place x.rest es q r → Tell x ts es q r
tell (done {x = x} H) es q r P =
    let e = gives_none x.place x.rest H.gives in
    let k = parts_one P (nothing x.place x.rest e) in
    let end : x.place + length x.rest ≡ q = omega (arith, ap length e, k.front) in
    (subst (Told []) (sym k.entries) none, λ i. standing (end i) (sym k.begun i))
tell (more H N) es q r P = tell_more (gives H) N (tell N) es q r P

read_more : {x y : Left} {t : Part} {ts : List Part} → Gives x t y → Handing y ts → ((es : List Entry) (q : ℕ) (r : List ℕ) → Tell y ts es q r → Parts y.place y.rest es q r) → {es : List Entry} (q : ℕ) (r : List ℕ) → Told (t ∷ ts) es → remains (x.place + length x.rest) (t ∷ ts) ≡ standing q r → Parts x.place x.rest es q r
read_more {ts = ts} (of_frame {f = f} F h) N ih q r (by_frame {es = es} A T) m = put_before f F A (ih es q r (T, sym (same_end f F ts) ∙ m))
read_more {ts = ts} (of_empty {f = f} F h) N ih q r (by_empty {es = es} A T) m = put_before f F A (ih es q r (T, sym (same_end f F ts) ∙ m))
read_more {x} (of_remnant some few e) N ih q r (by_remnant T) m =
    let P = rewritten refl refl (ap (λ l. l.place) m) (ap (λ l. l.rest) m) (short x.place x.rest some few) in
    subst (λ l. Parts x.place x.rest l q r) (sym (told_none (no_more N e) T)) P

-- what the tokens tell is the reading
read : {x : Left} {ts : List Part} → Handing x ts → (es : List Entry) (q : ℕ) (r : List ℕ) → Tell x ts es q r → Parts x.place x.rest es q r
read (done {x = x} H) es q r T =
    let e = gives_none x.place x.rest H.gives in
    let m = T.1 in
    let end : x.place ≡ q = omega (arith, ap length e, ap (λ l. l.place) m) in
    subst (λ l. Parts x.place x.rest l q r) (sym (told_none refl T.0)) (rewritten refl refl end (ap (λ l. l.rest) m) (nothing x.place x.rest e))
read (more H N) es q r T = read_more (gives H) N (read N) q r T.0 T.1

pub tell_the_reading : TokensTellTheReading
tell_the_reading p s ts es q r N = (tell N es q r, λ T m. read N es q r (T, m))

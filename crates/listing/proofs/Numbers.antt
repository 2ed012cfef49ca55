-- Signals of streams that are put together and cut.
use Rattle.std.proofs.Common.{◌≡◌, ℕ, zero, suc, ◌+◌, ◌*◌, ◌-◌, ◌/◌, ◌<◌, ◌≤◌, cond, List, [], ◌∷◌, ◌++◌, map, length, get_or, take, drop, set, None, sym, refl, ap, ◌∙◌, append_assoc, arith, length-take-le, lt-ltb}
use lib.Bits.{bit_or, or_add_and, and_le_l, and_le_r}
use Rattle.std.proofs.lemmas.List.{take_more, take_more_set, map-append, get_or-take, get_or-drop}
use Rattle.std.specs.List.{slice_range}
use Rattle.std.specs.Simd.{first_chunks}
use Rattle.tape.specs.declared.signals.Signal.TheVariants.{Byte, Pause}
use Rattle.tape.specs.Numbers.{signal_of}
use Rattle.listing.specs.Listing.{signals, odd}

pub signals_append : (input more : List ℕ) → odd input ≡ None → signals (input ++ more) ≡ signals input ++ signals more
signals_append [] more e = refl
signals_append (h ∷ []) more e = let z : ◌≡◌ {A = ℕ} 0 1 = cc in absurd (omega arith)
signals_append (h ∷ l ∷ bs) more e = ap (λ ss. signal_of (h * 256 + l) ∷ ss) (signals_append bs more e)

pub odd_append : (input more : List ℕ) → odd input ≡ None → odd (input ++ more) ≡ odd more
odd_append [] more e = refl
odd_append (h ∷ []) more e = let z : ◌≡◌ {A = ℕ} 0 1 = cc in absurd (omega arith)
odd_append (h ∷ l ∷ bs) more e = odd_append bs more e

pub odd_even : (xs : List ℕ) (k : ℕ) → length xs ≡ 2 * k → odd xs ≡ None
odd_even [] k e = refl
odd_even (h ∷ []) zero e = absurd (omega arith)
odd_even (h ∷ []) (suc k) e = absurd (omega arith)
odd_even (h ∷ l ∷ bs) zero e = absurd (omega arith)
odd_even (h ∷ l ∷ bs) (suc k) e = odd_even bs k (omega arith)

half_more : (j : ℕ) → suc (suc j) / 2 ≡ suc (j / 2)
half_more j = omega arith

-- the signals of the first bytes
pub signals_take : (j : ℕ) (xs : List ℕ) → signals (take j xs) ≡ take (j / 2) (signals xs)
signals_take zero xs = refl
signals_take (suc zero) [] = refl
signals_take (suc zero) (h ∷ bs) = refl
signals_take (suc (suc j)) [] = ap (λ n. take n []) (sym (half_more j))
signals_take (suc (suc j)) (h ∷ []) = ap (λ n. take n []) (sym (half_more j))
signals_take (suc (suc j)) (h ∷ l ∷ bs) =
    ap (λ ss. signal_of (h * 256 + l) ∷ ss) (signals_take j bs) ∙ ap (λ n. take n (signal_of (h * 256 + l) ∷ signals bs)) (sym (half_more j))

byte_is : (l : ℕ) → l < 256 → signal_of (0 * 256 + l) ≡ Byte l
byte_is l h =
    let n : 0 * 256 + l ≡ l = omega arith in
    ap signal_of n ∙ ap (λ b. cond b (Byte l) Pause) (lt-ltb l 256 h)

pub or_none : (a b : ℕ) → bit_or a b ≡ 0 → (a ≡ 0) × (b ≡ 0)
or_none a b e = (omega (arith, or_add_and a b, and_le_l a b, and_le_r a b), omega (arith, or_add_and a b, and_le_l a b, and_le_r a b))

-- the first i numbers are the first i bytes of a frame
abbrev pub Copied : List ℕ → List ℕ → ℕ → Type 0
Copied numbers frame i = signals (take (2 * i) numbers) ≡ map Byte (take i frame)

-- one number more
pub copied_more : (numbers frame : List ℕ) (i h l : ℕ) → 2 * (i + 1) ≤ length numbers → i < length frame → h ≡ get_or numbers (2 * i) 0 → l ≡ get_or numbers (2 * i + 1) 0 → h ≡ 0 → l < 256 → Copied numbers frame i → Copied numbers (set frame i l) (i + 1)
copied_more numbers frame i h l fits room h-is l-is zero_is small C =
    let front = take (2 * i) numbers in
    let two : take (2 * (i + 1)) numbers ≡ front ++ (h ∷ l ∷ []) =
    ap (λ n. take n numbers) (twice i) ∙ take_more numbers (2 * i + 1) 0 (omega arith)
    ∙ (λ j. take_more numbers (2 * i) 0 (omega arith) j ++ sym l-is j ∷ []) ∙ append_assoc front _ (l ∷ []) ∙ ap (λ v. front ++ (v ∷ l ∷ [])) (sym h-is) in
    let even : odd front ≡ None = odd_even front i (length-take-le (2 * i) numbers (omega arith)) in
    ap signals two ∙ signals_append front (h ∷ l ∷ []) even
    ∙ ap (λ t. t ++ signal_of (h * 256 + l) ∷ []) C
    ∙ ap (λ s. map Byte (take i frame) ++ s ∷ []) (ap (λ n. signal_of (n * 256 + l)) zero_is ∙ byte_is l small)
    ∙ sym (map-append Byte (take i frame) (l ∷ []))
    ∙ ap (map Byte) (sym (take_more_set frame i l room))
  where
    twice : (i : ℕ) → 2 * (i + 1) ≡ 2 * i + 1 + 1
    twice i = omega arith

-- the byte j of the pair i
chunk_at : (k : ℕ) (xs : List ℕ) (i j : ℕ) → i < k → j < 2 → get_or (get_or (first_chunks 2 k xs) i []) j 0 ≡ get_or xs (2 * i + j) 0
chunk_at zero xs i j h two = absurd (omega arith)
chunk_at (suc k) xs zero j h two = let n : j ≡ 2 * 0 + j = omega arith in get_or-take 2 xs j 0 two ∙ ap (λ m. get_or xs m 0) n
chunk_at (suc k) xs (suc i) j h two =
    let n : 2 + (2 * i + j) ≡ 2 * suc i + j = omega arith in
    chunk_at k (drop 2 xs) i j (omega arith) two ∙ get_or-drop 2 xs (2 * i + j) 0 ∙ ap (λ m. get_or xs m 0) n

pub pair_at : (xs : List ℕ) (chunks pairs : List (List ℕ)) (k size i j : ℕ) → chunks ≡ first_chunks 2 k xs → pairs ≡ slice_range chunks 0 size → size ≤ k → i < size → j < 2 → get_or (get_or pairs i []) j 0 ≡ get_or xs (2 * i + j) 0
pair_at xs chunks pairs k size i j c p few h two =
    ap (λ l. get_or (get_or l i []) j 0) p ∙ ap (λ p. get_or p j 0) (get_or-take (size - 0) chunks i [] (omega arith)) ∙ ap (λ l. get_or (get_or l i []) j 0) c ∙ chunk_at k xs i j (omega arith) two
